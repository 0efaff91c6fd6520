-- A writer's bits, from its slice and its place.
use Rattle.std.proofs.Common.{◌≡◌, ℕ, ◌+◌, ◌-◌, ◌*◌, ◌≤◌, ◌++◌, length, take, drop, replicate, List, [], refl, sym, ap, ◌∙◌, arith, length-append}
use Rattle.std.proofs.lemmas.List.{length-drop, length-take-le, take_at, drop_at, drop-drop, take-append-drop, append_assoc, append-nil}
use Rattle.apv_base.specs.model.Bits.{bin, bits, padding}
use Rattle.apv_base.proofs.BitsLemmas.{bin-zeros, length-bits}
use Rattle.apv_bits.specs.declared.writer.BitWriter.{BitWriter}
use Rattle.apv_bits.specs.Writer.{written, bits_after, Appends}

pub length-after : (xs : List ℕ) (p : ℕ) → length (drop p (bits xs)) ≡ 8 * length xs - p
length-after xs p = omega (arith, length-drop p (bits xs), length-bits xs)

-- a word of n bits put in place of the bits from p on
module _ (xs ys word : List ℕ) (p n : ℕ) (len : length word ≡ n) (room : p + n ≤ 8 * length xs) (put : bits ys ≡ take p (bits xs) ++ word ++ drop (p + n) (bits xs)) where
  prefix : length (take p (bits xs) ++ word) ≡ p + n
  prefix = omega (arith, length-append (take p (bits xs)) word, length-take-le p (bits xs) (omega (arith, length-bits xs)))

  pub now_written : take (p + n) (bits ys) ≡ take p (bits xs) ++ word
  now_written = rw put (take_at (take p (bits xs) ++ word) (drop (p + n) (bits xs)) (p + n) prefix)

  pub now_after : drop (p + n) (bits ys) ≡ drop (length word) (drop p (bits xs))
  now_after = rw (put, drop_at (take p (bits xs) ++ word) (drop (p + n) (bits xs)) (p + n) prefix, len) (sym (drop-drop n p (bits xs)))

-- what the slice of a writer holds
pub slice_is : (w : BitWriter) → bits w.bytes.now ≡ written w ++ bits_after w
slice_is w = sym (take-append-drop w.place (bits w.bytes.now))

pub length-written : (w : BitWriter) → length (written w) ≡ w.place
length-written w = length-take-le w.place (bits w.bytes.now) (omega (arith, w.within, length-bits w.bytes.now))

pub align_room : (w : BitWriter) → padding w.place ≤ length (bits_after w)
align_room w = omega (arith, w.within, length-after w.bytes.now w.place)

pub align_zeros : (old new : BitWriter) → Appends old new (bin (padding old.place) 0) → Appends old new (replicate (padding (length (written old))) 0)
align_zeros old new a = rw (length-written old, ← bin-zeros (padding old.place)) a

-- nothing is appended
pub appends_none : (old : BitWriter) → Appends old old []
appends_none old = record { written = sym (append-nil (written old)); after = refl }

-- two words appended one after the other
pub appends_both : (old mid new : BitWriter) (a b : List ℕ) → Appends old mid a → Appends mid new b → Appends old new (a ++ b)
appends_both old mid new a b s t = record {
  written = t.written ∙ ap (λ c. c ++ b) s.written ∙ append_assoc (written old) a b;
  after = t.after ∙ ap (drop (length b)) s.after ∙ drop-drop (length b) (length a) (bits_after old) ∙ ap (λ n. drop n (bits_after old)) (sym (length-append a b));
}
