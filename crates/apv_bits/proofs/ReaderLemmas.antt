-- A reader's bits, from its bytes and its place.
use Rattle.std.proofs.Common.{◌≡◌, ℕ, ◌+◌, ◌*◌, ◌≤◌, ◌<◌, ◌^◌, ◌≢◌, ◌↔◌, ◌++◌, length, take, drop, replicate, List, [], refl, sym, ap, ◌∙◌, arith}
use Rattle.std.proofs.lemmas.List.{length-drop, take_at, take-append-drop, drop-drop, length-take-le, take-take, append_assoc, length-append}
use Rattle.std.specs.Prelude.{Contains}
use Rattle.apv_base.specs.model.Bits.{bin, bits, padding}
use Rattle.apv_base.proofs.BitsLemmas.{part_rest, length-bin, length-bits, bin-zeros, bin_has_one, zeros_have_no_one}
use Rattle.apv_bits.specs.Reader.{Unread, Takes, AreWholeBytes, IsWindow}

abbrev pub unread : List ℕ → ℕ → Unread
unread bytes place = record { left = drop place (bits bytes); place = place }

pub left_is : (bytes : List ℕ) (place : ℕ) (u : Unread) → place ≤ 8 * length bytes → unread bytes place ≡ u → length u.left + place ≡ 8 * length bytes
left_is bytes place u within e = rw (← e) (omega (arith, length-drop place (bits bytes), length-bits bytes))

pub takes : (bytes : List ℕ) (place n v : ℕ) (u : Unread) → unread bytes place ≡ u
    → drop place (bits bytes) ≡ bin n v ++ drop (place + n) (bits bytes) → Takes u (unread bytes (place + n)) (bin n v)
takes bytes place n v u e prefix = record {
  prefix = rw (← e) prefix;
  place = rw (← e, length-bin n v) refl;
}

-- the bits on the way to the next whole byte are those of the number v
pub padded : (bytes : List ℕ) (place v : ℕ) (u : Unread) → unread bytes place ≡ u
    → drop place (bits bytes) ≡ bin (padding place) v ++ drop (place + padding place) (bits bytes) → take (padding u.place) u.left ≡ bin (padding place) v
padded bytes place v u e prefix =
    rw (← e, prefix, take_at (bin (padding place) v) (drop (place + padding place) (bits bytes)) (padding place) (length-bin (padding place) v)) refl

pub padded_zero : (bytes : List ℕ) (place v : ℕ) (u : Unread) → unread bytes place ≡ u
    → drop place (bits bytes) ≡ bin (padding place) v ++ drop (place + padding place) (bits bytes) → v ≡ 0
    → Takes u (unread bytes (place + padding place)) (replicate (padding u.place) 0)
padded_zero bytes place v u e prefix zero =
    let n : padding u.place ≡ padding place = rw (← e) refl in
    rw (n, ← bin-zeros (padding place), ← zero) (takes bytes place (padding place) v u e prefix)

pub padded_not_zero : (bytes : List ℕ) (place v : ℕ) (u : Unread) → unread bytes place ≡ u
    → drop place (bits bytes) ≡ bin (padding place) v ++ drop (place + padding place) (bits bytes) → v < 2 ^ padding place
    → (v ≢ 0) ↔ Contains (take (padding u.place) u.left) 1
padded_not_zero bytes place v u e prefix small =
    rw (padded bytes place v u e prefix) (
      λ ne. bin_has_one (padding place) v (omega arith) small,
      λ has zero. zeros_have_no_one (padding place) (rw (← bin-zeros (padding place), ← zero) has),
    )

pub whole_bytes : (bytes : List ℕ) (place : ℕ) (u : Unread) → length bytes ≤ 2 ^ 29 → place ≤ 8 * length bytes → unread bytes place ≡ u → AreWholeBytes u
whole_bytes bytes place u small within e =
    let l : length u.left + place ≡ 8 * length bytes = left_is bytes place u within e in
    let p : u.place ≡ place = rw (← e) refl in
    record { whole = omega arith; few = omega arith }

-- the next n bits are taken
pub passes : (bytes : List ℕ) (place n : ℕ) (u : Unread) → unread bytes place ≡ u → n ≤ length u.left → Takes u (unread bytes (place + n)) (take n u.left)
passes bytes place n u e h = record {
  prefix = rw (← e) (sym (take-append-drop n (drop place (bits bytes))) ∙ ap (λ b. take n (drop place (bits bytes)) ++ b) (drop-drop n place (bits bytes)));
  place = rw (length-take-le n u.left h, ← e) refl;
}

-- the bits taken are those seen in a window
pub takes_seen : (bytes : List ℕ) (place n v : ℕ) (window : List ℕ) (u : Unread) → unread bytes place ≡ u → n ≤ 57
    → IsWindow window (drop place (bits bytes)) → take n window ≡ bin n v → Takes u (unread bytes (place + n)) (bin n v)
takes_seen bytes place n v window u e few seen word =
    let here : take n (drop place (bits bytes)) ≡ bin n v = sym (take-take n 57 (drop place (bits bytes)) few) ∙ ap (take n) (sym seen.prefix) ∙ word in
    takes bytes place n v u e (part_rest place n (bits bytes) (bin n v) here)

-- nothing is taken
pub takes_none : (old : Unread) → Takes old old []
takes_none old = record { prefix = refl; place = omega arith }

-- two parts taken one after the other
pub takes_both : (old mid new : Unread) (a b : List ℕ) → Takes old mid a → Takes mid new b → Takes old new (a ++ b)
takes_both old mid new a b s t = record {
  prefix = s.prefix ∙ ap (λ c. a ++ c) t.prefix ∙ sym (append_assoc a b new.left);
  place = omega (arith, s.place, t.place, length-append a b);
}
