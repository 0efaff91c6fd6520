-- The bytes of a component are read as its blocks, and as no others.
use Rattle.std.proofs.Common.{◌≡◌, ℕ, zero, suc, ℤ, pos, negsuc, ◌-ℤ◌, ◌+◌, ◌-◌, ◌/◌, ◌^◌, ◌<◌, ◌≤◌, ◌≢◌, ◌++◌, min, length, replicate, List, [], ◌∷◌, unsigned_abs, refl, sym, ap, ap₂, ◌∙◌, ⊎_elim, arith, lit<}
use Rattle.std.proofs.Math.Nat.{mod-lt}
use Rattle.std.proofs.lemmas.Bool.{cases_lt, cases_eq, ne_eqb}
use Rattle.std.proofs.lemmas.List.{append_assoc, length-replicate, take_at}
use Rattle.apv_base.specs.model.Bits.{digits, bin, bits, AreDigits, padding}
use Rattle.apv_base.specs.model.CodeWord.{code_word}
use Rattle.apv_base.specs.model.Scan.{level_at}
use Rattle.apv_base.specs.model.Block.{Context, start, IsContext, Element, coded_value, sign_bit, bits_of, sign_of, places, ac_elements, ac_from, elements, block_bits, first_size, next_context, AreLevels}
use Rattle.apv_base.specs.model.Component.{AreBlocks, component_bits, component_bytes}
use Rattle.apv_base.proofs.BitsLemmas.{bits-append, zeros_have_no_one}
use Rattle.apv_base.proofs.DigitsLemmas.{digits-append, zeros-small}
use Rattle.apv_base.proofs.PackedLemmas.{bits_of_bytes}
use Rattle.apv_base.proofs.CodeWordLemmas.{Form, first, second, further, form, word_first, word_second, word_further}
use Rattle.apv_scan.specs.Laws.{IsSpelled, HasOneComponent}
use Rattle.apv_scan.proofs.ElementLemmas.{ac_elements-end, ac_elements-full, ac_elements-cons}
use Rattle.apv_scan.proofs.OnceLemmas.{size_of_level, size_of_step, step_sign, whole_once, elements_same}
use Rattle.apv_scan.proofs.ScanLemmas.{same_blocks}

-- ---- the context after a block

first_size_small : (z : ℕ → ℤ) (ps : List ℕ) (otherwise : ℕ) → AreLevels z → otherwise ≤ 32768 → first_size z ps otherwise ≤ 32768
first_size_small z [] otherwise levels small = small
first_size_small z (p ∷ ps) otherwise levels small = size_of_level (z p) (levels p)

pub next_is_context : (context : Context) (z : ℕ → ℤ) → IsContext context → AreLevels z → IsContext (next_context context z)
next_is_context context z ok levels = record {
  dc = levels 0;
  diff = size_of_step (z 0) context.dc (levels 0) ok.dc;
  first = first_size_small z (places z 63 1) context.first levels ok.first;
}

-- ---- one reading

cons_same : (x y : List ℤ) (xs ys : List (List ℤ)) → x ≡ y → xs ≡ ys → ◌≡◌ {A = List (List ℤ)} (x ∷ xs) (y ∷ ys)
cons_same x y xs ys p q = ap₂ (λ (a : List ℤ) (b : List (List ℤ)). a ∷ b) p q

blocks_same : (blocks others : List (List ℤ)) (context : Context) (x y : List ℕ) → IsContext context → AreBlocks blocks → AreBlocks others → length blocks ≡ length others
    → component_bits context blocks ++ x ≡ component_bits context others ++ y → blocks ≡ others
blocks_same [] [] context x y ok bs os len e = refl
blocks_same [] (o ∷ os) context x y ok sb so len e = absurd (omega arith)
blocks_same (b ∷ bs) [] context x y ok sb so len e = absurd (omega arith)
blocks_same (b ∷ bs) (o ∷ os) context x y ok sb so len e =
    let both : (elements context (level_at b) ≡ elements context (level_at o))
    × (component_bits (next_context context (level_at b)) bs ++ x ≡ component_bits (next_context context (level_at o)) os ++ y) =
    whole_once context (level_at b) (level_at o) (component_bits (next_context context (level_at b)) bs ++ x) (component_bits (next_context context (level_at o)) os ++ y)
    ok sb.0.levels so.0.levels
    (sym (append_assoc (block_bits context (level_at b)) (component_bits (next_context context (level_at b)) bs) x) ∙ e
    ∙ append_assoc (block_bits context (level_at o)) (component_bits (next_context context (level_at o)) os) y) in
    let here : b ≡ o = same_blocks b o sb.0.count so.0.count (elements_same context (level_at b) (level_at o) both.0) in
    let contexts : next_context context (level_at o) ≡ next_context context (level_at b) = ap (λ c. next_context context (level_at c)) (sym here) in
    cons_same b o bs os here
    (blocks_same bs os (next_context context (level_at b)) x y (next_is_context context (level_at b) ok sb.0.levels) sb.1 so.1 (omega arith)
    (both.1 ∙ ap (λ c. component_bits c os ++ y) contexts))

start_is_context : IsContext start
start_is_context = record { dc = lit< tt; diff = omega arith; first = omega arith }

pub one_component : (n : ℕ) (x : List ℕ) → HasOneComponent n x
one_component n x blocks others p q =
    blocks_same blocks others start p.left q.left start_is_context p.begins.sound q.begins.sound (p.count ∙ sym q.count) (sym p.begins.prefix ∙ q.begins.prefix)

-- ---- the bits of blocks are bits

bits_cons : (x : ℕ) (xs : List ℕ) → x < 2 → AreDigits 2 xs → AreDigits 2 (x ∷ xs)
bits_cons x xs h t zero = h
bits_cons x xs h t (suc i) = t i

bits_bin : (n v : ℕ) → AreDigits 2 (bin n v)
unfolding digits
bits_bin zero v i = lit< tt
bits_bin (suc n) v zero = mod-lt (v / 2 ^ n) (lit< tt)
bits_bin (suc n) v (suc i) = bits_bin n v i

bits_form : (k v : ℕ) → Form k v → AreDigits 2 (code_word k v)
bits_form k v (first h) = rw (word_first k v h) (bits_cons 1 (bin k v) (lit< tt) (bits_bin k v))
bits_form k v (second r h e) = rw (word_second k v r h e) (bits_cons 0 (0 ∷ bin k r) (lit< tt) (bits_cons 0 (bin k r) (lit< tt) (bits_bin k r)))
bits_form k v (further j r h e) =
    rw (word_further k v j r h e)
    (bits_cons 0 (1 ∷ (replicate j 0 ++ 1 ∷ bin (k + j) r)) (lit< tt) (bits_cons 1 (replicate j 0 ++ 1 ∷ bin (k + j) r) (lit< tt)
    (digits-append 2 (replicate j 0) (1 ∷ bin (k + j) r) (zeros-small j) (bits_cons 1 (bin (k + j) r) (lit< tt) (bits_bin (k + j) r)))))

-- each sign is a bit
AreSigned : List Element → Type 0
AreSigned [] = Unit {0}
AreSigned (coded_value k l m v ∷ es) = AreSigned es
AreSigned (sign_bit p q s ∷ es) = (s < 2) × AreSigned es

bits_signed : (es : List Element) → AreSigned es → AreDigits 2 (bits_of es)
unfolding AreSigned
bits_signed [] h = λ i. lit< tt
bits_signed (coded_value k l m v ∷ es) h = digits-append 2 (code_word k v) (bits_of es) (bits_form k v (form k v)) (bits_signed es h)
bits_signed (sign_bit p q s ∷ es) h = bits_cons s (bits_of es) h.0 (bits_signed es h.1)

sign_is_bit : (l : ℤ) → sign_of l < 2
sign_is_bit (pos n) = lit< tt
sign_is_bit (negsuc n) = lit< tt

signed_ac : (z : ℕ → ℤ) (a run level : ℕ) (ps : List ℕ) → AreSigned (ac_elements z a run level ps)
unfolding AreSigned
signed_ac z a run level [] =
    ⊎_elim
    (λ (lt : a < 63). rw (ac_elements-end z a run level lt) (tt {0}))
    (λ (le : 63 ≤ a). rw (ac_elements-full z a run level le) (tt {0}))
    (cases_lt a 63)
signed_ac z a run level (b ∷ bs) = rw (ac_elements-cons z a run level b bs) (sign_is_bit (z b), signed_ac z b (b - a - 1) (unsigned_abs (z b)) bs)

signed_step_there : (dc : ℤ) (k d s : ℕ) (r : List Element) → s < 2 → AreSigned r → AreSigned (coded_value k 65535 65535 d ∷ (step_sign dc d s ++ r))
unfolding AreSigned
signed_step_there dc k d s r bit signed =
    ⊎_elim
    (λ (none : d ≡ 0). rw none signed)
    (λ (some : d ≢ 0). rw (ne_eqb d 0 some) (bit, signed))
    (cases_eq d 0)

bits_block : (context : Context) (z : ℕ → ℤ) → AreDigits 2 (block_bits context z)
bits_block context z =
    bits_signed (elements context z)
    (signed_step_there context.dc (min 5 (context.diff / 2)) (unsigned_abs (z 0 -ℤ context.dc)) (sign_of (z 0 -ℤ context.dc)) (ac_from z 0 0 context.first 1)
    (sign_is_bit (z 0 -ℤ context.dc)) (signed_ac z 0 0 context.first (places z 63 1)))

pub bits_component : (context : Context) (blocks : List (List ℤ)) → AreDigits 2 (component_bits context blocks)
bits_component context [] = λ i. lit< tt
bits_component context (b ∷ bs) =
    digits-append 2 (block_bits context (level_at b)) (component_bits (next_context context (level_at b)) bs) (bits_block context (level_at b)) (bits_component (next_context context (level_at b)) bs)

-- ---- the bytes of blocks

pub spelled : (n : ℕ) (blocks : List (List ℤ)) (x : List ℕ) → IsSpelled n blocks x
spelled n blocks x sound count =
    let b : List ℕ = component_bits start blocks in
    let zeros : List ℕ = replicate (padding (length (component_bits start blocks))) 0 in
    record {
      count = count;
      left = zeros ++ bits x;
      begins = record {
        sound = sound;
        prefix = bits-append (component_bytes blocks) x ∙ ap (λ c. c ++ bits x) (bits_of_bytes (component_bits start blocks) (bits_component start blocks))
            ∙ append_assoc (component_bits start blocks) zeros (bits x);
      };
      aligned = λ one. zeros_have_no_one (padding (length (component_bits start blocks)))
          (rw (take_at (replicate (padding (length (component_bits start blocks))) 0) (bits x) (padding (length (component_bits start blocks)))
          (length-replicate (padding (length (component_bits start blocks))) 0)) at one);
    }
