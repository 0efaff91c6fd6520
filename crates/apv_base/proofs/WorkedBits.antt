-- Worked numbers: words of the code h(v), and the bits of blocks.
use Rattle.std.proofs.Common.{◌≡◌, ℕ, ℤ, pos, negsuc, [], ◌∷◌, ◌++◌, replicate, refl, lit≤, lit<, append-nil, append_assoc, ◌∙◌, sym, ap, arith, zero, suc, ◌+◌, ◌<◌, ◌≤◌, List, ⊎_elim}
use Rattle.std.proofs.lemmas.Bool.{cases_lt}
use Rattle.std.specs.Prelude.{if◌then◌else◌, ◌==◌}
use Rattle.apv_base.specs.model.Bits.{digits, bin}
use Rattle.apv_base.specs.model.CodeWord.{code_word, zeros_of, halvings, EndsInside, HasNone}
use Rattle.apv_base.proofs.CodeWordLemmas.{prefix_free, pow_le, Form, first, second, further, form, word_first, word_second, word_further}
use Rattle.apv_base.specs.model.Block.{start, bits_of, dc_elements, block_bits, places, ac_elements}

-- with k = 0: 0 is 1, 1 is 00, 2 is 011, 3 is 01010, 63 is 0100000111110
pub words_0 : (code_word 0 0 ≡ 1 ∷ []) × (code_word 0 1 ≡ 0 ∷ 0 ∷ []) × (code_word 0 2 ≡ 0 ∷ 1 ∷ 1 ∷ []) × (code_word 0 3 ≡ 0 ∷ 1 ∷ 0 ∷ 1 ∷ 0 ∷ [])
unfolding code_word zeros_of halvings digits
words_0 = (refl, refl, refl, refl)

pub word_63 : code_word 0 63 ≡ 0 ∷ 1 ∷ 0 ∷ 0 ∷ 0 ∷ 0 ∷ 0 ∷ 1 ∷ 1 ∷ 1 ∷ 1 ∷ 1 ∷ 0 ∷ []
unfolding code_word zeros_of halvings digits
word_63 = refl

-- with k = 2: 0 is 100, 3 is 111, 4 is 0000, 7 is 0011, 8 is 01100, 12 is 0101000
pub words_2 : (code_word 2 0 ≡ 1 ∷ 0 ∷ 0 ∷ []) × (code_word 2 3 ≡ 1 ∷ 1 ∷ 1 ∷ []) × (code_word 2 4 ≡ 0 ∷ 0 ∷ 0 ∷ 0 ∷ [])
    × (code_word 2 7 ≡ 0 ∷ 0 ∷ 1 ∷ 1 ∷ []) × (code_word 2 8 ≡ 0 ∷ 1 ∷ 1 ∷ 0 ∷ 0 ∷ []) × (code_word 2 12 ≡ 0 ∷ 1 ∷ 0 ∷ 1 ∷ 0 ∷ 0 ∷ 0 ∷ [])
unfolding code_word zeros_of halvings digits
words_2 = (refl, refl, refl, refl, refl, refl)

-- a block that is 0 but for a 1 at one scan place
abbrev pub one_at : ℕ → ℕ → ℤ
one_at place p = if p == place then pos 1 else pos 0

-- the first block of a component with its only level, 1, at scan place 63: 100000, 0100000111101, 1, 0, and no run
pub block_63 : block_bits start (one_at 63) ≡ 1 ∷ 0 ∷ 0 ∷ 0 ∷ 0 ∷ 0 ∷ 0 ∷ 1 ∷ 0 ∷ 0 ∷ 0 ∷ 0 ∷ 0 ∷ 1 ∷ 1 ∷ 1 ∷ 1 ∷ 0 ∷ 1 ∷ 1 ∷ 0 ∷ []
unfolding code_word zeros_of halvings digits places ac_elements
block_63 = refl

-- with the level at scan place 62: 100000, 0100000111100, 1, 0, and the run 101
pub block_62 : block_bits start (one_at 62) ≡ 1 ∷ 0 ∷ 0 ∷ 0 ∷ 0 ∷ 0 ∷ 0 ∷ 1 ∷ 0 ∷ 0 ∷ 0 ∷ 0 ∷ 0 ∷ 1 ∷ 1 ∷ 1 ∷ 1 ∷ 0 ∷ 0 ∷ 1 ∷ 0 ∷ 1 ∷ 0 ∷ 1 ∷ []
unfolding code_word zeros_of halvings digits places ac_elements
block_62 = refl

-- a block whose first level is 32768 below the one before: 01, nine zeros, 1, 11111111100000, sign 1
pub lowest_dc : bits_of (dc_elements start (negsuc 32767)) ≡ 0 ∷ 1 ∷ (replicate 9 0 ++ 1 ∷ (replicate 9 1 ++ (replicate 5 0 ++ 1 ∷ [])))
unfolding code_word zeros_of halvings digits
lowest_dc = refl

-- after it the level 32767, which is 65535 above: 01, ten zeros, 1, 111111111011111, sign 0
pub highest_dc : bits_of (dc_elements (record { dc = negsuc 32767; diff = 32768; first = 0 }) (pos 32767)) ≡ 0 ∷ 1 ∷ (replicate 10 0 ++ 1 ∷ (replicate 9 1 ++ 0 ∷ (replicate 5 1 ++ 0 ∷ [])))
unfolding code_word zeros_of halvings digits
highest_dc = refl

-- ---- readings

-- with k = 5 and a limit of 65535 the bits 01 and ten zeros end inside a word, and no bit at all does too
pub ends_inside : EndsInside (code_word 5) 65535 (0 ∷ 1 ∷ replicate 10 0)
unfolding code_word zeros_of halvings digits
ends_inside = (32800, lit≤ tt, (1 ∷ replicate 15 0, lit< tt, refl))

pub ends_at_once : EndsInside (code_word 5) 65535 []
unfolding code_word digits
ends_at_once = (0, lit≤ tt, (1 ∷ replicate 5 0, lit< tt, refl))

-- with k = 0 and a limit of 63 the bits 010000011111 end inside the word of 63, and 0100000111111, the word of 64, is
-- no permitted value's
pub ends_below : EndsInside (code_word 0) 63 (0 ∷ 1 ∷ (replicate 5 0 ++ replicate 5 1))
unfolding code_word zeros_of halvings digits
ends_below = (63, lit≤ tt, (0 ∷ [], lit< tt, refl))

word_64 : 0 ∷ 1 ∷ (replicate 5 0 ++ replicate 6 1) ≡ code_word 0 64
unfolding code_word zeros_of halvings digits
word_64 = refl

pub above_limit : HasNone (code_word 0) 63 (code_word 0 64)
above_limit = (
  λ v has. (let same = prefix_free 0 64 v [] has.1.0 (append-nil (code_word 0 64) ∙ has.1.1) in omega (arith, has.0, same.0)),
  λ ends. (let same = prefix_free 0 ends.0 64 [] ends.2.0 (append-nil (code_word 0 ends.0) ∙ ends.2.2) in omega (arith, ends.1, same.0)),
)

-- with k = 5 and a limit of 65535 the bits 01 and eleven zeros are no permitted value's
one_in_zeros : (j n : ℕ) (x y : List ℕ) → j < n → replicate j 0 ++ 1 ∷ x ≡ replicate n 0 ++ y → ⊥
one_in_zeros j zero x y lt e = absurd (omega arith)
one_in_zeros zero (suc n) x y lt e = let no : ◌≡◌ {A = ℕ} 1 0 = cc in absurd (omega arith)
one_in_zeros (suc j) (suc n) x y lt e = one_in_zeros j n x y (omega arith) cc

not_begun_by : (v : ℕ) (x y : List ℕ) → Form 5 v → v ≤ 65535 → code_word 5 v ++ x ≡ 0 ∷ 1 ∷ (replicate 11 0 ++ y) → ⊥
not_begun_by v x y (first lt) le e =
    let f : 1 ∷ (bin 5 v ++ x) ≡ 0 ∷ 1 ∷ (replicate 11 0 ++ y) = ap (λ (w : List ℕ). w ++ x) (sym (word_first 5 v lt)) ∙ e in
    let no : ◌≡◌ {A = ℕ} 1 0 = cc in absurd (omega arith)
not_begun_by v x y (second r lt is) le e =
    let f : 0 ∷ 0 ∷ (bin 5 r ++ x) ≡ 0 ∷ 1 ∷ (replicate 11 0 ++ y) = ap (λ (w : List ℕ). w ++ x) (sym (word_second 5 v r lt is)) ∙ e in
    let no : ◌≡◌ {A = ℕ} 0 1 = cc in absurd (omega arith)
not_begun_by v x y (further j r lt is) le e =
    let f : 0 ∷ 1 ∷ ((replicate j 0 ++ 1 ∷ bin (5 + j) r) ++ x) ≡ 0 ∷ 1 ∷ (replicate 11 0 ++ y) = ap (λ (w : List ℕ). w ++ x) (sym (word_further 5 v j r lt is)) ∙ e in
    let g : (replicate j 0 ++ 1 ∷ bin (5 + j) r) ++ x ≡ replicate 11 0 ++ y = cc in
    let few : j < 11 = ⊎_elim (λ (h : j < 11). h) (λ (h : 11 ≤ j). absurd (omega (arith, pow_le 16 (5 + j) (omega arith), le, is))) (cases_lt j 11) in
    one_in_zeros j 11 (bin (5 + j) r ++ x) y few (sym (append_assoc (replicate j 0) (1 ∷ bin (5 + j) r) x) ∙ g)

not_begun : (v : ℕ) (x y : List ℕ) → v ≤ 65535 → code_word 5 v ++ x ≡ 0 ∷ 1 ∷ (replicate 11 0 ++ y) → ⊥
not_begun v x y le e = not_begun_by v x y (form 5 v) le e

pub above_maximum : HasNone (code_word 5) 65535 (0 ∷ 1 ∷ replicate 11 0)
above_maximum = (
  λ v has. not_begun v has.1.0 [] has.0 (sym has.1.1),
  λ ends. not_begun ends.0 [] ends.2.0 ends.1 (append-nil (code_word 5 ends.0) ∙ ends.2.2),
)
