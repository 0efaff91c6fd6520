-- The sums over eight frequencies and over eight positions from sums over four.
use Rattle.std.proofs.Common.{◌≡◌, ℕ, ◌+◌, ◌-◌, ◌*◌, ◌<◌, List, arith, refl, ap, ap₂, ◌∙◌}
use Rattle.std.specs.Prelude.{ℤ, ◌+ℤ◌, ◌-ℤ◌, ◌*ℤ◌}
use Rattle.std.proofs.lemmas.Int.{ints}
use Rattle.apv_base.specs.model.Transform.{transform_entry, sum_8, rounded}
use Rattle.apv_transform.specs.Line.{sum_4}
use Rattle.apv_transform.specs.Lanes.{lane_at}
use Rattle.apv_transform.specs.Pass.{inverse_of, forward_of}
use Rattle.apv_transform.proofs.Places.{each_of_4, each_mirrored, each_paired}

-- the even and the odd half of eight frequencies: at the positions 0 to 3, and mirrored
pub half_sums : (d even odd : ℕ → ℤ) → ((k : ℕ) → k < 4 → even k ≡ d (2 * k)) → ((k : ℕ) → k < 4 → odd k ≡ d (2 * k + 1)) → (k : ℕ) → k < 4
    → (sum_4 (λ j. transform_entry (2 * j) k *ℤ even j) +ℤ sum_4 (λ j. transform_entry (2 * j + 1) k *ℤ odd j) ≡ sum_8 (λ u. transform_entry u k *ℤ d u))
    × (sum_4 (λ j. transform_entry (2 * j) k *ℤ even j) -ℤ sum_4 (λ j. transform_entry (2 * j + 1) k *ℤ odd j) ≡ sum_8 (λ u. transform_entry u (7 - k) *ℤ d u))
half_sums d even odd evens odds =
    let e0 : even 0 ≡ d 0 = evens 0 (omega arith) in
    let e1 : even 1 ≡ d 2 = evens 1 (omega arith) in
    let e2 : even 2 ≡ d 4 = evens 2 (omega arith) in
    let e3 : even 3 ≡ d 6 = evens 3 (omega arith) in
    let o0 : odd 0 ≡ d 1 = odds 0 (omega arith) in
    let o1 : odd 1 ≡ d 3 = odds 1 (omega arith) in
    let o2 : odd 2 ≡ d 5 = odds 2 (omega arith) in
    let o3 : odd 3 ≡ d 7 = odds 3 (omega arith) in
    each_of_4 _
    (omega (arith, ints), omega (arith, ints)) (omega (arith, ints), omega (arith, ints))
    (omega (arith, ints), omega (arith, ints)) (omega (arith, ints), omega (arith, ints))

-- the sums of mirrored positions of eight, at the even frequencies
pub even_sum : (e sums : ℕ → ℤ) → ((k : ℕ) → k < 4 → sums k ≡ e k +ℤ e (7 - k)) → (k : ℕ) → k < 4
    → sum_4 (λ j. transform_entry (2 * k) j *ℤ sums j) ≡ sum_8 (λ x. transform_entry (2 * k) x *ℤ e x)
even_sum e sums are =
    let s0 : sums 0 ≡ e 0 +ℤ e 7 = are 0 (omega arith) in
    let s1 : sums 1 ≡ e 1 +ℤ e 6 = are 1 (omega arith) in
    let s2 : sums 2 ≡ e 2 +ℤ e 5 = are 2 (omega arith) in
    let s3 : sums 3 ≡ e 3 +ℤ e 4 = are 3 (omega arith) in
    each_of_4 _ (omega (arith, ints)) (omega (arith, ints)) (omega (arith, ints)) (omega (arith, ints))

-- their differences, at the odd frequencies
pub odd_sum : (e differences : ℕ → ℤ) → ((k : ℕ) → k < 4 → differences k ≡ e k -ℤ e (7 - k)) → (k : ℕ) → k < 4
    → sum_4 (λ j. transform_entry (2 * k + 1) j *ℤ differences j) ≡ sum_8 (λ x. transform_entry (2 * k + 1) x *ℤ e x)
odd_sum e differences are =
    let d0 : differences 0 ≡ e 0 -ℤ e 7 = are 0 (omega arith) in
    let d1 : differences 1 ≡ e 1 -ℤ e 6 = are 1 (omega arith) in
    let d2 : differences 2 ≡ e 2 -ℤ e 5 = are 2 (omega arith) in
    let d3 : differences 3 ≡ e 3 -ℤ e 4 = are 3 (omega arith) in
    each_of_4 _ (omega (arith, ints)) (omega (arith, ints)) (omega (arith, ints)) (omega (arith, ints))

-- ---- the same line

pub sum_8_same : (f g : ℕ → ℤ) → ((p : ℕ) → p < 8 → f p ≡ g p) → sum_8 f ≡ sum_8 g
sum_8_same f g same =
    let add : ℤ → ℤ → ℤ = λ x y. x +ℤ y in
    ap₂ add (ap₂ add (ap₂ add (ap₂ add (ap₂ add (ap₂ add (ap₂ add
    (same 0 (omega arith)) (same 1 (omega arith))) (same 2 (omega arith))) (same 3 (omega arith))) (same 4 (omega arith)))
    (same 5 (omega arith))) (same 6 (omega arith))) (same 7 (omega arith))

pub inverse_same : (shift : ℕ) (f g : ℕ → ℤ) (position : ℕ) → ((p : ℕ) → p < 8 → f p ≡ g p) → inverse_of shift f position ≡ inverse_of shift g position
inverse_same shift f g position same =
    ap (rounded shift) (sum_8_same (λ u. transform_entry u position *ℤ f u) (λ u. transform_entry u position *ℤ g u) (λ p h. ap (λ x. transform_entry p position *ℤ x) (same p h)))

pub forward_same : (shift : ℕ) (f g : ℕ → ℤ) (frequency : ℕ) → ((p : ℕ) → p < 8 → f p ≡ g p) → forward_of shift f frequency ≡ forward_of shift g frequency
forward_same shift f g frequency same =
    ap (rounded shift) (sum_8_same (λ x. transform_entry frequency x *ℤ f x) (λ x. transform_entry frequency x *ℤ g x) (λ p h. ap (λ x. transform_entry frequency p *ℤ x) (same p h)))

-- ---- blocks of lines, from their halves

module _ (shift : ℕ) (lines even odd result : List (List ℤ)) where
  pub inverse_from_halves : ((k lane : ℕ) → k < 4 → lane < 8 → lane_at even k lane ≡ sum_4 (λ j. transform_entry (2 * j) k *ℤ lane_at lines (2 * j) lane))
      → ((k lane : ℕ) → k < 4 → lane < 8 → lane_at odd k lane ≡ sum_4 (λ j. transform_entry (2 * j + 1) k *ℤ lane_at lines (2 * j + 1) lane))
      → ((k lane : ℕ) → k < 4 → lane < 8 → lane_at result k lane ≡ rounded shift (lane_at even k lane +ℤ lane_at odd k lane))
      → ((k lane : ℕ) → k < 4 → lane < 8 → lane_at result (7 - k) lane ≡ rounded shift (lane_at even k lane -ℤ lane_at odd k lane))
      → (p lane : ℕ) → p < 8 → lane < 8 → lane_at result p lane ≡ inverse_of shift (λ u. lane_at lines u lane) p
  inverse_from_halves evens odds near far p lane hp hl =
      let whole = half_sums (λ u. lane_at lines u lane) (λ j. lane_at lines (2 * j) lane) (λ j. lane_at lines (2 * j + 1) lane) (λ k h. refl) (λ k h. refl) in
      each_mirrored (λ p. lane_at result p lane ≡ inverse_of shift (λ u. lane_at lines u lane) p)
      (λ k small. near k lane small hl ∙ ap (rounded shift) (ap₂ (λ x y. x +ℤ y) (evens k lane small hl) (odds k lane small hl) ∙ (whole k small).0))
      (λ k small. far k lane small hl ∙ ap (rounded shift) (ap₂ (λ x y. x -ℤ y) (evens k lane small hl) (odds k lane small hl) ∙ (whole k small).1)) p hp

  pub forward_from_halves : ((k lane : ℕ) → k < 4 → lane < 8 → lane_at even k lane ≡ sum_8 (λ x. transform_entry (2 * k) x *ℤ lane_at lines x lane))
      → ((k lane : ℕ) → k < 4 → lane < 8 → lane_at odd k lane ≡ sum_8 (λ x. transform_entry (2 * k + 1) x *ℤ lane_at lines x lane))
      → ((k lane : ℕ) → k < 4 → lane < 8 → lane_at result (2 * k) lane ≡ rounded shift (lane_at even k lane))
      → ((k lane : ℕ) → k < 4 → lane < 8 → lane_at result (2 * k + 1) lane ≡ rounded shift (lane_at odd k lane))
      → (p lane : ℕ) → p < 8 → lane < 8 → lane_at result p lane ≡ forward_of shift (λ x. lane_at lines x lane) p
  forward_from_halves evens odds even_are odd_are p lane hp hl =
      each_paired (λ p. lane_at result p lane ≡ forward_of shift (λ x. lane_at lines x lane) p)
      (λ k small. even_are k lane small hl ∙ ap (rounded shift) (evens k lane small hl))
      (λ k small. odd_are k lane small hl ∙ ap (rounded shift) (odds k lane small hl)) p hp

-- ---- a position and its mirror from products added in pairs, with a number r added to both

module _ (g : ℕ → ℤ) (a b c d r : ℤ) where
  abbrev PairsOf : ℕ → Type 0
  PairsOf k = a ≡ g 0 *ℤ transform_entry 0 k +ℤ g 2 *ℤ transform_entry 2 k → b ≡ g 4 *ℤ transform_entry 4 k +ℤ g 6 *ℤ transform_entry 6 k → c ≡ g 1 *ℤ transform_entry 1 k +ℤ g 3 *ℤ transform_entry 3 k → d ≡ g 5 *ℤ transform_entry 5 k +ℤ g 7 *ℤ transform_entry 7 k
      → (a +ℤ b +ℤ r +ℤ (c +ℤ d) ≡ sum_8 (λ v. transform_entry v k *ℤ g v) +ℤ r) × (a +ℤ b +ℤ r -ℤ (c +ℤ d) ≡ sum_8 (λ v. transform_entry v (7 - k) *ℤ g v) +ℤ r)

  pub pairs_make : (k : ℕ) → k < 4 → PairsOf k
  pairs_make = each_of_4 PairsOf
      (λ ea eb ec ed. (omega (arith, ints), omega (arith, ints))) (λ ea eb ec ed. (omega (arith, ints), omega (arith, ints)))
      (λ ea eb ec ed. (omega (arith, ints), omega (arith, ints))) (λ ea eb ec ed. (omega (arith, ints), omega (arith, ints)))

-- frequencies from sums and differences of mirrored lines
pub forward_from_mirrored : (shift : ℕ) (lines mirrored even odd result : List (List ℤ))
    → ((k lane : ℕ) → k < 4 → lane < 8 → lane_at mirrored k lane ≡ lane_at lines k lane +ℤ lane_at lines (7 - k) lane)
    → ((k lane : ℕ) → k < 4 → lane < 8 → lane_at mirrored (4 + k) lane ≡ lane_at lines k lane -ℤ lane_at lines (7 - k) lane)
    → ((k lane : ℕ) → k < 4 → lane < 8 → lane_at even k lane ≡ sum_4 (λ y. transform_entry (2 * k) y *ℤ lane_at mirrored y lane))
    → ((k lane : ℕ) → k < 4 → lane < 8 → lane_at odd k lane ≡ sum_4 (λ y. transform_entry (2 * k + 1) y *ℤ lane_at mirrored (4 + y) lane))
    → ((k lane : ℕ) → k < 4 → lane < 8 → lane_at result (2 * k) lane ≡ rounded shift (lane_at even k lane))
    → ((k lane : ℕ) → k < 4 → lane < 8 → lane_at result (2 * k + 1) lane ≡ rounded shift (lane_at odd k lane))
    → (p lane : ℕ) → p < 8 → lane < 8 → lane_at result p lane ≡ forward_of shift (λ y. lane_at lines y lane) p
forward_from_mirrored shift lines mirrored even odd result sums differences evens odds even_are odd_are =
    forward_from_halves shift lines even odd result
    (λ k lane small hl. evens k lane small hl ∙ even_sum (λ y. lane_at lines y lane) (λ y. lane_at mirrored y lane) (λ y h. sums y lane h hl) k small)
    (λ k lane small hl. odds k lane small hl ∙ odd_sum (λ y. lane_at lines y lane) (λ y. lane_at mirrored (4 + y) lane) (λ y h. differences y lane h hl) k small)
    even_are odd_are
