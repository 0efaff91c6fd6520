-- Vectors of signed numbers whose lanes are moved, widened, narrowed or clamped.
use Rattle.std.proofs.Common.{◌≡◌, ℕ, zero, suc, ◌+◌, ◌-◌, ◌/◌, ◌%◌, ◌^◌, ◌<◌, ◌≤◌, List, [], ◌∷◌, ◌++◌, length, get_or, sym, subst, refl, ap, ap₂, ◌∙◌, arith, Bool, true, false}
use Rattle.std.specs.Prelude.{ℤ, pos, negsuc, ◌+ℤ◌, ◌-ℤ◌, ◌*ℤ◌, ◌≤ℤ◌, map}
use Rattle.std.specs.Int.RustNames.{FitsSigned}
use Rattle.std.specs.Int.{int_max, int_min}
use Rattle.std.proofs.lemmas.Int.{ints, clamps, to_z-of_z}
use Rattle.std.proofs.Math.Facts.{Fits-of_z, ltb_yes}
use mir.ValLaws.{and_both}
use mathlib.Core.Logic.{inl, inr}
use Rattle.std.proofs.lemmas.Bool.{cases_lt, lt-ltb, le-ltb, eqb-true}
use Rattle.std.proofs.Math.Nat.{zero-div}
use Rattle.std.proofs.lemmas.List.{get_or-map, length-map, get_or_append_left, get_or-append_right}
use Rattle.std.proofs.lemmas.Simd.{get_or-zip2, length-zip2, Each1-from_get_or, tops_compared, get_or-sel_l, length-sel_l, mask_l-mod, bit_mask_l}
use lib.Lanes.{zip2, pick_l, all_below, Each1, sel_l, top, mask_l}
use lib.Dec.{T, ltb, eqb}
use lib.Signed.{lt_z, non_neg}
use lib.IntN.{nat_abs}
use mathlib.Core.Bool.{cond, not}
use Rattle.std.specs.Prelude.{IsTrue}
use mir.Syntax.{Width, w16}
use mir.Val.{Fits, to_z, of_z, bits, hbits}
use Rattle.apv_base.specs.model.Quant.{clamped}
use Rattle.apv_transform.specs.Line.{IsBounded}
use Rattle.apv_transform.proofs.LaneBits.{Holds, holds_fitting_sum, holds_fitting_difference}
use Rattle.apv_transform.proofs.Places.{each_of_8}

-- ---- lanes taken from two vectors

-- place k of two vectors of n lanes
abbrev pub picked : ℕ → (ℕ → ℤ) → (ℕ → ℤ) → ℕ → ℤ
picked n f g k = cond (ltb k n) (f k) (g (k - n))

below_each : (n : ℕ) (ks : List ℕ) → T (all_below n ks) → (i : ℕ) → i < length ks → get_or ks i 0 < n
below_each n [] t i h = absurd (omega arith)
below_each n (k ∷ ks) t zero h = ltb_yes (and_both (ltb k n) (all_below n ks) t).0
below_each n (k ∷ ks) t (suc i) h = below_each n ks (and_both (ltb k n) (all_below n ks) t).1 i (omega arith)

module _ {w : Width} {n m : ℕ} {xs ys : List ℕ} {f g : ℕ → ℤ} (a : Holds w n m xs f) (b : Holds w n m ys g) where
  pick_is : (P : ℕ → ℤ → Type 0) → ((k : ℕ) → k < n → P (get_or xs k 0) (f k)) → ((k : ℕ) → k < n → P (get_or ys k 0) (g k))
      → (k : ℕ) → k < n + n → P (get_or (xs ++ ys) k 0) (picked n f g k)
  pick_is P left right k h =
      elim (cases_lt k n) [
        | inl near ↦ rw (lt-ltb k n near, get_or_append_left xs ys 0 k (rw a.long near)) (left k near)
        | inr far ↦ rw (le-ltb k n far, get_or-append_right xs ys n k 0 a.long far) (right (k - n) (omega arith))
      ]

  pub holds_picked : (ks : List ℕ) → T (all_below (n + n) ks) → Holds w (length ks) m (pick_l 0 (xs ++ ys) ks) (λ i. picked n f g (get_or ks i 0))
  holds_picked ks below =
      let at : (i : ℕ) → i < length ks → get_or (pick_l 0 (xs ++ ys) ks) i 0 ≡ get_or (xs ++ ys) (get_or ks i 0) 0 =
      λ i h. get_or-map (λ k. get_or (xs ++ ys) k 0) ks i 0 0 h in
      record {
        long = length-map ks (λ k. get_or (xs ++ ys) k 0);
        small = λ i h. rw (at i h) (pick_is (λ x z. x < 2 ^ bits w) a.small b.small (get_or ks i 0) (below_each (n + n) ks below i h));
        value = λ i h. rw (at i h) (pick_is (λ x z. to_z w x ≡ z) a.value b.value (get_or ks i 0) (below_each (n + n) ks below i h));
        within = λ i h. pick_is (λ x z. IsBounded m z) a.within b.within (get_or ks i 0) (below_each (n + n) ks below i h);
      }

-- ---- casts

module _ (v w : Width) {n m : ℕ} {xs : List ℕ} {f : ℕ → ℤ} (a : Holds v n m xs f) (fits : (i : ℕ) → i < n → FitsSigned w (f i)) where
  pub holds_cast : Holds w n m (map (λ x. of_z w (to_z v x)) xs) f
  holds_cast =
      let at : (i : ℕ) → i < n → get_or (map (λ x. of_z w (to_z v x)) xs) i 0 ≡ of_z w (f i) =
      λ i h. get_or-map (λ x. of_z w (to_z v x)) xs i 0 0 (rw a.long h) ∙ ap (of_z w) (a.value i h) in
      record {
        long = length-map xs (λ x. of_z w (to_z v x)) ∙ a.long;
        small = λ i h. rw (at i h) (Fits-of_z (fits i h)).fits;
        value = λ i h. rw (at i h) (to_z-of_z w (f i) (fits i h));
        within = a.within;
      }

  -- what the cast asks of each lane
  pub cast_asks : Each1 (λ x. FitsSigned w (to_z v x)) xs
  cast_asks = Each1-from_get_or (λ x. FitsSigned w (to_z v x)) xs 0 (λ i h. let k : i < n = omega (arith, a.long) in subst (FitsSigned w) (sym (a.value i k)) (fits i k))

-- ---- the less and the greater of two lanes

module _ {w : Width} {n m : ℕ} {xs ys : List ℕ} {f g : ℕ → ℤ} (a : Holds w n m xs f) (b : Holds w n m ys g) where
  abbrev less : List ℕ
  less = zip2 (λ x y. cond (lt_z (to_z w x) (to_z w y)) (2 ^ bits w - 1) 0) xs ys

  less_at : (i : ℕ) → i < n → get_or (map (top (hbits w)) less) i false ≡ lt_z (f i) (g i)
  less_at i h =
      ap (λ ms. get_or ms i false) (tops_compared w (λ x y. lt_z (to_z w x) (to_z w y)) xs ys)
      ∙ get_or-zip2 (λ x y. lt_z (to_z w x) (to_z w y)) xs ys i 0 0 false (rw a.long h) (rw b.long h)
      ∙ ap₂ lt_z (a.value i h) (b.value i h)

  less_long : length (map (top (hbits w)) less) ≡ n
  less_long = length-map less (top (hbits w)) ∙ length-zip2 (λ x y. cond (lt_z (to_z w x) (to_z w y)) (2 ^ bits w - 1) 0) xs ys (a.long ∙ sym b.long) ∙ a.long

  module _ {us vs : List ℕ} {fu fv : ℕ → ℤ} (u : Holds w n m us fu) (v : Holds w n m vs fv) where
    holds_choice : Holds w n m (sel_l (map (top (hbits w)) less) us vs) (λ i. cond (lt_z (f i) (g i)) (fu i) (fv i))
    holds_choice =
        let at : (i : ℕ) → i < n → get_or (sel_l (map (top (hbits w)) less) us vs) i 0 ≡ cond (lt_z (f i) (g i)) (get_or us i 0) (get_or vs i 0) =
        λ i h. get_or-sel_l (map (top (hbits w)) less) us vs i 0 (rw less_long h) (rw u.long h) (rw v.long h)
        ∙ ap (λ t. cond t (get_or us i 0) (get_or vs i 0)) (less_at i h) in
        record {
          long = length-sel_l (map (top (hbits w)) less) us vs (less_long ∙ sym u.long) (less_long ∙ sym v.long) ∙ less_long;
          small = λ i h. rw (at i h) (either (λ x z. x < 2 ^ bits w) (lt_z (f i) (g i)) (get_or us i 0) (get_or vs i 0) (fu i) (fv i) (u.small i h) (v.small i h));
          value = λ i h. rw (at i h) (either (λ x z. to_z w x ≡ z) (lt_z (f i) (g i)) (get_or us i 0) (get_or vs i 0) (fu i) (fv i) (u.value i h) (v.value i h));
          within = λ i h. either (λ x z. IsBounded m z) (lt_z (f i) (g i)) 0 0 (fu i) (fv i) (u.within i h) (v.within i h);
        } where
          either : (P : ℕ → ℤ → Type 0) (t : Bool) (x y : ℕ) (p q : ℤ) → P x p → P y q → P (cond t x y) (cond t p q)
          either P true x y p q hx hy = hx
          either P false x y p q hx hy = hy

  pub holds_greater : Holds w n m (sel_l (map (top (hbits w)) less) ys xs) (λ i. int_max (g i) (f i))
  holds_greater = holds_choice b a

  pub holds_less : Holds w n m (sel_l (map (top (hbits w)) less) xs ys) (λ i. int_min (g i) (f i))
  holds_less = holds_choice a b

-- ---- the clamp to 16 bits

pub between_fits : (z : ℤ) → negsuc 32767 ≤ℤ z → z ≤ℤ pos 32767 → FitsSigned w16 z
between_fits (pos a) low high = record { sfits = omega (arith, ints) }
between_fits (negsuc a) low high = record { sfits = omega (arith, ints) }

pub clamp_fits : (z : ℤ) → FitsSigned w16 (int_min (pos 32767) (int_max (negsuc 32767) z))
clamp_fits z = between_fits (int_min (pos 32767) (int_max (negsuc 32767) z)) (omega (arith, ints, clamps)) (omega (arith, ints, clamps))

pub clamp_is : (z : ℤ) → int_min (pos 32767) (int_max (negsuc 32767) z) ≡ clamped (negsuc 32767) (pos 32767) z
clamp_is z = omega (arith, ints, clamps)

-- ---- lanes passed on

-- a sum of two products, of equal factors
pub same_pair : {x a b p q a' b' p' q' : ℤ} → x ≡ a *ℤ p +ℤ b *ℤ q → a ≡ a' → p ≡ p' → b ≡ b' → q ≡ q' → x ≡ a' *ℤ p' +ℤ b' *ℤ q'
same_pair e ea ep eb eq = e ∙ ap₂ (λ x y. x +ℤ y) (ap₂ (λ x y. x *ℤ y) ea ep) (ap₂ (λ x y. x *ℤ y) eb eq)

-- a sum of four terms, of equal terms
pub same_four : {a b c d a' b' c' d' : ℤ} → a ≡ a' → b ≡ b' → c ≡ c' → d ≡ d' → a +ℤ b +ℤ (c +ℤ d) ≡ a' +ℤ b' +ℤ (c' +ℤ d')
same_four ea eb ec ed = ap₂ (λ x y. x +ℤ y) (ap₂ (λ x y. x +ℤ y) ea eb) (ap₂ (λ x y. x +ℤ y) ec ed)

-- ---- the maximum and the minimum of eight rows

pub at_most_trans : (a b c : ℤ) → a ≤ℤ b → b ≤ℤ c → a ≤ℤ c
at_most_trans a b c h k = omega (arith, ints)

module _ (a b : ℤ) where
  greater_left : a ≤ℤ int_max b a
  greater_left = omega (arith, ints, clamps)

  greater_right : b ≤ℤ int_max b a
  greater_right = omega (arith, ints, clamps)

  less_left : int_min b a ≤ℤ a
  less_left = omega (arith, ints, clamps)

  less_right : int_min b a ≤ℤ b
  less_right = omega (arith, ints, clamps)

module _ (a b c d : ℤ) where
  abbrev max_of_4 : ℤ
  max_of_4 = int_max (int_max d c) (int_max b a)

  greater_of_4 : (a ≤ℤ max_of_4) × (b ≤ℤ max_of_4) × (c ≤ℤ max_of_4) × (d ≤ℤ max_of_4)
  greater_of_4 =
      let low = greater_left (int_max b a) (int_max d c) in
      let high = greater_right (int_max b a) (int_max d c) in (
        at_most_trans a (int_max b a) max_of_4 (greater_left a b) low,
        at_most_trans b (int_max b a) max_of_4 (greater_right a b) low,
        at_most_trans c (int_max d c) max_of_4 (greater_left c d) high,
        at_most_trans d (int_max d c) max_of_4 (greater_right c d) high,
      )

  abbrev min_of_4 : ℤ
  min_of_4 = int_min (int_min d c) (int_min b a)

  less_of_4 : (min_of_4 ≤ℤ a) × (min_of_4 ≤ℤ b) × (min_of_4 ≤ℤ c) × (min_of_4 ≤ℤ d)
  less_of_4 =
      let low = less_left (int_min b a) (int_min d c) in
      let high = less_right (int_min b a) (int_min d c) in (
        at_most_trans min_of_4 (int_min b a) a low (less_left a b),
        at_most_trans min_of_4 (int_min b a) b low (less_right a b),
        at_most_trans min_of_4 (int_min d c) c high (less_left c d),
        at_most_trans min_of_4 (int_min d c) d high (less_right c d),
      )

module _ (row : ℕ → ℤ) where
  pub greater_of_8 : (u : ℕ) → u < 8 → row u ≤ℤ int_max (max_of_4 (row 4) (row 5) (row 6) (row 7)) (max_of_4 (row 0) (row 1) (row 2) (row 3))
  greater_of_8 =
      let low = greater_of_4 (row 0) (row 1) (row 2) (row 3) in
      let high = greater_of_4 (row 4) (row 5) (row 6) (row 7) in
      let left = greater_left (max_of_4 (row 0) (row 1) (row 2) (row 3)) (max_of_4 (row 4) (row 5) (row 6) (row 7)) in
      let right = greater_right (max_of_4 (row 0) (row 1) (row 2) (row 3)) (max_of_4 (row 4) (row 5) (row 6) (row 7)) in
      each_of_8 _ (at_most_trans _ _ _ low.0 left) (at_most_trans _ _ _ low.1 left) (at_most_trans _ _ _ low.2 left) (at_most_trans _ _ _ low.3 left)
      (at_most_trans _ _ _ high.0 right) (at_most_trans _ _ _ high.1 right) (at_most_trans _ _ _ high.2 right) (at_most_trans _ _ _ high.3 right)

  pub less_of_8 : (u : ℕ) → u < 8 → int_min (min_of_4 (row 4) (row 5) (row 6) (row 7)) (min_of_4 (row 0) (row 1) (row 2) (row 3)) ≤ℤ row u
  less_of_8 =
      let low = less_of_4 (row 0) (row 1) (row 2) (row 3) in
      let high = less_of_4 (row 4) (row 5) (row 6) (row 7) in
      let left = less_left (min_of_4 (row 0) (row 1) (row 2) (row 3)) (min_of_4 (row 4) (row 5) (row 6) (row 7)) in
      let right = less_right (min_of_4 (row 0) (row 1) (row 2) (row 3)) (min_of_4 (row 4) (row 5) (row 6) (row 7)) in
      each_of_8 _ (at_most_trans _ _ _ left low.0) (at_most_trans _ _ _ left low.1) (at_most_trans _ _ _ left low.2) (at_most_trans _ _ _ left low.3)
      (at_most_trans _ _ _ right high.0) (at_most_trans _ _ _ right high.1) (at_most_trans _ _ _ right high.2) (at_most_trans _ _ _ right high.3)

-- ---- no lane less than its like

module _ {w : Width} {n m : ℕ} {xs ys : List ℕ} {f g : ℕ → ℤ} (a : Holds w n m xs f) (b : Holds w n m ys g) where
  unset : (t : Bool) → cond {A = ℕ} t 1 0 ≡ 0 → t ≡ false
  unset true e = absurd (omega arith)
  unset false e = refl

  pub none_less : n ≤ 64 → eqb (mask_l (map (top (hbits w)) (zip2 (λ x y. cond (lt_z (to_z w x) (to_z w y)) (2 ^ bits w - 1) 0) xs ys)) % 2 ^ 64) 0 ≡ true
      → (i : ℕ) → i < n → g i ≤ℤ f i
  none_less short none i h =
      let masks = map (top (hbits w)) (zip2 (λ x y. cond (lt_z (to_z w x) (to_z w y)) (2 ^ bits w - 1) 0) xs ys) in
      let empty : mask_l masks ≡ 0 = sym (mask_l-mod masks 64 (rw (less_long a b) short)) ∙ eqb-true (mask_l masks % 2 ^ 64) 0 none in
      let bit : cond {A = ℕ} (get_or masks i false) 1 0 ≡ 0 = sym (sym (ap (λ q. q % 2) (zero-div (2 ^ i))) ∙ ap (λ m. m / 2 ^ i % 2) (sym empty) ∙ bit_mask_l masks i) in
      let is : lt_z (f i) (g i) ≡ false = sym (less_at a b i h) ∙ unset (get_or masks i false) bit in
      grind (arith, ints)

pub not_not : {b : Bool} → IsTrue (not (not b)) → b ≡ true
not_not {b = true} is = refl
not_not {b = false} is = is

-- ---- natural numbers of signed lanes

natural : (z : ℤ) → pos 0 ≤ℤ z → T (non_neg z)
natural (pos a) h = tt
natural (negsuc a) h = absurd (omega (arith, ints))

module _ (v w : Width) {n m : ℕ} {xs : List ℕ} {f : ℕ → ℤ} (a : Holds v n m xs f) (low : (i : ℕ) → i < n → pos 0 ≤ℤ f i) (fit : m < 2 ^ bits w) where
  -- what the cast asks of each lane
  pub natural_asks : Each1 (λ x. T (non_neg (to_z v x)) × Fits w (nat_abs (to_z v x))) xs
  natural_asks =
      Each1-from_get_or (λ x. T (non_neg (to_z v x)) × Fits w (nat_abs (to_z v x))) xs 0 (λ i h.
      let k : i < n = omega (arith, a.long) in
      let size = (a.within i k).size in
      rw (a.value i k) (natural (f i) (low i k), record { fits = omega arith }))

  pub natural_lane : (i : ℕ) → i < n → get_or (map (λ x. nat_abs (to_z v x)) xs) i 0 ≡ nat_abs (f i)
  natural_lane i h = get_or-map (λ x. nat_abs (to_z v x)) xs i 0 0 (rw a.long h) ∙ ap nat_abs (a.value i h)

-- ---- sums and differences of halved lanes

abbrev Halved : ℤ → Type 0
Halved z = (negsuc 16383 ≤ℤ z) × (z ≤ℤ pos 16383)

pub halved_fit : {z : ℤ} → Halved z → FitsSigned w16 z
halved_fit {z = z} h = between_fits z (omega (arith, ints)) (omega (arith, ints))

module _ {n m k : ℕ} {xs ys : List ℕ} {f g : ℕ → ℤ} (a : Holds w16 n m xs f) (b : Holds w16 n k ys g)
    (first : (i : ℕ) → i < n → Halved (f i)) (second : (i : ℕ) → i < n → Halved (g i)) where
  pub holds_halved_sum : Holds w16 n (m + k) (zip2 (λ x y. (x + y) % 2 ^ 16) xs ys) (λ i. f i +ℤ g i)
  holds_halved_sum = holds_fitting_sum w16 a b (λ i h. let p = first i h in let q = second i h in between_fits (f i +ℤ g i) (omega (arith, ints, p.0, q.0)) (omega (arith, ints, p.1, q.1)))

  pub holds_halved_difference : Holds w16 n (m + k) (zip2 (λ x y. (x + (2 ^ 16 - y)) % 2 ^ 16) xs ys) (λ i. f i -ℤ g i)
  holds_halved_difference = holds_fitting_difference w16 a b (λ i h. let p = first i h in let q = second i h in between_fits (f i -ℤ g i) (omega (arith, ints, p.0, q.1)) (omega (arith, ints, p.1, q.0)))
