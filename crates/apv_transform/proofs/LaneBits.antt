-- Vectors of signed numbers, lane by lane: the bits that each operation leaves.
use Rattle.std.proofs.Common.{◌≡◌, ℕ, zero, suc, ◌+◌, ◌-◌, ◌*◌, ◌%◌, ◌^◌, ◌<◌, ◌≤◌, List, [], ◌∷◌, length, get_or, sym, subst, ap, ap₂, ◌∙◌, arith, replicate}
use Rattle.std.specs.Prelude.{ℤ, pos, ◌+ℤ◌, ◌-ℤ◌, ◌*ℤ◌, map, unsigned_abs}
use Rattle.std.specs.Int.RustNames.{FitsSigned}
use Rattle.std.specs.Int.{int_shr, int_wrap}
use Rattle.std.specs.Int.Signed.{shr_z}
use Rattle.std.proofs.lemmas.Int.{ints, wrapping_add-bits, wrapping_sub-bits, wrapping_mul-bits, int_wrap_fits, to_z-of_z, fits_signed_from_abs}
use Rattle.std.proofs.Math.Facts.{Fits-of_z, sfits_to_z}
use Rattle.std.proofs.Math.Nat.{mod-lt, pow-le-pow_right}
use Rattle.std.proofs.lemmas.Nat.{pow_pos}
use Rattle.std.proofs.lemmas.List.{get_or-map, length-map, get_or_default}
use Rattle.std.proofs.lemmas.Simd.{get_or-zip2, length-zip2, length-replicate, get_or-replicate}
use lib.Lanes.{zip2}
use mir.Syntax.{Width, w16, w32}
use denote.Array.{each}
use denote.Shadow.{shadow}
use denote.Signed.{SInt}
use mir.Val.{Val, to_z, of_z, bits, hbits}
use Rattle.apv_transform.specs.Line.{IsBounded, AreBounded, value_at}
use Rattle.apv_transform.specs.Lanes.{lane_at, AreLanesBounded, AreOf16Bits, AreLanesOf16Bits}
use Rattle.apv_transform.proofs.Places.{each_of_4, each_of_8}
use Rattle.apv_transform.proofs.Bounds.{held, kept, wider, add_within, sub_within, mul_within, same_within}
use Rattle.apv_transform.proofs.Ranges.{shr_within}

-- a list's numbers are the bits of numbers within a bound
pub record Holds (w : Width) (count bound : ℕ) (xs : List ℕ) (f : ℕ → ℤ) : Type 0 where
  pub long : length xs ≡ count
  pub small : (i : ℕ) → i < count → get_or xs i 0 < 2 ^ bits w
  pub value : (i : ℕ) → i < count → to_z w (get_or xs i 0) ≡ f i
  pub within : (i : ℕ) → i < count → IsBounded bound (f i)

module _ (w : Width) where
  pub fits_in : {m : ℕ} {z : ℤ} → IsBounded m z → m < 2 ^ hbits w → FitsSigned w z
  fits_in {z = z} h k = fits_signed_from_abs w z (omega arith)

  pub kept_in : {m : ℕ} {z : ℤ} → IsBounded m z → m < 2 ^ hbits w → to_z w (of_z w z) ≡ z
  kept_in {z = z} h k = to_z-of_z w z (fits_in h k)

  -- a parameter
  pub holds_fitting : {count bound : ℕ} (v : List ℤ) → length v ≡ count → AreBounded bound count v → ((i : ℕ) → i < count → FitsSigned w (value_at v i))
      → Holds w count bound (map (of_z w) v) (value_at v)
  holds_fitting {count = count} v long within fit = record {
    long = length-map v (of_z w) ∙ long;
    small = λ i h. rw (get_or-map (of_z w) v i (pos 0) 0 (omega arith)) (Fits-of_z (fit i h)).fits;
    value = λ i h. rw (get_or-map (of_z w) v i (pos 0) 0 (omega arith)) (to_z-of_z w (value_at v i) (fit i h));
    within = within;
  }

  pub holds_lanes : {count bound : ℕ} (v : List ℤ) → length v ≡ count → AreBounded bound count v → bound < 2 ^ hbits w → Holds w count bound (map (of_z w) v) (value_at v)
  holds_lanes v long within fit = holds_fitting v long within (λ i h. fits_in (within i h) fit)

  pub within_fits : {m count : ℕ} (v : List ℤ) → AreBounded m count v → m < 2 ^ hbits w → (i : ℕ) → i < count → FitsSigned w (value_at v i)
  within_fits v within fit i h = fits_in (within i h) fit

  -- a number in each lane
  pub holds_any_same : (count : ℕ) {bound : ℕ} (z : ℤ) → IsBounded bound z → FitsSigned w z → Holds w count bound (replicate count (of_z w z)) (λ i. z)
  holds_any_same count z within fit = record {
    long = length-replicate count (of_z w z);
    small = λ i h. rw (get_or-replicate count i (of_z w z) 0 h) (Fits-of_z fit).fits;
    value = λ i h. rw (get_or-replicate count i (of_z w z) 0 h) (to_z-of_z w z fit);
    within = λ i h. within;
  }

  pub holds_same : (count : ℕ) {bound : ℕ} (z : ℤ) → IsBounded bound z → bound < 2 ^ hbits w → Holds w count bound (replicate count (of_z w z)) (λ i. z)
  holds_same count z within fit = holds_any_same count z within (fits_in within fit)

  -- an entry of the transform matrix in each lane
  pub holds_entry : (count : ℕ) (z : ℤ) → unsigned_abs z ≤ 89 → 89 < 2 ^ hbits w → Holds w count 89 (replicate count (of_z w z)) (λ i. z)
  holds_entry count z small fit = holds_same count z (record { size = small }) fit

  module _ {count m n : ℕ} {xs ys : List ℕ} {f g : ℕ → ℤ} (a : Holds w count m xs f) (b : Holds w count n ys g) where
    lane_of : (op : ℕ → ℕ → ℕ) (i : ℕ) → i < count → get_or (zip2 op xs ys) i 0 ≡ op (get_or xs i 0) (get_or ys i 0)
    lane_of op i h = get_or-zip2 op xs ys i 0 0 0 (rw a.long h) (rw b.long h)

    pub holds_op : (op : ℕ → ℕ → ℕ) (k : ℕ) (of : ℕ → ℤ)
        → ((i : ℕ) → i < count → op (get_or xs i 0) (get_or ys i 0) < 2 ^ bits w)
        → ((i : ℕ) → i < count → to_z w (op (get_or xs i 0) (get_or ys i 0)) ≡ of i)
        → ((i : ℕ) → i < count → IsBounded k (of i)) → Holds w count k (zip2 op xs ys) of
    holds_op op k of small value within = record {
      long = length-zip2 op xs ys (a.long ∙ sym b.long) ∙ a.long;
      small = λ i h. rw (lane_of op i h) (small i h);
      value = λ i h. rw (lane_of op i h) (value i h);
      within = within;
    }

    wraps : (x : ℕ) → x % 2 ^ bits w < 2 ^ bits w
    wraps x = mod-lt x (pow_pos (bits w))

    pub holds_fitting_sum : ((i : ℕ) → i < count → FitsSigned w (f i +ℤ g i)) → Holds w count (m + n) (zip2 (λ x y. (x + y) % 2 ^ bits w) xs ys) (λ i. f i +ℤ g i)
    holds_fitting_sum fits =
        holds_op _ _ _ (λ i h. wraps (get_or xs i 0 + get_or ys i 0))
        (λ i h. wrapping_add-bits w (get_or xs i 0) (get_or ys i 0) (a.small i h) (b.small i h)
        ∙ ap₂ (λ x y. int_wrap w (x +ℤ y)) (a.value i h) (b.value i h) ∙ int_wrap_fits w (f i +ℤ g i) (fits i h))
        (λ i h. add_within (a.within i h) (b.within i h))

    pub holds_sum : m + n < 2 ^ hbits w → Holds w count (m + n) (zip2 (λ x y. (x + y) % 2 ^ bits w) xs ys) (λ i. f i +ℤ g i)
    holds_sum fit = holds_fitting_sum (λ i h. fits_in (add_within (a.within i h) (b.within i h)) fit)

    pub holds_fitting_difference : ((i : ℕ) → i < count → FitsSigned w (f i -ℤ g i)) → Holds w count (m + n) (zip2 (λ x y. (x + (2 ^ bits w - y)) % 2 ^ bits w) xs ys) (λ i. f i -ℤ g i)
    holds_fitting_difference fits =
        holds_op _ _ _ (λ i h. wraps (get_or xs i 0 + (2 ^ bits w - get_or ys i 0)))
        (λ i h. wrapping_sub-bits w (get_or xs i 0) (get_or ys i 0) (a.small i h) (b.small i h)
        ∙ ap₂ (λ x y. int_wrap w (x -ℤ y)) (a.value i h) (b.value i h) ∙ int_wrap_fits w (f i -ℤ g i) (fits i h))
        (λ i h. sub_within (a.within i h) (b.within i h))

    pub holds_difference : m + n < 2 ^ hbits w → Holds w count (m + n) (zip2 (λ x y. (x + (2 ^ bits w - y)) % 2 ^ bits w) xs ys) (λ i. f i -ℤ g i)
    holds_difference fit = holds_fitting_difference (λ i h. fits_in (sub_within (a.within i h) (b.within i h)) fit)

    pub holds_product : m * n < 2 ^ hbits w → Holds w count (m * n) (zip2 (λ x y. (x * y) % 2 ^ bits w) xs ys) (λ i. f i *ℤ g i)
    holds_product fit =
        holds_op _ _ _ (λ i h. wraps (get_or xs i 0 * get_or ys i 0))
        (λ i h. wrapping_mul-bits w (get_or xs i 0) (get_or ys i 0) (a.small i h) (b.small i h)
        ∙ ap₂ (λ x y. int_wrap w (x *ℤ y)) (a.value i h) (b.value i h) ∙ int_wrap_fits w (f i *ℤ g i) (fits_in (mul_within (a.within i h) (b.within i h)) fit))
        (λ i h. mul_within (a.within i h) (b.within i h))

  -- each lane shifted to the right, by an amount in each lane of another vector
  pub holds_shifted : {count m : ℕ} (n s : ℕ) {xs : List ℕ} {f : ℕ → ℤ} → Holds w count m xs f → ((i : ℕ) → i < count → IsBounded n (int_shr (f i) s)) → n < 2 ^ hbits w
      → Holds w count n (zip2 (λ x k. of_z w (shr_z (to_z w x) (2 ^ k))) xs (replicate count s)) (λ i. int_shr (f i) s)
  holds_shifted {count = count} n s {xs = xs} {f = f} a within fit =
      let at : (i : ℕ) → i < count → get_or (zip2 (λ x k. of_z w (shr_z (to_z w x) (2 ^ k))) xs (replicate count s)) i 0 ≡ of_z w (int_shr (f i) s) =
      λ i h. get_or-zip2 _ xs (replicate count s) i 0 0 0 (rw a.long h) (rw (length-replicate count s) h)
      ∙ ap₂ (λ x k. of_z w (shr_z x (2 ^ k))) (a.value i h) (get_or-replicate count i s 0 h) in
      record {
        long = length-zip2 _ xs (replicate count s) (a.long ∙ sym (length-replicate count s)) ∙ a.long;
        small = λ i h. rw (at i h) (Fits-of_z (fits_in (within i h) fit)).fits;
        value = λ i h. rw (at i h) (kept_in (within i h) fit);
        within = within;
      }

  -- a result
  module _ {count m : ℕ} {xs : List ℕ} {f : ℕ → ℤ} (a : Holds w count m xs f) where
    pub lane_is : (i : ℕ) → i < count → value_at (map (to_z w) xs) i ≡ f i
    lane_is i h = get_or-map (to_z w) xs i 0 (pos 0) (rw a.long h) ∙ a.value i h

    pub lanes_within : AreBounded m count (map (to_z w) xs)
    lanes_within i h = same_within (lane_is i h) (a.within i h)

-- ---- rounding

pub half_within : (shift : ℕ) {h : ℤ} → shift ≤ 16 → h ≡ pos (2 ^ (shift - 1)) → IsBounded 32768 h
half_within shift high e =
    let p : 2 ^ (shift - 1) ≤ 2 ^ 15 = pow-le-pow_right {n = 2} (omega arith) {i = shift - 1} {j = 15} (omega arith) in
    same_within e (record { size = p })

-- half as 32 bits hold it, and with half the range times 2 ^ shift
pub held_round_is : (shift : ℕ) {h : ℤ} → shift ≤ 16 → h ≡ pos (2 ^ (shift - 1)) → held h ≡ pos (2 ^ (shift - 1))
held_round_is shift high e = kept (half_within shift high e) (omega arith) ∙ e

pub held_round : (shift : ℕ) {h : ℤ} → shift ≤ 16 → h ≡ pos (2 ^ (shift - 1)) → IsBounded 557056 (held h +ℤ pos 524288)
held_round shift high e = add_within {m = 32768} {n = 524288} (half_within shift high (held_round_is shift high e)) (record { size = omega arith })

pub shifted_within : (shift : ℕ) (z : ℤ) → 1 ≤ shift → IsBounded 1610612736 z → IsBounded 1073741824 (int_shr z shift)
shifted_within shift z low h =
    let some : 2 ^ 1 ≤ 2 ^ shift = pow-le-pow_right {n = 2} (omega arith) {i = 1} {j = shift} low in
    shr_within 1073741824 (2 ^ shift) z (omega arith) (omega (arith, ints)) (omega (arith, ints))

module _ {count m : ℕ} {xs : List ℕ} {f : ℕ → ℤ} (a : Holds w32 count m xs f) (small : m ≤ 1610612736) (shift : ℕ) (low : 1 ≤ shift) where
  pub holds_halved : Holds w32 count 1073741824 (zip2 (λ x k. of_z w32 (shr_z (to_z w32 x) (2 ^ k))) xs (replicate count shift)) (λ i. int_shr (f i) shift)
  holds_halved = holds_shifted w32 1073741824 shift a (λ i h. shifted_within shift (f i) low (wider (a.within i h) (omega arith))) (omega arith)

-- half added before the odd part, and after it
pub half_before_sum : (shift : ℕ) (x y h n : ℤ) → h ≡ n → int_shr (x +ℤ h +ℤ y) shift ≡ int_shr (x +ℤ y +ℤ n) shift
half_before_sum shift x y h n e = ap (λ z. int_shr z shift) (rw e (omega (arith, ints)))

pub half_before_difference : (shift : ℕ) (x y h n : ℤ) → h ≡ n → int_shr (x +ℤ h -ℤ y) shift ≡ int_shr (x -ℤ y +ℤ n) shift
half_before_difference shift x y h n e = ap (λ z. int_shr z shift) (rw e (omega (arith, ints)))

-- ---- arrays of vectors

module _ (w : Width) where
  -- an element that was taken from an array
  pub holds_element : {m : ℕ} (xs : List (List ℤ)) (i : ℕ) (x : List ℤ) → x ≡ get_or xs i x → i < length xs → length x ≡ 8
      → AreBounded m 8 (get_or xs i []) → m < 2 ^ hbits w → Holds w 8 m (map (of_z w) x) (lane_at xs i)
  holds_element {m = m} xs i x taken within long bound fit =
      let same : get_or xs i [] ≡ x = get_or_default xs i [] x within ∙ sym taken in
      subst (λ (f : ℕ → ℤ). Holds w 8 m (map (of_z w) x) f) (ap value_at (sym same)) (holds_lanes w x long (subst (AreBounded m 8) same bound) fit)

  -- four and eight vectors made into an array
  module _ {m : ℕ} {a b c d : List ℕ} {fa fb fc fd : ℕ → ℤ} (r : List (List ℤ)) (is : r ≡ map (to_z w) a ∷ map (to_z w) b ∷ map (to_z w) c ∷ map (to_z w) d ∷ [])
      (ha : Holds w 8 m a fa) (hb : Holds w 8 m b fb) (hc : Holds w 8 m c fc) (hd : Holds w 8 m d fd) where
    pub four_are : (F : ℕ → ℕ → ℤ) → ((i : ℕ) → i < 8 → fa i ≡ F 0 i) → ((i : ℕ) → i < 8 → fb i ≡ F 1 i) → ((i : ℕ) → i < 8 → fc i ≡ F 2 i) → ((i : ℕ) → i < 8 → fd i ≡ F 3 i)
        → (k lane : ℕ) → k < 4 → lane < 8 → lane_at r k lane ≡ F k lane
    four_are F ea eb ec ed k lane hk hl =
        ap (λ v. lane_at v k lane) is
        ∙ each_of_4 (λ k. lane_at (map (to_z w) a ∷ map (to_z w) b ∷ map (to_z w) c ∷ map (to_z w) d ∷ []) k lane ≡ F k lane)
        (lane_is w ha lane hl ∙ ea lane hl) (lane_is w hb lane hl ∙ eb lane hl) (lane_is w hc lane hl ∙ ec lane hl) (lane_is w hd lane hl ∙ ed lane hl) k hk

    pub four_within : AreLanesBounded m 4 r
    four_within k hk =
        rw is (each_of_4 (λ k. AreBounded m 8 (get_or (map (to_z w) a ∷ map (to_z w) b ∷ map (to_z w) c ∷ map (to_z w) d ∷ []) k []))
        (lanes_within w ha) (lanes_within w hb) (lanes_within w hc) (lanes_within w hd) k hk)

module _ (w : Width) {m : ℕ} {a b c d e f g h : List ℕ} {fa fb fc fd fe ff fg fh : ℕ → ℤ} (r : List (List ℤ))
    (is : r ≡ map (to_z w) a ∷ map (to_z w) b ∷ map (to_z w) c ∷ map (to_z w) d ∷ map (to_z w) e ∷ map (to_z w) f ∷ map (to_z w) g ∷ map (to_z w) h ∷ [])
    (ha : Holds w 8 m a fa) (hb : Holds w 8 m b fb) (hc : Holds w 8 m c fc) (hd : Holds w 8 m d fd)
    (he : Holds w 8 m e fe) (hf : Holds w 8 m f ff) (hg : Holds w 8 m g fg) (hh : Holds w 8 m h fh) where
  at_each : (P : ℕ → (ℕ → ℤ) → Type 0) → P 0 (λ lane. value_at (map (to_z w) a) lane) → P 1 (λ lane. value_at (map (to_z w) b) lane) → P 2 (λ lane. value_at (map (to_z w) c) lane) → P 3 (λ lane. value_at (map (to_z w) d) lane) → P 4 (λ lane. value_at (map (to_z w) e) lane) → P 5 (λ lane. value_at (map (to_z w) f) lane) → P 6 (λ lane. value_at (map (to_z w) g) lane) → P 7 (λ lane. value_at (map (to_z w) h) lane) → (k : ℕ) → k < 8 → P k (λ lane. lane_at (map (to_z w) a ∷ map (to_z w) b ∷ map (to_z w) c ∷ map (to_z w) d ∷ map (to_z w) e ∷ map (to_z w) f ∷ map (to_z w) g ∷ map (to_z w) h ∷ []) k lane)
  at_each P pa pb pc pd pe pf pg ph = each_of_8 (λ k. P k (λ lane. lane_at (map (to_z w) a ∷ map (to_z w) b ∷ map (to_z w) c ∷ map (to_z w) d ∷ map (to_z w) e ∷ map (to_z w) f ∷ map (to_z w) g ∷ map (to_z w) h ∷ []) k lane)) pa pb pc pd pe pf pg ph

  pub eight_are : (F : ℕ → ℕ → ℤ) → ((i : ℕ) → i < 8 → fa i ≡ F 0 i) → ((i : ℕ) → i < 8 → fb i ≡ F 1 i) → ((i : ℕ) → i < 8 → fc i ≡ F 2 i) → ((i : ℕ) → i < 8 → fd i ≡ F 3 i)
      → ((i : ℕ) → i < 8 → fe i ≡ F 4 i) → ((i : ℕ) → i < 8 → ff i ≡ F 5 i) → ((i : ℕ) → i < 8 → fg i ≡ F 6 i) → ((i : ℕ) → i < 8 → fh i ≡ F 7 i) → (k lane : ℕ) → k < 8 → lane < 8 → lane_at r k lane ≡ F k lane
  eight_are F ea eb ec ed ee ef eg eh k lane hk hl =
      ap (λ v. lane_at v k lane) is
      ∙ at_each (λ k f. f lane ≡ F k lane)
      (lane_is w ha lane hl ∙ ea lane hl) (lane_is w hb lane hl ∙ eb lane hl) (lane_is w hc lane hl ∙ ec lane hl) (lane_is w hd lane hl ∙ ed lane hl)
      (lane_is w he lane hl ∙ ee lane hl) (lane_is w hf lane hl ∙ ef lane hl) (lane_is w hg lane hl ∙ eg lane hl) (lane_is w hh lane hl ∙ eh lane hl) k hk

  pub eight_at : ((lane : ℕ) → lane < 8 → lane_at r 0 lane ≡ fa lane) × ((lane : ℕ) → lane < 8 → lane_at r 1 lane ≡ fb lane) × ((lane : ℕ) → lane < 8 → lane_at r 2 lane ≡ fc lane) × ((lane : ℕ) → lane < 8 → lane_at r 3 lane ≡ fd lane) × ((lane : ℕ) → lane < 8 → lane_at r 4 lane ≡ fe lane) × ((lane : ℕ) → lane < 8 → lane_at r 5 lane ≡ ff lane) × ((lane : ℕ) → lane < 8 → lane_at r 6 lane ≡ fg lane) × ((lane : ℕ) → lane < 8 → lane_at r 7 lane ≡ fh lane)
  eight_at = (λ lane h. ap (λ v. lane_at v 0 lane) is ∙ lane_is w ha lane h, λ lane h. ap (λ v. lane_at v 1 lane) is ∙ lane_is w hb lane h, λ lane h. ap (λ v. lane_at v 2 lane) is ∙ lane_is w hc lane h, λ lane h. ap (λ v. lane_at v 3 lane) is ∙ lane_is w hd lane h, λ lane h. ap (λ v. lane_at v 4 lane) is ∙ lane_is w he lane h, λ lane h. ap (λ v. lane_at v 5 lane) is ∙ lane_is w hf lane h, λ lane h. ap (λ v. lane_at v 6 lane) is ∙ lane_is w hg lane h, λ lane h. ap (λ v. lane_at v 7 lane) is ∙ lane_is w hh lane h)

  pub eight_within : AreLanesBounded m 8 r
  eight_within k hk =
      rw is (at_each (λ k f. (lane : ℕ) → lane < 8 → IsBounded m (f lane))
      (lanes_within w ha) (lanes_within w hb) (lanes_within w hc) (lanes_within w hd) (lanes_within w he) (lanes_within w hf) (lanes_within w hg) (lanes_within w hh) k hk)

pub holds_wider : {w : Width} {count m n : ℕ} {xs : List ℕ} {f : ℕ → ℤ} → Holds w count m xs f → m ≤ n → Holds w count n xs f
holds_wider a le = record { long = a.long; small = a.small; value = a.value; within = λ i h. wider (a.within i h) le }

-- numbers of 16 bits
pub within_16 : (v : List ℤ) → AreOf16Bits v → AreBounded 32768 8 v
within_16 v fits i h = let fit = fits i h in record { size = omega (arith, ints, fit) }

pub holds_element_16 : (xs : List (List ℤ)) (i : ℕ) (x : List ℤ) → x ≡ get_or xs i x → i < length xs → length x ≡ 8
    → AreOf16Bits (get_or xs i []) → Holds w16 8 32768 (map (of_z w16) x) (lane_at xs i)
holds_element_16 xs i x taken within long fits =
    let same : get_or xs i [] ≡ x = get_or_default xs i [] x within ∙ sym taken in
    let fit : AreOf16Bits x = subst AreOf16Bits same fits in
    subst (λ (f : ℕ → ℤ). Holds w16 8 32768 (map (of_z w16) x) f) (ap value_at (sym same)) (holds_fitting w16 x long (within_16 x fit) fit)

-- a vector that a call returned
pub holds_result : {count bound : ℕ} (v : List ℤ) {f : ℕ → ℤ} → length v ≡ count → AreBounded bound count v → bound < 2 ^ 31
    → ((i : ℕ) → i < count → value_at v i ≡ f i) → Holds w32 count bound (map (of_z w32) v) f
holds_result v long within fit value =
    let a = holds_lanes w32 v long within fit in
    record { long = a.long; small = a.small; value = λ i h. a.value i h ∙ value i h; within = λ i h. same_within (sym (value i h)) (within i h) }

-- what a vector's type says of its lanes
pub vector_fits : (w : Width) (v : List ℤ) (us : List Val) → shadow (each ℤ (SInt w).own_val v us) → (i : ℕ) → i < length v → FitsSigned w (value_at v i)
vector_fits w [] us known i h = absurd (omega arith)
vector_fits w (x ∷ xs) [] known i h = absurd known
vector_fits w (x ∷ xs) (u ∷ us) known zero h = record { sfits = known.0.1 }
vector_fits w (x ∷ xs) (u ∷ us) known (suc i) h = vector_fits w xs us known.1 i (omega arith)

pub holds_any : (xs : List (List ℤ)) (i : ℕ) (x : List ℤ) → x ≡ get_or xs i x → i < length xs → length x ≡ 8
    → (us : List Val) → shadow (each ℤ (SInt w32).own_val x us) → Holds w32 8 2147483648 (map (of_z w32) x) (lane_at xs i)
holds_any xs i x taken within long us known =
    let same : x ≡ get_or xs i [] = taken ∙ get_or_default xs i x [] within in
    let fit : (i : ℕ) → i < 8 → FitsSigned w32 (value_at x i) = λ i h. vector_fits w32 x us known i (rw long h) in
    let bound : AreBounded 2147483648 8 x = λ i h. let f = fit i h in record { size = omega (arith, ints, f) } in
    subst (λ (f : ℕ → ℤ). Holds w32 8 2147483648 (map (of_z w32) x) f) (ap value_at same) (holds_fitting w32 x long bound fit)

-- whatever the bits are
pub lanes_fit : (w : Width) {n m : ℕ} {xs : List ℕ} {f : ℕ → ℤ} → Holds w n m xs f → (i : ℕ) → i < n → FitsSigned w (value_at (map (to_z w) xs) i)
lanes_fit w {xs = xs} a i h = rw (get_or-map (to_z w) xs i 0 (pos 0) (rw a.long h)) (sfits_to_z (record { fits = a.small i h }))

-- eight vectors of 16 bits made into an array
pub eight_fit : {m : ℕ} {a b c d e f g h : List ℕ} {fa fb fc fd fe ff fg fh : ℕ → ℤ} (r : List (List ℤ))
    → r ≡ map (to_z w16) a ∷ map (to_z w16) b ∷ map (to_z w16) c ∷ map (to_z w16) d ∷ map (to_z w16) e ∷ map (to_z w16) f ∷ map (to_z w16) g ∷ map (to_z w16) h ∷ []
    → Holds w16 8 m a fa → Holds w16 8 m b fb → Holds w16 8 m c fc → Holds w16 8 m d fd → Holds w16 8 m e fe → Holds w16 8 m f ff → Holds w16 8 m g fg → Holds w16 8 m h fh → AreLanesOf16Bits 8 r
eight_fit {a = a} {b = b} {c = c} {d = d} {e = e} {f = f} {g = g} {h = h} r is ha hb hc hd he hf hg hh k hk =
    rw is (each_of_8 (λ k. AreOf16Bits (get_or (map (to_z w16) a ∷ map (to_z w16) b ∷ map (to_z w16) c ∷ map (to_z w16) d ∷ map (to_z w16) e ∷ map (to_z w16) f ∷ map (to_z w16) g ∷ map (to_z w16) h ∷ []) k []))
    (lanes_fit w16 ha) (lanes_fit w16 hb) (lanes_fit w16 hc) (lanes_fit w16 hd) (lanes_fit w16 he) (lanes_fit w16 hf) (lanes_fit w16 hg) (lanes_fit w16 hh) k hk)
