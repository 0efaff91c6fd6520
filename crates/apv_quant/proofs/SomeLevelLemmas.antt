-- A coefficient has a nearest level.
use Rattle.std.proofs.Common.{◌≡◌, ℕ, zero, suc, ℤ, pos, negsuc, ◌+◌, ◌-◌, ◌*◌, ◌^◌, ◌<◌, ◌≤◌, nat_lt, true, false, inl, inr, refl, ap, subst, arith}
use Rattle.std.specs.Prelude.{unsigned_abs, if◌then◌else◌}
use Rattle.std.proofs.lemmas.Bool.{cases_lt, lt-ltb, le-ltb}
use Rattle.apv_base.specs.model.Quant.{distance, IsLevel, IsNearest}

-- the permitted levels by their numbers: 0 to 32767, and then -1 to -32768
abbrev level_number : ℕ → ℤ
level_number i = if nat_lt i 32768 then pos i else negsuc (i - 32768)

abbrev number_of : ℤ → ℕ
number_of (pos n) = n
number_of (negsuc n) = n + 32768

past-end : (n i : ℕ) → i ≡ n + 32768 → level_number i ≡ negsuc n
past-end n i e =
    let no : nat_lt i 32768 ≡ false = le-ltb i 32768 (omega arith) in
    let same : i - 32768 ≡ n = omega arith in
    rw no (ap negsuc same)

level-back : (k : ℤ) → IsLevel k → level_number (number_of k) ≡ k
level-back (pos n) level = let yes : nat_lt n 32768 ≡ true = lt-ltb n 32768 (omega (arith, level)) in rw yes refl
level-back (negsuc n) level = past-end n (n + 32768) refl

number-small : (k : ℤ) → IsLevel k → number_of k ≤ 65535
number-small (pos n) level = omega (arith, level)
number-small (negsuc n) level = omega (arith, level)

level-permitted : (i : ℕ) → i ≤ 65535 → IsLevel (level_number i)
level-permitted i le = elim (cases_lt i 32768) [
  | inl lt ↦ (let yes : nat_lt i 32768 ≡ true = lt-ltb i 32768 lt in rw yes (let below : i < 2 ^ 15 = omega arith in below))
  | inr ge ↦ (let no : nat_lt i 32768 ≡ false = le-ltb i 32768 ge in rw no (let below : i - 32768 < 2 ^ 15 = omega arith in below))
]

level-size : (k : ℤ) → IsLevel k → unsigned_abs k < 65536
level-size (pos n) level = omega (arith, level)
level-size (negsuc n) level = omega (arith, level)

-- of the numbers up to n one has the least weight
least-of : (weight : ℕ → ℕ) (n : ℕ) → (i : ℕ) × (i ≤ n) × ((j : ℕ) → j ≤ n → weight i ≤ weight j)
least-of weight zero = (0, omega arith, λ j le. let same : 0 ≡ j = omega arith in subst (λ (x : ℕ). weight 0 ≤ weight x) same (omega arith))
least-of weight (suc n) =
    let before = least-of weight n in
    elim (cases_lt (weight (suc n)) (weight before.0)) [
      | inl lt ↦ (
        suc n,
        omega arith,
        λ j le. elim (cases_lt j (suc n)) [
          | inl below ↦ omega (arith, before.2 j (omega arith), lt)
          | inr ge ↦ (let same : suc n ≡ j = omega arith in subst (λ (x : ℕ). weight (suc n) ≤ weight x) same (omega arith))
        ],
      )
      | inr ge ↦ (
        before.0,
        omega (arith, before.1),
        λ j le. elim (cases_lt j (suc n)) [
          | inl below ↦ before.2 j (omega arith)
          | inr above ↦ (let same : suc n ≡ j = omega arith in subst (λ (x : ℕ). weight before.0 ≤ weight x) same ge)
        ],
      )
    ]

-- the distance counts first, and then the size
abbrev weight_of : ℤ → ℕ → ℕ → ℤ → ℕ
weight_of c s b k = distance c s b k * 65536 + unsigned_abs k

nearest-by-weight : (c : ℤ) (s b : ℕ) (l : ℤ) → IsLevel l → ((k : ℤ) → IsLevel k → weight_of c s b l ≤ weight_of c s b k) → IsNearest c s b l
nearest-by-weight c s b l permitted least = record {
  permitted = permitted;
  least = λ k level. omega (arith, least k level, level-size k level);
  nearer = λ k level same. omega (arith, least k level, same);
}

-- a coefficient has a nearest level
pub some-level : (c : ℤ) (s b : ℕ) → (l : ℤ) × IsNearest c s b l
some-level c s b =
    let least = least-of (λ i. weight_of c s b (level_number i)) 65535 in (
      level_number least.0,
      nearest-by-weight c s b (level_number least.0) (level-permitted least.0 least.1) (λ k level.
          subst (λ (x : ℤ). weight_of c s b (level_number least.0) ≤ weight_of c s b x) (level-back k level) (least.2 (number_of k) (number-small k level))),
    )
