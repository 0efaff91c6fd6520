use Rattle.std.proofs.Common.{◌≡◌, ℕ, ◌+◌, ◌/◌, ◌%◌, ◌^◌, ◌<◌, ◌≤◌, List, [], ◌∷◌, ◌++◌, length, ap, sym, ◌∙◌, arith, length-append, append_assoc}
use Rattle.std.specs.Fmt.{decimal}
use Rattle.std.proofs.lemmas.Fmt.{decimal_digit, decimal_step}
use Rattle.std.proofs.lemmas.List.{length_push}
use Rattle.apv_video.proofs.line.Line.+push_digits.Goals as goal
use Rattle.apv_video.proofs.line.Line.+push_digits.Goals.{then-number-ge10, else-number-ge10}

-- the number of digits
digits-more : (n : ℕ) → 10 ≤ n → n < 2 ^ 32 → length (decimal n) ≡ length (decimal (n / 10)) + 1
digits-more n high small = ap length (decimal_step n high (omega arith)) ∙ length_push (decimal (n / 10)) (48 + n % 10)

digits-one : (n : ℕ) → n < 10 → length (decimal n) ≡ 1
digits-one n low = ap length (decimal_digit n low)

room-more : (now self : List ℕ) (n : ℕ) → self ≡ now ++ decimal (n / 10) → 10 ≤ n → n < 2 ^ 32 → length now + length (decimal n) ≤ 80 → length self + 1 ≤ 80
room-more now self n is high small room = omega (arith, ap length is, length-append now (decimal (n / 10)), digits-more n high small)

room-one : (now self : List ℕ) (n : ℕ) → self ≡ now → n < 10 → length now + length (decimal n) ≤ 80 → length self + 1 ≤ 80
room-one now self n is low room = omega (arith, ap length is, digits-one n low)

-- the digits
text-more : (now self new : List ℕ) (n digit : ℕ) → new ≡ self ++ digit ∷ [] → digit ≡ 48 + n % 10 → self ≡ now ++ decimal (n / 10) → 10 ≤ n → n < 2 ^ 32 → new ≡ now ++ decimal n
text-more now self new n digit e d is high small =
    e ∙ ap (λ (k : ℕ). self ++ k ∷ []) d ∙ ap (λ (xs : List ℕ). xs ++ (48 + n % 10) ∷ []) is ∙ append_assoc now (decimal (n / 10)) ((48 + n % 10) ∷ []) ∙ ap (λ (xs : List ℕ). now ++ xs) (sym (decimal_step n high (omega arith)))

text-one : (now self new : List ℕ) (n digit : ℕ) → new ≡ self ++ digit ∷ [] → digit ≡ 48 + n % 10 → self ≡ now → n < 10 → new ≡ now ++ decimal n
text-one now self new n digit e d is low =
    let f : digit ≡ 48 + n = omega arith in
    e ∙ ap (λ (k : ℕ). self ++ k ∷ []) f ∙ ap (λ (xs : List ℕ). xs ++ (48 + n) ∷ []) is ∙ ap (λ (xs : List ℕ). now ++ xs) (sym (decimal_digit n low))

pub push_digits-requires : goal.push_digits-requires
push_digits-requires t c =
    let more = digits-more c.args.number c.if-number-ge10.true (omega arith) in
    (omega (arith, c.decreases), omega (arith, more, c.requires))

pub push-requires : goal.push-requires
push-requires t c =
    elim c.if-number-ge10.branch [
      | then-number-ge10 w ↦ room-more c.args.self.now _ c.args.number (w.self-is ∙ w.push_digits.ensures) w.if-number-ge10.true (omega arith) c.requires
      | else-number-ge10 w ↦ room-one c.args.self.now _ c.args.number w.self-is w.if-number-ge10.false c.requires
    ]

pub returns : goal.returns
returns t c =
    elim c.if-number-ge10.branch [
      | then-number-ge10 w ↦ text-more c.args.self.now _ _ c.args.number _ c.push.ensures (omega arith) (w.self-is ∙ w.push_digits.ensures) w.if-number-ge10.true (omega arith)
      | else-number-ge10 w ↦ text-one c.args.self.now _ _ c.args.number _ c.push.ensures (omega arith) w.self-is w.if-number-ge10.false
    ]
