use Rattle.std.proofs.Common.{arith, ◌≡◌, ◌≤◌, ◌+◌, ◌-◌, ◌*◌, drop, take, length, get_or, List, [], ◌∷◌, ℕ, refl, sym, ap, ap₂, ◌∙◌}
use Rattle.std.proofs.lemmas.List.{drop-drop, length-drop, get_or-drop}
use Rattle.apv_base.specs.model.Bits.{number}
use Rattle.apv_base.proofs.PbuLemmas.{no-size, small, cut, reserved, whole, number_2}
use Rattle.apv_unit.proofs.pbu.next_pbu.Goals as goal

two-bytes : (xs : List ℕ) → 2 ≤ length xs → number 256 (take 2 xs) ≡ get_or xs 0 0 * 256 + get_or xs 1 0
two-bytes [] le = absurd (omega arith)
two-bytes (a ∷ []) le = absurd (omega arith)
two-bytes (a ∷ b ∷ xs) le = number_2 a b

pub returns-then-rest-lt4 : goal.returns-then-rest-lt4
returns-then-rest-lt4 c = rw (← c.split_at.ensures.back) (no-size c.split_at.result.1.now c.if-rest-lt4.true)

pub returns-then-size-lt4 : goal.returns-then-size-lt4
returns-then-size-lt4 c =
    let rest : List ℕ = c.split_at.result.1.now in
    let long : 4 ≤ length rest = omega (arith, c.if-rest-lt4.false) in
    let size : c.be32-size.result ≡ number 256 (take 4 rest) = c.be32-size.ensures in
    rw (← c.split_at.ensures.back) (small rest c.be32-size.result long size c.if-size-lt4.true)

pub returns-then-size-bytes : goal.returns-then-size-bytes
returns-then-size-bytes c =
    let rest : List ℕ = c.split_at.result.1.now in
    let long : 4 ≤ length rest = omega (arith, c.if-rest-lt4.false) in
    let size : c.be32-size.result ≡ number 256 (take 4 rest) = c.be32-size.ensures in
    rw (← c.split_at.ensures.back) (cut rest c.be32-size.result long size c.if-size-lt4.false (omega (arith, c.if-size-bytes.true, c.split_at-2.ensures.back_len)))

pub returns-then-rest-ne0 : goal.returns-then-rest-ne0
returns-then-rest-ne0 c =
    let rest : List ℕ = c.split_at.result.1.now in
    let long : 4 ≤ length rest = omega (arith, c.if-rest-lt4.false) in
    let fits : c.be32-size.result + 4 ≤ length rest = omega (arith, c.if-size-bytes.false, c.split_at-2.ensures.back_len) in
    let size : c.be32-size.result ≡ number 256 (take 4 rest) = c.be32-size.ensures in
    rw (← c.split_at.ensures.back) (reserved rest c.be32-size.result (omega (arith, fits, c.if-size-lt4.false)) size c.if-size-lt4.false fits c.if-rest-ne0.true)

pub returns : goal.returns
returns c =
    let rest : List ℕ = c.split_at.result.1.now in
    let long : 4 ≤ length rest = omega (arith, c.if-rest-lt4.false) in
    let fits : c.be32-size.result + 4 ≤ length rest = omega (arith, c.if-size-bytes.false, c.split_at-2.ensures.back_len) in
    let size : c.be32-size.result ≡ number 256 (take 4 rest) = c.be32-size.ensures in
    let n : ℕ = c.be32-size.result in
    let after : drop (c.args.place + 4 + n) c.args.unit.now ≡ drop (n + 4) rest =
    sym (ap (drop (n + 4)) c.split_at.ensures.back ∙ drop-drop (n + 4) c.args.place c.args.unit.now ∙ ap (λ (i : ℕ). drop i c.args.unit.now) (omega arith)) in
    let group : c.be16.result ≡ get_or rest 5 0 * 256 + get_or rest 6 0 =
    c.be16.ensures ∙ ap (λ (xs : List ℕ). number 256 (take 2 xs)) c.split_at-3.ensures.back ∙ two-bytes (drop 5 rest) (omega (arith, fits, c.if-size-lt4.false, length-drop 5 rest))
    ∙ ap₂ (λ (a b : ℕ). a * 256 + b) (get_or-drop 5 rest 0 0) (get_or-drop 5 rest 1 0) in
    let body : c.split_at-5.result.0.now ≡ take (n - 4) (drop 8 rest) = c.split_at-5.ensures.front ∙ ap (take (n - 4)) c.split_at-4.ensures.back in
    record {
      header = rw (← c.split_at.ensures.back) (whole rest n _ _ c.split_at-5.result.0.now (drop (c.args.place + 4 + n) c.args.unit.now) (omega (arith, fits, c.if-size-lt4.false)) size c.if-size-lt4.false fits c.if-rest-ne0.false refl group body after);
      later = omega (arith, c.if-size-lt4.false);
      inside = omega (arith, fits, c.split_at.ensures.back_len);
      short = omega (arith, c.split_at-5.ensures.front_len, fits, c.split_at.ensures.back_len);
    }
