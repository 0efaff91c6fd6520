use Rattle.std.proofs.Common.{◌^◌, ◌/◌, ◌<◌, ◌≤◌, nat_eq, ⊎_elim}
use Rattle.std.proofs.Math.Nat.{div-eq_of_lt}
use Rattle.std.proofs.lemmas.Bool.{OnFalse_from, eqb-false, cases_lt}
use Rattle.apv_video.proofs.read.has_bits.Goals as goal

pub returns-clause-above : goal.returns-clause-above
returns-clause-above c =
    let s = c.args.sample in
    let limit = 2 ^ c.args.depth in
    OnFalse_from (nat_eq (s / limit) 0) (limit ≤ s) (λ no. ⊎_elim (λ (low : s < limit). absurd (eqb-false (s / limit) 0 no (div-eq_of_lt low))) (λ (high : limit ≤ s). high) (cases_lt s limit))
