use Rattle.std.proofs.Common.{ℕ, zero, suc, ◌<◌, ◌^◌, replicate, get_or, set, arith}
use Rattle.std.proofs.lemmas.List.{get_or-replicate}
use Rattle.apv_transform.proofs.tests.gives_worked_coefficients.Goals as goal

corner_below : (place : ℕ) → place < 64 → get_or (set (replicate 64 512) 0 1023) place 0 < 2 ^ 10
corner_below zero small = omega arith
corner_below (suc place) small = let same = get_or-replicate {A = ℕ} 63 place 512 0 (omega arith) in omega (arith, same)

pub forward-coeffs-requires-clause-samples : goal.forward-coeffs-requires-clause-samples
forward-coeffs-requires-clause-samples g c = λ place small. corner_below place small
