use Rattle.std.proofs.Common.{ℕ, refl, arith}
use Rattle.std.proofs.lemmas.List.{get_or-replicate}
use Rattle.apv_base.proofs.matrix.Matrix.flat.Goals as goal

pub invariant_of-result : goal.invariant_of-result
invariant_of-result c = record {
  count = refl;
  each = λ place small. let e = get_or-replicate {A = ℕ} 64 place 16 0 small in (omega (arith, e), omega (arith, e));
}
