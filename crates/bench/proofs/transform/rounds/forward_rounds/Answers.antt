use Rattle.std.proofs.Common.{ℕ, refl, arith}
use Rattle.std.proofs.lemmas.List.{get_or-replicate}
use Rattle.bench.proofs.transform.rounds.forward_rounds.Goals as goal

pub loop-round-init : goal.loop-round-init
loop-round-init c = record {
  long = refl;
  below = λ place small. let same = get_or-replicate {A = ℕ} 64 place 512 0 small in omega (arith, same);
}
