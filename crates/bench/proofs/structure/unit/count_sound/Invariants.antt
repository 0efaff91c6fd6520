use Rattle.std.proofs.Common.{◌≤◌}
use Rattle.bench.proofs.structure.unit.count_sound.Given as goal

-- the unit is sound at most once a round
abbrev pub invariant-loop-number : goal.invariant-loop-number
invariant-loop-number l = l.count ≤ l.number
