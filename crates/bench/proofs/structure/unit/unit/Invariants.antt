use Rattle.std.proofs.Common.{◌≡◌, ◌+◌, ◌*◌, vec_len}
use Rattle.bench.proofs.structure.unit.unit.Given as goal

-- the bytes before the tiles, and the tiles so far
abbrev pub invariant-loop-index : goal.invariant-loop-index
invariant-loop-index l = vec_len l.unit ≡ 32 + 8024 * l.index
