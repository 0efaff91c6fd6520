use Rattle.std.proofs.Common.{◌≡◌, vec_len}
use Rattle.bench.proofs.scan.blocks.blocks.Given as goal

-- a block for each round
abbrev pub invariant-loop : goal.invariant-loop
invariant-loop l = vec_len l.blocks ≡ l.counter
