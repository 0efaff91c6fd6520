use Rattle.std.proofs.Common.{◌≡◌, ℕ, ◌+◌, ◌<◌, length, get_or}
use Rattle.apv_encoding.specs.Generated.{generated_picture}
use Rattle.apv_generated.proofs.picture.generate.Given as goal

-- the samples so far are generated
abbrev pub invariant-loop-i : goal.invariant-loop-i
invariant-loop-i l = record {
  size : length l.row ≡ length l.initial.row;
  samples : (i : ℕ) → i < l.i → get_or l.row i 0 ≡ generated_picture l.seed l.number l.comp (l.x + i) l.y;
}
