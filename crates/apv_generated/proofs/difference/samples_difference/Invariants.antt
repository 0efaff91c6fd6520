use Rattle.std.proofs.Common.{◌≡◌, ◌+◌, [], ◌∷◌, get_or}
use Rattle.apv_base.specs.model.Picture.{joined}
use Rattle.apv_encoding.specs.Difference.{distance, maximum}
use Rattle.apv_encoding.specs.Generated.{generated_picture}
use Rattle.apv_generated.proofs.difference.samples_difference.Given as goal

-- the maximum so far
abbrev pub invariant-loop-i : goal.invariant-loop-i
invariant-loop-i l = l.peak ≡ maximum (joined l.i (λ i. distance (generated_picture l.seed l.number l.comp (l.x + i) l.y) (get_or l.samples i 0) ∷ []))
