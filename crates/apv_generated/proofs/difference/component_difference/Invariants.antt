use Rattle.std.proofs.Common.{◌≡◌}
use Rattle.apv_encoding.specs.Difference.{maximum}
use Rattle.apv_encoding.specs.Generated.{generated_picture}
use Rattle.apv_generated.specs.Differences.{component_distances}
use Rattle.apv_grid.specs.Buffer.{samples_of}
use Rattle.apv_generated.proofs.difference.component_difference.Given as goal

-- the maximum so far
abbrev pub invariant-loop-y : goal.invariant-loop-y
invariant-loop-y l = l.peak ≡ maximum (component_distances l.frame.grid.format (generated_picture l.seed l.number) (samples_of l.frame) l.comp l.y)
