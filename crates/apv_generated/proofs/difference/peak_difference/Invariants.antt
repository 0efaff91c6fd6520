use Rattle.std.proofs.Common.{◌≡◌}
use Rattle.apv_base.specs.model.Picture.{joined}
use Rattle.apv_encoding.specs.Difference.{maximum}
use Rattle.apv_encoding.specs.Generated.{generated_picture}
use Rattle.apv_generated.specs.Differences.{component_distances}
use Rattle.apv_grid.specs.Buffer.{samples_of}
use Rattle.apv_generated.proofs.difference.peak_difference.Given as goal

-- the maximum so far
abbrev pub invariant-loop-comp : goal.invariant-loop-comp
invariant-loop-comp l =
    let format = l.frame.grid.format in
    l.peak ≡ maximum (joined l.comp (λ comp. component_distances format (generated_picture l.seed l.number) (samples_of l.frame) comp format.height))
