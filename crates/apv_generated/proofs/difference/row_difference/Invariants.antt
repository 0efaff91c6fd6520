use Rattle.std.proofs.Common.{◌≡◌, ◌-◌, ◌≤◌}
use Rattle.apv_encoding.specs.Difference.{maximum}
use Rattle.apv_encoding.specs.Generated.{generated_picture}
use Rattle.apv_generated.specs.Differences.{row_distances}
use Rattle.apv_grid.specs.Buffer.{samples_of}
use Rattle.apv_generated.proofs.difference.row_difference.Given as goal

-- the maximum so far
abbrev pub invariant-loop-x : goal.invariant-loop-x
invariant-loop-x l = record {
  inside : l.x ≤ l.width;
  peak : l.peak ≡ maximum (row_distances (generated_picture l.seed l.number) (samples_of l.frame) l.comp l.y 0 l.x);
}

abbrev pub decreases-loop-x : goal.decreases-loop-x
decreases-loop-x l = l.width - l.x
