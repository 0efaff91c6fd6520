use Rattle.std.proofs.Common.{◌≡◌, ◌-◌, ◌≤◌}
use Rattle.apv_encoding.specs.Generated.{generated_picture}
use Rattle.apv_generated.specs.Samples.{IsRowOf, Keeps}
use Rattle.apv_grid.specs.Buffer.{samples_of}
use Rattle.apv_generated.proofs.picture.put_row.Given as goal

-- the samples so far are those of the picture
abbrev pub invariant-loop-x : goal.invariant-loop-x
invariant-loop-x l = record {
  inside : l.x ≤ l.width;
  grid : l.frame.grid ≡ l.initial.frame.grid;
  row : IsRowOf (generated_picture l.seed l.number) l.comp l.y 0 l.x (samples_of l.frame);
  kept : Keeps l.initial.frame.grid.format (generated_picture l.seed l.number) (samples_of l.initial.frame) (samples_of l.frame);
}

abbrev pub decreases-loop-x : goal.decreases-loop-x
decreases-loop-x l = l.width - l.x
