use Rattle.std.proofs.Common.{◌≡◌}
use Rattle.apv_encoding.specs.Generated.{generated_picture}
use Rattle.apv_generated.specs.Samples.{AreRowsOf, Keeps}
use Rattle.apv_grid.specs.Buffer.{samples_of}
use Rattle.apv_generated.proofs.picture.put_component.Given as goal

-- the rows so far are those of the picture
abbrev pub invariant-loop-y : goal.invariant-loop-y
invariant-loop-y l = record {
  grid : l.frame.grid ≡ l.initial.frame.grid;
  rows : AreRowsOf l.initial.frame.grid.format (generated_picture l.seed l.number) l.comp l.y (samples_of l.frame);
  kept : Keeps l.initial.frame.grid.format (generated_picture l.seed l.number) (samples_of l.initial.frame) (samples_of l.frame);
}
