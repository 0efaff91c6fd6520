use Rattle.std.proofs.Common.{◌≡◌}
use Rattle.apv_encoding.specs.Generated.{generated_picture}
use Rattle.apv_generated.specs.Samples.{AreComponentsOf}
use Rattle.apv_grid.specs.Buffer.{samples_of}
use Rattle.apv_generated.proofs.picture.put_generated.Given as goal

-- the components so far are those of the picture
abbrev pub invariant-loop-comp : goal.invariant-loop-comp
invariant-loop-comp l = record {
  grid : l.frame.grid ≡ l.initial.frame.grid;
  components : AreComponentsOf l.initial.frame.grid.format (generated_picture l.seed l.number) l.comp (samples_of l.frame);
}
