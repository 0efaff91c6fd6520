use Rattle.std.proofs.Common.{◌≡◌, ◌≤◌, ◌-◌, length}
use Rattle.apv_grid.specs.Buffer.{samples_of}
use Rattle.apv_video.specs.Reads.{PutsSamples}
use Rattle.apv_video.proofs.samples.write_samples.Given as goal

-- the samples so far are written
abbrev pub invariant-loop-done : goal.invariant-loop-done
invariant-loop-done l = record {
  inside : l.done ≤ length l.samples;
  grid : l.frame.grid ≡ l.initial.frame.grid;
  here : PutsSamples l.initial.frame.grid.format l.comp l.first l.samples l.done (samples_of l.initial.frame) (samples_of l.frame);
}

abbrev pub decreases-loop-done : goal.decreases-loop-done
decreases-loop-done l = length l.samples - l.done
