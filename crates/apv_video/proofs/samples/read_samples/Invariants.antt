use Rattle.std.proofs.Common.{ℕ, ◌≤◌, ◌+◌, ◌-◌, length}
use Rattle.apv_grid.specs.Buffer.{samples_of}
use Rattle.apv_video.specs.Samples.{sample_at}
use Rattle.apv_video.proofs.SampleLemmas.{AreValues}
use Rattle.apv_video.proofs.samples.read_samples.Given as goal

-- the samples so far are copied
abbrev pub invariant-loop-done : goal.invariant-loop-done
invariant-loop-done l = record {
  inside : l.done ≤ length l.samples;
  here : AreValues (λ (i : ℕ). sample_at l.frame.grid.format (samples_of l.frame) l.comp (l.first + i)) l.samples l.done;
}

abbrev pub decreases-loop-done : goal.decreases-loop-done
decreases-loop-done l = length l.initial.samples - l.done
