use Rattle.apv_base.specs.model.Format.{IsSoundFormat}
use Rattle.bench.proofs.video.run_reading.Given as goal

-- the frame is still of a sound format
abbrev pub invariant-loop-batch : goal.invariant-loop-batch
invariant-loop-batch l = IsSoundFormat l.frame.grid.format
