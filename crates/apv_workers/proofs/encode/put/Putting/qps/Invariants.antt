use Rattle.std.proofs.Common.{◌≡◌, ℕ, ◌<◌, length, slice_index}
use Rattle.apv_workers.specs.TrackFields.{head_qps}
use Rattle.apv_workers.proofs.encode.put.Putting.qps.Given as goal

abbrev pub invariant-loop-comp : goal.invariant-loop-comp
invariant-loop-comp l = record { four : length l.qps ≡ 4; each : (comp : ℕ) → comp < l.comp → slice_index l.qps comp ≡ head_qps l.self.head.now l.tile comp }
