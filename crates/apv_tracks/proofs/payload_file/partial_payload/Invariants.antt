use Rattle.std.proofs.Common.{◌≤◌, ◌-◌, List, length, drop}
use Rattle.apv_base.specs.model.Sequence.{Sequence}
use Rattle.apv_base.specs.model.Payload.{Payload, PayloadAt}
use Rattle.apv_tracks.proofs.payload_file.partial_payload.Given as goal

-- up to the place there are whole payloads
abbrev pub invariant-loop-place : goal.invariant-loop-place
invariant-loop-place l = record {
  inside : l.place ≤ length l.list;
  whole : (ps : List Payload) × Sequence PayloadAt l.list ps (drop l.place l.list);
}

abbrev pub decreases-loop-place : goal.decreases-loop-place
decreases-loop-place l = length l.list - l.place
