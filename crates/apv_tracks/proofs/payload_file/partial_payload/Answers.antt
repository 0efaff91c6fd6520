use Rattle.std.proofs.Common.{◌++◌, ◌∷◌, [], drop}
use Rattle.apv_base.specs.model.Payload.{Payload, PayloadAt}
use Rattle.apv_base.proofs.SequenceLemmas.{sequence-push}
use Rattle.apv_tracks.proofs.payload_file.partial_payload.Goals as goal

pub loop-place-preserved : goal.loop-place-preserved
loop-place-preserved c =
    let found = c.in-Some.ensures.found in
    let p : Payload = record { kind = c.in-Some.payload.kind; bytes = c.in-Some.payload.bytes.now } in
    record {
      inside = found.inside;
      whole = (c.loop-place.invariant.whole.0 ++ p ∷ [], sequence-push PayloadAt c.args.list.now (drop c.loop-place.place c.args.list.now) (drop c.in-Some.payload.next c.args.list.now) c.loop-place.invariant.whole.0 p c.loop-place.invariant.whole.1 found.stands);
    }
