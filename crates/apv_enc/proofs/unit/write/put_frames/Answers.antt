use Rattle.std.proofs.Common.{◌≡◌, ◌+◌, ◌≤◌, ◌++◌, ℕ, List, ◌∷◌, length, drop, ap, arith, length-append}
use Rattle.std.specs.Prelude.{slice_index_or}
use Rattle.apv_base.specs.declared.slot.Slot.TheVariants.{Input}
use Rattle.apv_frame.specs.Coded.{HasFewBytes, track_pbu}
use Rattle.apv_tracks.specs.Kinds.{kind_with}
use Rattle.apv_tracks.specs.declared.kinds.TrackKind.{TrackKind}
use Rattle.apv_workers.specs.Track.{TrackState}
use Rattle.apv_enc.proofs.ListPlaceLemmas.{from-item, from-place}
use Rattle.apv_enc.proofs.PartWriteLemmas.{next-put, next-room}
use Rattle.apv_enc.proofs.unit.write.put_frames.Goals as goal

pub len_frame-len-requires : goal.len_frame-len-requires
len_frame-len-requires g c =
    let kinds : List TrackKind = c.args.kinds.now in
    let tracks : List TrackState = c.args.tracks.now in
    let i : ℕ = c.loop-index.index in
    let track : TrackState = c.index-tracks-index.result in
    let kind : TrackKind = slice_index_or kinds i (kind_with Input 0) in
    let split_kinds : drop i kinds ≡ kind ∷ drop (i + 1) kinds = from-place kinds i (kind_with Input 0) (omega (arith, c.loop-index-test.true, c.requires.kinds)) in
    let split_tracks : drop i tracks ≡ track ∷ drop (i + 1) tracks = from-item tracks i track c.loop-index-test.true c.index-tracks-index.is in
    let room : HasFewBytes track × (c.loop-index.place + length (track_pbu kind.pbu_type track) ≤ length c.loop-index.out) =
    next-room kinds tracks i c.loop-index.place c.loop-index.out kind track (omega (arith, c.requires.room, c.loop-index.auto.out)) (omega (arith, c.requires.bytes, c.loop-index.auto.out)) split_kinds split_tracks c.loop-index.invariant in
    record { bytes = room.0 }

pub split_at_mut-frame-requires : goal.split_at_mut-frame-requires
split_at_mut-frame-requires g c =
    let kinds : List TrackKind = c.args.kinds.now in
    let tracks : List TrackState = c.args.tracks.now in
    let i : ℕ = c.loop-index.index in
    let track : TrackState = c.index-tracks-index.result in
    let kind : TrackKind = slice_index_or kinds i (kind_with Input 0) in
    let split_kinds : drop i kinds ≡ kind ∷ drop (i + 1) kinds = from-place kinds i (kind_with Input 0) (omega (arith, c.loop-index-test.true, c.requires.kinds)) in
    let split_tracks : drop i tracks ≡ track ∷ drop (i + 1) tracks = from-item tracks i track c.loop-index-test.true c.index-tracks-index.is in
    let room : HasFewBytes track × (c.loop-index.place + length (track_pbu kind.pbu_type track) ≤ length c.loop-index.out) =
    next-room kinds tracks i c.loop-index.place c.loop-index.out kind track (omega (arith, c.requires.room, c.loop-index.auto.out)) (omega (arith, c.requires.bytes, c.loop-index.auto.out)) split_kinds split_tracks c.loop-index.invariant in
    omega (arith, room.1, c.len_frame-len.ensures.size kind.pbu_type, c.split_at_mut-after.ensures.back_len)

pub put_frame-requires-clause-lengths : goal.put_frame-requires-clause-lengths
put_frame-requires-clause-lengths g c κs within =
    let kinds : List TrackKind = c.args.kinds.now in
    let tracks : List TrackState = c.args.tracks.now in
    let i : ℕ = c.loop-index.index in
    let track : TrackState = c.index-tracks-index.result in
    let kind : TrackKind = slice_index_or kinds i (kind_with Input 0) in
    let split_kinds : drop i kinds ≡ kind ∷ drop (i + 1) kinds = from-place kinds i (kind_with Input 0) (omega (arith, c.loop-index-test.true, c.requires.kinds)) in
    let split_tracks : drop i tracks ≡ track ∷ drop (i + 1) tracks = from-item tracks i track c.loop-index-test.true c.index-tracks-index.is in
    let room : HasFewBytes track × (c.loop-index.place + length (track_pbu kind.pbu_type track) ≤ length c.loop-index.out) =
    next-room kinds tracks i c.loop-index.place c.loop-index.out kind track (omega (arith, c.requires.room, c.loop-index.auto.out)) (omega (arith, c.requires.bytes, c.loop-index.auto.out)) split_kinds split_tracks c.loop-index.invariant in
    room.0.lengths

pub loop-index-preserved : goal.loop-index-preserved
loop-index-preserved g c =
    let kinds : List TrackKind = c.args.kinds.now in
    let tracks : List TrackState = c.args.tracks.now in
    let i : ℕ = c.loop-index.index in
    let track : TrackState = c.index-tracks-index.result in
    let kind : TrackKind = slice_index_or kinds i (kind_with Input 0) in
    let split_kinds : drop i kinds ≡ kind ∷ drop (i + 1) kinds = from-place kinds i (kind_with Input 0) (omega (arith, c.loop-index-test.true, c.requires.kinds)) in
    let split_tracks : drop i tracks ≡ track ∷ drop (i + 1) tracks = from-item tracks i track c.loop-index-test.true c.index-tracks-index.is in
    let bytes : List ℕ = c.put_frame.new.out in
    let before : List ℕ = c.split_at_mut-after.result.0.now in
    let after : List ℕ = c.split_at_mut-frame.result.1.now in
    let long : c.loop-index.place + length bytes ≡ c.loop-index.place + c.len_frame-len.result = omega (arith, ap length c.put_frame.ensures, c.len_frame-len.ensures.size kind.pbu_type) in
    let inside : c.loop-index.place + c.len_frame-len.result ≤ length (before ++ (bytes ++ after)) =
    omega (arith, length-append before (bytes ++ after), length-append bytes after, c.split_at_mut-after.ensures.front_len, long) in
    next-put kinds tracks i c.loop-index.place (c.loop-index.place + c.len_frame-len.result) c.loop-index.out (before ++ (bytes ++ after)) bytes after kind track split_kinds split_tracks c.put_frame.ensures
    (ap (λ (xs : List ℕ). xs ++ (bytes ++ after)) c.split_at_mut-after.ensures.front) long inside c.loop-index.invariant
