use Rattle.std.proofs.Common.{◌-◌, length, refl, arith}
use Rattle.apv_workers.specs.Track.{TrackState, qps_of, levels_of}
use Rattle.apv_frame.proofs.CodedLemmas.{data-within, pbu-written}
use Rattle.apv_frame.proofs.encode.put_frame.Goals as goal

pub overflow_sub-size : goal.overflow_sub-size
overflow_sub-size g c =
    let track : TrackState = c.args.track.now in
    omega (arith, c.requires.room, (data-within track.header c.args.kind (qps_of track) (levels_of track)).1)

pub split_at_mut-prefix-requires : goal.split_at_mut-prefix-requires
split_at_mut-prefix-requires g c =
    let track : TrackState = c.args.track.now in
    omega (arith, c.requires.room, (data-within track.header c.args.kind (qps_of track) (levels_of track)).1)

pub put_body-requires-clause-bytes : goal.put_body-requires-clause-bytes
put_body-requires-clause-bytes g c κs within =
    let track : TrackState = c.args.track.now in
    record { lengths = c.requires.lengths; few = omega (arith, c.requires.bytes, c.requires.room, (data-within track.header c.args.kind (qps_of track) (levels_of track)).0) }

pub put_body-requires-clause-room : goal.put_body-requires-clause-room
put_body-requires-clause-room g c κs within =
    let track : TrackState = c.args.track.now in
    omega (arith, c.requires.room, (data-within track.header c.args.kind (qps_of track) (levels_of track)).1)

pub returns : goal.returns
returns g c =
    let track : TrackState = c.args.track.now in
    pbu-written track.header c.args.kind (length c.args.out.now - 4) (qps_of track) (levels_of track) c.put_pbu_header.new.out c.put_body.new.out c.args.out.now
    c.put_pbu_header.ensures c.put_body.ensures c.requires.room refl
