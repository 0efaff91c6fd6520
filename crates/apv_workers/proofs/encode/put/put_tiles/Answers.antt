use Rattle.std.proofs.Common.{length, subst, ap, ◌∙◌, sym}
use Rattle.apv_workers.specs.Lengths.{AreCounted}
use Rattle.apv_workers.specs.Track.{TrackState, HasLengths, frame_of, tiles_size, tiles_bytes}
use Rattle.apv_workers.proofs.PutTiles.{room-is, has-counted}
use Rattle.apv_workers.proofs.encode.put.put_tiles.Goals as goal

pub put_all-requires-clause-ready : goal.put_all-requires-clause-ready
put_all-requires-clause-ready g c κs within =
    let head = c.track.inside.head in
    let levels = c.track.inside.levels in
    record {
      of_header = c.track.invariant.of_header;
      all = c.track.invariant.all_levels;
      four_each = ap length c.as_slice.ensures.value ∙ c.track.invariant.four_each;
      counted = subst (AreCounted head levels) (sym c.as_slice.ensures.value) (has-counted head levels c.track.inside.lengths.items (subst HasLengths (sym c.track.view_is) c.requires.lengths));
    }

pub put_all-requires-clause-room : goal.put_all-requires-clause-room
put_all-requires-clause-room g c κs within =
    room-is c.track.inside.head c.track.inside.levels c.as_slice.result.now (put_all-requires-clause-ready g c κs within) (length c.args.out.now) (c.requires.room ∙ ap (λ (t : TrackState). tiles_size (frame_of t)) (sym c.track.view_is))

pub returns : goal.returns
returns g c = c.put_all.ensures ∙ ap (λ (t : TrackState). tiles_bytes (frame_of t)) c.track.view_is
