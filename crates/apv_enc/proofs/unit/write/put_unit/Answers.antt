use Rattle.std.proofs.Common.{◌≡◌, ◌∙◌, List, length, ap, sym, arith}
use Rattle.apv_enc.specs.UnitParts.{listed_states, state_pbus}
use Rattle.apv_tracks.specs.Kinds.{kinds_of}
use Rattle.apv_tracks.specs.declared.kinds.TrackKind.{TrackKind}
use Rattle.apv_workers.specs.Track.{TrackState}
use Rattle.apv_enc.proofs.FixedSizeLemmas.{listed-count, parts-size}
use Rattle.apv_enc.proofs.unit.write.put_unit.Goals as goal

pub split_at_mut-au_info-requires : goal.split_at_mut-au_info-requires
split_at_mut-au_info-requires g c =
    let kinds : List TrackKind = kinds_of c.args.settings.now in
    let tracks : List TrackState = c.args.tracks.now in
    let parts = parts-size c.args.settings.now tracks c.args.payloads.now in
    let au_info = c.len_au_info.ensures.size (listed_states kinds tracks) (listed-count kinds tracks (sym c.requires.tracks)) in
    omega (arith, c.requires.room, parts, c.split_at_mut-signature.ensures.back_len, au_info)

pub put_frames-requires-clause-room : goal.put_frames-requires-clause-room
put_frames-requires-clause-room g c κs within =
    let kinds : List TrackKind = kinds_of c.args.settings.now in
    let tracks : List TrackState = c.args.tracks.now in
    let parts = parts-size c.args.settings.now tracks c.args.payloads.now in
    let au_info = c.len_au_info.ensures.size (listed_states kinds tracks) (listed-count kinds tracks (sym c.requires.tracks)) in
    let same : c.deref-2.result.now ≡ kinds = c.deref-2.ensures.0 ∙ c.track_kinds-kinds.ensures in
    omega (
      arith,
      c.requires.room,
      parts,
      c.split_at_mut-signature.ensures.back_len,
      c.split_at_mut-au_info.ensures.back_len,
      c.split_at_mut-frames.ensures.front_len,
      au_info,
      c.len_metadata.ensures.size,
      c.len_filler.ensures.size,
      ap (λ (ks : List TrackKind). length (state_pbus ks tracks)) same,
    )

pub put_filler_pbu-requires-clause-room : goal.put_filler_pbu-requires-clause-room
put_filler_pbu-requires-clause-room g c =
    let kinds : List TrackKind = kinds_of c.args.settings.now in
    let tracks : List TrackState = c.args.tracks.now in
    let parts = parts-size c.args.settings.now tracks c.args.payloads.now in
    let au_info = c.len_au_info.ensures.size (listed_states kinds tracks) (listed-count kinds tracks (sym c.requires.tracks)) in
    omega (
      arith,
      c.requires.room,
      parts,
      c.split_at_mut-signature.ensures.back_len,
      c.split_at_mut-au_info.ensures.back_len,
      c.split_at_mut-frames.ensures.back_len,
      c.split_at_mut-metadata.ensures.back_len,
      au_info,
      c.len_metadata.ensures.size,
      c.len_metadata-2.ensures.size,
      c.len_filler.ensures.size,
    )
