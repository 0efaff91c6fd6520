use Rattle.std.proofs.Common.{◌≡◌, map, ap, ◌∙◌, arith}
use Rattle.apv_base.specs.declared.header.FrameHeader.{FrameHeader}
use Rattle.apv_base.specs.model.CodedFrame.{tile_size}
use Rattle.apv_base.specs.model.Encode.{tiles_with}
use Rattle.apv_base.specs.model.Grid.{tile_count}
use Rattle.apv_base.specs.model.Header.{grid_of, header_comps}
use Rattle.apv_header.specs.Words.{frame_header_word}
use Rattle.apv_workers.specs.Track.{TrackState, qps_of, levels_of}
use Rattle.apv_frame.proofs.CodedLemmas.{IsHeaderSize, header-size, length-body, sizes-are, frame-written}
use Rattle.apv_frame.proofs.encode.put_body.Goals as goal

pub split_at_mut-head-requires : goal.split_at_mut-head-requires
split_at_mut-head-requires g c =
    let track : TrackState = c.args.track.now in
    let header : FrameHeader = track.header in
    let count : c.tiles-tiles.result ≡ tile_count (grid_of header) = c.tiles-tiles.ensures.count ∙ ap tile_count c.grid.ensures in
    let is : IsHeaderSize header c.len_frame_header-len.result =
    header-size c.header-header.result.now header c.tiles-tiles.result c.len_frame_header-len.result c.header-header.ensures.header count c.len_frame_header-len.ensures.bytes in
    omega (arith, c.requires.room, length-body header c.len_frame_header-len.result (qps_of track) (levels_of track) is)

pub put_tiles-requires-clause-room : goal.put_tiles-requires-clause-room
put_tiles-requires-clause-room g c κs within =
    let track : TrackState = c.args.track.now in
    let header : FrameHeader = track.header in
    let count : c.tiles-tiles.result ≡ tile_count (grid_of header) = c.tiles-tiles.ensures.count ∙ ap tile_count c.grid.ensures in
    let is : IsHeaderSize header c.len_frame_header-len.result =
    header-size c.header-header.result.now header c.tiles-tiles.result c.len_frame_header-len.result c.header-header.ensures.header count c.len_frame_header-len.ensures.bytes in
    omega (arith, c.requires.room, c.split_at_mut-head.ensures.back_len, length-body header c.len_frame_header-len.result (qps_of track) (levels_of track) is)

pub returns : goal.returns
returns g c =
    let track : TrackState = c.args.track.now in
    let header : FrameHeader = track.header in
    let count : c.tiles-tiles.result ≡ tile_count (grid_of header) = c.tiles-tiles.ensures.count ∙ ap tile_count c.grid.ensures in
    let stated : c.split_at.result.0.now ≡ map (tile_size (header_comps header)) (tiles_with header (qps_of track) (levels_of track)) =
    c.split_at.ensures.front ∙ sizes-are header (qps_of track) (levels_of track) c.tile_sizes-sizes.result c.tiles-tiles.result count (omega (arith, c.tiles-tiles.ensures.few, c.tile_sizes-sizes.ensures.len)) c.tile_sizes-sizes.ensures.each in
    frame-written header (qps_of track) (levels_of track) c.split_at.result.0.now c.put_frame_header.new.out c.put_tiles.new.out stated (λ i. omega (arith, c.type_inv.out i))
    (c.put_frame_header.ensures ∙ ap (λ (h : FrameHeader). frame_header_word h c.split_at.result.0.now) c.header-header.ensures.header) c.put_tiles.ensures
