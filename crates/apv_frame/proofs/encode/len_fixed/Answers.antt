use Rattle.std.proofs.Common.{◌≡◌, ℕ, ◌+◌, ◌*◌, ap, ap₂, ◌∙◌, arith}
use Rattle.apv_base.specs.declared.header.FrameHeader.{FrameHeader}
use Rattle.apv_base.specs.model.Grid.{tile_count}
use Rattle.apv_base.specs.model.Header.{grid_of, header_comps}
use Rattle.apv_frame.proofs.CodedLemmas.{header-size, fixed-size}
use Rattle.apv_frame.proofs.encode.len_fixed.Goals as goal

pub returns-clause-size : goal.returns-clause-size
returns-clause-size c =
    let header : FrameHeader = c.args.track.now.header in
    let count : c.tiles-tiles.result ≡ tile_count (grid_of header) = c.tiles-tiles.ensures.count ∙ ap tile_count c.grid.ensures in
    let comps : 4 + 5 * c.from.result + 5 ≡ 5 * header_comps header + 5 + 4 = omega (arith, c.from.ensures, c.comps.ensures, ap header_comps c.header-header.ensures.header) in
    fixed-size header c.len_frame_header.result _ (header-size c.header-header.result.now header c.tiles-tiles.result c.len_frame_header.result c.header-header.ensures.header count c.len_frame_header.ensures.bytes)
    (c.from-2.ensures ∙ ap₂ (λ (a b : ℕ). 8 + c.len_frame_header.result + a * b) count comps)
