use Rattle.std.proofs.Common.{◌≡◌, ◌*◌, ◌+◌, ◌-◌, ◌/◌, ◌%◌, ◌∙◌, ◌<◌, ℕ, Bool, refl, sym, ap, min, rules}
use Rattle.apv_base.specs.model.Format.{macroblock_columns, macroblock_rows}
use Rattle.apv_base.specs.model.Grid.{Grid, IsSoundGrid, tile_columns, tile_rows, is_half, block_columns}
use Rattle.apv_grid.specs.Buffer.{part_start}
use Rattle.apv_grid.proofs.LayoutLemmas.{strip-is, part-start-is, width-half, width-whole, column-half, column-whole, column-known, row-known}
use Rattle.apv_grid.proofs.grid.Grid.strip.Goals as goal
use Rattle.apv_grid.proofs.grid.Grid.strip.Goals.{then-half, else-half, then-half-2, else-half-2}

pub returns-clause-strip : goal.returns-clause-strip
returns-clause-strip c =
    let grid : Grid = c.args.self.now in
    let sound : IsSoundGrid grid = rw (← c.self.view_is) c.self.invariant in
    let is : Bool = is_half grid.format.chroma c.args.comp in
    let half : c.has_half-half.result ≡ is = search rules in
    let width : c.if-half.width ≡ 8 * block_columns grid.format.chroma c.args.comp =
    elim c.if-half.branch [ then-half w ↦ width-half c.has_half-half.result is c.if-half.width half w.if-half.true w.width-is | else-half w ↦ width-whole c.has_half-half.result is c.if-half.width half w.if-half.false w.width-is ] in
    let column : c.if-half-2.column ≡ c.args.x / (8 * block_columns grid.format.chroma c.args.comp) =
    elim c.if-half-2.branch [ then-half-2 w ↦ column-half c.has_half-half.result is c.if-half-2.column c.args.x half w.if-half-2.true w.column-is | else-half-2 w ↦ column-whole c.has_half-half.result is c.if-half-2.column c.args.x half w.if-half-2.false w.column-is ] in
    let i : ℕ = c.args.x / (8 * block_columns grid.format.chroma c.args.comp) / grid.tile_width in
    let j : ℕ = c.args.y / 16 / grid.tile_height in
    let hi : i < tile_columns grid = column-known grid c.args.comp c.args.x c.args.y sound c.requires in
    let hj : j < tile_rows grid = row-known grid c.args.comp c.args.x c.args.y sound c.requires in
    let tw : c.self.inside.tile_width ≡ grid.tile_width = ap (λ (g : Grid). g.tile_width) c.self.view_is in
    let th : c.self.inside.tile_height ≡ grid.tile_height = ap (λ (g : Grid). g.tile_height) c.self.view_is in
    let x : c.rect_in-rect.result.x ≡ i * grid.tile_width = rw (column, tw) at (c.rect_in-rect.ensures.x.0) in
    let y : c.rect_in-rect.result.y ≡ j * grid.tile_height = rw th at (c.rect_in-rect.ensures.y.0) in
    let w : c.rect_in-rect.result.w ≡ min grid.tile_width (macroblock_columns grid.format - i * grid.tile_width) = rw (← x) c.rect_in-rect.ensures.w in
    let h : c.rect_in-rect.result.h ≡ min grid.tile_height (macroblock_rows grid.format - j * grid.tile_height) = rw (← y) c.rect_in-rect.ensures.h in
    let part : c.part_start.result ≡ part_start grid (j * tile_columns grid + i) c.args.comp =
    c.part_start.ensures.start ∙ rw (x, y, w, h) (sym (part-start-is grid c.args.comp i j sound hi hj)) in
    let row : c.row_start.result
    ≡ (c.args.y / 16 - j * grid.tile_height) * min grid.tile_width (macroblock_columns grid.format - i * grid.tile_width) * (16 * c.if-half.width) + (c.args.y / 8 % 2 * (8 * c.if-half.width) + c.args.y % 8 * 8) =
    c.row_start.ensures.start ∙ rw (y, w) refl in
    rw (x, w) (strip-is grid c.args.comp c.args.y i j c.if-half.width c.part_start.result c.row_start.result hi refl width part row)
