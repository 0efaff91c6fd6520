use Rattle.std.proofs.Common.{◌≡◌, ◌∙◌, ap, sym}
use Rattle.apv_base.specs.declared.format.Format.{Format}
use Rattle.apv_base.specs.model.Grid.{tile_count, tile_rule, grid_with}
use Rattle.apv_base.specs.model.Header.{format_of}
use Rattle.apv_header.proofs.FieldLemmas.{err-gives, walks-walks, walks-breaks}
use Rattle.apv_header.proofs.HeaderLemmas.{after_info, grid-at, grid-breaks-at, sizes-at, sizes-breaks-at}
use Rattle.apv_header.proofs.MatrixLemmas.{all-matrices}
use Rattle.apv_header.proofs.read.read_fields.Goals as goal

pub returns-in_err-info-clause-err : goal.returns-in_err-info-clause-err
returns-in_err-info-clause-err c =
    err-gives _ _ _ c.from_residual.ensures.1 (c.in_err-info.ensures.err after_info)

pub returns-in_err-read_reserved-clause-err : goal.returns-in_err-read_reserved-clause-err
returns-in_err-read_reserved-clause-err c =
    err-gives _ _ _ c.from_residual-in_err-read_reserved.ensures.1 (
    walks-breaks (c.in_ok-info.ensures.ok after_info) (
    c.in_err-read_reserved.ensures.err _))

pub returns-in_err-colour-clause-err : goal.returns-in_err-colour-clause-err
returns-in_err-colour-clause-err c =
    err-gives _ _ _ c.from_residual-in_err-colour.ensures.1 (
    walks-breaks (c.in_ok-info.ensures.ok after_info) (
    walks-breaks (c.in_ok-read_reserved.ensures.ok _) (
    c.in_err-colour.ensures.err _)))

pub returns-in_err-use_matrix-clause-err : goal.returns-in_err-use_matrix-clause-err
returns-in_err-use_matrix-clause-err c =
    err-gives _ _ _ c.from_residual-in_err-use_matrix.ensures.1 (
    walks-breaks (c.in_ok-info.ensures.ok after_info) (
    walks-breaks (c.in_ok-read_reserved.ensures.ok _) (
    walks-breaks (c.in_ok-colour.ensures.ok _) (
    c.in_err-use_matrix.ensures.err _))))

pub returns-in_err-tile_width-clause-err : goal.returns-in_err-tile_width-clause-err
returns-in_err-tile_width-clause-err c =
    err-gives _ _ _ c.from_residual-in_err-tile_width.ensures.1 (
    walks-breaks (c.in_ok-info.ensures.ok after_info) (
    walks-breaks (c.in_ok-read_reserved.ensures.ok _) (
    walks-breaks (c.in_ok-colour.ensures.ok _) (
    walks-breaks (c.in_ok-use_matrix.ensures.ok _) (
    grid-breaks-at c.format.result (format_of c.in_ok-info.info) c.format.ensures c.in_err-tile_width.ensures.err _)))))

pub returns-in_err-sizes_present-clause-err : goal.returns-in_err-sizes_present-clause-err
returns-in_err-sizes_present-clause-err c =
    let format : Format = format_of c.in_ok-info.info in
    let grid : c.in_ok-tile_width.grid ≡ grid_with format c.in_ok-tile_width.tile_width c.in_ok-tile_width.tile_height = c.in_ok-tile_width.ensures.grid ∙ ap (λ (f : Format). grid_with f c.in_ok-tile_width.tile_width c.in_ok-tile_width.tile_height) c.format.ensures in
    let count : c.tiles.result ≡ tile_count (grid_with format c.in_ok-tile_width.tile_width c.in_ok-tile_width.tile_height) = c.tiles.ensures.count ∙ ap tile_count grid in
    err-gives _ _ _ c.from_residual-in_err-sizes_present.ensures.1 (
    walks-breaks (c.in_ok-info.ensures.ok after_info) (
    walks-breaks (c.in_ok-read_reserved.ensures.ok _) (
    walks-breaks (c.in_ok-colour.ensures.ok _) (
    walks-breaks (c.in_ok-use_matrix.ensures.ok _) (
    walks-breaks (grid-at c.format.result format c.format.ensures c.in_ok-tile_width.ensures.ok _) (
    sizes-breaks-at c.tiles.result (tile_count (grid_with format c.in_ok-tile_width.tile_width c.in_ok-tile_width.tile_height)) count c.in_err-sizes_present.ensures.err _))))))

pub returns-in_err-read_reserved-2-clause-err : goal.returns-in_err-read_reserved-2-clause-err
returns-in_err-read_reserved-2-clause-err c =
    let format : Format = format_of c.in_ok-info.info in
    let grid : c.in_ok-tile_width.grid ≡ grid_with format c.in_ok-tile_width.tile_width c.in_ok-tile_width.tile_height = c.in_ok-tile_width.ensures.grid ∙ ap (λ (f : Format). grid_with f c.in_ok-tile_width.tile_width c.in_ok-tile_width.tile_height) c.format.ensures in
    let count : c.tiles.result ≡ tile_count (grid_with format c.in_ok-tile_width.tile_width c.in_ok-tile_width.tile_height) = c.tiles.ensures.count ∙ ap tile_count grid in
    err-gives _ _ _ c.from_residual-in_err-read_reserved-2.ensures.1 (
    walks-breaks (c.in_ok-info.ensures.ok after_info) (
    walks-breaks (c.in_ok-read_reserved.ensures.ok _) (
    walks-breaks (c.in_ok-colour.ensures.ok _) (
    walks-breaks (c.in_ok-use_matrix.ensures.ok _) (
    walks-breaks (grid-at c.format.result format c.format.ensures c.in_ok-tile_width.ensures.ok _) (
    walks-breaks (sizes-at c.in_ok-sizes_present.sizes_present c.in_ok-sizes_present.sizes.items c.tiles.result (tile_count (grid_with format c.in_ok-tile_width.tile_width c.in_ok-tile_width.tile_height)) count c.in_ok-sizes_present.ensures.ok _) (
    c.in_err-read_reserved-2.ensures.err _)))))))

pub returns-clause-ok : goal.returns-clause-ok
returns-clause-ok c =
    let format : Format = format_of c.in_ok-info.info in
    let grid : c.in_ok-tile_width.grid ≡ grid_with format c.in_ok-tile_width.tile_width c.in_ok-tile_width.tile_height = c.in_ok-tile_width.ensures.grid ∙ ap (λ (f : Format). grid_with f c.in_ok-tile_width.tile_width c.in_ok-tile_width.tile_height) c.format.ensures in
    let count : c.tiles.result ≡ tile_count (grid_with format c.in_ok-tile_width.tile_width c.in_ok-tile_width.tile_height) = c.tiles.ensures.count ∙ ap tile_count grid in
    walks-walks (c.in_ok-info.ensures.ok after_info) (
    walks-walks (c.in_ok-read_reserved.ensures.ok _) (
    walks-walks (c.in_ok-colour.ensures.ok _) (
    walks-walks (c.in_ok-use_matrix.ensures.ok _) (
    walks-walks (grid-at c.format.result format c.format.ensures c.in_ok-tile_width.ensures.ok _) (
    walks-walks (sizes-at c.in_ok-sizes_present.sizes_present c.in_ok-sizes_present.sizes.items c.tiles.result (tile_count (grid_with format c.in_ok-tile_width.tile_width c.in_ok-tile_width.tile_height)) count c.in_ok-sizes_present.ensures.ok _) (
    c.in_ok-read_reserved-2.ensures.ok _))))))

pub returns-clause-sound : goal.returns-clause-sound
returns-clause-sound c = record {
  info = c.in_ok-info.ensures.sound;
  colour = c.in_ok-colour.ensures.sound;
  width = c.in_ok-tile_width.ensures.width;
  height = c.in_ok-tile_width.ensures.height;
  tiles = ap (λ (f : Format). tile_rule (grid_with f c.in_ok-tile_width.tile_width c.in_ok-tile_width.tile_height)) (sym c.format.ensures) ∙ c.in_ok-tile_width.ensures.sound;
  four = c.in_ok-use_matrix.ensures.four;
  each = all-matrices 4 _ c.in_ok-use_matrix.ensures.four c.in_ok-use_matrix.ensures.each;
  matrices = c.in_ok-use_matrix.ensures.flat;
}

pub returns-clause-grid : goal.returns-clause-grid
returns-clause-grid c = c.in_ok-tile_width.ensures.grid ∙ ap (λ (f : Format). grid_with f c.in_ok-tile_width.tile_width c.in_ok-tile_width.tile_height) c.format.ensures

pub returns-clause-present : goal.returns-clause-present
returns-clause-present c e =
    let format : Format = format_of c.in_ok-info.info in
    let grid : c.in_ok-tile_width.grid ≡ grid_with format c.in_ok-tile_width.tile_width c.in_ok-tile_width.tile_height = c.in_ok-tile_width.ensures.grid ∙ ap (λ (f : Format). grid_with f c.in_ok-tile_width.tile_width c.in_ok-tile_width.tile_height) c.format.ensures in
    let count : c.tiles.result ≡ tile_count (grid_with format c.in_ok-tile_width.tile_width c.in_ok-tile_width.tile_height) = c.tiles.ensures.count ∙ ap tile_count grid in
    c.in_ok-sizes_present.ensures.present e ∙ count
