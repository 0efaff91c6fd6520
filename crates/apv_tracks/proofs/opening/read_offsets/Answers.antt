use Rattle.std.proofs.Common.{◌≡◌, List, ℕ, map, ap, ◌∙◌}
use Rattle.apv_base.specs.model.Grid.{Grid, tile_count}
use Rattle.apv_base.specs.model.Header.{grid_of}
use Rattle.apv_encoding.specs.Answer.{signed_byte}
use Rattle.apv_tracks.specs.TileMap.{offsets_memory}
use Rattle.apv_tracks.proofs.OpeningLemmas.{offsets-end, offsets-long}
use Rattle.apv_tracks.proofs.opening.read_offsets.Goals as goal

pub returns-in-Err-clause-err : goal.returns-in-Err-clause-err
returns-in-Err-clause-err g c =
    let tiles : c.tiles.result ≡ tile_count (grid_of c.args.track.now.header) = c.tiles.ensures.count ∙ ap (λ (grid : Grid). tile_count grid) c.grid.ensures in
    rw c.map_end.ensures (offsets-end (tile_count (grid_of c.args.track.now.header)) c.tiles.result _ _ c.read_tile_map.new.map.items c.in-Err.end tiles c.in-Err.ensures.here)

pub returns-in_default-clause-err : goal.returns-in_default-clause-err
returns-in_default-clause-err g c = offsets_memory c.read_tile_map.new.map.items c.in-Ok.ensures.here.took

pub set_tile_offsets-requires : goal.set_tile_offsets-requires
set_tile_offsets-requires g c =
    let tiles : c.tiles.result ≡ tile_count (grid_of c.args.track.now.header) = c.tiles.ensures.count ∙ ap (λ (grid : Grid). tile_count grid) c.grid.ensures in
    let signed : c.as_slice-2.result.now ≡ map signed_byte c.read_tile_map.new.map.items = c.as_slice-2.ensures.value ∙ c.in-Ok-signed_bytes.ensures ∙ ap (λ (bytes : List ℕ). map signed_byte bytes) c.as_slice.ensures.value in
    offsets-long (tile_count (grid_of c.args.track.now.header)) c.tiles.result c.read_tile_map.new.map.items c.as_slice-2.result.now tiles c.in-Ok.ensures.here.right signed
