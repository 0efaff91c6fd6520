use Rattle.std.proofs.Common.{rules, ◌≡◌, List, ℕ, take, sym, subst}
use Rattle.apv_base.specs.declared.slot.Slot.TheVariants.{TileQp}
use Rattle.apv_encoding.specs.Answer.{HasBadOffset}
use Rattle.apv_tracks.specs.TileMap.{HasNoBadOffset, TookTileMap}
use Rattle.apv_tracks.proofs.TileMapLemmas.{map-stops, map-taken}
use Rattle.apv_tracks.proofs.tile_map.read_tile_map.Goals as goal

pub returns-in-Some-clause-here : goal.returns-in-Some-clause-here
returns-in-Some-clause-here g c =
    let bad : HasBadOffset c.args.tiles (take c.in-Ok.count c.fill.new.buf) c.in-Some.place = rw c.split_at.ensures.front at c.in-Some.ensures.some in
    map-stops c.args.tiles _ _ c.in-Ok.count c.fill.new.buf c.in-Some.place c.requires.few (search rules) c.in-Ok.ensures.here bad

pub returns-clause-here : goal.returns-clause-here
returns-clause-here g c =
    let right : HasNoBadOffset c.args.tiles (take c.in-Ok.count c.fill.new.buf) = rw c.split_at.ensures.front at c.in_default.ensures.none in
    let items : c.extend_from_slice.new.self.items ≡ take c.in-Ok.count c.fill.new.buf = search rules in
    subst (λ (bytes : List ℕ). TookTileMap c.args.tiles (g.F.Files.slot_view c.args.files.now TileQp) bytes (g.F.Files.slot_view c.fill.new.files TileQp)) (sym items)
    (map-taken c.args.tiles _ _ c.in-Ok.count c.fill.new.buf c.requires.few (search rules) c.in-Ok.ensures.here right)
