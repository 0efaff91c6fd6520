use Rattle.apv_tracks.proofs.TileMapLemmas.{AreRightBefore}
use Rattle.apv_tracks.proofs.tile_map.bad_byte.Given as goal

-- no byte so far is outside
abbrev pub invariant-loop-place : goal.invariant-loop-place
invariant-loop-place l = AreRightBefore l.tiles l.bytes l.place
