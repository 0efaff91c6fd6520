use Rattle.std.proofs.Common.{◌≡◌, ℕ, ◌<◌, length, slice_index}
use Rattle.apv_frame.specs.Coded.{track_tile_size}
use Rattle.apv_frame.proofs.encode.tile_sizes.Given as goal

abbrev pub invariant-loop-tile : goal.invariant-loop-tile
invariant-loop-tile l = record {
  len : length l.sizes ≡ 400;
  each : (tile : ℕ) → tile < l.tile → slice_index l.sizes tile ≡ track_tile_size l.track tile;
}
