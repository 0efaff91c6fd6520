use Rattle.std.proofs.Common.{◌≡◌, ◌*◌, ◌≤◌, map}
use Rattle.std.specs.List.{sum}
use Rattle.apv_base.specs.model.Encode.{each}
use Rattle.apv_base.specs.model.Run.{MAX_UNIT}
use Rattle.apv_frame.specs.Coded.{track_tile}
use Rattle.apv_workers.specs.Track.{data_bytes}
use Rattle.apv_enc.proofs.unit.sizes.len_frame.Given as goal

-- the bytes of the data of the tiles so far
abbrev pub invariant-loop-tile : goal.invariant-loop-tile
invariant-loop-tile l = record {
  size : l.data ≡ sum (map data_bytes (each l.tile (track_tile l.track)));
  few : l.data ≤ l.tile * MAX_UNIT;
}
