use Rattle.std.proofs.Common.{◌≡◌, length}
use Rattle.apv_grid.specs.Buffer.{tile_value_count}
use Rattle.apv_workers.specs.TileDecoding.{coded_by}
use Rattle.apv_workers.proofs.Parts.{AreDecoded}
use Rattle.apv_workers.proofs.decode.TileDecodingTileWorkU16.work.Given as goal

abbrev pub invariant-loop-comp : goal.invariant-loop-comp
invariant-loop-comp l = record { len : length l.part ≡ tile_value_count l.self.head.now.grid l.tile; decoded : AreDecoded (coded_by l.self) l.tile l.comp l.part }
