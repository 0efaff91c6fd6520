use Rattle.std.proofs.Common.{◌≡◌, ◌+◌, ◌≤◌, length}
use Rattle.std.specs.List.{concat}
use Rattle.apv_base.specs.model.CodedFrame.{blocks_at}
use Rattle.apv_base.specs.model.Component.{component_bytes}
use Rattle.apv_base.specs.model.Encode.{each}
use Rattle.apv_base.specs.model.Header.{header_comps}
use Rattle.apv_base.specs.model.Run.{MAX_UNIT}
use Rattle.apv_base.specs.model.Tile.{tile_header_size}
use Rattle.apv_workers.specs.Track.{levels_of}
use Rattle.apv_frame.proofs.encode.tile_size.Given as goal

abbrev pub invariant-loop-comp : goal.invariant-loop-comp
invariant-loop-comp l = record {
  size : l.size ≡ tile_header_size (header_comps l.track.header) + length (concat (each l.comp (λ comp. component_bytes (blocks_at (levels_of l.track) l.tile comp))));
  few : length (concat (each l.comp (λ comp. component_bytes (blocks_at (levels_of l.track) l.tile comp)))) ≤ MAX_UNIT;
}
