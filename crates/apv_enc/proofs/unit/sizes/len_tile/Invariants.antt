use Rattle.std.proofs.Common.{◌≡◌, ◌≤◌, length}
use Rattle.std.specs.List.{concat}
use Rattle.apv_base.specs.model.CodedFrame.{blocks_at}
use Rattle.apv_base.specs.model.Component.{component_bytes}
use Rattle.apv_base.specs.model.Encode.{each}
use Rattle.apv_base.specs.model.Run.{MAX_UNIT}
use Rattle.apv_workers.specs.Track.{levels_of}
use Rattle.apv_enc.proofs.unit.sizes.len_tile.Given as goal

-- the bytes of the components so far
abbrev pub invariant-loop-comp : goal.invariant-loop-comp
invariant-loop-comp l = record {
  size : l.size ≡ length (concat (each l.comp (λ comp. component_bytes (blocks_at (levels_of l.track) l.tile comp))));
  few : l.size ≤ MAX_UNIT;
}
