use Rattle.std.proofs.Common.{◌≡◌, ◌*◌, ◌^◌, ◌≤◌}
use Rattle.std.specs.List.{sum}
use Rattle.apv_base.specs.model.Encode.{each}
use Rattle.apv_base.specs.model.Header.{header_comps}
use Rattle.apv_workers.specs.Lengths.{tile_lengths}
use Rattle.apv_workers.proofs.encode.counting.sum_of_all.Given as goal

abbrev pub invariant-loop-tile : goal.invariant-loop-tile
invariant-loop-tile l = record {
  total : l.total ≡ sum (each l.tile (λ tile. sum (tile_lengths l.lengths (header_comps l.head.header) tile)));
  few : l.total ≤ l.tile * 2 ^ 34;
}
