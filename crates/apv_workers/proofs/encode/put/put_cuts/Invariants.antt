use Rattle.std.proofs.Common.{◌≡◌, ℕ, ◌+◌, ◌*◌, ◌^◌, ◌≤◌, length, slice_index}
use Rattle.apv_base.specs.model.Header.{header_comps}
use Rattle.apv_workers.specs.Put.{put_start}
use Rattle.apv_workers.proofs.encode.put.put_cuts.Given as goal

abbrev pub invariant-loop-tile : goal.invariant-loop-tile
invariant-loop-tile l = record {
  len : length l.cuts ≡ 401;
  end : l.end ≡ put_start l.lengths (header_comps l.head.header) l.tile;
  few : l.end ≤ l.tile * (2 ^ 34 + 29);
  each : (tile : ℕ) → tile ≤ l.tile → slice_index l.cuts tile ≡ put_start l.lengths (header_comps l.head.header) tile;
}
