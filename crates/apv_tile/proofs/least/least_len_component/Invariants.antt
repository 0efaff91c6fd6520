use Rattle.std.proofs.Common.{◌≡◌, ℕ, [], ◌*◌, ◌^◌, ◌<◌, ◌≤◌, slice_index_or}
use Rattle.apv_tile.specs.Least.{least_block_bits, size_at, sum_below}
use Rattle.apv_tile.proofs.least.least_len_component.Given as goal

abbrev pub invariant-loop-block : goal.invariant-loop-block
invariant-loop-block l = record {
  sum : l.bits ≡ sum_below (λ block. least_block_bits l.sizes (slice_index_or l.blocks block [])) l.block-index;
  few : (block place : ℕ) → block < l.block-index → place < 64 → size_at (slice_index_or l.blocks block []) place ≤ 2 ^ 15;
  small : l.bits ≤ 640 * l.block-index;
}
