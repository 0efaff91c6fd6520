use Rattle.std.proofs.Common.{◌≡◌, ℕ, ◌<◌, length, slice_index}
use Rattle.apv_base.specs.model.Quant.{shift_of}
use Rattle.apv_quant.specs.Reaching.{level_sizes, reaching_size}
use Rattle.apv_quant.proofs.reaching.sizes_reaching.Given as goal

abbrev pub invariant-loop-index : goal.invariant-loop-index
invariant-loop-index l = record {
  count : length l.sizes ≡ 8;
  each : (k : ℕ) → k < l.index → slice_index l.sizes k ≡ reaching_size (slice_index level_sizes k) l.step (shift_of l.depth);
}
