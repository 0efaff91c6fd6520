use Rattle.std.proofs.Common.{ℕ, List, [], arith, sym, ◌≡◌, ◌+◌, ◌/◌, ◌^◌, ◌≤◌, ◌<◌, ◌∙◌, ap, length, below_more, ℤ}
use Rattle.std.specs.Prelude.{slice_index_or}
use Rattle.apv_tile.specs.Least.{least_block_bits, size_at, sum_below}
use Rattle.apv_tile.proofs.LeastLemmas.{sum-none, sum-more, is_least}
use Rattle.apv_tile.proofs.least.least_len_component.Goals as goal

pub loop-block-init : goal.loop-block-init
loop-block-init c = record {
  sum = sym (sum-none (λ block. least_block_bits c.args.sizes.now (slice_index_or c.as_chunks.result.0.now block [])));
  few = λ block place lt. absurd (omega (arith, lt));
  small = omega arith;
}

pub loop-block-preserved : goal.loop-block-preserved
loop-block-preserved c =
    let blocks : List (List ℤ) = c.as_chunks.result.0.now in
    let f : ℕ → ℕ = λ block. least_block_bits c.args.sizes.now (slice_index_or blocks block []) in
    record {
      sum = omega (arith, c.loop-block.invariant.sum, c.from-bits.ensures, c.least_bits.ensures.bits, sum-more f c.loop-block.block-index);
      few = λ block place lt.
          below_more (λ (block : ℕ). (place : ℕ) → place < 64 → size_at (slice_index_or blocks block []) place ≤ 2 ^ 15) c.loop-block.block-index
          (λ block lt place. c.loop-block.invariant.few block place lt) c.least_bits.ensures.few block lt place;
      small = omega (arith, c.loop-block.invariant.small, c.from-bits.ensures, c.least_bits.ensures.small);
    }

pub returns-clause-least : goal.returns-clause-least
returns-clause-least c =
    let blocks : List (List ℤ) = c.as_chunks.result.0.now in
    let f : ℕ → ℕ = λ block. least_block_bits c.args.sizes.now (slice_index_or blocks block []) in
    let all : c.loop-block.block-index ≡ length blocks = omega (arith, c.loop-block-test.false, c.loop-block.auto.block-index-end) in
    let up : c.div_ceil.result ≡ (c.loop-block.bits + 7) / 8 = omega (arith, c.div_ceil.ensures) in
    is_least c.args.sizes.now c.args.coeffs.now blocks c.loop-block.bits c.div_ceil.result c.as_chunks.ensures.front c.as_chunks.ensures.front_len
    (c.loop-block.invariant.sum ∙ ap (λ (n : ℕ). sum_below f n) all)
    (λ block place lt. c.loop-block.invariant.few block place (omega (arith, lt, all))) up
