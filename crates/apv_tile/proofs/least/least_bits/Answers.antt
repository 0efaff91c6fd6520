use Rattle.std.proofs.Common.{ℕ, arith, sym, ◌≡◌, ◌^◌, ◌≤◌, ap, below_more}
use Rattle.std.proofs.lemmas.Int.{to_z-of_z}
use Rattle.apv_tile.specs.Least.{bits_from, size_at, sum_below}
use Rattle.apv_tile.proofs.LeastLemmas.{sum-none, sum-more, sum-first}
use Rattle.apv_tile.proofs.least.least_bits.Goals as goal

pub loop-place-init : goal.loop-place-init
loop-place-init c = record {
  sum = sym (sum-none (λ place. bits_from c.args.sizes.now (size_at c.args.coeffs.now place)));
  few = λ place lt. absurd (omega (arith, lt));
  small = omega arith;
}

pub loop-place-preserved : goal.loop-place-preserved
loop-place-preserved c =
    let bits : c.bits_of-bits.result ≡ bits_from c.args.sizes.now (size_at c.args.coeffs.now c.loop-place.place) = grind (arith, to_z-of_z) in
    let few : size_at c.args.coeffs.now c.loop-place.place ≤ 2 ^ 15 = grind (arith, to_z-of_z) in
    record {
      sum = omega (arith, c.loop-place.invariant.sum, bits, sum-more (λ place. bits_from c.args.sizes.now (size_at c.args.coeffs.now place)) c.loop-place.place);
      few = below_more (λ (place : ℕ). size_at c.args.coeffs.now place ≤ 2 ^ 15) c.loop-place.place c.loop-place.invariant.few few;
      small = omega (arith, c.loop-place.invariant.small, c.bits_of-bits.ensures.small);
    }

pub overflow_sub-result : goal.overflow_sub-result
overflow_sub-result c =
    let f : ℕ → ℕ = λ place. bits_from c.args.sizes.now (size_at c.args.coeffs.now place) in
    let bits : c.bits_of.result ≡ f 0 = grind (arith, to_z-of_z) in
    let whole : c.loop-place.place ≡ 64 = omega (arith, c.loop-place-test.false, c.loop-place.auto.place-end) in
    omega (arith, bits, c.loop-place.invariant.sum, ap (λ (n : ℕ). sum_below f n) whole, sum-first f 63)

pub returns-clause-bits : goal.returns-clause-bits
returns-clause-bits c =
    let f : ℕ → ℕ = λ place. bits_from c.args.sizes.now (size_at c.args.coeffs.now place) in
    let bits : c.bits_of.result ≡ f 0 = grind (arith, to_z-of_z) in
    let whole : c.loop-place.place ≡ 64 = omega (arith, c.loop-place-test.false, c.loop-place.auto.place-end) in
    omega (arith, bits, c.loop-place.invariant.sum, ap (λ (n : ℕ). sum_below f n) whole, sum-first f 63)
