use Rattle.std.proofs.Common.{◌/◌, ◌%◌, arith, length-set}
use Rattle.apv_quant.proofs.ShortLemmas.{halves_more}
use Rattle.apv_quant.proofs.halves.Halves.of.Goals as goal

pub loop-place-preserved : goal.loop-place-preserved
loop-place-preserved c = record {
  high_count = omega (arith, length-set c.loop-place.high c.loop-place.place (c.in_ok-short.short / 65536));
  low_count = omega (arith, length-set c.loop-place.low c.loop-place.place (c.in_ok-short.short % 65536));
  each = halves_more c.args.steps.now c.loop-place.high c.loop-place.low c.args.shift c.loop-place.place c.in_ok-short.short (omega arith) (omega arith) c.in_ok-short.ensures.some c.loop-place.invariant.each;
}
