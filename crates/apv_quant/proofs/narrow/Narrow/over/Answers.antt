use Rattle.std.proofs.Common.{arith, rules}
use Rattle.apv_quant.proofs.ScaledLemmas.{scaled_reduced}
use Rattle.apv_quant.proofs.narrow.Narrow.over.Goals as goal

pub returns-clause-some : goal.returns-clause-some
returns-clause-some c = record {
  count = c.reduced-reduced.ensures.count;
  below = search rules;
  low = omega arith;
  high = omega arith;
  same = λ place h level. rw (c.reduced-reduced.ensures.each place h) (scaled_reduced level _ c.args.shift c.args.power (c.requires.multiples place h) c.requires.power);
}
