use Rattle.std.proofs.Common.{arith}
use Rattle.apv_quant.proofs.ShortLemmas.{short_reciprocal, short_fits, short_few}
use Rattle.apv_quant.proofs.halves.short_reciprocal.Goals as goal

pub overflow_add-short : goal.overflow_add-short
overflow_add-short c =
    let fits = short_fits c.args.reciprocal c.args.shift (omega arith) c.requires.shift in record { fits = omega (arith, fits) }

pub returns-clause-some : goal.returns-clause-some
returns-clause-some c =
    short_reciprocal c.args.step c.args.shift c.args.power c.args.reciprocal c.requires.multiple (omega arith) (omega arith) c.requires.shift c.requires.power c.requires.reciprocal (omega arith)

pub returns-then-short-gt-MAX_SHORT-clause-none : goal.returns-then-short-gt-MAX_SHORT-clause-none
returns-then-short-gt-MAX_SHORT-clause-none c = λ short.
    let few = short_few c.args.step c.args.shift c.args.reciprocal short.low c.requires.shift c.requires.reciprocal in
    absurd (omega (arith, few))
