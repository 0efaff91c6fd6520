use Rattle.std.proofs.Common.{arith}
use Rattle.apv_scan.proofs.MaskLemmas.{each_fits, lanes_are, lanes_ask}
use Rattle.apv_scan.proofs.block.places.are_set.Goals as goal

pub overflow_cast-result : goal.overflow_cast-result
overflow_cast-result c = lanes_ask 64 c.args.levels c.well_formed.0.1.0.1

pub returns : goal.returns
returns c =
    let count = c.well_formed.0.1.0.1 in
    lanes_are 64 c.args.levels count (λ i h. each_fits c.args.levels c.well_formed.0.0 c.well_formed.0.1.1 i (omega (arith, count)))
