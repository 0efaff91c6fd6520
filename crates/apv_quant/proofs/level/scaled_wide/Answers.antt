use Rattle.apv_quant.proofs.ScaledLemmas.{wide_sum, wide_shift, wide_shift_fits, wide_value}
use Rattle.apv_quant.proofs.level.scaled_wide.Goals as goal

pub overflow_cast-product : goal.overflow_cast-product
overflow_cast-product c =
    let sum = wide_sum c.args.level _ _ _ c.args.step c.args.shift c.ranges.level c.requires.below c.requires.shift_high c.wide_product-product.ensures c.half_of.ensures c.from-half.ensures in
    let is = wide_shift c.args.level _ c.args.step c.args.shift c.ranges.level c.requires.below c.requires.within c.requires.shift_high sum in
    rw is (wide_shift_fits c.args.level c.args.step c.args.shift c.ranges.level c.requires.within c.requires.shift_high)

pub returns : goal.returns
returns c =
    let sum = wide_sum c.args.level _ _ _ c.args.step c.args.shift c.ranges.level c.requires.below c.requires.shift_high c.wide_product-product.ensures c.half_of.ensures c.from-half.ensures in
    wide_value c.args.level _ _ c.args.step c.args.shift c.ranges.level c.requires.below c.requires.within c.requires.shift_high sum c.clipped.ensures (record { sfits = c.clipped.type_inv })
