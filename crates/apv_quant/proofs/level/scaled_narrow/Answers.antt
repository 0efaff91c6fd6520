use Rattle.apv_quant.proofs.ScaledLemmas.{narrow_sum, narrow_value}
use Rattle.apv_quant.proofs.level.scaled_narrow.Goals as goal

pub overflow_add-product : goal.overflow_add-product
overflow_add-product c =
    narrow_sum c.args.level _ _ c.args.step c.args.shift c.ranges.level c.requires.narrow c.requires.shift_high c.narrow_product-product.ensures c.half_of.ensures

pub returns : goal.returns
returns c =
    narrow_value c.args.level _ _ _ c.args.step c.args.shift c.ranges.level c.requires.narrow c.requires.shift_high c.narrow_product-product.ensures c.half_of.ensures c.clipped.ensures (record { sfits = c.clipped.type_inv })
