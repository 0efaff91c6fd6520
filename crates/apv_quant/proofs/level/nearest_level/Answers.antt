use Rattle.apv_quant.proofs.NearestLemmas.{nearest_value}
use Rattle.apv_quant.proofs.level.nearest_level.Goals as goal

pub returns : goal.returns
returns c =
    nearest_value c.args.coeff _ c.args.step c.args.shift _ _ c.args.reciprocal c.ranges.coeff (record { sfits = c.signed_level.type_inv }) c.requires.below
    c.rounded_size-size.ensures.few c.requires.reciprocal c.rounded_size-size.ensures.size c.quotient_by.ensures.quotient c.signed_level.ensures
