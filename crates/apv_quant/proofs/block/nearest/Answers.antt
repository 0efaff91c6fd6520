use Rattle.apv_quant.proofs.NearestLemmas.{nearest_by_steps}
use Rattle.apv_quant.proofs.block.nearest.Goals as goal

pub returns : goal.returns
returns c = λ place h.
    nearest_by_steps _ _ _ c.args.shift _ _ _ (c.requires.below place h) (c.rounded_sizes-sizes.ensures.few place h) (c.requires.reciprocals place h)
    (c.rounded_sizes-sizes.ensures.sizes place h) (c.quotients.ensures.quotients place h) (c.signed_levels.ensures place h)
