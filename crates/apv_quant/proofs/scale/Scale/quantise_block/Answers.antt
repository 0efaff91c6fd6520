use Rattle.apv_quant.proofs.ShortLemmas.{nearest_by_short}
use Rattle.apv_quant.proofs.scale.Scale.quantise_block.Goals as goal

pub returns-in-Some : goal.returns-in-Some
returns-in-Some c =
    rw (← c.self.view_is) (λ place h.
    nearest_by_short _ _ _ _ _ (c.self.invariant.half c.in-Some.halves c.in-Some.is place h) (c.levels.ensures.few place h) (c.levels.ensures.levels place h))
