use Rattle.std.proofs.Common.{◌-◌, ◌^◌, pos, ap, ◌∙◌}
use Rattle.apv_transform.proofs.Samples.{maximum_fits, maximum_is}
use Rattle.apv_transform.proofs.rows.maximum_sample.Goals as goal

pub overflow_cast-result : goal.overflow_cast-result
overflow_cast-result c =
    maximum_fits c.half.result c.args.depth c.requires.depth.0 c.requires.depth.1 (c.half.ensures ∙ ap (λ d. pos (2 ^ (d - 1))) c.from.ensures)

pub returns : goal.returns
returns c =
    maximum_is c.half.result c.args.depth c.requires.depth.0 c.requires.depth.1 (c.half.ensures ∙ ap (λ d. pos (2 ^ (d - 1))) c.from.ensures)
