use Rattle.std.proofs.Common.{sym, ap, ◌∙◌}
use Rattle.apv_base.specs.model.Pbu.{is_filler}
use Rattle.apv_base.specs.model.AuInfo.{in_fields, in_filler}
use Rattle.apv_unit.proofs.au_info.au_info_break.Goals as goal

pub returns-in-Err : goal.returns-in-Err
returns-in-Err c = in_fields c.in-Err.end c.in-Err.ensures

pub returns-then-not-is_filler : goal.returns-then-not-is_filler
returns-then-not-is_filler c =
    in_filler c.in-Ok.ensures.values c.in-Ok.ensures.left c.in-Ok.ensures.walked (ap is_filler (sym c.in-Ok.ensures.bytes) ∙ sym c.is_filler.ensures ∙ c.if-not-is_filler.true)
