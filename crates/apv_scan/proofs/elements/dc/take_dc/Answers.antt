use Rattle.std.proofs.Common.{◌≡◌, to_z, of_z, w32, refl, arith}
use Rattle.std.proofs.lemmas.Int.{to_z-of_z}
use Rattle.apv_base.specs.model.Block.{Context}
use Rattle.apv_scan.proofs.ReadingLemmas.{dc_prefix, some_when}
use Rattle.apv_scan.proofs.elements.dc.take_dc.Goals as goal

pub returns : goal.returns
returns c =
    let context : Context = record { dc = c.context.inside.dc; diff = c.context.inside.diff; first = c.context.inside.first } in
    let dc : to_z w32 (of_z w32 c.context.inside.dc) ≡ c.context.inside.dc = grind (arith, to_z-of_z) in
    rw (← c.context.view_is) (some_when c.level_from.result _ _ _ (rw dc at c.level_from.ensures) (λ level. (
      level,
      dc_prefix context c.args.window.now c.decode_h.new.window c.read.new.self _ c.in_ok-size.size c.in-Ok.sign (omega arith) c.in-Ok.ensures.ok.0
          (rw c.dc_parameter.ensures.parameter at c.in_ok-size.ensures.some) c.in-Ok.ensures.ok.1 refl,
    )))
