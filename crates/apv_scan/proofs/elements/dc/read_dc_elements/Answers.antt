use Rattle.std.proofs.Common.{◌≡◌, pos, ◌+ℤ◌, ◌-ℤ◌, to_z, of_z, w16, w32, refl, arith}
use Rattle.std.proofs.lemmas.Int.{to_z-of_z}
use Rattle.std.proofs.lemmas.Result.{err_from_is_err_and}
use Rattle.apv_base.specs.model.Block.{Context}
use Rattle.apv_scan.specs.declared.block_break.BlockBreak.TheVariants.{Ends, Level}
use Rattle.apv_scan.proofs.ReadingLemmas.{dc_breaks_number, dc_breaks_sign, dc_reads, no_sign, bad_sign}
use Rattle.apv_scan.proofs.elements.dc.read_dc_elements.Goals as goal

pub returns-in_err-size-clause-err : goal.returns-in_err-size-clause-err
returns-in_err-size-clause-err c =
    let context : Context = record { dc = c.context.inside.dc; diff = c.context.inside.diff; first = c.context.inside.first } in
    let p = err_from_is_err_and c.from_residual.result c.from_residual.ensures.1 in
    rw (p.1, p.2, ← c.context.view_is) (dc_breaks_number context c.args.reader.now.left _ (rw c.dc_parameter.ensures.parameter at c.in_err-size.ensures.err))

pub returns-in_default-clause-err : goal.returns-in_default-clause-err
returns-in_default-clause-err c =
    let context : Context = record { dc = c.context.inside.dc; diff = c.context.inside.diff; first = c.context.inside.first } in
    rw (← c.context.view_is) (dc_breaks_sign context c.args.reader.now c.read_value.new.reader c.in_ok-size.size Ends (omega arith) (omega (arith, c.in_ok-size.ensures.value.0))
    (rw c.dc_parameter.ensures.parameter at c.in_ok-size.ensures.value.1)
    (no_sign (c.context.inside.dc +ℤ pos c.in_ok-size.size) (c.context.inside.dc -ℤ pos c.in_ok-size.size) c.read_value.new.reader.left (c.in_default.ensures.ended.0 refl)))

pub returns-in_default-level_from-clause-err : goal.returns-in_default-level_from-clause-err
returns-in_default-level_from-clause-err c =
    let context : Context = record { dc = c.context.inside.dc; diff = c.context.inside.diff; first = c.context.inside.first } in
    let dc : to_z w32 (of_z w32 c.context.inside.dc) ≡ c.context.inside.dc = grind (arith, to_z-of_z) in
    rw (← c.context.view_is) (dc_breaks_sign context c.args.reader.now c.read_value.new.reader c.in_ok-size.size Level (omega arith) (omega (arith, c.in_ok-size.ensures.value.0))
    (rw c.dc_parameter.ensures.parameter at c.in_ok-size.ensures.value.1)
    (bad_sign (c.context.inside.dc +ℤ pos c.in_ok-size.size) (c.context.inside.dc -ℤ pos c.in_ok-size.size) c.in-Ok.sign c.read_value.new.reader c.read.new.self c.in-Ok.ensures.ok.0 c.in-Ok.ensures.ok.1
    (rw dc at c.in_default-level_from.ensures)))

pub returns-clause-ok : goal.returns-clause-ok
returns-clause-ok c =
    let context : Context = record { dc = c.context.inside.dc; diff = c.context.inside.diff; first = c.context.inside.first } in
    let e : to_z w16 (of_z w16 c.in-Some.level) ≡ c.in-Some.level = grind (arith, to_z-of_z) in
    let dc : to_z w32 (of_z w32 c.context.inside.dc) ≡ c.context.inside.dc = grind (arith, to_z-of_z) in
    let level = rw dc at c.in-Some.ensures.1 in
    rw (e, ← c.context.view_is) (
      rw level (rw dc at c.in-Some.ensures.0),
      dc_reads context c.args.reader.now c.read_value.new.reader c.read.new.self c.in-Some.level c.in_ok-size.size c.in-Ok.sign (omega arith) c.in-Ok.ensures.ok.0
          (rw c.dc_parameter.ensures.parameter at c.in_ok-size.ensures.value.1) c.in-Ok.ensures.ok.1 level,
    )
