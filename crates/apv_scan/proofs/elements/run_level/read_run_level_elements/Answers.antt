use Rattle.std.proofs.Common.{◌≡◌, pos, neg_ℤ, ◌+◌, to_z, of_z, w16, refl, sym, arith}
use Rattle.std.proofs.lemmas.Int.{to_z-of_z}
use Rattle.std.proofs.lemmas.Result.{err_from_is_err_and}
use Rattle.apv_scan.specs.declared.block_break.BlockBreak.TheVariants.{Ends, Level}
use Rattle.apv_scan.proofs.ReadingLemmas.{step_breaks_run, step_breaks_long, step_breaks_size, step_breaks_sign, step_reads, no_sign, bad_level, level_parts}
use Rattle.apv_scan.proofs.elements.run_level.read_run_level_elements.Goals as goal

pub returns-in_err-run : goal.returns-in_err-run
returns-in_err-run c =
    let p = err_from_is_err_and c.from_residual.result c.from_residual.ensures.1 in
    rw (p.1, p.2) (step_breaks_run c.args.run_k c.args.level_k c.args.room c.args.reader.now.left _ c.requires.some c.in_err-run.ensures.err)

pub returns-then-run-room : goal.returns-then-run-room
returns-then-run-room c =
    step_breaks_long c.args.run_k c.args.level_k c.args.room c.in_ok-run.run' c.args.reader.now c.read_value.new.reader c.requires.some (omega arith)
    c.in_ok-run.ensures.value.0 c.in_ok-run.ensures.value.1

pub returns-in_err-size : goal.returns-in_err-size
returns-in_err-size c =
    let p = err_from_is_err_and c.from_residual-in_err-size.result c.from_residual-in_err-size.ensures.1 in
    rw (p.1, p.2) (step_breaks_size c.args.run_k c.args.level_k c.args.room c.in_ok-run.run' c.args.reader.now c.read_value.new.reader _ (omega arith)
    c.in_ok-run.ensures.value.1 c.in_err-size.ensures.err)

pub returns-in_default : goal.returns-in_default
returns-in_default c =
    step_breaks_sign c.args.run_k c.args.level_k c.args.room c.in_ok-run.run' c.in_ok-size.field-0 c.args.reader.now c.read_value.new.reader c.read_value-2.new.reader Ends (omega arith)
    c.in_ok-size.ensures.value.0 c.in_ok-run.ensures.value.1 c.in_ok-size.ensures.value.1
    (no_sign (pos (c.in_ok-size.field-0 + 1)) (neg_ℤ (pos (c.in_ok-size.field-0 + 1))) c.read_value-2.new.reader.left (c.in_default.ensures.ended.0 refl))

pub returns-in_default-level_from : goal.returns-in_default-level_from
returns-in_default-level_from c =
    step_breaks_sign c.args.run_k c.args.level_k c.args.room c.in_ok-run.run' c.in_ok-size.field-0 c.args.reader.now c.read_value.new.reader c.read_value-2.new.reader Level (omega arith)
    c.in_ok-size.ensures.value.0 c.in_ok-run.ensures.value.1 c.in_ok-size.ensures.value.1
    (bad_level (c.in_ok-size.field-0 + 1) c.in-Ok.sign c.read_value-2.new.reader c.read.new.self c.in-Ok.ensures.ok.0 c.in-Ok.ensures.ok.1 c.in_default-level_from.ensures)

pub returns : goal.returns
returns c =
    let e : to_z w16 (of_z w16 c.in-Some.level) ≡ c.in-Some.level = grind (arith, to_z-of_z) in
    let level = c.in-Some.ensures.1 in
    let parts = level_parts c.in-Some.level (c.in_ok-size.field-0 + 1) c.in-Ok.sign (omega arith) c.in-Ok.ensures.ok.0 level in
    rw e (
      (omega arith, omega arith, omega (arith, c.in_ok-size.ensures.value.0), sym parts.0, rw level c.in-Some.ensures.0),
      step_reads c.args.run_k c.args.level_k c.args.room c.in_ok-run.run' c.in_ok-size.field-0 c.in-Ok.sign c.in-Some.level
          c.args.reader.now c.read_value.new.reader c.read_value-2.new.reader c.read.new.self c.in-Ok.ensures.ok.0 parts.1
          c.in_ok-run.ensures.value.1 c.in_ok-size.ensures.value.1 c.in-Ok.ensures.ok.1,
    )
