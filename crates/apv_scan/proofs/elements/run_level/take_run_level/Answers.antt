use Rattle.std.proofs.Common.{◌≡◌, to_z, of_z, w16, sym, arith}
use Rattle.std.proofs.lemmas.Int.{to_z-of_z}
use Rattle.apv_scan.proofs.ReadingLemmas.{step_prefix}
use Rattle.apv_scan.proofs.elements.run_level.take_run_level.Goals as goal

pub returns : goal.returns
returns c =
    let e : to_z w16 (of_z w16 c.signed_level.result) ≡ c.signed_level.result = grind (arith, to_z-of_z) in
    rw e (
      (omega arith, omega arith, omega arith, sym c.signed_level.ensures.size, c.signed_level.ensures.level),
      step_prefix c.args.run_k c.args.level_k c.args.room c.in_ok-run.run' c.in_ok-number.number c.in-Ok.sign c.signed_level.result
          c.args.window.now c.decode_h.new.window c.decode_h-2.new.window c.read.new.self c.in-Ok.ensures.ok.0 c.signed_level.ensures.sign
          c.in_ok-run.ensures.some c.in_ok-number.ensures.some c.in-Ok.ensures.ok.1,
    )
