use Rattle.std.proofs.Common.{◌≡◌, length, refl, to_z, of_z, w16, rules, arith}
use Rattle.std.proofs.lemmas.Int.{to_z-of_z}
use Rattle.std.proofs.lemmas.Result.{err_from_is_err_and}
use Rattle.apv_scan.specs.Cursor.{progress_of}
use Rattle.apv_scan.proofs.CursorLemmas.{step_more, ends_step, stops_step}
use Rattle.apv_scan.proofs.tables.cursor.Cursor.decode_step.Goals as goal

pub returns-in_err-step : goal.returns-in_err-step
returns-in_err-step c =
    let p = err_from_is_err_and c.from_residual.result c.from_residual.ensures.1 in
    rw (p.1, p.2) (stops_step (progress_of c.args.self.now c.args.levels.now) _ (omega arith) c.requires c.in_err-step.ensures)

pub returns-in_default : goal.returns-in_default
returns-in_default c =
    record {
      steps = _;
      ends = ends_step (progress_of c.args.self.now c.args.levels.now) c.read_run_level.new.reader (omega arith) c.requires (rw c.in_default.is at c.in_ok-step.ensures).1;
      same = refl;
    }

pub returns : goal.returns
returns c =
    let e : to_z w16 (of_z w16 c.in-Level.level) ≡ c.in-Level.level = grind (arith, to_z-of_z) in
    let count : length c.args.levels.now ≡ 64 = search rules in
    let taken = rw c.in-Level.is at c.in_ok-step.ensures in
    rw (e, c.place_of.ensures.place)
    (record {
      steps = step_more (progress_of c.args.self.now c.args.levels.now) c.in-Level.run' c.in-Level.size c.in-Level.level c.context_after.result c.read_run_level.new.reader count (omega arith) (omega arith)
          taken.0.1 taken.0.3 taken.0.4 c.context_after.ensures.number taken.1;
      ends = _;
      same = _;
    })
