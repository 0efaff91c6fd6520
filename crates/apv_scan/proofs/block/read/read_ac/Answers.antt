use Rattle.std.proofs.Common.{◌≡◌, ◌+◌, sym, ◌∙◌, arith, to_z, of_z, w16}
use Rattle.std.proofs.lemmas.List.{length-set}
use Rattle.std.proofs.lemmas.Int.{to_z-of_z}
use Rattle.std.proofs.lemmas.Result.{err_from_is_err_and}
use Rattle.apv_base.specs.model.Scan.{level_at}
use Rattle.apv_scan.proofs.ScanLemmas.{all_levels, level_at-set_other}
use Rattle.apv_scan.proofs.WalkLemmas.{walk_end_run, walk_end, walk_found, found_small, walk_breaks, step_walk, step_levels, step_zeros}
use Rattle.apv_scan.proofs.block.read.read_ac.Goals as goal
use Rattle.apv_scan.proofs.block.read.read_ac.Goals.{else-loop-place-test, then-loop-place-test+in_ok-run+in_default}

pub returns-in_err-run : goal.returns-in_err-run
returns-in_err-run c =
    let p = err_from_is_err_and c.from_residual.result c.from_residual.ensures.1 in
    rw (p.1, p.2, ← c.loop-place.invariant.first_level)
    (walk_breaks c.args.first c.args.reader.now c.loop-place.reader (level_at c.loop-place.levels) c.loop-place.place c.loop-place.run_before c.loop-place.level_before c.loop-place.found _
    c.loop-place.invariant.walk c.loop-place.invariant.low (omega arith) (all_levels c.loop-place.levels c.loop-place.invariant.levels) c.loop-place.invariant.zeros
    (rw (c.run_parameter-run_k.ensures.parameter, c.level_parameter-level_k.ensures.parameter) at c.in_err-run.ensures))

pub loop-place-preserved : goal.loop-place-preserved
loop-place-preserved c =
    let e : to_z w16 (of_z w16 c.in-Level.level) ≡ c.in-Level.level = grind (arith, to_z-of_z) in
    let i = c.loop-place.invariant in
    let taken = rw (c.in-Level.is, c.run_parameter-run_k.ensures.parameter, c.level_parameter-level_k.ensures.parameter) at c.in_ok-run.ensures in
    rw (e, c.place_of.ensures.place) (record {
      low = omega arith;
      high = omega arith;
      run = omega arith;
      level = taken.0.2;
      found = found_small c.loop-place.found c.in-Level.size c.found_or-found.result 32768 c.found_or-found.ensures taken.0.2 i.found;
      count = length-set c.loop-place.levels _ c.in-Level.level ∙ i.count;
      levels = step_levels c.loop-place.levels (c.loop-place.place + c.in-Level.run') c.in-Level.level i.count (omega arith) taken.0.4 i.levels;
      first_level = level_at-set_other c.loop-place.levels (c.loop-place.place + c.in-Level.run') 0 c.in-Level.level (omega arith) (omega arith) (omega arith) ∙ i.first_level;
      zeros = step_zeros c.loop-place.levels (c.loop-place.place + c.in-Level.run') c.in-Level.level c.loop-place.place (omega arith) (omega arith) i.zeros;
      walk = step_walk c.args.first c.args.reader.now c.loop-place.reader c.read_run_level.new.reader c.loop-place.levels c.loop-place.place c.loop-place.run_before c.loop-place.level_before
          c.in-Level.run' c.in-Level.size c.loop-place.found c.found_or-found.result c.in-Level.level i.count i.walk (omega arith) (omega arith) i.zeros
          taken.1 taken.0.1 taken.0.3 taken.0.4 c.found_or-found.ensures;
    })

pub returns : goal.returns
returns c =
    let i = c.loop-place.invariant in
    record {
      read = record {
        takes = elim c.loop-place-test.branch [
          | else-loop-place-test w ↦
              rw w.reader-is (walk_end c.args.first c.args.reader.now c.loop-place.reader (level_at c.loop-place.levels) c.loop-place.place c.loop-place.run_before c.loop-place.level_before
              c.loop-place.found i.walk (omega arith))
          | then-loop-place-test+in_ok-run+in_default w ↦
              rw w.reader-is (walk_end_run c.args.first c.args.reader.now c.loop-place.reader w.read_run_level.new.reader (level_at c.loop-place.levels) c.loop-place.place c.loop-place.run_before c.loop-place.level_before
              c.loop-place.found i.walk i.low (omega (arith, w.loop-place-test.true)) i.zeros (rw (w.in_default.is, w.run_parameter-run_k.ensures.parameter) at w.in_ok-run.ensures.1))
        ];
        size = c.found_or.ensures ∙ sym (walk_found c.args.first c.args.reader.now c.loop-place.reader (level_at c.loop-place.levels) c.loop-place.place c.loop-place.run_before c.loop-place.level_before
            c.loop-place.found i.walk i.high i.zeros);
      };
      dc = i.first_level;
      small = found_small c.loop-place.found c.args.first c.found_or.result 32768 c.found_or.ensures c.requires.size i.found;
    }
