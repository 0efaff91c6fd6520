use Rattle.std.proofs.Common.{[], ◌*◌, ◌++◌, refl, ◌∙◌, arith}
use Rattle.apv_base.specs.model.Scan.{level_at}
use Rattle.apv_scan.proofs.ElementLemmas.{places_rise}
use Rattle.apv_bits.proofs.WriterLemmas.{appends_both, appends_none}
use Rattle.apv_scan.proofs.WritingLemmas.{at_start, bits_by_parameters, bits_coded, bits_none, joined_bits, last_bits, room_left, room_waiting}
use Rattle.apv_scan.proofs.block.write.put_ac.Goals as goal

pub loop-place-init : goal.loop-place-init
loop-place-init c = record {
  last = omega arith;
  run = omega arith;
  level = c.level_parameter-level_k.ensures.few;
  rising = rw c.requires.places (places_rise (level_at c.args.levels.now) 63 1 0 (omega arith) (omega arith));
  slice = refl;
  bits = (
    [],
    appends_none c.args.writer.now,
    rw (c.level_parameter-level_k.ensures.parameter, ← bits_by_parameters (level_at c.args.levels.now) 0 0 c.args.first c.args.level_places, c.requires.places) refl,
  );
}

pub loop-place-preserved : goal.loop-place-preserved
loop-place-preserved c =
    let i = c.loop-place.invariant in
    let run = c.word_of_run-run_word in
    let level = c.word_of_level-level_word in
    let at = at_start (level_at c.args.levels.now) c.loop-place.last c.in-Some.place c.loop-place.level_places c.take_first.new.self c.in-Some.ensures.some i.rising in
    let w = c.append-waiting.ensures.appends in
    record {
      last = at.1;
      run = omega (arith, run.ensures.next);
      level = omega (arith, level.ensures.next);
      rising = at.3;
      slice = c.append-waiting.ensures.slice ∙ i.slice;
      bits = (
        i.bits.0 ++ w.0,
        appends_both c.args.writer.now c.loop-place.writer c.append-waiting.new.writer i.bits.0 w.0 i.bits.1 w.1,
        joined_bits i.bits.0 w.0 c.loop-place.waiting (run.result.0 ++ level.result.0) c.append-waiting.result _ _ _ i.bits.2
            (bits_coded (level_at c.args.levels.now) c.loop-place.last c.loop-place.run_k c.loop-place.level_k c.loop-place.level_places c.in-Some.place c.take_first.new.self
            run.result.0 level.result.0 run.result.1 level.result.1 i.run i.level c.in-Some.ensures.some run.ensures.bits level.ensures.bits run.ensures.next level.ensures.next)
            (rw (← c.join.ensures.bits) w.2),
      );
    }

pub append-waiting-requires-2 : goal.append-waiting-requires-2
append-waiting-requires-2 c =
    let i = c.loop-place.invariant in
    room_waiting c.args.writer.now c.loop-place.writer i.bits.0 c.loop-place.waiting _ _ i.bits.1 i.bits.2 c.requires.room

pub put_word-requires : goal.put_word-requires
put_word-requires c =
    let i = c.loop-place.invariant in
    let w = c.append-waiting-2.ensures.appends in
    let none = bits_none (level_at c.args.levels.now) c.loop-place.last (4 * c.loop-place.run_k) (4 * c.loop-place.level_k) c.loop-place.level_places c.end_word.result c.in_default.ensures.none c.end_word.ensures.bits in
    room_left c.args.writer.now c.append-waiting-2.new.writer (i.bits.0 ++ w.0) _ _ (appends_both c.args.writer.now c.loop-place.writer c.append-waiting-2.new.writer i.bits.0 w.0 i.bits.1 w.1)
    (last_bits i.bits.0 w.0 c.loop-place.waiting c.end_word.result c.append-waiting-2.result _ _ i.bits.2 none w.2) c.requires.room

pub returns-clause-appends : goal.returns-clause-appends
returns-clause-appends c =
    let i = c.loop-place.invariant in
    let w = c.append-waiting-2.ensures.appends in
    let none = bits_none (level_at c.args.levels.now) c.loop-place.last (4 * c.loop-place.run_k) (4 * c.loop-place.level_k) c.loop-place.level_places c.end_word.result c.in_default.ensures.none c.end_word.ensures.bits in
    rw (← last_bits i.bits.0 w.0 c.loop-place.waiting c.end_word.result c.append-waiting-2.result _ _ i.bits.2 none w.2)
    (appends_both c.args.writer.now c.append-waiting-2.new.writer c.put_word.new.self (i.bits.0 ++ w.0) c.append-waiting-2.result
    (appends_both c.args.writer.now c.loop-place.writer c.append-waiting-2.new.writer i.bits.0 w.0 i.bits.1 w.1) c.put_word.ensures.appends)
