use Rattle.std.proofs.Common.{[], ◌*◌, ◌++◌, length, ap, arith}
use Rattle.std.proofs.lemmas.List.{length-append}
use Rattle.apv_base.specs.model.Scan.{level_at}
use Rattle.apv_scan.proofs.ElementLemmas.{places_rise}
use Rattle.apv_scan.proofs.WritingLemmas.{at_start, further_bits, bits_by_parameters, bits_coded, bits_none}
use Rattle.apv_scan.proofs.block.write.len_ac.Goals as goal

pub loop-place-init : goal.loop-place-init
loop-place-init c = record {
  last = omega arith;
  run = omega arith;
  level = c.level_parameter-level_k.ensures.few;
  few = omega arith;
  rising = rw c.requires.places (places_rise (level_at c.args.levels.now) 63 1 0 (omega arith) (omega arith));
  all = rw (c.level_parameter-level_k.ensures.parameter, ← bits_by_parameters (level_at c.args.levels.now) 0 0 c.args.first c.args.level_places, c.requires.places) (omega arith);
}

pub loop-place-preserved : goal.loop-place-preserved
loop-place-preserved c =
    let i = c.loop-place.invariant in
    let run = c.word_of_run-run_word in
    let level = c.word_of_level-level_word in
    let at = at_start (level_at c.args.levels.now) c.loop-place.last c.in-Some.place c.loop-place.level_places c.take_first.new.self c.in-Some.ensures.some i.rising in
    let next = bits_coded (level_at c.args.levels.now) c.loop-place.last c.loop-place.run_k c.loop-place.level_k c.loop-place.level_places c.in-Some.place c.take_first.new.self
    run.result.0 level.result.0 run.result.1 level.result.1 i.run i.level c.in-Some.ensures.some run.ensures.bits level.ensures.bits run.ensures.next level.ensures.next in
    record {
      last = at.1;
      run = omega (arith, run.ensures.next);
      level = omega (arith, level.ensures.next);
      few = omega (arith, i.few, c.bit_len.ensures.len, c.bit_len-in-Some.ensures.len, run.ensures.few, level.ensures.few, at.0);
      rising = at.3;
      all = omega (
        arith,
        i.all,
        c.bit_len.ensures.len,
        c.bit_len-in-Some.ensures.len,
        ap length next,
        length-append run.result.0 level.result.0,
        length-append (run.result.0 ++ level.result.0) (further_bits (level_at c.args.levels.now) c.in-Some.place (4 * run.result.1) (4 * level.result.1) c.take_first.new.self),
      );
    }

pub returns-clause-bits : goal.returns-clause-bits
returns-clause-bits c =
    let i = c.loop-place.invariant in
    let none = bits_none (level_at c.args.levels.now) c.loop-place.last (4 * c.loop-place.run_k) (4 * c.loop-place.level_k) c.loop-place.level_places c.end_word.result
    c.in_default.ensures.none c.end_word.ensures.bits in
    omega (arith, i.all, c.bit_len-2.ensures.len, ap length none, length-append c.end_word.result [])
