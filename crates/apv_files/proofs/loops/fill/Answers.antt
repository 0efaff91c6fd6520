use Rattle.std.proofs.Common.{rules, ◌∙◌}
use Rattle.apv_files.proofs.Many.{only-at-trans}
use Rattle.apv_files.proofs.Reading.{filled-more}
use Rattle.apv_files.proofs.loops.fill.Goals as goal

pub loop-filled-preserved : goal.loop-filled-preserved
loop-filled-preserved g c = record {
  inside = search rules;
  here = filled-more _ _ _ c.loop-filled.filled c.in_ok-taken.taken _ c.loop-filled.buf c.read.new.buf c.loop-filled.invariant.here c.in_ok-taken.ensures.here c.loop-filled.invariant.inside;
  elsewhere = only-at-trans c.args.slot _ _ _ c.loop-filled.invariant.elsewhere c.in_ok-taken.ensures.elsewhere;
  held = λ file. c.in_ok-taken.ensures.held file ∙ c.loop-filled.invariant.held file;
}
