use Rattle.std.proofs.Common.{arith, ◌∙◌}
use Rattle.apv_files.proofs.Many.{only-at-trans, put-more}
use Rattle.apv_files.proofs.loops.write_all.Goals as goal

pub loop-written-preserved : goal.loop-written-preserved
loop-written-preserved g c = record {
  inside = omega (arith, c.in_ok-written.ensures.here.fits, c.split_at.ensures.back_len);
  here = put-more _ _ _ c.args.bytes.now c.loop-written.written c.in_ok-written.field-0 c.loop-written.invariant.here (rw c.split_at.ensures.back at c.in_ok-written.ensures.here);
  elsewhere = only-at-trans c.args.slot _ _ _ c.loop-written.invariant.elsewhere c.in_ok-written.ensures.elsewhere;
  held = λ file. c.in_ok-written.ensures.held file ∙ c.loop-written.invariant.held file;
}
