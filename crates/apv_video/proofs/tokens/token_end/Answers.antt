use Rattle.std.proofs.Common.{get_or, slice_range, not, eqb, arith, rules, refl}
use Rattle.apv_video.proofs.TokenLemmas.{all-push, is-not, range-more, range-empty}
use Rattle.apv_video.proofs.tokens.token_end.Goals as goal

pub loop-end-init : goal.loop-end-init
loop-end-init c = record { from = omega arith; inside = omega arith; token = rw (range-empty c.args.bytes.now c.args.first) refl }

pub loop-end-preserved : goal.loop-end-preserved
loop-end-preserved c =
    let bytes = c.args.bytes.now in
    record {
      from = omega arith;
      inside = omega arith;
      token = rw (range-more bytes c.args.first c.loop-end.end c.loop-end.invariant.from (omega arith)) (all-push (λ byte. not (eqb byte 32)) (slice_range bytes c.args.first c.loop-end.end) (get_or bytes c.loop-end.end 0) c.loop-end.invariant.token (is-not (get_or bytes c.loop-end.end 0) 32 (search rules)));
    }
