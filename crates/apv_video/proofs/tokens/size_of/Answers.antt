use Rattle.std.proofs.Common.{◌≡◌, ◌+◌, ◌-◌, ◌*◌, get_or, refl, arith, rules}
use Rattle.apv_video.proofs.TokenLemmas.{value-more, digits-more, power-more, power-few}
use Rattle.apv_video.proofs.tokens.size_of.Goals as goal

pub overflow_mul-size : goal.overflow_mul-size
overflow_mul-size c = omega (arith, c.loop-digit.invariant.small, power-few c.loop-digit.digit-index (omega arith))

pub overflow_add-size : goal.overflow_add-size
overflow_add-size c = omega (arith, c.loop-digit.invariant.small, power-few c.loop-digit.digit-index (omega arith))

pub loop-digit-preserved : goal.loop-digit-preserved
loop-digit-preserved c =
    let digits = c.split_at.result.1.now in
    let digit = get_or digits c.loop-digit.digit-index 0 in
    let is : 10 * c.loop-digit.size + c.from.result ≡ 10 * c.loop-digit.size + (digit - 48) = search rules in
    record {
      size = value-more digits c.loop-digit.digit-index c.loop-digit.size _ digit c.loop-digit.invariant.size (omega arith) refl (omega arith) (omega arith) is;
      small = rw is (power-more c.loop-digit.size c.loop-digit.digit-index digit c.loop-digit.invariant.small (omega arith));
      all = digits-more digits c.loop-digit.digit-index digit c.loop-digit.invariant.all (omega arith) refl (omega arith) (omega arith);
    }
