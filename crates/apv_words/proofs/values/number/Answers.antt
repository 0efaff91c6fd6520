use Rattle.std.proofs.Common.{arith}
use Rattle.apv_words.proofs.NumberLemmas.{first_digits_below}
use Rattle.apv_words.proofs.values.number.Goals as goal

pub overflow_mul-value : goal.overflow_mul-value
overflow_mul-value c =
    omega (arith, first_digits_below c.loop-byte.byte-index c.as_bytes-bytes.result.now c.loop-byte.invariant.digits (omega arith) (omega arith))

pub overflow_add-value : goal.overflow_add-value
overflow_add-value c =
    omega (arith, first_digits_below c.loop-byte.byte-index c.as_bytes-bytes.result.now c.loop-byte.invariant.digits (omega arith) (omega arith))
