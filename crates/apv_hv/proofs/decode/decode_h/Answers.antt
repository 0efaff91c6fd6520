use Rattle.std.proofs.Common.{◌∙◌, sym, ap, ◌++◌, arith}
use Rattle.apv_base.specs.model.CodeWord.{code_word}
use Rattle.apv_hv.proofs.DecodeLemmas.{Found, decoded, begins, begins_with_none}
use Rattle.apv_hv.proofs.decode.decode_h.Goals as goal

pub returns-then-length-left-clause-none : goal.returns-then-length-left-clause-none
returns-then-length-left-clause-none c _ v rest e =
    let found : Found c.bits-bits.result c.args.k c.turned_zeros-zeros.result c.length_of-length.result = record {
      first = c.turned_zeros-zeros.ensures.first;
      second = c.turned_zeros-zeros.ensures.second;
      further = c.turned_zeros-zeros.ensures.further;
      short = c.length_of-length.ensures.short;
      long = c.length_of-length.ensures.long;
    } in
    begins_with_none c.bits-bits.result c.args.k c.turned_zeros-zeros.result c.length_of-length.result v c.args.window.now rest found c.bits-bits.type_inv
    c.bits-bits.ensures (omega arith) e

pub overflow_cast-result : goal.overflow_cast-result
overflow_cast-result c =
    let found : Found c.bits-bits.result c.args.k c.turned_zeros-zeros.result c.length_of-length.result = record {
      first = c.turned_zeros-zeros.ensures.first;
      second = c.turned_zeros-zeros.ensures.second;
      further = c.turned_zeros-zeros.ensures.further;
      short = c.length_of-length.ensures.short;
      long = c.length_of-length.ensures.long;
    } in
    omega (
      arith,
      (decoded c.bits-bits.result c.args.k c.turned_zeros-zeros.result c.length_of-length.result c.value_of.result found c.bits-bits.type_inv c.requires
          (omega arith) c.value_of.ensures.first c.value_of.ensures.other).1,
    )

pub returns-clause-some : goal.returns-clause-some
returns-clause-some c =
    let found : Found c.bits-bits.result c.args.k c.turned_zeros-zeros.result c.length_of-length.result = record {
      first = c.turned_zeros-zeros.ensures.first;
      second = c.turned_zeros-zeros.ensures.second;
      further = c.turned_zeros-zeros.ensures.further;
      short = c.length_of-length.ensures.short;
      long = c.length_of-length.ensures.long;
    } in
    begins c.length_of-length.result c.bits-bits.result c.args.window.now (code_word c.args.k c.value_of.result)
    c.bits-bits.ensures (omega arith) (omega arith)
    (decoded c.bits-bits.result c.args.k c.turned_zeros-zeros.result c.length_of-length.result c.value_of.result found c.bits-bits.type_inv c.requires
    (omega arith) c.value_of.ensures.first c.value_of.ensures.other).0
    ∙ ap (λ b. code_word c.args.k c.value_of.result ++ b) (sym c.skip.ensures)
