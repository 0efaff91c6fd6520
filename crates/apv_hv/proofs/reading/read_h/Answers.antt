use Rattle.std.proofs.Common.{◌≡◌, take}
use Rattle.apv_base.specs.model.CodeWord.{code_word}
use Rattle.apv_bits.proofs.WindowLemmas.{seen_prefix}
use Rattle.apv_hv.proofs.reading.read_h.Goals as goal

pub returns-then-value-limit : goal.returns-then-value-limit
returns-then-value-limit c =
    let e : take c.taken.result c.args.reader.now.left ≡ code_word c.args.k c.in-Some-decode_h.value =
    seen_prefix c.taken.result c.args.reader.now.left c.in-Some.window c.decode_h.new.window (code_word c.args.k c.in-Some-decode_h.value)
    c.in-Some.ensures.some c.in-Some-decode_h.ensures.some c.taken.ensures in
    (c.if-value-limit.true, rw e at c.skip.ensures)
