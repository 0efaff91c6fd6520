use Rattle.std.proofs.Common.{arith}
use Rattle.apv_base.specs.model.Bits.{bits}
use Rattle.apv_bits.proofs.FieldLemmas.{put_masked, nothing_put}
use Rattle.apv_bits.proofs.field.put_field.Goals as goal

pub returns-then-n-eq0 : goal.returns-then-n-eq0
returns-then-n-eq0 c = nothing_put c.args.place c.args.n c.args.value (bits c.args.bytes.now) c.if-n-eq0.true

pub returns : goal.returns
returns c =
    put_masked c.args.place c.args.n c.number-window.result c.args.value c.args.bytes.now c.store.new.bytes
    (omega arith) c.requires.n c.requires.value c.number-window.type_inv c.if-bytes-first.false c.number-window.ensures.bits
    c.store.ensures
