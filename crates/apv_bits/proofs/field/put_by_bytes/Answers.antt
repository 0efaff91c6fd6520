use Rattle.std.proofs.Common.{◌≡◌, ◌+◌, ◌-◌, ◌*◌, ◌/◌, length, take, drop, arith}
use Rattle.std.proofs.lemmas.List.{length-take-le, length-drop}
use Rattle.apv_bits.proofs.FieldLemmas.{put_field_is, replaced}
use Rattle.apv_bits.proofs.field.put_by_bytes.Goals as goal

pub returns : goal.returns
returns c =
    let len : length (take (c.div_ceil-last.result - c.args.place / 8) (drop (c.args.place / 8) c.args.bytes.now)) ≡ c.div_ceil-last.result - c.args.place / 8 =
    length-take-le (c.div_ceil-last.result - c.args.place / 8) (drop (c.args.place / 8) c.args.bytes.now) (omega (arith, c.div_ceil-last.ensures, length-drop (c.args.place / 8) c.args.bytes.now)) in
    let sum : 8 * length (take (c.div_ceil-last.result - c.args.place / 8) (drop (c.args.place / 8) c.args.bytes.now))
    ≡ c.args.place - 8 * (c.args.place / 8) + c.args.n + (8 * c.div_ceil-last.result - (c.args.place + c.args.n)) = omega (arith, c.div_ceil-last.ensures) in
    put_field_is c.args.place c.args.n (c.args.place / 8) c.div_ceil-last.result c.number-window.result c.args.value _ c.args.bytes.now c.store.new.bytes
    c.requires.value (omega arith) (omega (arith, c.div_ceil-last.ensures)) (omega (arith, c.div_ceil-last.ensures)) (omega (arith, c.div_ceil-last.ensures))
    c.number-window.ensures.bits
    (replaced (c.args.place - 8 * (c.args.place / 8)) c.args.n (8 * c.div_ceil-last.result - (c.args.place + c.args.n)) c.number-window.result c.args.value
    (omega (arith, c.div_ceil-last.ensures)) (omega (arith, c.div_ceil-last.ensures)) (rw sum at c.number-window.ensures.small) c.requires.value)
    c.store.ensures
