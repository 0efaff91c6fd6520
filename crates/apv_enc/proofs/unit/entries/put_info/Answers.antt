use Rattle.std.proofs.Common.{◌≡◌, ◌*◌, length, List, ℕ, ap, arith}
use Rattle.apv_base.specs.model.Bits.{bits}
use Rattle.apv_base.proofs.BitsLemmas.{length-bits}
use Rattle.apv_header.specs.Info.{frame_info_word}
use Rattle.apv_header.proofs.WriteLemmas.{midway-start}
use Rattle.apv_enc.proofs.PartWriteLemmas.{info-put, info-word}
use Rattle.apv_enc.proofs.unit.entries.put_info.Goals as goal

pub put_frame_info-requires-clause-room : goal.put_frame_info-requires-clause-room
put_frame_info-requires-clause-room c = omega (arith, c.requires.room, ap length c.new-writer.ensures.bits_after, length-bits c.args.out.now)

pub returns : goal.returns
returns c =
    let word : List ℕ = frame_info_word c.args.info.now in
    let room : 8 * length c.args.out.now ≡ length word = omega (arith, c.requires.room, c.put_frame_info.ensures.len) in
    let start = midway-start word c.args.out.now c.new-writer.result c.new-writer.ensures.written c.new-writer.ensures.bits_after room in
    let all : bits c.put_frame_info.new.writer.bytes.now ≡ word = info-word word c.new-writer.result c.put_frame_info.new.writer start c.put_frame_info.ensures.appends in
    info-put c.args.info.now _ (λ i. omega (arith, c.type_inv.out i)) (grind (arith, all))
