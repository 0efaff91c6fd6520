use Rattle.std.proofs.Common.{◌∙◌, ◌<◌, length, get_or, refl, arith}
use Rattle.apv_base.specs.model.Bits.{bin}
use Rattle.apv_base.proofs.BitsLemmas.{length-bits}
use Rattle.apv_bits.specs.Writer.{Appends}
use Rattle.apv_bits.proofs.WriterLemmas.{appends_none}
use Rattle.apv_header.proofs.WriteLemmas.{room_after_bits, appends_more}
use Rattle.apv_header.proofs.write.put_matrix.Goals as goal

pub loop-place-init : goal.loop-place-init
loop-place-init c = record {
  matrix = λ lt. absurd (omega (arith, lt));
  room = omega (arith, c.requires, length-bits c.args.matrix.now);
  appends = appends_none c.args.writer.now;
  slice = refl;
}

pub loop-place-preserved : goal.loop-place-preserved
loop-place-preserved c =
    let i = c.loop-place.invariant in
    let within : c.loop-place.place < length c.args.matrix.now = omega (arith, c.at.ensures.matrix.count, c.loop-place-test.true) in
    let put : Appends c.loop-place.writer c.put.new.self (bin 8 (get_or c.args.matrix.now c.loop-place.place 0)) = rw (← c.at.ensures.value, ← c.from.ensures) c.put.ensures.appends in
    record {
      matrix = λ lt. c.at.ensures.matrix;
      room = omega (arith, i.room, within, room_after_bits c.loop-place.writer c.put.new.self 8 _ put);
      appends = appends_more (bin 8) c.args.matrix.now c.loop-place.place 0 c.args.writer.now c.loop-place.writer c.put.new.self within i.appends put;
      slice = c.put.ensures.slice ∙ i.slice;
    }
