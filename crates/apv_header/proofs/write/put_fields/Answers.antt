use Rattle.std.proofs.Common.{◌∙◌, arith}
use Rattle.apv_base.specs.model.Bits.{bin}
use Rattle.apv_header.proofs.WriteLemmas.{fields_at, fields_bits_at, room_after_bits, appends_more, left_after_fields}
use Rattle.apv_header.proofs.write.put_fields.Goals as goal

pub loop-value-preserved : goal.loop-value-preserved
loop-value-preserved c =
    let i = c.loop-value.invariant in
    record {
      fields = (fields_at c.args.fields.now c.loop-value.value-index (0, 0) c.loop-value-test.true i.fields).2;
      room = omega (arith, i.room, fields_bits_at c.args.fields.now c.loop-value.value-index (0, 0) c.loop-value-test.true, room_after_bits c.loop-value.writer c.put.new.self _ _ c.put.ensures.appends);
      appends = appends_more (λ field. bin field.1 field.0) c.args.fields.now c.loop-value.value-index (0, 0) c.args.writer.now c.loop-value.writer c.put.new.self c.loop-value-test.true i.appends c.put.ensures.appends;
      slice = c.put.ensures.slice ∙ i.slice;
    }

pub returns-clause-left : goal.returns-clause-left
returns-clause-left c = left_after_fields c.args.fields.now c.loop-value.value-index _ _ c.loop-value-test.false c.requires.room c.loop-value.invariant.appends
