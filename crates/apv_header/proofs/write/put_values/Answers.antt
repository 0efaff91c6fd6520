use Rattle.std.proofs.Common.{◌∙◌, arith}
use Rattle.apv_base.specs.model.Bits.{bits}
use Rattle.apv_header.proofs.WriteLemmas.{list_room, room_after, appends_list}
use Rattle.apv_header.proofs.write.put_values.Goals as goal

pub loop-matrix-preserved : goal.loop-matrix-preserved
loop-matrix-preserved c =
    let i = c.loop-matrix.invariant in
    record {
      room = omega (
        arith,
        i.room,
        list_room c.args.matrices.now c.loop-matrix.matrix-index c.matrix-item.result c.loop-matrix-test.true c.matrix-item.is,
        room_after c.loop-matrix.writer c.put_matrix.new.writer (bits c.matrix-item.result) c.put_matrix.ensures.appends,
      );
      appends = appends_list c.args.matrices.now c.loop-matrix.matrix-index c.matrix-item.result c.args.writer.now c.loop-matrix.writer c.put_matrix.new.writer
          c.loop-matrix-test.true c.matrix-item.is i.appends c.put_matrix.ensures.appends;
      slice = c.put_matrix.ensures.slice ∙ i.slice;
    }
