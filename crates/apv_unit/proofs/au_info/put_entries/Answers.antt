use Rattle.std.proofs.Common.{◌≡◌, ◌∙◌, ◌++◌, ap, length, arith, length-append}
use Rattle.apv_unit.proofs.AuInfoWriteLemmas.{piece-written}
use Rattle.apv_unit.proofs.au_info.put_entries.Goals as goal

pub loop-index-preserved : goal.loop-index-preserved
loop-index-preserved c =
    let front = c.split_at_mut-rest.ensures in
    let rest = c.split_at_mut-here.ensures in
    let piece : length c.put_entry.new.out ≡ 16 = c.put_entry.auto.out ∙ rest.front_len in
    record {
      size = omega (
        arith,
        c.loop-index.invariant.size,
        length-append c.split_at_mut-rest.result.0.now (c.put_entry.new.out ++ c.split_at_mut-here.result.1.now),
        length-append c.put_entry.new.out c.split_at_mut-here.result.1.now,
        ap length front.value,
        length-append c.split_at_mut-rest.result.0.now c.split_at_mut-rest.result.1.now,
        ap length rest.value,
        length-append c.split_at_mut-here.result.0.now c.split_at_mut-here.result.1.now,
        rest.front_len,
        piece,
      );
      written = piece-written c.args.entries.now c.loop-index.index _ c.loop-index.out c.split_at_mut-rest.result.0.now c.split_at_mut-rest.result.1.now c.put_entry.new.out c.split_at_mut-here.result.1.now
          c.loop-index-test.true c.loop-index.invariant.written front.value front.front_len c.put_entry.ensures piece;
    }
