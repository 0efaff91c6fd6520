use Rattle.std.proofs.Common.{◌/◌, length, refl, arith}
use Rattle.std.proofs.lemmas.Result.{err_from_is_err_and}
use Rattle.apv_tile.proofs.DecodeLemmas.{one_more_decoded, breaks_at, misaligned}
use Rattle.apv_tile.proofs.TransformLemmas.{samples_of_levels}
use Rattle.apv_tile.proofs.decode.decode.Goals as goal

pub returns-in_err-read : goal.returns-in_err-read
returns-in_err-read c =
    let p = err_from_is_err_and c.from_residual.result c.from_residual.ensures.1 in
    rw (p.1, p.2)
    (record {
      ok = tt {0};
      err = breaks_at c.args.scaling.now c.args.depth c.args.bytes.now (length c.args.samples.now / 64) c.loop-block.block c.loop-block.reader c.loop-block.context c.loop-block.samples _
          c.loop-block.invariant c.loop-block-test.true c.in_err-read.ensures.read;
    })

pub loop-block-preserved : goal.loop-block-preserved
loop-block-preserved c =
    one_more_decoded c.args.scaling.now c.args.depth c.args.bytes.now c.loop-block.block c.loop-block.reader c.read.new.reader c.loop-block.context c.read.new.context
    c.loop-block.samples c.store.new.values c.read.new.levels c.inverse.result
    c.loop-block.invariant c.read.ensures.block c.in_ok-read.ensures.read.takes c.in_ok-read.ensures.read.next c.store.ensures.here c.store.ensures.others
    (samples_of_levels c.args.scaling.now c.args.depth c.read.new.levels c.scale_block-coeffs.result c.inverse.result c.scale_block-coeffs.ensures c.inverse.ensures.value)

pub returns-in-Err : goal.returns-in-Err
returns-in-Err c =
    record {
      ok = tt {0};
      err = misaligned c.args.scaling.now c.args.depth c.args.bytes.now (length c.args.samples.now / 64) c.loop-block.block c.loop-block.reader c.loop-block.context c.loop-block.samples
          c.loop-block.invariant (omega arith) (c.in-Err.ensures.not_zero.0 refl);
    }
