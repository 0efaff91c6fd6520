use Rattle.std.proofs.Common.{length, arith}
use Rattle.apv_grid.proofs.BandLemmas.{band-within, band-more}
use Rattle.apv_grid.proofs.bands.read_band.Goals as goal

pub read_blocks-requires-clause-within : goal.read_blocks-requires-clause-within
read_blocks-requires-clause-within c = λ row i h k.
    let segment = c.segment_at-segment.result in
    band-within c.args.grid.now c.args.comp c.loop-done.done c.args.y segment.start segment.first segment.half segment.len c.args.rows row i (length c.args.values.now) c.requires.sound
    c.segment_at-segment.ensures.segment c.requires.block c.requires.y h k c.requires.all

pub loop-done-preserved : goal.loop-done-preserved
loop-done-preserved c =
    let segment = c.segment_at-segment.result in
    record {
      inside = omega (arith, c.segment_at-segment.ensures.some);
      read =
          band-more c.args.grid.now c.args.comp c.args.y segment.start segment.first segment.half c.args.values.now c.loop-done.out c.read_blocks.new.out c.args.rows c.args.width c.loop-done.done segment.len
          c.segment_at-segment.ensures.segment c.requires.block c.loop-done.invariant.read c.read_blocks.ensures;
    }
