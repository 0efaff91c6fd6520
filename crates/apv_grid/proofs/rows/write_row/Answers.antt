use Rattle.std.proofs.Common.{◌≡◌, ◌∙◌, ◌+◌, ◌-◌, length, take, drop, arith}
use Rattle.apv_grid.proofs.RowLemmas.{filled-small, piece-length, segment-within, write-more}
use Rattle.apv_grid.proofs.rows.write_row.Goals as goal

pub overflow_cast-here : goal.overflow_cast-here
overflow_cast-here c = omega (arith, filled-small c.args.grid.now c.args.comp c.requires.sound)

pub overflow_add-here : goal.overflow_add-here
overflow_add-here c = omega (arith, filled-small c.args.grid.now c.args.comp c.requires.sound)

pub write_runs-requires-clause-small : goal.write_runs-requires-clause-small
write_runs-requires-clause-small c =
    omega (arith, c.segment_at-segment.ensures.small, piece-length c.args.row.now c.loop-done.done c.segment_at-segment.result.len (omega arith))

pub write_runs-requires-clause-within : goal.write_runs-requires-clause-within
write_runs-requires-clause-within c =
    let segment = c.segment_at-segment.result in
    segment-within c.args.grid.now c.args.comp (c.args.x + c.loop-done.done) c.args.y segment.start segment.first segment.half segment.len _ (length c.loop-done.values) c.requires.sound c.segment_at-segment.ensures.segment
    (piece-length c.args.row.now c.loop-done.done segment.len (omega arith)) (c.loop-done.auto.values ∙ c.requires.all)

pub loop-done-preserved : goal.loop-done-preserved
loop-done-preserved c =
    let segment = c.segment_at-segment.result in
    let piece = take (c.loop-done.done + segment.len - c.loop-done.done) (drop c.loop-done.done c.args.row.now) in
    let size : length piece ≡ segment.len = piece-length c.args.row.now c.loop-done.done segment.len (omega arith) in
    record {
      range = omega arith;
      written = write-more c.args.grid.now c.args.comp c.args.x c.args.y segment.start segment.first segment.half c.args.row.now c.args.values.now c.loop-done.values c.write_runs.new.values
          c.loop-done.done segment.len (length piece) c.requires.sound c.segment_at-segment.ensures.segment (omega arith) size c.loop-done.invariant.written c.write_runs.ensures;
    }
