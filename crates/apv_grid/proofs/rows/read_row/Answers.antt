use Rattle.std.proofs.Common.{◌≡◌, ◌∙◌, ◌+◌, ◌-◌, length, take, drop, arith, rules}
use Rattle.apv_grid.proofs.RowLemmas.{filled-small, piece-length, segment-within, read-more}
use Rattle.apv_grid.proofs.rows.read_row.Goals as goal

pub overflow_cast-here : goal.overflow_cast-here
overflow_cast-here c = omega (arith, filled-small c.args.grid.now c.args.comp c.requires.sound)

pub overflow_add-here : goal.overflow_add-here
overflow_add-here c = omega (arith, filled-small c.args.grid.now c.args.comp c.requires.sound)

pub read_runs-requires-clause-small : goal.read_runs-requires-clause-small
read_runs-requires-clause-small c =
    omega (arith, c.segment_at-segment.ensures.small, piece-length c.loop-done.row c.loop-done.done c.segment_at-segment.result.len (omega arith))

pub read_runs-requires-clause-within : goal.read_runs-requires-clause-within
read_runs-requires-clause-within c =
    let segment = c.segment_at-segment.result in
    segment-within c.args.grid.now c.args.comp (c.args.x + c.loop-done.done) c.args.y segment.start segment.first segment.half segment.len _ (length c.args.values.now) c.requires.sound c.segment_at-segment.ensures.segment
    (piece-length c.loop-done.row c.loop-done.done segment.len (omega arith)) c.requires.all

pub loop-done-preserved : goal.loop-done-preserved
loop-done-preserved c =
    let segment = c.segment_at-segment.result in
    let piece = take (c.loop-done.done + segment.len - c.loop-done.done) (drop c.loop-done.done c.loop-done.row) in
    let size : length piece ≡ segment.len = piece-length c.loop-done.row c.loop-done.done segment.len (omega arith) in
    record {
      range = search rules;
      read = read-more c.args.grid.now c.args.comp c.args.x c.args.y segment.start segment.first segment.half c.args.values.now c.loop-done.row piece c.read_runs.new.row c.loop-done.done
          segment.len c.segment_at-segment.ensures.segment (omega arith) (c.read_runs.auto.row ∙ size) size c.loop-done.invariant.read c.read_runs.ensures;
    }
