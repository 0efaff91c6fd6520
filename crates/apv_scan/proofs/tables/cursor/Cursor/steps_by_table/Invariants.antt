use Rattle.std.proofs.Common.{◌-◌, ◌≤◌, length}
use Rattle.apv_scan.specs.Walk.{TakesMore, IsSeen}
use Rattle.apv_scan.specs.Cursor.{progress_of}
use Rattle.apv_scan.proofs.tables.cursor.Cursor.steps_by_table.Given as goal

-- steps were taken, and the window has the bits of one more
abbrev pub invariant-loop-window : goal.invariant-loop-window
invariant-loop-window l = record {
  goes : TakesMore (progress_of l.fn.self l.fn.levels) (progress_of l.self l.levels);
  seen : IsSeen l.window l.self.reader.left;
  ahead : 11 ≤ length l.window;
}

abbrev pub decreases-loop-window : goal.decreases-loop-window
decreases-loop-window l = 64 - l.self.place
