use Rattle.std.proofs.Common.{◌-◌}
use Rattle.apv_scan.specs.Walk.{TakesMore}
use Rattle.apv_scan.specs.Cursor.{progress_of}
use Rattle.apv_scan.proofs.tables.cursor.Cursor.rest.Given as goal

-- steps were taken
abbrev pub invariant-loop-self : goal.invariant-loop-self
invariant-loop-self l = TakesMore (progress_of l.fn.self l.fn.levels) (progress_of l.self l.levels)

abbrev pub decreases-loop-self : goal.decreases-loop-self
decreases-loop-self l = 64 - l.self.place
