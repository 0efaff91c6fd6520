use Rattle.std.proofs.Common.{◌≡◌, ◌*◌, ◌^◌, ◌≤◌, take}
use Rattle.std.specs.List.{sum}
use Rattle.apv_workers.proofs.decode.data_before.Given as goal

abbrev pub invariant-loop-before : goal.invariant-loop-before
invariant-loop-before l = record { total : l.total ≡ sum (take l.before l.lengths); few : l.total ≤ l.before * 2 ^ 32 }
