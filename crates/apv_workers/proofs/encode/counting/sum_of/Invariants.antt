use Rattle.std.proofs.Common.{◌≡◌, ◌*◌, ◌^◌, ◌≤◌, take}
use Rattle.std.specs.List.{sum}
use Rattle.apv_workers.proofs.encode.counting.sum_of.Given as goal

abbrev pub invariant-loop-length : goal.invariant-loop-length
invariant-loop-length l = record { total : l.total ≡ sum (take l.length-index l.lengths); few : l.total ≤ l.length-index * 2 ^ 32 }
