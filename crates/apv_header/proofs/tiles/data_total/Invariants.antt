use Rattle.std.proofs.Common.{◌≡◌, ◌≤◌, ◌*◌, ◌^◌, take}
use Rattle.std.specs.List.{sum}
use Rattle.apv_header.proofs.tiles.data_total.Given as goal

-- the sum of the sizes so far
abbrev pub invariant-loop-comp : goal.invariant-loop-comp
invariant-loop-comp l = record {
  total : l.total ≡ sum (take l.comp l.sizes);
  few : l.total ≤ l.comp * 2 ^ 32;
}
