use Rattle.std.proofs.Common.{◌≡◌, ◌*◌, length, take}
use Rattle.std.specs.List.{concat}
use Rattle.apv_header.proofs.write.len_values.Given as goal

-- the values of the matrices so far are counted
abbrev pub invariant-loop-matrix : goal.invariant-loop-matrix
invariant-loop-matrix l = record {
  values : l.len ≡ length (concat (take l.matrix-index l.matrices));
  count : l.len ≡ 64 * l.matrix-index;
}
