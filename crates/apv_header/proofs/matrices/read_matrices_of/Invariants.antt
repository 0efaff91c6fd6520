use Rattle.std.proofs.Common.{◌≡◌, ◌-◌, ◌*◌, ◌<◌, ◌≤◌, ℕ, [], length, take}
use Rattle.std.specs.Prelude.{slice_index_or}
use Rattle.std.specs.List.{concat}
use Rattle.apv_base.specs.declared.rules.HeadEnd.{HeadEnd}
use Rattle.apv_base.specs.model.Header.{flat}
use Rattle.apv_base.specs.model.Quant.{IsMatrix}
use Rattle.apv_base.specs.model.Table.{Table}
use Rattle.apv_header.specs.Fields.{WalksBits}
use Rattle.apv_header.specs.Parts.{matrix_value_fields}
use Rattle.apv_header.proofs.matrices.read_matrices_of.Given as goal

-- the matrices so far are those of the first components, and the others are flat
abbrev pub invariant-loop-comp : goal.invariant-loop-comp
invariant-loop-comp l = record {
  count : length l.matrices ≡ 4;
  flat : (k : ℕ) → l.comp ≤ k → k < 4 → slice_index_or l.matrices k [] ≡ flat;
  each : (k : ℕ) → k < 4 → IsMatrix (slice_index_or l.matrices k []);
  passed : (next : Table HeadEnd)
      → WalksBits (matrix_value_fields (64 * l.comps) next) l.fn.reader (512 * l.comp) (concat (take l.comp l.matrices)) (matrix_value_fields (64 * (l.comps - l.comp)) next) l.reader;
}
