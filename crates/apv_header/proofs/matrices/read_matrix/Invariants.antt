use Rattle.std.proofs.Common.{◌≡◌, ◌+◌, ◌-◌, ◌*◌, ◌<◌, ℕ, length, take, get_or}
use Rattle.apv_base.specs.declared.rules.HeadEnd.{HeadEnd}
use Rattle.apv_base.specs.model.Table.{Table}
use Rattle.apv_header.specs.Fields.{WalksBits}
use Rattle.apv_header.specs.Parts.{matrix_value_fields}
use Rattle.apv_header.proofs.matrices.read_matrix.Given as goal

-- the values so far are those of the first fields, and each is 1 to 255
abbrev pub invariant-loop-place : goal.invariant-loop-place
invariant-loop-place l = record {
  count : length l.values ≡ 64;
  some : (k : ℕ) → k < l.place → (0 < get_or l.values k 0) × (get_or l.values k 0 < 256);
  passed : (more : ℕ) (next : Table HeadEnd)
      → WalksBits (matrix_value_fields (64 + more) next) l.fn.reader (8 * l.place) (take l.place l.values) (matrix_value_fields (64 - l.place + more) next) l.reader;
}
