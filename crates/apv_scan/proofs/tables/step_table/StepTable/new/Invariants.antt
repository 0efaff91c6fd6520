use Rattle.std.proofs.Common.{◌≡◌, ℕ, ◌/◌, ◌%◌, ◌<◌, get_or, vec_len}
use Rattle.apv_base.specs.model.Bits.{bin}
use Rattle.apv_scan.specs.Table.{IsEntry}
use Rattle.apv_scan.specs.declared.tables.step_table.Entry.{Entry}
use Rattle.apv_scan.proofs.tables.step_table.StepTable.new.Given as goal

-- the entries so far
abbrev pub invariant-loop-index : goal.invariant-loop-index
invariant-loop-index l = record {
  count : vec_len l.entries ≡ l.index;
  right : (i : ℕ) (none : Entry) → i < l.index → IsEntry (i / 2048) (bin 11 (i % 2048)) (get_or l.entries.items i none);
}
