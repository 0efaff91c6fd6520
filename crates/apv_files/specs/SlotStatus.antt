-- What is known of a slot over real files: its status, and no bytes.
use Rattle.std.specs.Prelude.{ℕ, List, None, string_bytes}
use Rattle.apv_files.specs.SlotView.{SlotView, view_by}
use Rattle.apv_files.specs.declared.status.SlotStatus.{SlotStatus}

abbrev pub status_view : SlotStatus → SlotView
status_view s = record {
  mode = s.mode;
  name = string_bytes s.name;
  left = None;
  written = None;
  open_faults = s.open_faults;
  read_faults = s.read_faults;
  write_faults = s.write_faults;
  lender = None;
}

abbrev pub status_in : List SlotStatus → ℕ → SlotView
status_in statuses n = view_by status_view statuses n
