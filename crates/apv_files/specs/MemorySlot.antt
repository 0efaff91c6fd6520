-- What is known of a slot over files in memory: all of it.
use Rattle.std.specs.Prelude.{ℕ, List, [], drop, Some, string_bytes, None}
use Rattle.apv_files.specs.SlotView.{SlotView, view_by}
use Rattle.apv_files.specs.declared.files.Mode.{Mode}
use Rattle.apv_files.specs.declared.files.Mode.TheVariants.{Closed, Reading, Writing}
use Rattle.apv_files.specs.declared.memory_slot.MemorySlot.{MemorySlot}

-- the bytes of its file that aren't read yet
abbrev pub left_of : Mode → MemorySlot → List ℕ
left_of Reading s = drop s.at s.bytes.items
left_of Writing s = []
left_of Closed s = []

-- the bytes that were written to its file
abbrev pub written_of : Mode → MemorySlot → List ℕ
written_of Writing s = s.bytes.items
written_of Reading s = []
written_of Closed s = []

abbrev pub view_of : MemorySlot → SlotView
view_of s = record {
  mode = s.status.mode;
  name = string_bytes s.status.name;
  left = Some (left_of s.status.mode s);
  written = Some (written_of s.status.mode s);
  open_faults = s.status.open_faults;
  read_faults = s.status.read_faults;
  write_faults = s.status.write_faults;
  lender = None;
}

abbrev pub view_in : List MemorySlot → ℕ → SlotView
view_in slots n = view_by view_of slots n
