-- What is known of files in memory.
use Rattle.std.specs.Prelude.{ℕ, List, Option, Bool}
use Rattle.apv_base.specs.declared.slot.Slot.{Slot}
use Rattle.apv_files.specs.Calls.{CallsView, calls_of, fails_next}
use Rattle.apv_files.specs.Held.{content_of}
use Rattle.apv_files.specs.SlotView.{SlotView}
use Rattle.apv_files.specs.MemorySlots.{memory_slots_view}
use Rattle.apv_files.specs.declared.calls.Call.{Call}
use Rattle.apv_files.specs.declared.memory.MemoryFiles.{MemoryFiles}

-- the content of the file of a name
abbrev pub memory_held : MemoryFiles → List ℕ → Option (List ℕ)
memory_held m name = content_of m.files name

-- what is known of a slot
abbrev pub memory_view : MemoryFiles → Slot → SlotView
memory_view m slot = memory_slots_view m.slots slot

-- the most bytes that a read or a write moves, where a maximum is set
abbrev pub memory_cut : MemoryFiles → Option ℕ
memory_cut m = m.most

-- the calls of a kind that were made, and those that are set to fail
abbrev pub memory_calls : MemoryFiles → Call → CallsView
memory_calls m call = calls_of m.calls call

-- whether the next call of a kind is set to fail
abbrev pub memory_fails : MemoryFiles → Call → Bool
memory_fails m call = fails_next (memory_calls m call)
