-- Of a closed slot nothing is left and nothing was written: the fact that each outside owes of its slots.
use Rattle.std.specs.Prelude.{ℕ, zero, suc, List, [], ◌∷◌, refl}
use Rattle.apv_files.specs.SlotView.{IsBare}
use Rattle.apv_files.specs.MemorySlot.{view_of, view_in}
use Rattle.apv_files.specs.SlotStatus.{status_in}
use Rattle.apv_files.specs.declared.memory_slot.MemorySlot.{MemorySlot}
use Rattle.apv_files.specs.declared.status.SlotStatus.{SlotStatus}

memory_slot-bare : (s : MemorySlot) → IsBare (view_of s)
memory_slot-bare s closed = (rw closed refl, rw closed refl)

pub slots-bare : (slots : List MemorySlot) (n : ℕ) → IsBare (view_in slots n)
slots-bare [] n closed = (tt, tt)
slots-bare (s ∷ slots) zero closed = memory_slot-bare s closed
slots-bare (s ∷ slots) (suc n) closed = slots-bare slots n closed

pub host_slots-bare : (statuses : List SlotStatus) (n : ℕ) → IsBare (status_in statuses n)
host_slots-bare [] n closed = (tt, tt)
host_slots-bare (s ∷ statuses) zero closed = (tt, tt)
host_slots-bare (s ∷ statuses) (suc n) closed = host_slots-bare statuses n closed
