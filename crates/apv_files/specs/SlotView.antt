-- What is known of a slot, and what each call on it does.
use Rattle.std.specs.Prelude.{◌≡◌, ℕ, ◌+◌, ◌-◌, ◌^◌, ◌<◌, ◌≤◌, min, List, [], length, map, get_or, take}
use Rattle.std.specs.Prelude.{Option, None, Result, Ok, Err, if◌then◌else◌}
use Rattle.std.specs.Bool.{OnFalse}
use base.Fml.{GName}
use Rattle.std.specs.Io.KnownBytes.{prepend_known, append_known, IsAtEnd}
use Rattle.apv_base.specs.model.Slot.{same_slot}
use Rattle.apv_base.specs.declared.slot.Slot.{Slot}
use Rattle.apv_base.specs.declared.slot.Slot.TheVariants.{Console}
use Rattle.apv_files.specs.declared.files.Mode.{Mode}
use Rattle.apv_files.specs.declared.files.Mode.TheVariants.{Closed, Reading, Writing}
use Rattle.apv_files.specs.declared.files.Failed.{Failed}
use Rattle.apv_files.specs.declared.files.Failed.TheVariants.{Device, Memory}

-- What a slot is made over, where files borrow other ones and have this slot in place of theirs: which files those are, and
-- the mode and the counts of their slot, which no call on this one changes.
pub record Lender : Type 0 where
  pub files : GName
  pub mode : Mode
  pub open_faults : ℕ
  pub read_faults : ℕ
  pub write_faults : ℕ

-- A slot: its mode, the name of the last open or create that was Ok or a device fault, the bytes not yet read and the
-- bytes written since, where they are known, and how often each call failed. The console's faults are its write faults.
pub record SlotView : Type 0 where
  pub mode : Mode
  pub name : List ℕ
  pub left : Option (List ℕ)
  pub written : Option (List ℕ)
  pub open_faults : ℕ
  pub read_faults : ℕ
  pub write_faults : ℕ
  pub lender : Option Lender

-- a count that is higher now, or is at the end of its type
abbrev pub Rose : ℕ → ℕ → Type 0
Rose before now = min (before + 1) (2 ^ 64 - 1) ≤ now

-- a count that rose and didn't fall: what a failed call leaves
pub record Faulted (before now : ℕ) : Type 0 where
  pub later : before ≤ now
  pub rose : Rose before now

-- no call on the slot has failed by the device
pub record NeverFailed (view : SlotView) : Type 0 where
  pub open_faults : view.open_faults ≡ 0
  pub read_faults : view.read_faults ≡ 0
  pub write_faults : view.write_faults ≡ 0

-- no other slot changes
abbrev pub OnlyAt : Slot → (Slot → SlotView) → (Slot → SlotView) → Type 0
OnlyAt slot old new = (other : Slot) → OnFalse (same_slot other slot) (new other ≡ old other)

-- no slot but the console is open
abbrev pub AllClosed : (Slot → SlotView) → Type 0
AllClosed views = (slot : Slot) → OnFalse (same_slot slot Console) ((views slot).mode ≡ Closed)

-- of a closed slot nothing is left and nothing was written, where it is known
abbrev pub IsBare : SlotView → Type 0
IsBare view = view.mode ≡ Closed → IsAtEnd view.left × IsAtEnd view.written

-- a slot on which nothing was done, with what it tells of bytes
abbrev pub fresh_view : Option (List ℕ) → Mode → SlotView
fresh_view bytes mode = record {
  mode = mode;
  name = [];
  left = bytes;
  written = bytes;
  open_faults = 0;
  read_faults = 0;
  write_faults = 0;
  lender = None;
}

-- a slot before any call: the console is writing, and the others are closed
abbrev pub start_view : Option (List ℕ) → Slot → SlotView
start_view bytes slot = fresh_view bytes (if same_slot slot Console then Writing else Closed)

-- an open or a create failed by the device: the slot has that name, and its open faults rose
pub record OpenFailed (old : SlotView) (name : List ℕ) (new : SlotView) : Type 0 where
  pub fault : Faulted old.open_faults new.open_faults
  pub rest : new ≡ record old { name = name; open_faults = new.open_faults }

-- an open or a create failed, by its error
abbrev pub AfterFailedOpen : SlotView → List ℕ → Failed → SlotView → Type 0
AfterFailedOpen old name Device new = OpenFailed old name new
AfterFailedOpen old name Memory new = new ≡ old

abbrev pub AfterOpen : {T : Type 0} → SlotView → List ℕ → Option (List ℕ) → Result T Failed → SlotView → Type 0
AfterOpen old name content (Ok _) new = new ≡ record old { mode = Reading; name = name; left = content }
AfterOpen old name content (Err Device) new = OpenFailed old name new
AfterOpen old name content (Err Memory) new = new ≡ old

-- a file was created: nothing is written yet
pub record Created (old : SlotView) (name : List ℕ) (new : SlotView) : Type 0 where
  pub empty : IsAtEnd new.written
  pub rest : new ≡ record old { mode = Writing; name = name; written = new.written }

abbrev pub AfterCreate : {T : Type 0} → SlotView → List ℕ → Result T Failed → SlotView → Type 0
AfterCreate old name (Ok _) new = Created old name new
AfterCreate old name (Err Device) new = OpenFailed old name new
AfterCreate old name (Err Memory) new = new ≡ old

-- a read took n bytes, which the buffer begins with, and none only at the end
pub record Took (old : SlotView) (n : ℕ) (buf : List ℕ) (new : SlotView) : Type 0 where
  pub fits : n ≤ length buf
  pub prefix : old.left ≡ prepend_known (take n buf) new.left
  pub end : n ≡ 0 → IsAtEnd old.left
  pub rest : new ≡ record old { left = new.left }

-- a read failed by the device: its count rose, and all else stayed
pub record ReadFailed (old new : SlotView) : Type 0 where
  pub fault : Faulted old.read_faults new.read_faults
  pub rest : new ≡ record old { read_faults = new.read_faults }

abbrev pub AfterRead : SlotView → Result ℕ Failed → List ℕ → SlotView → Type 0
AfterRead old (Ok n) buf new = Took old n buf new
AfterRead old (Err Device) buf new = ReadFailed old new
AfterRead old (Err Memory) buf new = new ≡ old

-- a write appended n bytes, which the piece begins with, and none only of an empty piece
pub record Put (old : SlotView) (n : ℕ) (piece : List ℕ) (new : SlotView) : Type 0 where
  pub fits : n ≤ length piece
  pub some : 0 < length piece → 0 < n
  pub rest : new ≡ record old { written = append_known old.written (take n piece) }

-- a write failed by the device: its count rose, and all else stayed
pub record WriteFailed (old new : SlotView) : Type 0 where
  pub fault : Faulted old.write_faults new.write_faults
  pub rest : new ≡ record old { write_faults = new.write_faults }

abbrev pub AfterWrite : SlotView → List ℕ → Result ℕ Failed → SlotView → Type 0
AfterWrite old piece (Ok n) new = Put old n piece new
AfterWrite old piece (Err Device) new = WriteFailed old new
AfterWrite old piece (Err Memory) new = new ≡ old

-- the view of the element at an index of a list, by the view of each element
abbrev pub view_by : {X : Type 0} → (X → SlotView) → List X → ℕ → SlotView
view_by f xs n = get_or (map f xs) n (fresh_view None Closed)
