-- What many reads or many writes on one slot do.
use Rattle.std.specs.Prelude.{◌≡◌, ℕ, ◌<◌, ◌≤◌, List, length, ◌++◌, take, Result, Ok, Err}
use Rattle.std.specs.Io.KnownBytes.{prepend_known, append_known, IsAtEnd}
use Rattle.apv_files.specs.SlotView.{SlotView, Faulted}
use Rattle.apv_files.specs.declared.files.Failed.{Failed}
use Rattle.apv_files.specs.declared.files.Failed.TheVariants.{Device, Memory}

-- reads took these bytes
pub record TookAll (old : SlotView) (bytes : List ℕ) (new : SlotView) : Type 0 where
  pub prefix : old.left ≡ prepend_known bytes new.left
  pub rest : new ≡ record old { left = new.left }

-- reads took these bytes, and then one failed by the device
pub record TookFailed (old : SlotView) (bytes : List ℕ) (new : SlotView) : Type 0 where
  pub prefix : old.left ≡ prepend_known bytes new.left
  pub fault : Faulted old.read_faults new.read_faults
  pub rest : new ≡ record old { left = new.left; read_faults = new.read_faults }

-- writes appended these bytes
abbrev pub WroteAll : SlotView → List ℕ → SlotView → Type 0
WroteAll old bytes new = new ≡ record old { written = append_known old.written bytes }

-- writes appended these bytes, and then one failed by the device
pub record WroteFailed (old : SlotView) (bytes : List ℕ) (new : SlotView) : Type 0 where
  pub fault : Faulted old.write_faults new.write_faults
  pub rest : new ≡ record old { written = append_known old.written bytes; write_faults = new.write_faults }

-- ---- reads of n bytes

-- reads took these bytes, at most count, and fewer only up to the end
pub record TookSome (old : SlotView) (count : ℕ) (bytes : List ℕ) (new : SlotView) : Type 0 where
  pub took : TookAll old bytes new
  pub most : length bytes ≤ count
  pub end : length bytes < count → IsAtEnd new.left

-- reads took fewer than count bytes, and then one failed by the device
pub record ReadsFailed (old : SlotView) (count : ℕ) (new : SlotView) : Type 0 where
  pub taken : List ℕ
  pub short : length taken < count
  pub failed : TookFailed old taken new

-- reads took at most count bytes, and then memory ran out
pub record ReadsStopped (old : SlotView) (count : ℕ) (new : SlotView) : Type 0 where
  pub taken : List ℕ
  pub most : length taken ≤ count
  pub took : TookAll old taken new

-- reads of count bytes
abbrev pub ReadsSome : {T : Type 0} → SlotView → ℕ → Result T Failed → List ℕ → SlotView → Type 0
ReadsSome old count (Ok _) bytes new = TookSome old count bytes new
ReadsSome old count (Err Device) bytes new = ReadsFailed old count new
ReadsSome old count (Err Memory) bytes new = ReadsStopped old count new

-- ---- reads into a buffer

-- the buffer begins with the n bytes that reads took, and it isn't full only at the end
pub record Filled (old : SlotView) (n : ℕ) (buf : List ℕ) (new : SlotView) : Type 0 where
  pub fits : n ≤ length buf
  pub took : TookAll old (take n buf) new
  pub end : n < length buf → IsAtEnd new.left

-- reads until the buffer is full
abbrev pub Fills : SlotView → Result ℕ Failed → List ℕ → SlotView → Type 0
Fills old (Ok n) buf new = Filled old n buf new
Fills old (Err Device) buf new = ReadsFailed old (length buf) new
Fills old (Err Memory) buf new = ReadsStopped old (length buf) new

-- ---- reads into a vector

-- the bytes that reads took follow those that were there before
pub record TookMore (old : SlotView) (count : ℕ) (before after : List ℕ) (new : SlotView) : Type 0 where
  pub taken : List ℕ
  pub grown : after ≡ before ++ taken
  pub some : TookSome old count taken new

-- reads of count bytes, which are put after those that were there before
abbrev pub ReadsMore : {T : Type 0} → SlotView → ℕ → Result T Failed → List ℕ → List ℕ → SlotView → Type 0
ReadsMore old count (Ok _) before after new = TookMore old count before after new
ReadsMore old count (Err Device) before after new = ReadsFailed old count new
ReadsMore old count (Err Memory) before after new = ReadsStopped old count new

-- ---- writes of all bytes of a list

-- a prefix of the bytes was written, but not all, and then a write failed by the device
pub record WritesFailed (old : SlotView) (bytes : List ℕ) (new : SlotView) : Type 0 where
  pub count : ℕ
  pub short : count < length bytes
  pub failed : WroteFailed old (take count bytes) new

-- a prefix of the bytes was written, but not all, and then memory ran out
pub record WritesStopped (old : SlotView) (bytes : List ℕ) (new : SlotView) : Type 0 where
  pub count : ℕ
  pub short : count < length bytes
  pub wrote : WroteAll old (take count bytes) new

-- writes of all the bytes
abbrev pub WritesAll : {T : Type 0} → SlotView → List ℕ → Result T Failed → SlotView → Type 0
WritesAll old bytes (Ok _) new = WroteAll old bytes new
WritesAll old bytes (Err Device) new = WritesFailed old bytes new
WritesAll old bytes (Err Memory) new = WritesStopped old bytes new
