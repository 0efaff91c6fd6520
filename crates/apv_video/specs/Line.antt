-- What a call that reads a line takes.
use Rattle.std.specs.Prelude.{◌≡◌, ℕ, ◌<◌, ◌≤◌, List, [], ◌∷◌, ◌++◌, length, take, true, not, ◌==◌}
use Rattle.std.specs.Prelude.{Option, Some, None, Result, Ok, Err}
use Rattle.std.specs.List.{list_all}
use Rattle.std.specs.Io.KnownBytes.{IsAtEnd}
use Rattle.apv_files.specs.SlotView.{SlotView}
use Rattle.apv_files.specs.Loops.{TookAll, TookFailed}
use Rattle.apv_files.specs.declared.files.Failed.{Failed}
use Rattle.apv_files.specs.declared.files.Failed.TheVariants.{Device, Memory}

-- no line feed is among the bytes
abbrev pub HasNoFeed : List ℕ → Type 0
HasNoFeed bytes = list_all (λ byte. not (byte == 10)) bytes ≡ true

-- the first n bytes of the buffer are a line, which was taken with its line feed
pub record TookLine (old : SlotView) (n : ℕ) (buf : List ℕ) (new : SlotView) : Type 0 where
  pub fits : n < length buf
  pub line : HasNoFeed (take n buf)
  pub took : TookAll old (take n buf ++ 10 ∷ []) new

-- as many bytes as the buffer has were taken, or all that were left, and no line feed is among them
pub record TookNoLine (old : SlotView) (size : ℕ) (new : SlotView) : Type 0 where
  pub taken : List ℕ
  pub line : HasNoFeed taken
  pub most : length taken ≤ size
  pub end : length taken < size → IsAtEnd new.left
  pub took : TookAll old taken new

-- bytes of a line were taken, and then a read failed by the device
pub record LineFailed (old : SlotView) (size : ℕ) (new : SlotView) : Type 0 where
  pub taken : List ℕ
  pub line : HasNoFeed taken
  pub most : length taken < size
  pub failed : TookFailed old taken new

-- bytes of a line were taken, and then memory ran out
pub record LineStopped (old : SlotView) (size : ℕ) (new : SlotView) : Type 0 where
  pub taken : List ℕ
  pub line : HasNoFeed taken
  pub most : length taken < size
  pub took : TookAll old taken new

-- a line was read
abbrev pub ReadsLine : SlotView → Result (Option ℕ) Failed → List ℕ → SlotView → Type 0
ReadsLine old (Ok (Some n)) buf new = TookLine old n buf new
ReadsLine old (Ok None) buf new = TookNoLine old (length buf) new
ReadsLine old (Err Device) buf new = LineFailed old (length buf) new
ReadsLine old (Err Memory) buf new = LineStopped old (length buf) new
