-- What a call for the next access unit takes and returns.
use Rattle.std.specs.Prelude.{◌≡◌, ℕ, ◌+◌, ◌<◌, ◌≤◌, List, ◌++◌, length, Bool, true, false, Result, Ok, Err, ◌⊎◌}
use Rattle.std.specs.Io.KnownBytes.{prepend_known, IsAtEnd}
use Rattle.apv_base.specs.declared.exits.Exit.{Exit}
use Rattle.apv_base.specs.declared.exits.Exit.TheVariants as exits
use Rattle.apv_base.specs.model.Run.{MAX_UNIT, MAX_UNITS, sized, HasAuSize, SizeStops}
use Rattle.apv_files.specs.SlotView.{SlotView, Faulted}
use Rattle.apv_files.specs.Loops.{TookAll}
use Rattle.apv_dec.specs.declared.unit.UnitRead.{UnitRead}
use Rattle.apv_dec.specs.declared.unit.UnitRead.TheVariants.{Broken, Limit, Read, Memory}

-- no more was taken than the four bytes of a size, and than that many bytes after them
abbrev pub IsWithinUnit : List ℕ → Type 0
IsWithinUnit taken =
    (length taken ≤ 4)
    ⊎ ((size : ℕ) × HasAuSize taken size × (size ≤ MAX_UNIT) × (length taken ≤ 4 + size))

-- a unit of a permitted size was taken
pub record TookUnit (number : ℕ) (old : SlotView) (unit : List ℕ) (new : SlotView) : Type 0 where
  pub took : TookAll old (sized unit) new
  pub small : length unit ≤ MAX_UNIT
  pub more : number < MAX_UNITS

-- all that was left was taken, and no unit is there
pub record StopsAtEnd (number : ℕ) (old : SlotView) (exit : Exit) (new : SlotView) : Type 0 where
  pub taken : List ℕ
  pub took : TookAll old taken new
  pub end : IsAtEnd new.left
  pub stops : SizeStops number taken exit
  pub within : IsWithinUnit taken

-- at most the size was taken, and no unit is there, whatever follows
pub record StopsBefore (number : ℕ) (old : SlotView) (exit : Exit) (new : SlotView) : Type 0 where
  pub taken : List ℕ
  pub took : TookAll old taken new
  pub stops : (more : List ℕ) → SizeStops number (taken ++ more) exit
  pub short : length taken ≤ 4

-- some bytes were taken, and then a read failed
pub record ReadFails (old new : SlotView) : Type 0 where
  pub taken : List ℕ
  pub within : IsWithinUnit taken
  pub prefix : old.left ≡ prepend_known taken new.left
  pub fault : Faulted old.read_faults new.read_faults
  pub rest : new ≡ record old { left = new.left; read_faults = new.read_faults }

-- some bytes were taken, and then memory ran out
pub record MemoryFails (old new : SlotView) : Type 0 where
  pub taken : List ℕ
  pub within : IsWithinUnit taken
  pub took : TookAll old taken new

abbrev pub NextUnit : ℕ → SlotView → Result Bool UnitRead → List ℕ → SlotView → Type 0
NextUnit number old (Ok true) unit new = TookUnit number old unit new
NextUnit number old (Ok false) unit new = (new ≡ old) × IsAtEnd old.left
NextUnit number old (Err (Broken break)) unit new = StopsAtEnd number old (exits.Broken break) new
NextUnit number old (Err (Limit limit count)) unit new = StopsBefore number old (exits.LimitMet limit count) new
NextUnit number old (Err Read) unit new = ReadFails old new
NextUnit number old (Err Memory) unit new = MemoryFails old new

-- after the first n bytes there are further ones, which are new where there were none, and no more than count bytes in all
pub record HasRoom (old : List ℕ) (used count : ℕ) (new : List ℕ) : Type 0 where
  pub more : List ℕ
  pub parts : new ≡ old ++ more
  pub room : used < length new
  pub few : length new ≤ count
