-- Reading the levels after a block's first, a run and a level at a time.
use Rattle.std.specs.Prelude.{◌≡◌, ℕ, ℤ, pos, ◌-◌, ◌<◌, ◌≤◌, List, ◌++◌, length, take, unsigned_abs, ◌==◌}
use Rattle.std.specs.Prelude.{if◌then◌else◌, Bool, Result, Ok, Err}
use Rattle.std.specs.Bool.{OnTrue, OnFalse}
use Rattle.apv_base.specs.model.Quant.{IsLevel}
use Rattle.apv_base.specs.model.Scan.{level_at}
use Rattle.apv_base.specs.model.Block.{Element, bits_of, ac_from, places, first_size, ArePermitted}
use Rattle.apv_bits.specs.Reader.{Unread, Takes}
use Rattle.apv_scan.specs.BlockBreak.{rule_of}
use Rattle.apv_scan.specs.Reading.{AcBreaks}
use Rattle.apv_scan.specs.Table.{context_number}
use Rattle.apv_scan.specs.declared.block_break.BlockBreak.{BlockBreak}

-- the size of the first level from a place on, or another where there is none
abbrev pub first_from : (ℕ → ℤ) → ℕ → ℕ → ℕ
first_from z p otherwise = first_size z (places z (64 - p) p) otherwise

-- the same levels after the first, up to a place
abbrev pub Agrees : (ℕ → ℤ) → (ℕ → ℤ) → ℕ → Type 0
Agrees z y place = (q : ℕ) → 0 < q → q < place → z q ≡ y q

-- What was read from old on, up to the place, is the start of the elements of each block with these
-- levels there; found is the size of the first of them that isn't 0, or 0.
pub record Walk (first : ℕ) (old : Unread) (y : ℕ → ℤ) (place run level found : ℕ) (new : Unread)
    : Type 0 where
  pub whole : List Element
  pub takes : Takes old new (bits_of whole)
  pub permitted : ArePermitted whole
  pub all : (z : ℕ → ℤ) → Agrees z y place
      → ac_from z 0 0 first 1 ≡ whole ++ ac_from z (place - 1) run level place
  pub found_is : (z : ℕ → ℤ) → Agrees z y place
      → first_from z 1 first ≡ (if found == 0 then first_from z place first else found)

-- ---- reading with the parameters of the next code words at hand

-- what was read so far: the levels, the place of the next, the number of its context, and the bits
-- that are left
pub record Progress : Type 0 where
  pub levels : List ℤ
  pub place : ℕ
  pub context : ℕ
  pub unread : Unread

-- what was read from old on are the levels so far; those from the place on are 0
pub record Walked (first : ℕ) (old : Unread) (found : ℕ) (now : Progress) : Type 0 where
  pub run : ℕ
  pub size : ℕ
  pub walk : Walk first old (level_at now.levels) now.place run size found now.unread
  pub context : now.context ≡ context_number run size
  pub count : length now.levels ≡ 64
  pub permitted : (q : ℕ) → q < 64 → IsLevel (level_at now.levels q)
  pub zeros : (q : ℕ) → now.place ≤ q → q < 64 → level_at now.levels q ≡ pos 0

-- the size of the last level so far
abbrev pub last_size : Progress → ℕ
last_size now = unsigned_abs (level_at now.levels (now.place - 1))

-- one run and level more is read
pub record TakesRunLevel (old new : Progress) : Type 0 where
  pub later : old.place < new.place
  pub dc : level_at new.levels 0 ≡ level_at old.levels 0
  pub some : 0 < last_size new
  pub walked : (first : ℕ) (start : Unread) (found : ℕ) → Walked first start found old
      → Walked first start (if found == 0 then last_size new else found) new

-- runs and levels more are read, none or more; a level was found before
pub record TakesMore (old new : Progress) : Type 0 where
  pub later : old.place ≤ new.place
  pub dc : level_at new.levels 0 ≡ level_at old.levels 0
  pub walked : (first : ℕ) (start : Unread) (found : ℕ) → 0 < found → Walked first start found old
      → Walked first start found new

-- one run and level more is read, or several; a level was found before
pub record TakesSome (old new : Progress) : Type 0 where
  pub later : old.place < new.place
  pub goes : TakesMore old new

-- the first run and level of a block is read, or several: the size is that of the first level
pub record Begins (old new : Progress) (size : ℕ) : Type 0 where
  pub dc : level_at new.levels 0 ≡ level_at old.levels 0
  pub some : 0 < size
  pub walked : (first : ℕ) (start : Unread) → Walked first start 0 old
      → Walked first start size new

-- the block ends; what is left is new
abbrev pub EndsBlock : Progress → Unread → Type 0
EndsBlock now new = (first : ℕ) (start : Unread) (found : ℕ) → Walked first start found now
    → Takes start new (bits_of (ac_from (level_at now.levels) 0 0 first 1))

-- the bits break at the next run or level
abbrev pub BreaksNext : Progress → BlockBreak → Type 0
BreaksNext now why = (first : ℕ) (start : Unread) (found : ℕ) → Walked first start found now
    → AcBreaks (level_at now.levels 0) first start.left (rule_of why)

-- one run and level more is read, or the run up to the block's end
pub record TakesStep (old : Progress) (more : Bool) (new : Progress) : Type 0 where
  pub steps : OnTrue more (TakesRunLevel old new)
  pub ends : OnFalse more (EndsBlock old new.unread)
  pub same : OnFalse more (new.levels ≡ old.levels)

-- the next step is read, or the bits break there
abbrev pub ReadsStep : Progress → Result Bool BlockBreak → Progress → Type 0
ReadsStep old (Ok more) new = TakesStep old more new
ReadsStep old (Err why) new = BreaksNext old why

-- the same, where a level was found before
abbrev pub BreaksLater : Progress → BlockBreak → Type 0
BreaksLater now why = (first : ℕ) (start : Unread) (found : ℕ) → 0 < found → Walked first start found now
    → AcBreaks (level_at now.levels 0) first start.left (rule_of why)

-- the levels after the first are read: their bits were taken, and found is the size of the first
-- that isn't 0
pub record ReadsAc (first : ℕ) (old : Unread) (found : ℕ) (levels : List ℤ) (new : Unread)
    : Type 0 where
  pub takes : Takes old new (bits_of (ac_from (level_at levels) 0 0 first 1))
  pub size : found ≡ first_size (level_at levels) (places (level_at levels) 63 1) first

-- the levels after the first can be read: the first is set, all others are 0, and the size of the first of them in the
-- blocks before is that of a level
pub record IsReadyForAc (first : ℕ) (levels : List ℤ) : Type 0 where
  pub size : first ≤ 32768
  pub dc : IsLevel (level_at levels 0)
  pub zeros : (q : ℕ) → 0 < q → q < 64 → level_at levels q ≡ pos 0

-- the levels after the first are read into these, which keep the first, and the size that they leave is found
pub record TakesAc (first : ℕ) (old : Unread) (before : List ℤ) (found : ℕ) (levels : List ℤ) (new : Unread)
    : Type 0 where
  pub read : ReadsAc first old found levels new
  pub dc : level_at levels 0 ≡ level_at before 0
  pub small : found ≤ 32768

-- the levels after the first are read, or the bits break there
abbrev pub ReadsAcLevels : ℕ → Unread → List ℤ → Result ℕ BlockBreak → List ℤ → Unread → Type 0
ReadsAcLevels first old before (Ok found) levels new = TakesAc first old before found levels new
ReadsAcLevels first old before (Err why) levels new = AcBreaks (level_at before 0) first old.left (rule_of why)

-- all runs and levels up to the block's end are read; a level was found before
pub record Finishes (old : Progress) (levels : List ℤ) (new : Unread) : Type 0 where
  pub dc : level_at levels 0 ≡ level_at old.levels 0
  pub read : (first : ℕ) (start : Unread) (found : ℕ) → 0 < found → Walked first start found old
      → ReadsAc first start found levels new

-- the bits of a window are the first of those that are left
abbrev pub IsSeen : List ℕ → List ℕ → Type 0
IsSeen window left = window ≡ take (length window) left
