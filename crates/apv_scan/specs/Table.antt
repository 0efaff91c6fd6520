-- The entries of a table of steps.
use Rattle.std.specs.Prelude.{◌≡◌, ℕ, ◌+◌, ◌-◌, ◌*◌, ◌/◌, ◌%◌, ◌<◌, ◌≤◌, min, unsigned_abs}
use Rattle.std.specs.Prelude.{List, length, take, drop, slice_index_or}
use Rattle.apv_base.specs.model.Bits.{bin}
use Rattle.apv_base.specs.model.Block.{bits_of, sign_of}
use Rattle.apv_scan.specs.Reading.{run_level_elements}
use Rattle.apv_scan.specs.declared.tables.step_table.Move.{Move}
use Rattle.apv_scan.specs.declared.tables.step_table.Entry.{Entry}

-- the number of the context after a run and the size of its level: of the parameters of the next
-- two code words
abbrev pub context_number : ℕ → ℕ → ℕ
context_number run size = 5 * min 2 (run / 4) + min 4 (size / 4)

-- the bits of the step of a move, under a context
abbrev pub move_word : ℕ → Move → List ℕ
move_word context step =
    bits_of (run_level_elements (context / 5) (context % 5) 64
    (step.advance - 1) (unsigned_abs step.level) (sign_of step.level))

-- bits begin with the step of a move, under a context
pub record BeginsWithMove (context : ℕ) (b : List ℕ) (step : Move) : Type 0 where
  pub run : 0 < step.advance
  pub level : 0 < unsigned_abs step.level
  pub few : step.length ≤ length b
  pub word : take step.length b ≡ move_word context step
  pub next : step.next ≡ context_number (step.advance - 1) (unsigned_abs step.level)

-- a move by no more places than a block has is the step that bits begin with
abbrev pub IsMove : ℕ → List ℕ → Move → Type 0
IsMove context b step = step.advance ≤ 64 → BeginsWithMove context b step

-- what a move adds to the one that it begins with
abbrev pub added : Move → Move → Move
added first all = record {
  length = all.length - first.length;
  advance = all.advance - first.advance;
  next = all.next;
  level = all.level;
}

-- the same move
pub record IsSame (one other : Move) : Type 0 where
  pub length : one.length ≡ other.length
  pub advance : one.advance ≡ other.advance
  pub next : one.next ≡ other.next
  pub level : one.level ≡ other.level

-- bits begin with the first step of an entry; its whole move is that step, or that step and another
pub record BeginsWithMoves (context : ℕ) (b : List ℕ) (entry : Entry) : Type 0 where
  pub first : BeginsWithMove context b entry.first
  pub one : entry.all.advance ≤ entry.first.advance → IsSame entry.all entry.first
  pub two : entry.first.advance < entry.all.advance
      → BeginsWithMove entry.first.next (drop entry.first.length b) (added entry.first entry.all)
  pub longer : entry.first.length ≤ entry.all.length
  pub farther : entry.first.advance ≤ entry.all.advance

-- what an entry says of bits; a move by more places than a block has says nothing
pub record IsEntry (context : ℕ) (b : List ℕ) (entry : Entry) : Type 0 where
  pub first : IsMove context b entry.first
  pub all : entry.all.advance ≤ 64 → BeginsWithMoves context b entry

-- the entries of each of the fifteen contexts and each prefix of eleven bits
pub record AreEntries (entries : List Entry) : Type 0 where
  pub count : length entries ≡ 30720
  pub right : (i : ℕ) (none : Entry) → i < length entries
      → IsEntry (i / 2048) (bin 11 (i % 2048)) (slice_index_or entries i none)
