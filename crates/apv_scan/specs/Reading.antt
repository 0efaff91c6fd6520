-- What the parts of a block are read as.
use Rattle.std.specs.Prelude.{◌≡◌, ℕ, ℤ, pos, neg_ℤ, ◌+ℤ◌, ◌-◌, ◌<◌, ◌≤◌, List, [], ◌∷◌, unsigned_abs}
use Rattle.std.specs.Prelude.{Result, Ok, Err}
use Rattle.apv_base.specs.declared.rules.Rule.{Rule}
use Rattle.apv_base.specs.model.CodeWord.{code_word}
use Rattle.apv_base.specs.model.Quant.{IsLevel}
use Rattle.apv_base.specs.model.Block.{Context, Element, coded_value, sign_bit, bits_of, sign_of, dc_elements, ac_from}
use Rattle.apv_base.specs.model.Block.{BreaksAmong, block_bits, next_context, BlockBreaks}
use Rattle.apv_base.specs.model.Scan.{level_at}
use Rattle.apv_bits.specs.Reader.{Unread, Takes}
use Rattle.apv_scan.specs.BlockBreak.{rule_of}
use Rattle.apv_scan.specs.declared.block_break.BlockBreak.{BlockBreak}
use Rattle.apv_scan.specs.declared.elements.run_level.RunLevel.{RunLevel}
use Rattle.apv_scan.specs.declared.elements.run_level.RunLevel.TheVariants.{End, Level}

-- the bits break at the first level of a block
abbrev pub DcBreaks : Context → List ℕ → BlockBreak → Type 0
DcBreaks context b why =
    (size : ℕ) × (size ≤ 65535) × BreaksAmong (dc_elements context (context.dc +ℤ pos size)) b (rule_of why)

-- a run and the level after it, where room places are left
abbrev pub run_level_elements : ℕ → ℕ → ℕ → ℕ → ℕ → ℕ → List Element
run_level_elements run_k level_k room run size negative =
    coded_value run_k 63 room run ∷ coded_value level_k 32767 32767 (size - 1)
    ∷ sign_bit (pos size) (neg_ℤ (pos size)) negative ∷ []

-- the bits break at a run or at the level after it
abbrev pub RunLevelBreaks : ℕ → ℕ → ℕ → List ℕ → BlockBreak → Type 0
RunLevelBreaks run_k level_k room b why =
    (run size : ℕ) × (run < room) × (0 < size) × (size ≤ 32768)
    × BreaksAmong (run_level_elements run_k level_k room run size 0) b (rule_of why)

-- a run and the level after it, where room places are left
abbrev pub IsRunLevel : ℕ → RunLevel → Type 0
IsRunLevel room End = Unit {0}
IsRunLevel room (Level run size level) =
    (run < room) × (0 < size) × (size ≤ 32768) × (size ≡ unsigned_abs level) × IsLevel level

-- the bits of a run and of the level after it, or of a run up to the end of the block
abbrev pub run_level_bits : ℕ → ℕ → ℕ → RunLevel → List ℕ
run_level_bits run_k level_k room End = code_word run_k room
run_level_bits run_k level_k room (Level run size level) =
    bits_of (run_level_elements run_k level_k room run size (sign_of level))

-- what a run and a level are read with: their parameters, and how many places are left
pub record AreRunLevelParameters (run_k level_k room : ℕ) : Type 0 where
  pub run : run_k ≤ 2
  pub level : level_k ≤ 4
  pub some : 0 < room
  pub few : room < 64

-- a run and the level after it are taken, or the bits break there
abbrev pub ReadsRunLevel : ℕ → ℕ → ℕ → Unread → Result RunLevel BlockBreak → Unread → Type 0
ReadsRunLevel run_k level_k room old (Ok step) new =
    IsRunLevel room step × Takes old new (run_level_bits run_k level_k room step)
ReadsRunLevel run_k level_k room old (Err why) new = RunLevelBreaks run_k level_k room old.left why

-- the bits break at the levels after a first level, of a wide block
pub record AcBreaks (dc : ℤ) (first : ℕ) (b : List ℕ) (rule : Rule) : Type 0 where
  pub block : ℕ → ℤ
  pub first_level : block 0 ≡ dc
  pub wide : (p : ℕ) → 0 < p → unsigned_abs (block p) ≤ 32768
  pub breaks : BreaksAmong (ac_from block 0 0 first 1) b rule

-- the bits of a block are taken, and the context moved
pub record TakesBlock (context : Context) (old : Unread) (levels : List ℤ) (after : Context) (new : Unread)
    : Type 0 where
  pub takes : Takes old new (block_bits context (level_at levels))
  pub next : after ≡ next_context context (level_at levels)

-- a block is read: its bits are taken and the context moved, or they break the rule that an error names
abbrev pub ReadsBlock : {T E : Type 0} → (E → Rule) → Context → Unread → Result T E → List ℤ → Context → Unread → Type 0
ReadsBlock rule context old (Ok _) levels after new = TakesBlock context old levels after new
ReadsBlock rule context old (Err why) levels after new = BlockBreaks context old.left (rule why)
