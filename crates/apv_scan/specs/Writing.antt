-- The bits of parts of a block, and what writing and counting a block does.
use Rattle.std.specs.Prelude.{◌≡◌, ℕ, ℤ, ◌-◌, ◌/◌, ◌≤◌, min, List, [], length, nat_lt, if◌then◌else◌}
use Rattle.apv_base.specs.model.CodeWord.{code_word}
use Rattle.apv_base.specs.model.Scan.{level_at}
use Rattle.apv_base.specs.model.Block.{Context, block_bits, next_context}
use Rattle.apv_bits.specs.Writer.{bits_after, slice_name, Appends}
use Rattle.apv_bits.specs.declared.writer.BitWriter.{BitWriter}

-- the bits of a run up to the end of the block, after the last level and the run before it
abbrev pub end_bits : ℕ → ℕ → List ℕ
end_bits run_before last = if nat_lt last 63 then code_word (min 2 (run_before / 4)) (63 - last) else []

-- the slice has room for the bits of a block
abbrev pub HasRoomForBlock : BitWriter → Context → List ℤ → Type 0
HasRoomForBlock writer context levels = length (block_bits context (level_at levels)) ≤ length (bits_after writer)

-- the bits of a block were appended, to the same slice, and the context moved
pub record AppendsBlock (context : Context) (old : BitWriter) (levels : List ℤ) (after : Context) (new : BitWriter)
    : Type 0 where
  pub appends : Appends old new (block_bits context (level_at levels))
  pub slice : slice_name new ≡ slice_name old
  pub next : after ≡ next_context context (level_at levels)

-- the count is the number of bits of a block, and the context moved
pub record CountsBlock (context : Context) (levels : List ℤ) (count : ℕ) (after : Context) : Type 0 where
  pub few : count ≤ 3008
  pub bits : count ≡ length (block_bits context (level_at levels))
  pub next : after ≡ next_context context (level_at levels)
