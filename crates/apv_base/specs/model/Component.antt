-- The blocks of one component of a tile, in coding order: tile_data() of the RFC.
use Rattle.std.specs.Prelude.{◌≡◌, ℕ, zero, suc, ℤ, ◌+◌, ◌/◌, ◌<◌, List, [], ◌∷◌, ◌++◌, length, take, drop, replicate}
use Rattle.std.specs.Prelude.{Contains}
use Rattle.std.specs.List.{AllByRecursion}
use Rattle.apv_base.specs.declared.rules.Rule.{Rule}
use Rattle.apv_base.specs.declared.rules.Rule.TheVariants.{V31}
use Rattle.apv_base.specs.model.Bits.{bits, number, padding}
use Rattle.apv_base.specs.model.Scan.{level_at}
use Rattle.apv_base.specs.model.Block.{Context, start, block_bits, next_context, AreLevels, BlockBreaks}

-- a block: 64 permitted levels at their places
pub record IsBlock (block : List ℤ) : Type 0 where
  pub count : length block ≡ 64
  pub levels : AreLevels (level_at block)

-- each is a block
abbrev pub AreBlocks : List (List ℤ) → Type 0
AreBlocks blocks = AllByRecursion IsBlock blocks

-- the context after blocks
abbrev pub context_after : Context → List (List ℤ) → Context
context_after context [] = context
context_after context (block ∷ blocks) = context_after (next_context context (level_at block)) blocks

-- the bits of the blocks, each under the context that the block before it leaves
abbrev pub component_bits : Context → List (List ℤ) → List ℕ
component_bits context [] = []
component_bits context (block ∷ blocks) =
    block_bits context (level_at block) ++ component_bits (next_context context (level_at block)) blocks

-- n bytes of bits, with zeros after the last bit
unfoldable pub packed : ℕ → List ℕ → List ℕ
packed zero b = []
packed (suc n) b = number 2 (take 8 (b ++ replicate 8 0)) ∷ packed n (drop 8 b)

-- the bits and zeros up to a whole byte, as bytes
abbrev pub bytes_of_bits : List ℕ → List ℕ
bytes_of_bits b = packed ((length b + 7) / 8) b

-- the bytes of a component of these blocks
abbrev pub component_bytes : List (List ℤ) → List ℕ
component_bytes blocks = bytes_of_bits (component_bits start blocks)

-- ---- judging the bytes of a component of n blocks

-- the bits begin with those of these blocks; n bits follow
pub record BeginsWith (x : List ℕ) (blocks : List (List ℤ)) (left : List ℕ) : Type 0 where
  pub sound : AreBlocks blocks
  pub prefix : bits x ≡ component_bits start blocks ++ left

-- the bytes are n whole blocks, zeros up to a whole byte, and whatever follows
pub record IsComponent (n : ℕ) (x : List ℕ) (blocks : List (List ℤ)) : Type 0 where
  pub count : length blocks ≡ n
  pub left : List ℕ
  pub begins : BeginsWith x blocks left
  pub aligned : Contains (take (padding (length (component_bits start blocks))) left) 1 → ⊥

-- the first block that isn't whole, or an alignment bit that is 1
pub data ComponentBreaks (n : ℕ) (x : List ℕ) : Rule → Type 0 where
  in_block : (rule : Rule) (blocks : List (List ℤ)) (left : List ℕ) → length blocks < n → BeginsWith x blocks left
      → BlockBreaks (context_after start blocks) left rule → ComponentBreaks n x rule
  in_alignment : (blocks : List (List ℤ)) (left : List ℕ) → length blocks ≡ n → BeginsWith x blocks left
      → Contains (take (padding (length (component_bits start blocks))) left) 1 → ComponentBreaks n x V31
