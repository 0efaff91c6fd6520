-- Laws of reading blocks and components.
use Rattle.std.specs.Prelude.{◌≡◌, ℕ, ℤ, ◌<◌, List, ◌++◌, length}
use Rattle.apv_base.specs.declared.rules.Rule.{Rule}
use Rattle.apv_base.specs.model.Block.{Context, block_bits, AreLevels, BlockBreaks}
use Rattle.apv_base.specs.model.Component.{AreBlocks, IsComponent, component_bytes}

-- at most one block of permitted levels is at the start of the bits, and one rest after it
abbrev pub HasOneBlock : Context → List ℕ → Type 0
HasOneBlock context b =
    (y z : ℕ → ℤ) (left rest : List ℕ) → AreLevels y → AreLevels z
    → b ≡ block_bits context y ++ left → b ≡ block_bits context z ++ rest
    → ((p : ℕ) → p < 64 → y p ≡ z p) × (left ≡ rest)

-- bits that begin with a block don't break
abbrev pub IsWholeOrBroken : Context → List ℕ → Type 0
IsWholeOrBroken context b =
    (z : ℕ → ℤ) (left : List ℕ) (rule : Rule) → AreLevels z → b ≡ block_bits context z ++ left
    → ¬ BlockBreaks context b rule

-- bits break in one way at most
abbrev pub HasOneBreak : Context → List ℕ → Type 0
HasOneBreak context b = (rule other : Rule) → BlockBreaks context b rule → BlockBreaks context b other → rule ≡ other

-- the bytes of blocks are a component of these blocks, whatever follows
abbrev pub IsSpelled : ℕ → List (List ℤ) → List ℕ → Type 0
IsSpelled n blocks x = AreBlocks blocks → length blocks ≡ n → IsComponent n (component_bytes blocks ++ x) blocks

-- bytes are one component of n blocks at most
abbrev pub HasOneComponent : ℕ → List ℕ → Type 0
HasOneComponent n x =
    (blocks others : List (List ℤ)) → IsComponent n x blocks → IsComponent n x others → blocks ≡ others
