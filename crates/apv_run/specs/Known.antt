-- Bytes that are known or not.
use Rattle.std.specs.Prelude.{◌≡◌, ℕ, List, ◌++◌, Option, Some, None, ⊤}

-- known bytes are these
abbrev pub IsKnownAs : Option (List ℕ) → List ℕ → Type 0
IsKnownAs None bytes = ⊤
IsKnownAs (Some known) bytes = known ≡ bytes

-- known bytes are a prefix of these
abbrev pub IsPrefixOf : Option (List ℕ) → List ℕ → Type 0
IsPrefixOf None bytes = ⊤
IsPrefixOf (Some known) bytes = (more : List ℕ) × (known ++ more ≡ bytes)

-- known bytes begin with these
abbrev pub BeginsWith : Option (List ℕ) → List ℕ → Type 0
BeginsWith None bytes = ⊤
BeginsWith (Some known) bytes = (more : List ℕ) × (known ≡ bytes ++ more)
