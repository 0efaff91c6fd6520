-- How many bytes one read or one write over files in memory moves.
use Rattle.std.specs.Prelude.{◌≡◌, ℕ, List, length, min, Option, None, Some}

-- at most the maximum, where one is set
abbrev pub cut_to : Option ℕ → ℕ → ℕ
cut_to None count = count
cut_to (Some most) count = min most count

-- a read took all the bytes that were left, or as many as there was room for, up to the maximum
abbrev pub TakesMost : Option ℕ → Option (List ℕ) → ℕ → ℕ → Type 0
TakesMost most left room n = (bytes : List ℕ) → left ≡ Some bytes → n ≡ cut_to most (min (length bytes) room)
