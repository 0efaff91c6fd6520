-- Numbers of two and of four bytes.
use Rattle.std.proofs.Common.{◌≡◌, ℕ, ◌+◌, ◌*◌, ◌≤◌, List, [], ◌∷◌, length, get_or, take, refl, sym, ◌∙◌, arith}
use Rattle.std.specs.Int.{from_be_bytes, w16, w32}
use Rattle.apv_base.specs.model.Bits.{number}
use Rattle.apv_base.proofs.PbuLemmas.{number_2, number_4, cells_4}

cells_2 : (xs : List ℕ) → 2 ≤ length xs → (a b : ℕ) × (rest : List ℕ) × (xs ≡ a ∷ b ∷ rest)
cells_2 [] le = absurd (omega arith)
cells_2 (a ∷ []) le = absurd (omega arith)
cells_2 (a ∷ b ∷ rest) le = (a, b, rest, refl)

from_2 : (a b : ℕ) → from_be_bytes w16 (a ∷ b ∷ []) ≡ a * 256 + b
from_2 a b = omega arith

pub number_of_2 : (xs : List ℕ) → 2 ≤ length xs → from_be_bytes w16 (get_or xs 0 0 ∷ get_or xs 1 0 ∷ []) ≡ number 256 (take 2 xs)
number_of_2 xs le = let s = cells_2 xs le in rw s.3 (from_2 s.0 s.1 ∙ sym (number_2 s.0 s.1))

pub number_of_4 : (xs : List ℕ) → 4 ≤ length xs → from_be_bytes w32 (get_or xs 0 0 ∷ get_or xs 1 0 ∷ get_or xs 2 0 ∷ get_or xs 3 0 ∷ []) ≡ number 256 (take 4 xs)
number_of_4 xs le = let s = cells_4 xs le in rw s.5 (sym (number_4 s.0 s.1 s.2 s.3))
