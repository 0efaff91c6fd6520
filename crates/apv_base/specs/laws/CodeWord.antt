-- Laws of a code and of reading its words.
use Rattle.std.specs.Prelude.{◌≡◌, ℕ, List, ◌++◌}
use Rattle.apv_base.specs.model.CodeWord.{HasValue, EndsInside}

-- no word of the code begins another
abbrev pub IsPrefixFree : (ℕ → List ℕ) → Type 0
IsPrefixFree word = (v w : ℕ) (rest : List ℕ) → word w ≡ word v ++ rest → v ≡ w

-- a list that begins with two words begins with one: what follows the words is the same too
abbrev pub HasOnePrefix : (ℕ → List ℕ) → Type 0
HasOnePrefix word = (v w : ℕ) (x y : List ℕ) → word v ++ x ≡ word w ++ y → (v ≡ w) × (x ≡ y)

-- at most one value is read, and where one is, the bits don't end inside a word
pub record HasOneReading (word : ℕ → List ℕ) : Type 0 where
  pub value : (limit : ℕ) (b : List ℕ) (v w : ℕ) → HasValue word limit b v → HasValue word limit b w → v ≡ w
  pub ends : (limit : ℕ) (b : List ℕ) (v : ℕ) → HasValue word limit b v → ¬ EndsInside word limit b
