-- Items one after another.
use Rattle.std.specs.Prelude.{◌≡◌, ℕ, List, [], ◌∷◌}

-- At the start of xs are these items, one after another, and after the last of them rest. At says of one item that
-- it is at the start of a list, and what follows it.
abbrev pub Sequence : {A : Type 0} → (List ℕ → A → List ℕ → Type 0) → List ℕ → List A → List ℕ → Type 0
Sequence At xs [] rest = xs ≡ rest
Sequence At xs (item ∷ items) rest = (after : List ℕ) × At xs item after × Sequence At after items rest
