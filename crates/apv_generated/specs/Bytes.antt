-- Parts of a picture as bytes.
use Rattle.std.specs.Prelude.{ℕ, List}
use Rattle.apv_base.specs.model.Picture.{Samples, joined, low_first}

-- the first samples of the row y of a component, two bytes for each, the low one first
abbrev pub row_bytes : Samples → ℕ → ℕ → ℕ → List ℕ
row_bytes samples comp width y = joined width (λ x. low_first (samples comp x y))

-- those of the first n rows of a component
abbrev pub component_bytes : Samples → ℕ → ℕ → ℕ → List ℕ
component_bytes samples comp width n = joined n (row_bytes samples comp width)
