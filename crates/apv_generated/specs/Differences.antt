-- The absolute differences of parts of two pictures.
use Rattle.std.specs.Prelude.{ℕ, List, [], ◌∷◌}
use Rattle.std.specs.List.{flat_map, range_with_len}
use Rattle.apv_base.specs.declared.format.Format.{Format}
use Rattle.apv_base.specs.model.Format.{component_width}
use Rattle.apv_base.specs.model.Picture.{Samples, joined}
use Rattle.apv_encoding.specs.Difference.{distance}

-- those of n samples of the row y of a component, from x on
abbrev pub row_distances : Samples → Samples → ℕ → ℕ → ℕ → ℕ → List ℕ
row_distances a b comp y x n = flat_map (λ p. distance (a comp p y) (b comp p y) ∷ []) (range_with_len x n)

-- those of the visible samples of the first n rows of a component
abbrev pub component_distances : Format → Samples → Samples → ℕ → ℕ → List ℕ
component_distances format a b comp n = joined n (λ y. row_distances a b comp y 0 (component_width format comp))
