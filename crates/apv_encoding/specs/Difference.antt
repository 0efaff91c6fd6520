-- How far the samples of two pictures of one format are apart.
use Rattle.std.specs.Prelude.{ℕ, zero, suc, ◌+◌, ◌-◌, List, [], ◌∷◌}
use Rattle.std.specs.List.{flat_map}
use Rattle.apv_base.specs.declared.format.Format.{Format}
use Rattle.apv_base.specs.model.Format.{comps_of, component_width}
use Rattle.apv_base.specs.model.Picture.{Samples, joined}

-- the larger of two numbers
abbrev pub larger : ℕ → ℕ → ℕ
larger a b = a + (b - a)

-- the maximum of a list, which of an empty one is 0
unfoldable pub maximum : List ℕ → ℕ
maximum [] = 0
maximum (value ∷ values) = larger value (maximum values)

-- the absolute difference of two numbers
abbrev pub distance : ℕ → ℕ → ℕ
distance a b = (a - b) + (b - a)

-- the absolute differences of the visible samples, component after component, row after row
abbrev pub distances : Format → Samples → Samples → List ℕ
distances format a b =
    joined (comps_of format.chroma) (λ comp. joined format.height (λ y. joined (component_width format comp)
    (λ x. distance (a comp x y) (b comp x y) ∷ [])))

-- the maximum of them
abbrev pub peak_difference : Format → Samples → Samples → ℕ
peak_difference format a b = maximum (distances format a b)
