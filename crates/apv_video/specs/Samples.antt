-- The samples of a component by their numbers, row after row.
use Rattle.std.specs.Prelude.{ℕ, ◌*◌, ◌/◌, ◌%◌, List, map}
use Rattle.std.specs.List.{range_with_len}
use Rattle.apv_base.specs.declared.format.Format.{Format}
use Rattle.apv_base.specs.model.Format.{component_width}
use Rattle.apv_base.specs.model.Picture.{Samples, joined, low_first}

-- the number of visible samples of a component
abbrev pub sample_count : Format → ℕ → ℕ
sample_count format comp = format.height * component_width format comp

-- the visible sample of a component with a number
abbrev pub sample_at : Format → Samples → ℕ → ℕ → ℕ
sample_at format samples comp n =
    samples comp (n % component_width format comp) (n / component_width format comp)

-- n samples of a component, from the one with a number on
abbrev pub samples_from : Format → Samples → ℕ → ℕ → ℕ → List ℕ
samples_from format samples comp first n = map (sample_at format samples comp) (range_with_len first n)

-- a component as it is written
abbrev pub component_text : Format → Samples → ℕ → List ℕ
component_text format samples comp =
    joined format.height (λ y. joined (component_width format comp) (λ x. low_first (samples comp x y)))

-- the bytes of the visible sample of a component with a number
abbrev pub bytes_at : Format → Samples → ℕ → ℕ → List ℕ
bytes_at format samples comp n = low_first (sample_at format samples comp n)
