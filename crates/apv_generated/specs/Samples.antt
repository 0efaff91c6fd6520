-- Samples of a frame that are those of a picture.
use Rattle.std.specs.Prelude.{◌≡◌, ℕ, ◌<◌, ◌≤◌}
use Rattle.apv_base.specs.declared.format.Format.{Format}
use Rattle.apv_base.specs.model.Format.{comps_of, component_width}
use Rattle.apv_base.specs.model.Picture.{Samples}

-- the samples of the row y of a component in the columns from a on, up to b, are those of a picture
abbrev pub IsRowOf : Samples → ℕ → ℕ → ℕ → ℕ → Samples → Type 0
IsRowOf picture comp y a b samples = (x : ℕ) → a ≤ x → x < b → samples comp x y ≡ picture comp x y

-- the visible samples of the first n rows of a component are those of a picture
abbrev pub AreRowsOf : Format → Samples → ℕ → ℕ → Samples → Type 0
AreRowsOf format picture comp n samples =
    (x y : ℕ) → x < component_width format comp → y < n → samples comp x y ≡ picture comp x y

-- the visible samples of the first n components are those of a picture
abbrev pub AreComponentsOf : Format → Samples → ℕ → Samples → Type 0
AreComponentsOf format picture n samples =
    (comp x y : ℕ) → comp < n → x < component_width format comp → y < format.height
    → samples comp x y ≡ picture comp x y

-- the visible samples are the same
abbrev pub HaveSameSamples : Format → Samples → Samples → Type 0
HaveSameSamples format a b = AreComponentsOf format b (comps_of format.chroma) a

-- each visible sample that was that of a picture still is
abbrev pub Keeps : Format → Samples → Samples → Samples → Type 0
Keeps format picture old new =
    (comp x y : ℕ) → comp < comps_of format.chroma → x < component_width format comp → y < format.height
    → old comp x y ≡ picture comp x y → new comp x y ≡ picture comp x y
