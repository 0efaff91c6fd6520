-- What the steps of padding leave.
use Rattle.std.specs.Prelude.{◌≡◌, ℕ, ◌-◌, ◌<◌, ◌≤◌, min, List}
use Rattle.apv_base.specs.model.Encode.{nearest_sample}
use Rattle.apv_base.specs.model.Format.{component_width}
use Rattle.apv_base.specs.model.Grid.{Grid}
use Rattle.apv_grid.specs.Buffer.{samples_in, IsFilled}

-- the nearest visible sample of a row of a component
abbrev pub nearest_in_row : Grid → List ℕ → ℕ → ℕ → ℕ → ℕ
nearest_in_row grid values comp x y = samples_in grid values comp (min x (component_width grid.format comp - 1)) y

-- the last visible sample of a row, whatever the column
abbrev pub last_in_row : Grid → List ℕ → ℕ → ℕ → ℕ → ℕ
last_in_row grid values comp y x = samples_in grid values comp (component_width grid.format comp - 1) y

-- a row by its columns
abbrev pub row_samples : Grid → List ℕ → ℕ → ℕ → ℕ → ℕ
row_samples grid values comp y x = samples_in grid values comp x y

-- the last visible row, whatever the row
abbrev pub last_row : Grid → List ℕ → ℕ → ℕ → ℕ → ℕ
last_row grid values comp x y = samples_in grid values comp x (grid.format.height - 1)

-- the sample c, p, q is in the columns from a on, up to b, of the row y of a component
pub record IsInColumns (comp y a b c p q : ℕ) : Type 0 where
  pub same_comp : c ≡ comp
  pub line : q ≡ y
  pub from : a ≤ p
  pub to : p < b

-- the samples of the row y of a component in the columns from a on, up to b, became those of a function of the column,
-- and all others stayed
pub record SetsRow (grid : Grid) (comp y a b : ℕ) (f : ℕ → ℕ) (old new : List ℕ) : Type 0 where
  pub set : (x : ℕ) → a ≤ x → x < b → IsFilled grid comp x y → samples_in grid new comp x y ≡ f x
  pub others : (c p q : ℕ) → IsFilled grid c p q → ¬ IsInColumns comp y a b c p q
      → samples_in grid new c p q ≡ samples_in grid old c p q

-- the sample c, p, q is in the rows from a on, up to b, of a component
pub record IsInRows (comp a b c q : ℕ) : Type 0 where
  pub same_comp : c ≡ comp
  pub from : a ≤ q
  pub to : q < b

-- the samples of a component in the rows from a on, up to b, became those of a function, and all others stayed
pub record SetsRows (grid : Grid) (comp a b : ℕ) (f : ℕ → ℕ → ℕ) (old new : List ℕ) : Type 0 where
  pub set : (x y : ℕ) → a ≤ y → y < b → IsFilled grid comp x y → samples_in grid new comp x y ≡ f x y
  pub others : (c p q : ℕ) → IsFilled grid c p q → ¬ IsInRows comp a b c q
      → samples_in grid new c p q ≡ samples_in grid old c p q

-- the components from a on, up to b, are padded, and the others stayed
pub record Pads (grid : Grid) (a b : ℕ) (old new : List ℕ) : Type 0 where
  pub padded : (c p q : ℕ) → a ≤ c → c < b → IsFilled grid c p q
      → samples_in grid new c p q ≡ nearest_sample grid (samples_in grid old) c p q
  pub before : (c p q : ℕ) → c < a → IsFilled grid c p q → samples_in grid new c p q ≡ samples_in grid old c p q
  pub after : (c p q : ℕ) → b ≤ c → IsFilled grid c p q → samples_in grid new c p q ≡ samples_in grid old c p q
