-- Work on tiles that goes over the components of each tile.
use Rattle.std.specs.Prelude.{◌≡◌, ℕ, ◌*◌, ◌<◌, List, length, take, drop}
use Rattle.apv_base.specs.model.Format.{comps_of}
use Rattle.apv_base.specs.model.Grid.{Grid, tile_count, block_count}
use Rattle.apv_grid.specs.Buffer.{values_before, tile_value_count, part_in}

-- the values of a component, out of those of its tile
abbrev pub of_component : {A : Type 0} → Grid → ℕ → ℕ → List A → List A
of_component grid tile comp values = take (64 * block_count grid tile comp) (drop (values_before grid tile comp) values)

-- values of the right number for each component of each tile are such that its work may be given them
abbrev pub AreAllReady : {A : Type 0} → (ℕ → ℕ → List A → Type 0) → Grid → Type 0
AreAllReady {A} Ready grid =
    (tile comp : ℕ) (values : List A) → tile < tile_count grid → comp < comps_of grid.format.chroma
    → length values ≡ 64 * block_count grid tile comp → Ready tile comp values

-- values are those of a tile, and its work may be given those of each component
pub record IsTileReady {A : Type 0} (Ready : ℕ → ℕ → List A → Type 0) (grid : Grid) (tile : ℕ) (values : List A)
    : Type 0 where
  pub exists : tile < tile_count grid
  pub size : length values ≡ tile_value_count grid tile
  pub ready : AreAllReady Ready grid

-- of the components below n of a tile the values are what their work makes of them
abbrev pub AreDoneBelow : {A : Type 0} → (ℕ → ℕ → List A → Type 0) → Grid → ℕ → ℕ → List A → Type 0
AreDoneBelow Done grid tile n values = (comp : ℕ) → comp < n → Done tile comp (of_component grid tile comp values)

-- of all components of a tile
abbrev pub IsTileDone : {A : Type 0} → (ℕ → ℕ → List A → Type 0) → Grid → ℕ → List A → Type 0
IsTileDone Done grid tile values = AreDoneBelow Done grid tile (comps_of grid.format.chroma) values

-- of all components of all tiles
abbrev pub AreAllDone : {A : Type 0} → (ℕ → ℕ → List A → Type 0) → Grid → List A → Type 0
AreAllDone Done grid values = (tile comp : ℕ) → tile < tile_count grid → comp < comps_of grid.format.chroma
    → Done tile comp (part_in grid values tile comp)
