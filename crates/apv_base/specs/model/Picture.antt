-- The samples of a decoded frame, and the picture that is written of them.
use Rattle.std.specs.Prelude.{ℕ, ℤ, ◌+◌, ◌*◌, ◌/◌, ◌%◌, List, [], ◌∷◌, map, slice_index, slice_index_or}
use Rattle.std.specs.List.{flat_map, range_with_len, sum}
use Rattle.apv_base.specs.declared.format.Format.{Format}
use Rattle.apv_base.specs.model.Format.{comps_of, component_width}
use Rattle.apv_base.specs.model.Grid.{coded_place}
use Rattle.apv_base.specs.model.Header.{grid_of, format_of, flat}
use Rattle.apv_base.specs.model.CodedFrame.{CodedFrame, Levels, blocks_at, tile_at}
use Rattle.apv_base.specs.model.Quant.{scaled, step_number, shift_of}
use Rattle.apv_base.specs.model.Transform.{coefficient_at, sample_of}

-- the scaled levels of a block, for the matrix and QP of its component and tile
abbrev pub scaled_block : List ℕ → ℕ → ℕ → List ℤ → ℕ → ℕ → ℤ
scaled_block matrix qp depth block u v =
    scaled (coefficient_at block u v) (step_number (slice_index matrix (8 * u + v)) qp) (shift_of depth)

-- the matrix of a component
abbrev pub matrix_of : CodedFrame → ℕ → List ℕ
matrix_of frame comp = slice_index_or frame.header.matrices comp flat

-- the sample at x, y of a component
unfoldable pub sample : CodedFrame → Levels → ℕ → ℕ → ℕ → ℕ
sample frame levels comp x y =
    let place = coded_place (grid_of frame.header) comp x y in
    let block = slice_index_or (blocks_at levels place.tile comp) place.block [] in
    let qp = slice_index (tile_at frame place.tile).qps comp in
    sample_of (scaled_block (matrix_of frame comp) qp frame.header.info.depth block) frame.header.info.depth
    (place.place / 8) (place.place % 8)

-- ---- pictures

-- the samples of a picture by component, x and y
abbrev pub Samples : Type 0
Samples = ℕ → ℕ → ℕ → ℕ

-- a number of 16 bits, the low byte first
abbrev pub low_first : ℕ → List ℕ
low_first value = value % 256 ∷ value / 256 ∷ []

-- n pieces, one after another
abbrev pub joined : ℕ → (ℕ → List ℕ) → List ℕ
joined n piece = flat_map piece (range_with_len 0 n)

-- the visible samples, component after component, row after row
unfoldable pub picture : Format → Samples → List ℕ
picture format samples =
    joined (comps_of format.chroma)
    (λ comp. joined format.height (λ y. joined (component_width format comp) (λ x. low_first (samples comp x y))))

-- the bytes of a picture: two for each visible sample
abbrev pub picture_len : Format → ℕ
picture_len format =
    sum (map (λ comp. 2 * (format.height * component_width format comp)) (range_with_len 0 (comps_of format.chroma)))

-- the picture of a frame
abbrev pub frame_picture : CodedFrame → Levels → List ℕ
frame_picture frame levels = picture (format_of frame.header.info) (sample frame levels)
