-- The access unit of pictures depends on their visible samples alone.
use Rattle.std.proofs.Common.{◌≡◌, ℕ, zero, suc, ℤ, pos, ◌+◌, ◌-◌, ◌*◌, ◌/◌, ◌%◌, ◌^◌, ◌<◌, min, List, [], ◌∷◌, get_or, refl, sym, ap, subst, arith, false, ◌||◌, ◌&&◌, nat_eq}
use Rattle.std.specs.Prelude.{Contains, ◌-ℤ◌, ◌*ℤ◌}
use Rattle.std.specs.List.{AllByRecursion}
use Rattle.std.proofs.lemmas.Bool.{or_parts, cond_both}
use Rattle.apv_base.specs.declared.format.Chroma.{Chroma}
use Rattle.apv_base.specs.declared.format.Chroma.TheVariants.{C400, C422, C444, C4444}
use Rattle.apv_base.specs.declared.format.Format.{Format}
use Rattle.apv_base.specs.declared.header.FrameHeader.{FrameHeader}
use Rattle.apv_base.specs.model.CodedFrame.{Levels, blocks_at}
use Rattle.apv_base.specs.model.Encode.{Qps, nearest_sample, block_residual, coefficient, block_x, block_y}
use Rattle.apv_base.specs.model.Format.{component_width, is_halved}
use Rattle.apv_base.specs.model.Grid.{Grid}
use Rattle.apv_base.specs.model.Header.{format_of, grid_of, flat}
use Rattle.apv_base.specs.model.Nearest.{AreLevelsOf}
use Rattle.apv_base.specs.model.Picture.{Samples}
use Rattle.apv_base.specs.model.Quant.{IsNearest, step_number, shift_of}
use Rattle.apv_base.specs.model.Transform.{sum_8, row_sum, coefficient_of, coefficient_at, transform_entry, rounded}
use Rattle.std.specs.Prelude.{slice_index}
use Rattle.apv_encoding.specs.AccessUnit.{Pictures, EncodedUnit, AreTheirLevels, IsUnitOf, HasSizeAt, IsChosen, FitsNowhere}
use Rattle.apv_encoding.specs.Laws.{IsChosenUnit}
use Rattle.apv_encoding.specs.Settings.{EncoderSettings, Track, RateControl, fixed, limited}
use Rattle.apv_encoding.proofs.PictureLemmas.{AreSamePlanes, AreSameSamples, HasSamples}

-- ---- coefficients

above-none : (n : ℕ) → nat_eq n 0 ≡ false → 0 < n
above-none zero e = absurd (let no : ⊥ = cc in no)
above-none (suc n) e = omega arith

-- an even number above 0 has a half above 0
half-above : (n : ℕ) → 0 < n → nat_eq (n % 2) 1 ≡ false → 0 < n / 2
half-above zero p e = absurd (omega (arith, p))
half-above (suc zero) p e = absurd (let no : ⊥ = cc in no)
half-above (suc (suc n)) p e = omega arith

width-above : (chroma : Chroma) (width height depth comp : ℕ) → 0 < width → (is_halved chroma && nat_eq (width % 2) 1) ≡ false → 0 < component_width (record { width = width; height = height; chroma = chroma; depth = depth }) comp
width-above C400 width height depth comp some even = some
width-above C422 width height depth comp some even = cond_both (nat_eq comp 1 || nat_eq comp 2) (width / 2) width (λ (w : ℕ). 0 < w) (λ e. half-above width some even) (λ e. some)
width-above C444 width height depth comp some even = some
width-above C4444 width height depth comp some even = some

-- the width of a component and the height are above 0
sizes-above : (format : Format) (comp : ℕ) → HasSamples format → (0 < component_width format comp) × (0 < format.height)
sizes-above format comp sound =
    let outer = or_parts (nat_eq format.width 0 || nat_eq format.height 0) (is_halved format.chroma && nat_eq (format.width % 2) 1) sound in
    let sizes = or_parts (nat_eq format.width 0) (nat_eq format.height 0) outer.0 in
    (width-above format.chroma format.width format.height format.depth comp (above-none format.width sizes.0) outer.1, above-none format.height sizes.1)

nearest-alike : (grid : Grid) (s t : Samples) (comp x y : ℕ) → HasSamples grid.format → AreSamePlanes s t (component_width grid.format comp) grid.format.height comp → nearest_sample grid s comp x y ≡ nearest_sample grid t comp x y
nearest-alike grid s t comp x y sound alike =
    let sizes = sizes-above grid.format comp sound in
    alike (min y (grid.format.height - 1)) (omega (arith, sizes.1)) (min x (component_width grid.format comp - 1)) (omega (arith, sizes.0))

residual-alike : (grid : Grid) (s t : Samples) (tile comp block y x : ℕ) → HasSamples grid.format → AreSamePlanes s t (component_width grid.format comp) grid.format.height comp → block_residual grid s tile comp block y x ≡ block_residual grid t tile comp block y x
residual-alike grid s t tile comp block y x sound alike =
    ap (λ (v : ℕ). pos v -ℤ pos (2 ^ (grid.format.depth - 1))) (nearest-alike grid s t comp (block_x grid tile comp block + x) (block_y grid tile comp block + y) sound alike)

sum-alike : (f g : ℕ → ℤ) → ((i : ℕ) → f i ≡ g i) → sum_8 f ≡ sum_8 g
sum-alike f g h = rw (h 0, h 1, h 2, h 3, h 4, h 5, h 6, h 7) refl

row-alike : (e f : ℕ → ℕ → ℤ) (depth y v : ℕ) → ((i x : ℕ) → e i x ≡ f i x) → row_sum e depth y v ≡ row_sum f depth y v
unfolding row_sum
row-alike e f depth y v h = ap (rounded (depth - 6)) (sum-alike (λ x. transform_entry v x *ℤ e y x) (λ x. transform_entry v x *ℤ f y x) (λ x. ap (λ (z : ℤ). transform_entry v x *ℤ z) (h y x)))

coefficient-by : (e f : ℕ → ℕ → ℤ) (depth u v : ℕ) → ((y x : ℕ) → e y x ≡ f y x) → coefficient_of e depth u v ≡ coefficient_of f depth u v
unfolding coefficient_of
coefficient-by e f depth u v h = ap (rounded 9) (sum-alike (λ y. transform_entry u y *ℤ row_sum e depth y v) (λ y. transform_entry u y *ℤ row_sum f depth y v) (λ y. ap (λ (z : ℤ). transform_entry u y *ℤ z) (row-alike e f depth y v h)))

coefficient-alike : (grid : Grid) (s t : Samples) (tile comp block u v : ℕ) → HasSamples grid.format → AreSamePlanes s t (component_width grid.format comp) grid.format.height comp → coefficient grid s tile comp block u v ≡ coefficient grid t tile comp block u v
coefficient-alike grid s t tile comp block u v sound alike =
    coefficient-by (block_residual grid s tile comp block) (block_residual grid t tile comp block) grid.format.depth u v (λ y x. residual-alike grid s t tile comp block y x sound alike)

-- ---- levels

levels-alike : (header : FrameHeader) (qps : Qps) (s t : Samples) (levels : Levels) → HasSamples (format_of header.info) → AreSameSamples (format_of header.info) s t → AreLevelsOf header qps s levels → AreLevelsOf header qps t levels
levels-alike header qps s t levels sound alike are = record {
  tiles = are.tiles;
  comps = are.comps;
  count = are.count;
  nearest = λ tile comp block lt low few. (let here = are.nearest tile comp block lt low few in record {
    count = here.count;
    each = λ u v lt_u lt_v. subst (λ (c : ℤ). IsNearest c (step_number (slice_index (get_or header.matrices comp flat) (8 * u + v)) (qps tile comp)) (shift_of header.info.depth) (coefficient_at (get_or (blocks_at levels tile comp) block []) u v)) (coefficient-alike (grid_of header) s t tile comp block u v sound (alike comp low)) (here.each u v lt_u lt_v);
  });
}

-- the visible samples of the picture of a track are the same
abbrev pub AreAlikeFor : Pictures → Pictures → Track → Type 0
AreAlikeFor p q track = HasSamples (format_of track.header.info) × AreSameSamples (format_of track.header.info) (p track.slot) (q track.slot)

abbrev pub AreAlike : List Track → Pictures → Pictures → Type 0
AreAlike tracks p q = AllByRecursion (AreAlikeFor p q) tracks

theirs-alike : (tracks : List Track) (p q : Pictures) (qp : ℕ) (all : List Levels) → AreAlike tracks p q → AreTheirLevels tracks p qp all → AreTheirLevels tracks q qp all
theirs-alike [] p q qp all alike are = are
theirs-alike (track ∷ tracks) p q qp [] alike are = absurd are
theirs-alike (track ∷ tracks) p q qp (levels ∷ all) alike are =
    (levels-alike track.header (track.qps qp) (p track.slot) (q track.slot) levels alike.0.0 alike.0.1 are.0, theirs-alike tracks p q qp all alike.1 are.1)

samples-back : (format : Format) (s t : Samples) → AreSameSamples format s t → AreSameSamples format t s
samples-back format s t alike comp lt y lt_y x lt_x = sym (alike comp lt y lt_y x lt_x)

pub alike-back : (tracks : List Track) (p q : Pictures) → AreAlike tracks p q → AreAlike tracks q p
alike-back [] p q alike = tt
alike-back (track ∷ tracks) p q alike = ((alike.0.0, samples-back (format_of track.header.info) (p track.slot) (q track.slot) alike.0.1), alike-back tracks p q alike.1)

-- what holds of each track holds of all of them
pub all-tracks : (P : Track → Type 0) (tracks : List Track) → ((track : Track) → Contains tracks track → P track) → AllByRecursion P tracks
all-tracks P [] each = tt
all-tracks P (track ∷ tracks) each = (each track (0, omega arith, refl), all-tracks P tracks (λ other in-them. each other (suc in-them.0, omega (arith, in-them.1), in-them.2)))

-- ---- access units

pub unit-alike : (settings : EncoderSettings) (tracks : List Track) (payloads : List ℕ) (p q : Pictures) (unit : EncodedUnit) → AreAlike tracks p q → IsUnitOf settings tracks payloads p unit → IsUnitOf settings tracks payloads q unit
unit-alike settings tracks payloads p q unit alike is = record { levels = theirs-alike tracks p q unit.q unit.levels alike is.levels; bytes = is.bytes }

pub size-alike : (settings : EncoderSettings) (tracks : List Track) (payloads : List ℕ) (p q : Pictures) (qp size : ℕ) → AreAlike tracks p q → HasSizeAt settings tracks payloads p qp size → HasSizeAt settings tracks payloads q qp size
size-alike settings tracks payloads p q qp size alike has = (has.0, unit-alike settings tracks payloads p q has.0 alike has.1, has.2, has.3)

chosen-by : (settings : EncoderSettings) (depth : ℕ) (tracks : List Track) (payloads : List ℕ) (p q : Pictures) (rate : RateControl) (unit : EncodedUnit) → AreAlike tracks p q → IsChosen settings depth tracks payloads p rate unit → IsChosen settings depth tracks payloads q rate unit
chosen-by settings depth tracks payloads p q (fixed qp) unit alike is = is
chosen-by settings depth tracks payloads p q (limited limit first last) unit alike is =
    (is.0, is.1, λ qp size permitted lt has. is.2 qp size permitted lt (size-alike settings tracks payloads q p qp size (alike-back tracks p q alike) has))

pub chosen-alike : (settings : EncoderSettings) (depth : ℕ) (tracks : List Track) (payloads : List ℕ) (p q : Pictures) (unit : EncodedUnit) → AreAlike tracks p q → IsChosenUnit settings depth tracks payloads p unit → IsChosenUnit settings depth tracks payloads q unit
chosen-alike settings depth tracks payloads p q unit alike is = record { unit_of = unit-alike settings tracks payloads p q unit alike is.unit_of; chosen = chosen-by settings depth tracks payloads p q settings.rate unit alike is.chosen }

pub nowhere-alike : (settings : EncoderSettings) (depth : ℕ) (tracks : List Track) (payloads : List ℕ) (p q : Pictures) (smallest : ℕ) → AreAlike tracks p q → FitsNowhere settings depth tracks payloads p smallest → FitsNowhere settings depth tracks payloads q smallest
nowhere-alike settings depth tracks payloads p q smallest alike fits = record {
  q = fits.q;
  permitted = fits.permitted;
  size = size-alike settings tracks payloads p q fits.q smallest alike fits.size;
  least = λ other size permitted has. fits.least other size permitted (size-alike settings tracks payloads q p other size (alike-back tracks p q alike) has);
}
