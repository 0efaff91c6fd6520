-- The picture of samples that are those of a frame.
use Rattle.std.proofs.Common.{◌≡◌, ℕ, zero, suc, ◌+◌, ◌*◌, ◌/◌, ◌<◌, ◌≤◌, List, ◌++◌, sym, ap, ap₂, refl, subst, ◌∙◌, arith, Bool, true, false}
use Rattle.std.specs.Prelude.{if◌then◌else◌, ◌&&◌, ◌||◌, ◌==◌}
use Rattle.std.specs.List.{flat_map, range_with_len}
use Rattle.apv_base.specs.declared.format.Format.{Format}
use Rattle.apv_base.specs.model.CodedFrame.{CodedFrame, Levels}
use Rattle.apv_base.specs.model.Format.{comps_of, component_width, is_halved}
use Rattle.apv_base.specs.model.Grid.{Grid}
use Rattle.apv_base.specs.model.Header.{format_of, grid_of}
use Rattle.apv_base.specs.model.Picture.{Samples, joined, low_first, picture, frame_picture, sample}
use Rattle.apv_grid.specs.Buffer.{Buffer, IsFilled, filled_width, samples_of}

pieces-alike : (f g : ℕ → List ℕ) (a n : ℕ) → ((i : ℕ) → a ≤ i → i < a + n → f i ≡ g i) → flat_map f (range_with_len a n) ≡ flat_map g (range_with_len a n)
pieces-alike f g a zero same = refl
pieces-alike f g a (suc n) same = ap₂ (λ (x y : List ℕ). x ++ y) (same a (omega arith) (omega arith)) (pieces-alike f g (a + 1) n (λ i from to. same i (omega arith) (omega arith)))

-- visible samples that are the same
abbrev pub AreAlike : Format → Samples → Samples → Type 0
AreAlike format s t = (comp x y : ℕ) → comp < comps_of format.chroma → x < component_width format comp → y < format.height → s comp x y ≡ t comp x y

row-alike : (format : Format) (s t : Samples) (comp y : ℕ) → AreAlike format s t → comp < comps_of format.chroma → y < format.height
    → joined (component_width format comp) (λ x. low_first (s comp x y)) ≡ joined (component_width format comp) (λ x. low_first (t comp x y))
row-alike format s t comp y same known line = pieces-alike (λ x. low_first (s comp x y)) (λ x. low_first (t comp x y)) 0 (component_width format comp) (λ x from to. ap low_first (same comp x y known (omega arith) line))

plane-alike : (format : Format) (s t : Samples) (comp : ℕ) → AreAlike format s t → comp < comps_of format.chroma
    → joined format.height (λ y. joined (component_width format comp) (λ x. low_first (s comp x y))) ≡ joined format.height (λ y. joined (component_width format comp) (λ x. low_first (t comp x y)))
plane-alike format s t comp same known =
    pieces-alike (λ y. joined (component_width format comp) (λ x. low_first (s comp x y))) (λ y. joined (component_width format comp) (λ x. low_first (t comp x y))) 0 format.height
    (λ y from to. row-alike format s t comp y same known (omega arith))

-- a picture is that of its visible samples
pub picture-alike : (format : Format) (s t : Samples) → AreAlike format s t → picture format s ≡ picture format t
unfolding picture
picture-alike format s t same =
    pieces-alike (λ comp. joined format.height (λ y. joined (component_width format comp) (λ x. low_first (s comp x y)))) (λ comp. joined format.height (λ y. joined (component_width format comp) (λ x. low_first (t comp x y)))) 0 (comps_of format.chroma)
    (λ comp from to. plane-alike format s t comp same (omega arith))

half-or-whole : (b : Bool) (width : ℕ) → (if b then width / 2 else width) ≤ 8 * (if b then 1 else 2) * ((width + 15) / 16)
half-or-whole true width = omega arith
half-or-whole false width = omega arith

below : (x a b : ℕ) → x < a → a ≤ b → x < b
below x a b lt le = omega arith

-- a visible sample is in the filled area
pub visible-filled : (grid : Grid) (comp x y : ℕ) → comp < comps_of grid.format.chroma → x < component_width grid.format comp → y < grid.format.height → IsFilled grid comp x y
visible-filled grid comp x y known column line = record {
  known = known;
  column = below x (component_width grid.format comp) (filled_width grid comp) column (half-or-whole (is_halved grid.format.chroma && (comp == 1 || comp == 2)) grid.format.width);
  line = omega (arith, line);
}

-- the picture of a buffer with the samples of a frame is that of the frame
pub picture-of : (coded : CodedFrame) (levels : Levels) (buffer : Buffer ℕ) → buffer.grid ≡ grid_of coded.header
    → ((comp x y : ℕ) → IsFilled buffer.grid comp x y → samples_of buffer comp x y ≡ sample coded levels comp x y)
    → picture buffer.grid.format (samples_of buffer) ≡ frame_picture coded levels
picture-of coded levels buffer same samples =
    ap (λ (grid : Grid). picture grid.format (samples_of buffer)) same
    ∙ picture-alike (format_of coded.header.info) (samples_of buffer) (sample coded levels)
    (λ comp x y known column line. samples comp x y (subst (λ (grid : Grid). IsFilled grid comp x y) (sym same) (visible-filled (grid_of coded.header) comp x y known column line)))
