-- The tracks of a run as they are kept in memory, from one frame to the next.
use Rattle.std.proofs.Common.{◌≡◌, ℕ, ℤ, zero, suc, ◌-◌, ◌/◌, ◌%◌, ◌^◌, ◌<◌, ◌≤◌, List, [], ◌∷◌, length, refl, sym, ap, ◌∙◌, subst, arith, Bool, true, false, Option, None}
use Rattle.std.specs.Prelude.{min, if◌then◌else◌, not, ◌&&◌, ◌||◌, ◌==◌}
use Rattle.std.specs.List.{AllByRecursion}
use Rattle.std.proofs.lemmas.Bool.{or_parts}
use Rattle.apv_base.specs.declared.format.Chroma.{Chroma}
use Rattle.apv_base.specs.declared.format.Chroma.TheVariants.{C400, C422, C444, C4444}
use Rattle.apv_base.specs.declared.format.Format.{Format}
use Rattle.apv_base.specs.declared.header.FrameHeader.{FrameHeader}
use Rattle.apv_base.specs.model.Format.{component_width, is_halved}
use Rattle.apv_base.specs.model.Grid.{Grid}
use Rattle.apv_base.specs.model.Header.{format_of, grid_of}
use Rattle.apv_base.specs.model.Picture.{Samples}
use Rattle.apv_base.specs.model.Video.{AreInRange}
use Rattle.apv_workers.specs.Encode.{AreOfDepth, IsPaddedFrom}
use Rattle.apv_workers.specs.Track.{TrackState}
use Rattle.apv_words.specs.declared.encoder.EncSettings.{EncSettings}
use Rattle.apv_encoding.specs.AccessUnit.{Pictures}
use Rattle.apv_encoding.specs.Settings.{EncoderSettings, Source, Track, check_input, check_preview, check_size_of, grey_format, has_large_qp, has_many_tiles, is_written, preview_format, profile_of, tracks_of}
use Rattle.apv_encoding.specs.Tracks.{Contents, FrameAt}
use Rattle.apv_encoding.proofs.PictureLemmas.{HasSamples}
use Rattle.apv_encoding.proofs.SettingsLemmas.{first-none, passed, size-passes}
use Rattle.apv_tracks.specs.Kinds.{kinds_of}
use Rattle.apv_tracks.specs.Plain.{plain_settings}
use Rattle.apv_tracks.specs.States.{AreSameButFrames, AreStatesOf, HasOwnGrid, HaveOwnGrids, HavePictures, IsSameButFrame, IsStateOf, kept_qps}
use Rattle.apv_enc.specs.Coding.{AreCoded, HasFrameToCode, HasPermittedQps, IsCoded}
use Rattle.apv_enc.proofs.SlotsLemmas.{all-tracks, later, tracks-count}

-- ---- headers, offsets and grids stay

read-state : (track : Track) (old new : TrackState) → IsSameButFrame old new → IsStateOf track old → IsStateOf track new
read-state track old new same is = record {
  header = ap (λ (t : TrackState). t.header) same.rest ∙ is.header;
  qps = λ q tile comp lt known. ap (λ (t : TrackState). kept_qps t q tile comp) same.rest ∙ is.qps q tile comp lt known;
}

coded-state : (track : Track) (old new : TrackState) → IsCoded old new → IsStateOf track old → IsStateOf track new
coded-state track old new e is = record {
  header = ap (λ (t : TrackState). t.header) e ∙ is.header;
  qps = λ q tile comp lt known. ap (λ (t : TrackState). kept_qps t q tile comp) e ∙ is.qps q tile comp lt known;
}

-- other samples
pub read-states : (tracks : List Track) (olds news : List TrackState) → AreSameButFrames olds news → AreStatesOf tracks olds → AreStatesOf tracks news
read-states [] [] news same are = same
read-states [] (old ∷ olds) news same are = absurd (let no : ⊥ = cc in no)
read-states (track ∷ tracks) [] news same are = absurd are
read-states (track ∷ tracks) (old ∷ olds) [] same are = absurd same
read-states (track ∷ tracks) (old ∷ olds) (new ∷ news) same are = (read-state track old new same.0 are.0, read-states tracks olds news same.1 are.1)

pub read-grids : (olds news : List TrackState) → AreSameButFrames olds news → HaveOwnGrids olds → HaveOwnGrids news
read-grids [] news same own = subst HaveOwnGrids (sym same) tt
read-grids (old ∷ olds) [] same own = absurd same
read-grids (old ∷ olds) (new ∷ news) same own = (same.0.grid ∙ own.0 ∙ ap (λ (t : TrackState). grid_of t.header) (sym same.0.rest), read-grids olds news same.1 own.1)

-- other levels
pub coded-states : (tracks : List Track) (olds news : List TrackState) → AreCoded olds news → AreStatesOf tracks olds → AreStatesOf tracks news
coded-states [] [] news same are = same
coded-states [] (old ∷ olds) news same are = absurd (let no : ⊥ = cc in no)
coded-states (track ∷ tracks) [] news same are = absurd are
coded-states (track ∷ tracks) (old ∷ olds) [] same are = absurd same
coded-states (track ∷ tracks) (old ∷ olds) (new ∷ news) same are = (coded-state track old new same.0 are.0, coded-states tracks olds news same.1 are.1)

pub coded-grids : (olds news : List TrackState) → AreCoded olds news → HaveOwnGrids olds → HaveOwnGrids news
coded-grids [] news same own = subst HaveOwnGrids (sym same) tt
coded-grids (old ∷ olds) [] same own = absurd same
coded-grids (old ∷ olds) (new ∷ news) same own = (ap (λ (t : TrackState). t.frame.grid) same.0 ∙ own.0 ∙ ap (λ (t : TrackState). grid_of t.header) (sym same.0), coded-grids olds news same.1 own.1)

-- ---- how many there are

states-count-by : (tracks : List Track) (states : List TrackState) → AreStatesOf tracks states → length states ≡ length tracks
states-count-by [] states are = ap (length {A = TrackState}) are
states-count-by (track ∷ tracks) [] are = absurd are
states-count-by (track ∷ tracks) (state ∷ states) are = ap suc (states-count-by tracks states are.1)

-- as many as kinds
pub states-count : (s : EncSettings) (format : Format) (offset : ℕ → ℤ) (states : List TrackState) → AreStatesOf (tracks_of (plain_settings s) format offset) states → length states ≡ length (kinds_of s)
states-count s format offset states are = states-count-by (tracks_of (plain_settings s) format offset) states are ∙ tracks-count s format offset

-- ---- QPs

large-qp : (e : EncoderSettings) (format : Format) → check_input e format ≡ None → has_large_qp e.rate format.depth ≡ false
large-qp e format is =
    let first = first-none (check_size_of format) _ is in
    let second = passed (not (is_written (profile_of e format) format)) _ _ first.1 in
    let third = passed (has_many_tiles e format) _ _ second.1 in
    (passed (has_large_qp e.rate format.depth) _ _ third.1).0

-- the QPs that are given are permitted
pub permitted-qps : (e : EncoderSettings) (format : Format) (offset : ℕ → ℤ) (states : List TrackState) → check_input e format ≡ None → AreStatesOf (tracks_of e format offset) states → HasPermittedQps e.rate states
permitted-qps e format offset [] is are = absurd are
permitted-qps e format offset (first ∷ more) is are = subst (λ (header : FrameHeader). has_large_qp e.rate header.info.depth ≡ false) (sym are.0.header) (large-qp e format is)

-- ---- sizes

abbrev pub HasTrackSize : Track → Type 0
HasTrackSize track = HasSamples (format_of track.header.info)

or-false : (b : Bool) → b ≡ false → (b || false) ≡ false
or-false b e = rw e refl

-- the frames of each track have samples
pub sizes-pass : (e : EncoderSettings) (format : Format) (offset : ℕ → ℤ) → check_input e format ≡ None → check_preview e.preview ≡ None → AllByRecursion HasTrackSize (tracks_of e format offset)
sizes-pass e format offset is preview_is =
    let size = (size-passes format (first-none (check_size_of format) _ is).0).size in
    let parts = or_parts (format.width == 0 || format.height == 0) (is_halved format.chroma && (format.width % 2 == 1)) size in
    let grey : HasSamples (grey_format format) = or-false (format.width == 0 || format.height == 0) parts.0 in
    all-tracks HasTrackSize e format offset size
    (λ preview named. (size-passes (preview_format preview) (subst (λ (p : Option (ℕ × ℕ)). check_preview p ≡ None) named preview_is)).size) grey grey

-- ---- samples of the bit depth

half-or-whole : (b : Bool) (width : ℕ) → 0 < width → (width % 2 == 1) ≡ false → 0 < (if b then width / 2 else width)
half-or-whole true width some even = omega (arith, odd-or-even width some even)
  where
    odd-or-even : (width : ℕ) → 0 < width → (width % 2 == 1) ≡ false → 2 ≤ width
    odd-or-even zero some even = absurd (omega (arith, some))
    odd-or-even (suc zero) some even = absurd (let no : ⊥ = cc in no)
    odd-or-even (suc (suc n)) some even = omega arith
half-or-whole false width some even = some

above-zero : (n : ℕ) → (n == 0) ≡ false → 0 < n
above-zero zero e = absurd (let no : ⊥ = cc in no)
above-zero (suc n) e = omega arith

width-above : (width height : ℕ) (chroma : Chroma) (depth comp : ℕ) → 0 < width → (is_halved chroma && (width % 2 == 1)) ≡ false → 0 < component_width (record { width = width; height = height; chroma = chroma; depth = depth }) comp
width-above width height C400 depth comp some even = some
width-above width height C422 depth comp some even = half-or-whole (comp == 1 || comp == 2) width some even
width-above width height C444 depth comp some even = some
width-above width height C4444 depth comp some even = some

min-below : (x n : ℕ) → 0 < n → min x (n - 1) < n
min-below x n some = omega arith

-- padded samples of a picture whose samples are in range are
of-depth : (grid : Grid) (samples : Samples) (values : List ℕ) → HasSamples grid.format → IsPaddedFrom grid samples values → AreInRange grid.format samples → AreOfDepth grid values
of-depth grid samples values sound padded range comp x y filled =
    let outer = or_parts (grid.format.width == 0 || grid.format.height == 0) (is_halved grid.format.chroma && (grid.format.width % 2 == 1)) sound in
    let sizes = or_parts (grid.format.width == 0) (grid.format.height == 0) outer.0 in
    let wide : 0 < component_width grid.format comp = width-above grid.format.width grid.format.height grid.format.chroma grid.format.depth comp (above-zero grid.format.width sizes.0) outer.1 in
    let high : 0 < grid.format.height = above-zero grid.format.height sizes.1 in
    subst (λ (v : ℕ). v < 2 ^ grid.format.depth) (sym (padded comp x y filled))
    (range comp (min x (component_width grid.format comp - 1)) (min y (grid.format.height - 1)) filled.known (min-below x (component_width grid.format comp) wide) (min-below y grid.format.height high))

-- ---- frames that can be coded

frame-to-code : (track : Track) (state : TrackState) (samples : Samples) → IsStateOf track state → HasOwnGrid state → HasTrackSize track → AreInRange (format_of track.header.info) samples → IsPaddedFrom (grid_of track.header) samples state.frame.values → HasFrameToCode state
frame-to-code track state samples is own size range padded = record {
  grid = own;
  depth = subst (λ (header : FrameHeader). AreOfDepth (grid_of header) state.frame.values) (sym is.header) (of-depth (grid_of track.header) samples state.frame.values size padded range);
}

-- the pictures of a frame, which are padded, can be coded
pub frames-to-code : (source : Source) (tracks : List Track) (left after : Contents) (pictures : Pictures) (states : List TrackState) → AllByRecursion HasTrackSize tracks → FrameAt source tracks left pictures after → AreStatesOf tracks states → HavePictures tracks pictures states → HaveOwnGrids states
    → AllByRecursion HasFrameToCode states
frames-to-code source [] left after pictures states sizes at are have own = subst (AllByRecursion HasFrameToCode) (sym are) tt
frames-to-code source (track ∷ tracks) left after pictures [] sizes at are have own = absurd are
frames-to-code source (track ∷ tracks) left after pictures (state ∷ states) sizes at are have own = (
  frame-to-code track state (pictures track.slot) are.0 own.0 sizes.0 (at track (0, omega arith, refl)).range have.0,
  frames-to-code source tracks left after pictures states sizes.1 (λ other in-them. at other (later track tracks other in-them)) are.1 have.1 own.1,
)
