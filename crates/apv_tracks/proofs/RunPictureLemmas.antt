-- The pictures of a frame of a run, by its settings.
use Rattle.std.proofs.Common.{◌≡◌, ℕ, zero, suc, ◌+◌, ◌<◌, List, [], ◌∷◌, ◌++◌, length, get_or, drop, map, refl, sym, ap, ◌∙◌, subst, arith, Bool, true, false, Result, Ok, Err}
use Rattle.std.specs.Prelude.{ℤ, Contains, slice_set}
use Rattle.std.specs.List.{list_any}
use Rattle.std.specs.Io.KnownBytes.{IsAtEnd}
use Rattle.std.proofs.lemmas.List.Elements.{Contains-get_or}
use Rattle.std.proofs.lemmas.Bool.{OnFalse_at, OnFalse_from, or_parts}
use Rattle.apv_base.specs.declared.exits.Exit.{Exit}
use Rattle.apv_base.specs.declared.exits.Exit.TheVariants.{BadVideo}
use Rattle.apv_base.specs.declared.exits.VideoRule.TheVariants.{Missing}
use Rattle.apv_base.specs.declared.format.Format.{Format}
use Rattle.apv_base.specs.declared.options.Form.{Form}
use Rattle.apv_base.specs.declared.options.Form.TheVariants.{Planar, Y4m}
use Rattle.apv_base.specs.declared.slot.Slot.{Slot}
use Rattle.apv_base.specs.declared.slot.Slot.TheVariants.{Input, Depth, Alpha}
use Rattle.apv_base.specs.model.Header.{grid_of}
use Rattle.apv_base.specs.model.Output.{is_y4m}
use Rattle.apv_base.specs.model.Slot.{same_slot}
use Rattle.apv_encoding.specs.Settings.{Source, Track, grey_track, preview_tracks, primary_track, tracks_of, where_asked}
use Rattle.apv_encoding.specs.Tracks.{form_of}
use Rattle.apv_encoding.proofs.TracksLemmas.{contains-middle}
use Rattle.apv_files.specs.SlotView.{OnlyAt, SlotView}
use Rattle.apv_files.specs.declared.files.Mode.TheVariants.{Reading}
use Rattle.apv_video.specs.ReadFrame.{ReadsFrame}
use Rattle.apv_video.specs.declared.end.VideoEnd.{VideoEnd}
use Rattle.apv_video.specs.declared.open.Shape.{Shape}
use Rattle.apv_words.specs.declared.encoder.EncSettings.{EncSettings}
use Rattle.apv_workers.specs.Track.{TrackState}
use Rattle.apv_tracks.specs.Format.{input_shape}
use Rattle.apv_tracks.specs.Kinds.{AreReading, OnlyAtTracks, has_track, kind_with, kinds_of}
use Rattle.apv_tracks.specs.PictureSteps.{FurtherEnd, ReadsPicture, goes_on, have_ended, is_unread, lacks_memory, is_y4m_slot, shape_of, video_end_exit}
use Rattle.apv_tracks.specs.Pictures.{IsWithinFrame, PicturesEnd, TookPictures}
use Rattle.apv_tracks.specs.Plain.{given_format, plain_settings, source_by}
use Rattle.apv_tracks.specs.States.{AreSameButFrames, AreStatesOf, HaveOwnGrids, IsSameButFrame, IsStateOf}
use Rattle.apv_tracks.specs.declared.kinds.TrackKind.{TrackKind}
use Rattle.apv_tracks.proofs.InputEndLemmas.{input-ends}
use Rattle.apv_tracks.proofs.KindLemmas.{kind_of, kinds-of-tracks}
use Rattle.apv_tracks.proofs.PictureEndLemmas.{EndsWithin, missing-ends, unread-ends}
use Rattle.apv_tracks.proofs.PictureReadLemmas.{IsNext, SoFar, all-read, next-of, next-parts, none-so-far, one-more, read-along, track_shape}
use Rattle.apv_tracks.proofs.SlotReadLemmas.{by-slot, mode-kept, same-other}
use Rattle.apv_tracks.proofs.TrackPlaceLemmas.{any-default, grid-at, kind-at, own-slots, same-at, same-count, same-set, state-at, state-count}

-- ---- the tracks of a run

abbrev pub run_source : EncSettings → Source
run_source settings = (plain_settings settings).source

abbrev pub run_tracks : EncSettings → Format → (ℕ → ℤ) → List Track
run_tracks settings = tracks_of (plain_settings settings)

abbrev pub first_track : EncSettings → Format → (ℕ → ℤ) → Track
first_track settings = primary_track (plain_settings settings)

abbrev pub further_tracks : EncSettings → Format → List Track
further_tracks settings format =
    let plain = plain_settings settings in
    preview_tracks plain plain.preview
    ++ where_asked plain.depth (grey_track plain format Depth 26)
    ++ where_asked plain.alpha (grey_track plain format Alpha 27)

form-by : (form : Form) (format : Format) → is_y4m (form_of (source_by form format) Input) ≡ is_y4m form
form-by Planar format = refl
form-by Y4m format = refl

-- what the pictures of Input are
pub shape-is : (settings : EncSettings) (format : Format) (tile_offset : ℕ → ℤ) → track_shape (run_source settings) (first_track settings format tile_offset) ≡ input_shape settings.form format
shape-is settings format tile_offset = ap (λ (y4m : Bool). record { format = format; y4m = y4m }) (form-by settings.form (given_format settings))

-- ---- so far

-- whatever the tracks are, pictures of the first i were taken
abbrev pub ReadSoFar : EncSettings → ℕ → ℕ → List TrackState → (Slot → SlotView) → (Slot → SlotView) → List TrackState → Type 0
ReadSoFar settings number i olds old mid states =
    (format : Format) (tile_offset : ℕ → ℤ) → AreStatesOf (run_tracks settings format tile_offset) olds
    → SoFar (run_source settings) (run_tracks settings format tile_offset) number i old mid states

-- whatever the tracks are, this is the answer
abbrev pub RunEnds : EncSettings → ℕ → List TrackState → (Slot → SlotView) → (Slot → SlotView) → Exit → Type 0
RunEnds settings number olds old new exit =
    (format : Format) (tile_offset : ℕ → ℤ) → AreStatesOf (run_tracks settings format tile_offset) olds
    → EndsWithin (run_source settings) (run_tracks settings format tile_offset) (track_shape (run_source settings) (first_track settings format tile_offset)) number old new exit

pub none-read : (settings : EncSettings) (number : ℕ) (olds : List TrackState) (old : Slot → SlotView) → ReadSoFar settings number 0 olds old old olds
none-read settings number olds old format tile_offset are = none-so-far (run_source settings) (run_tracks settings format tile_offset) number old olds

pub whole-frame : (settings : EncSettings) (number i : ℕ) (olds : List TrackState) (old new : Slot → SlotView) (states : List TrackState) → 0 < i → i ≡ length states → AreSameButFrames olds states → ReadSoFar settings number i olds old new states
    → (format : Format) (tile_offset : ℕ → ℤ) → AreStatesOf (run_tracks settings format tile_offset) olds → TookPictures (run_source settings) (run_tracks settings format tile_offset) number old states new
whole-frame settings number i olds old new states some count same so_far format tile_offset are =
    all-read (run_source settings) (run_tracks settings format tile_offset) number i old new states some
    (count ∙ same-count olds states same ∙ state-count (run_tracks settings format tile_offset) olds are) count (so_far format tile_offset are)

-- the parts of the contract
pub end-of : (settings : EncSettings) (number : ℕ) (olds : List TrackState) (old new : Slot → SlotView) (exit : Exit) → RunEnds settings number olds old new exit
    → (format : Format) (tile_offset : ℕ → ℤ) → AreStatesOf (run_tracks settings format tile_offset) olds → PicturesEnd (run_source settings) (run_tracks settings format tile_offset) number old new exit
end-of settings number olds old new exit ends format tile_offset are = (ends format tile_offset are).end

pub within-of : (settings : EncSettings) (number : ℕ) (olds : List TrackState) (old new : Slot → SlotView) (exit : Exit) → RunEnds settings number olds old new exit
    → (format : Format) (tile_offset : ℕ → ℤ) → AreStatesOf (run_tracks settings format tile_offset) olds → IsWithinFrame (input_shape settings.form format) (old Input) (new Input)
within-of settings number olds old new exit ends format tile_offset are = subst (λ (shape : Shape). IsWithinFrame shape (old Input) (new Input)) (shape-is settings format tile_offset) (ends format tile_offset are).within

-- ---- the slots

-- the slots of the tracks are reading still
pub reading-still : (settings : EncSettings) (mid new : Slot → SlotView) → ((slot : Slot) → (new slot).mode ≡ (mid slot).mode) → AreReading settings mid → AreReading settings new
reading-still settings mid new same reading kind among = same kind.slot ∙ reading kind among

-- those after the first track
pub further-reading : (settings : EncSettings) (kinds : List TrackKind) (views : Slot → SlotView) → kinds ≡ drop 1 (kinds_of settings) → AreReading settings views → (kind : TrackKind) → Contains kinds kind → (views kind.slot).mode ≡ Reading
further-reading settings kinds views e reading kind among =
    let later : Contains (drop 1 (kinds_of settings)) kind = subst (λ (ks : List TrackKind). Contains ks kind) e among in
    reading kind (suc later.0, omega (arith, later.1), later.2)

any-not : {A : Type 0} (p : A → Bool) (xs : List A) (x : A) → Contains xs x → list_any p xs ≡ false → p x ≡ false
any-not p [] x among e = absurd (omega (arith, among.1))
any-not p (y ∷ xs) x (zero, lt, is) e = ap p (sym is) ∙ (or_parts (p y) (list_any p xs) e).0
any-not p (y ∷ xs) x (suc k, lt, is) e = any-not p xs x (k, omega (arith, lt), is) (or_parts (p y) (list_any p xs) e).1

-- no slot but those of the tracks changed: none yet, after a read of one of them, and after those of the other slots
pub others-none : (settings : EncSettings) (old : Slot → SlotView) → OnlyAtTracks settings old old
others-none settings old slot = OnFalse_from (has_track settings slot) (old slot ≡ old slot) (λ e. refl)

pub others-then : (settings : EncSettings) (old mid new : Slot → SlotView) (kind : TrackKind) (slot : Slot) → Contains (kinds_of settings) kind → slot ≡ kind.slot → OnlyAtTracks settings old mid → OnlyAt slot mid new → OnlyAtTracks settings old new
others-then settings old mid new kind slot among is others elsewhere other = OnFalse_from (has_track settings other) (new other ≡ old other) (λ e.
    let apart : same_slot other slot ≡ false = subst (λ (place : Slot). same_slot other place ≡ false) (sym is) (any-not (λ (k : TrackKind). same_slot other k.slot) (kinds_of settings) kind among e) in
    OnFalse_at apart (elsewhere other) ∙ OnFalse_at e (others other))

further-same : (kinds : List TrackKind) (number : ℕ) (mid new : Slot → SlotView) (exit : Exit) (other : Slot) → list_any (λ (k : TrackKind). same_slot other k.slot) kinds ≡ false → FurtherEnd kinds number mid new exit → new other ≡ mid other
further-same kinds number mid new exit other e (have_ended h) = h.same other
further-same kinds number mid new exit other e (goes_on kind g) = OnFalse_at (any-not (λ (k : TrackKind). same_slot other k.slot) kinds kind (contains-middle g.before kind g.later kinds g.parts) e) (g.elsewhere other)
further-same kinds number mid new exit other e (is_unread kind h) = OnFalse_at (any-not (λ (k : TrackKind). same_slot other k.slot) kinds kind h.among e) (h.elsewhere other)
further-same kinds number mid new exit other e (lacks_memory kind h) = OnFalse_at (any-not (λ (k : TrackKind). same_slot other k.slot) kinds kind h.among e) (h.elsewhere other)

pub others-further : (settings : EncSettings) (kinds : List TrackKind) (number : ℕ) (old mid new : Slot → SlotView) (exit : Exit) → kinds ≡ drop 1 (kinds_of settings) → OnlyAtTracks settings old mid → FurtherEnd kinds number mid new exit → OnlyAtTracks settings old new
others-further settings kinds number old mid new exit is others further other = OnFalse_from (has_track settings other) (new other ≡ old other) (λ e.
    further-same kinds number mid new exit other (ap (list_any (λ (k : TrackKind). same_slot other k.slot)) is ∙ (or_parts (same_slot other Input) (list_any (λ (k : TrackKind). same_slot other k.slot) (drop 1 (kinds_of settings))) e).1) further
    ∙ OnFalse_at e (others other))

-- ---- the next track

-- the step of the loop: what it reads into which track
pub record IsStep (settings : EncSettings) (number i : ℕ) (olds states : List TrackState) (old mid new : Slot → SlotView) (slot : Slot) (e after : TrackState) (result : Result Bool VideoEnd) : Type 0 where
  pub so_far : ReadSoFar settings number i olds old mid states
  pub grids : HaveOwnGrids olds
  pub same : AreSameButFrames olds states
  pub lt : i < length states
  pub lt_kinds : i < length (kinds_of settings)
  pub slot_is : (d : TrackKind) → slot ≡ (get_or (kinds_of settings) i d).slot
  pub kept : IsSameButFrame (get_or states i e) after
  pub read : ReadsPicture slot (is_y4m_slot settings slot) number (mid slot) result after.frame (new slot)
  pub elsewhere : OnlyAt slot mid new

pub step-of : (settings : EncSettings) (number i : ℕ) (olds states : List TrackState) (old mid new : Slot → SlotView) (kinds : List TrackKind) (d : TrackKind) (y4m : Bool) (e after : TrackState) (result : Result Bool VideoEnd) → kinds ≡ kinds_of settings
    → y4m ≡ is_y4m_slot settings (get_or kinds i d).slot → length olds ≡ length (kinds_of settings) → HaveOwnGrids olds → i < length states → ReadSoFar settings number i olds old mid states → AreSameButFrames olds states
    → IsSameButFrame (get_or states i e) after → ReadsPicture (get_or kinds i d).slot y4m number (mid (get_or kinds i d).slot) result after.frame (new (get_or kinds i d).slot) → OnlyAt (get_or kinds i d).slot mid new
    → IsStep settings number i olds states old mid new (get_or kinds i d).slot e after result
step-of settings number i olds states old mid new kinds d y4m e after result kinds_are y4m_is count grids lt so_far same kept read elsewhere =
    let lt_kinds : i < length kinds = omega (arith, lt, same-count olds states same, count, ap length kinds_are) in
    record {
      so_far = so_far;
      grids = grids;
      same = same;
      lt = lt;
      lt_kinds = omega (arith, lt_kinds, ap length kinds_are);
      slot_is = λ other. ap (λ (kind : TrackKind). kind.slot) (any-default kinds i d other lt_kinds ∙ ap (λ (ks : List TrackKind). get_or ks i other) kinds_are);
      kept = kept;
      read = subst (λ (b : Bool). ReadsPicture (get_or kinds i d).slot b number (mid (get_or kinds i d).slot) result after.frame (new (get_or kinds i d).slot)) y4m_is read;
      elsewhere = elsewhere;
    }

module _ {settings : EncSettings} {number i : ℕ} {olds states : List TrackState} {old mid new : Slot → SlotView} {slot : Slot} {e after : TrackState} {result : Result Bool VideoEnd}
    (s : IsStep settings number i olds states old mid new slot e after result) where
  module _ (format : Format) (tile_offset : ℕ → ℤ) (are : AreStatesOf (run_tracks settings format tile_offset) olds) where
    abbrev tracks : List Track
    tracks = run_tracks settings format tile_offset

    abbrev source : Source
    source = run_source settings

    counts : length states ≡ length tracks
    counts = same-count olds states s.same ∙ state-count tracks olds are

    found : (track : Track) × IsNext source tracks number i old mid states track
    found = next-of source tracks number i old mid states (omega (arith, s.lt, counts)) (s.so_far format tile_offset are)

    abbrev track : Track
    track = found.0

    next : IsNext source tracks number i old mid states track
    next = found.1

    parts : tracks ≡ next.so_far.done ++ track ∷ next.later
    parts = next-parts source tracks number i old mid states track next

    slot-is : slot ≡ track.slot
    slot-is =
        let d : TrackKind = kind_of track in
        let at : get_or (map kind_of (next.so_far.done ++ track ∷ next.later)) (length next.so_far.done) d ≡ kind_of track = kind-at next.so_far.done track next.later d in
        s.slot_is d ∙ ap (λ (kinds : List TrackKind). (get_or kinds i d).slot) (kinds-of-tracks settings format tile_offset ∙ ap (map kind_of) parts)
        ∙ ap (λ (n : ℕ). (get_or (map kind_of (next.so_far.done ++ track ∷ next.later)) n d).slot) (sym next.so_far.count) ∙ ap (λ (kind : TrackKind). kind.slot) at

    lt-olds : i < length olds
    lt-olds = omega (arith, s.lt, same-count olds states s.same)

    header-is : (get_or olds i e).header ≡ track.header
    header-is =
        let at : IsStateOf track (get_or olds (length next.so_far.done) e) = state-at next.so_far.done track next.later olds e (subst (λ (ts : List Track). AreStatesOf ts olds) parts are) in
        ap (λ (n : ℕ). (get_or olds n e).header) (sym next.so_far.count) ∙ at.header

    grid-is : after.frame.grid ≡ grid_of track.header
    grid-is =
        let first_same : IsSameButFrame (get_or olds i e) (get_or states i e) = same-at i olds states e e lt-olds s.same in
        s.kept.grid ∙ first_same.grid ∙ grid-at i olds e lt-olds s.grids ∙ ap grid_of header-is

    elsewhere : OnlyAt track.slot mid new
    elsewhere = subst (λ (place : Slot). OnlyAt place mid new) slot-is s.elsewhere

    read : ReadsPicture track.slot (is_y4m (form_of source track.slot)) number (mid track.slot) result after.frame (new track.slot)
    read = subst (λ (place : Slot). ReadsPicture place (is_y4m_slot settings place) number (mid place) result after.frame (new place)) slot-is s.read

    along : ReadsFrame track.slot (track_shape source track) number (mid track.slot) result read.samples (new track.slot)
    along = read-along source track number (mid track.slot) (new track.slot) after.frame result read.samples grid-is read.read

  -- one more track
  pub step-more : result ≡ Ok true → ReadSoFar settings number (i + 1) olds old new (slice_set states i after)
  step-more is format tile_offset are =
      one-more (run_source settings) (run_tracks settings format tile_offset) number i old mid new states (track format tile_offset are) after (own-slots (plain_settings settings) format tile_offset) s.lt (next format tile_offset are) (grid-is format tile_offset are)
      (subst (λ (r : Result Bool VideoEnd). ReadsPicture (track format tile_offset are).slot (is_y4m (form_of (run_source settings) (track format tile_offset are).slot)) number (mid (track format tile_offset are).slot) r after.frame (new (track format tile_offset are).slot)) is (read format tile_offset are))
      (elsewhere format tile_offset are)

  -- no picture of the track was read
  pub step-unread : (end : VideoEnd) → result ≡ Err end → RunEnds settings number olds old new (video_end_exit end)
  step-unread end is format tile_offset are =
      unread-ends (run_source settings) (first_track settings format tile_offset) (further_tracks settings format) refl (own-slots (plain_settings settings) format tile_offset) number i old mid new states (track format tile_offset are) (next format tile_offset are) (elsewhere format tile_offset are)
      end (read format tile_offset are).samples
      (subst (λ (r : Result Bool VideoEnd). ReadsFrame (track format tile_offset are).slot (track_shape (run_source settings) (track format tile_offset are)) number (mid (track format tile_offset are).slot) r (read format tile_offset are).samples (new (track format tile_offset are).slot)) is (along format tile_offset are))

  -- the track has no more pictures, and Input has one
  pub step-missing : result ≡ Ok false → 0 < i → RunEnds settings number olds old new (BadVideo (record { slot = slot; rule = Missing; frame = number }))
  step-missing is later format tile_offset are =
      subst (λ (place : Slot). EndsWithin (run_source settings) (run_tracks settings format tile_offset) (track_shape (run_source settings) (first_track settings format tile_offset)) number old new (BadVideo (record { slot = place; rule = Missing; frame = number })))
      (sym (slot-is format tile_offset are))
      (missing-ends (run_source settings) (first_track settings format tile_offset) (further_tracks settings format) refl (own-slots (plain_settings settings) format tile_offset) number i old mid new states (track format tile_offset are) (next format tile_offset are) (elsewhere format tile_offset are)
      (read format tile_offset are).samples later
      (subst (λ (r : Result Bool VideoEnd). ReadsFrame (track format tile_offset are).slot (track_shape (run_source settings) (track format tile_offset are)) number (mid (track format tile_offset are).slot) r (read format tile_offset are).samples (new (track format tile_offset are).slot)) is (along format tile_offset are)))

  -- only the slots of tracks changed, and they are reading still
  pub step-others : OnlyAtTracks settings old mid → OnlyAtTracks settings old new
  step-others others =
      let d : TrackKind = kind_with Input 1 in
      others-then settings old mid new (get_or (kinds_of settings) i d) slot (Contains-get_or (kinds_of settings) i d s.lt_kinds) (s.slot_is d) others s.elsewhere

  mode-by : (some : Bool) → ReadsFrame slot (shape_of after.frame (is_y4m_slot settings slot)) number (mid slot) (Ok some) s.read.samples (new slot) → (new slot).mode ≡ (mid slot).mode
  mode-by true h = ap (λ (view : SlotView). view.mode) h.took.rest
  mode-by false h = ap (λ (view : SlotView). view.mode) h.0

  pub step-reading : (some : Bool) → result ≡ Ok some → AreReading settings mid → AreReading settings new
  step-reading some is reading =
      reading-still settings mid new (mode-kept old mid new slot s.elsewhere (mode-by some (subst (λ (r : Result Bool VideoEnd). ReadsFrame slot (shape_of after.frame (is_y4m_slot settings slot)) number (mid slot) r s.read.samples (new slot)) is s.read.read))) reading

  -- no more than the samples of the frames differ
  pub step-same : AreSameButFrames olds (slice_set states i after)
  step-same = same-set i olds states e after s.lt s.same s.kept

  -- Input has ended: nothing was read
  module _ (is : result ≡ Ok false) (none : i ≡ 0) where
    ended-here : (new slot ≡ mid slot) × IsAtEnd (mid slot).left
    ended-here = subst (λ (r : Result Bool VideoEnd). ReadsFrame slot (shape_of after.frame (is_y4m_slot settings slot)) number (mid slot) r s.read.samples (new slot)) is s.read.read

    input-here : slot ≡ Input
    input-here = s.slot_is (kind_with Input 1) ∙ ap (λ (n : ℕ). (get_or (kinds_of settings) n (kind_with Input 1)).slot) none

    pub step-input : (kinds : List TrackKind) (last : Slot → SlotView) (exit : Exit) → kinds ≡ drop 1 (kinds_of settings) → FurtherEnd kinds number new last exit → RunEnds settings number olds old last exit
    step-input kinds last exit e further format tile_offset are =
        input-ends (run_source settings) (first_track settings format tile_offset) (further_tracks settings format) refl (own-slots (plain_settings settings) format tile_offset) (track_shape (run_source settings) (first_track settings format tile_offset)) number old new last
        (by-slot (λ place. new place ≡ old place) slot (ended-here.0 ∙ so_far.none none slot) (λ other apart. same-other old mid new slot s.elsewhere other apart ∙ so_far.none none other))
        (subst (λ (place : Slot). IsAtEnd (new place).left) input-here (subst (λ (view : SlotView). IsAtEnd view.left) (sym ended-here.0) ended-here.1))
        kinds exit (e ∙ ap (drop 1) (kinds-of-tracks settings format tile_offset)) further
      where
        so_far : SoFar (run_source settings) (run_tracks settings format tile_offset) number i old mid states
        so_far = s.so_far format tile_offset are
