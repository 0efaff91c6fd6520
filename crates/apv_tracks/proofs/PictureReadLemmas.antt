-- The pictures of a frame, read one after another.
use Rattle.std.proofs.Common.{◌≡◌, ℕ, ◌+◌, ◌<◌, ◌≤◌, List, [], ◌∷◌, ◌++◌, length, take, refl, sym, ap, ◌∙◌, subst, arith, Bool, true, Result, Ok, append_assoc, append-nil, length-append}
use Rattle.std.specs.Prelude.{slice_set}
use Rattle.std.specs.List.{AllByRecursion}
use Rattle.std.proofs.lemmas.List.{take_all, take_more_set}
use Rattle.apv_base.specs.declared.format.Format.{Format}
use Rattle.apv_base.specs.declared.options.Form.{Form}
use Rattle.apv_base.specs.declared.options.Form.TheVariants.{Planar, Y4m}
use Rattle.apv_base.specs.declared.slot.Slot.{Slot}
use Rattle.apv_base.specs.model.Format.{IsSoundFormat}
use Rattle.apv_base.specs.model.Grid.{Grid}
use Rattle.apv_base.specs.model.Header.{format_of, grid_of}
use Rattle.apv_base.specs.model.Output.{is_y4m}
use Rattle.apv_base.specs.model.Picture.{Samples, picture, picture_len}
use Rattle.apv_base.specs.model.Run.{MAX_UNITS}
use Rattle.apv_base.specs.model.Video.{FrameLineAt, PictureAt, planar, named, spaced}
use Rattle.apv_base.proofs.HeaderPartsLemmas.{all-append}
use Rattle.apv_encoding.specs.AccessUnit.{Pictures}
use Rattle.apv_encoding.specs.Settings.{Source, Track}
use Rattle.apv_encoding.specs.Tracks.{Contents, form_of}
use Rattle.apv_encoding.proofs.PictureLemmas.{HasSamples, length-picture, one-start}
use Rattle.apv_files.specs.Loops.{TookAll}
use Rattle.apv_files.specs.SlotView.{OnlyAt, SlotView}
use Rattle.apv_files.proofs.Many.{took-none}
use Rattle.apv_grid.specs.Buffer.{Buffer, IsPadded, samples_of}
use Rattle.apv_video.specs.ReadFrame.{form_of as shape_form, IsWithinPicture, ReadsFrame, TookPicture}
use Rattle.apv_video.specs.declared.end.VideoEnd.{VideoEnd}
use Rattle.apv_video.specs.declared.open.Shape.{Shape}
use Rattle.apv_workers.specs.Encode.{IsPaddedFrom}
use Rattle.apv_workers.specs.Track.{TrackState}
use Rattle.apv_tracks.specs.PictureSteps.{ReadsPicture, shape_of}
use Rattle.apv_tracks.specs.Pictures.{TookPictures}
use Rattle.apv_tracks.specs.States.{HavePictures}
use Rattle.apv_tracks.proofs.SlotReadLemmas.{AreApart, at-it, at-other, same-other, took-first, with_at}
use Rattle.apv_tracks.proofs.TrackPlaceLemmas.{HaveOwnSlots, all-among, all-by-two, all-of, apart-before, apart-later}

-- ---- within a picture

start-short : (xs : List ℕ) (form : Form) (start : List ℕ) → FrameLineAt xs form start → length start ≤ length xs
start-short xs Planar start planar = omega arith
start-short xs Y4m start (named line after at e) = omega (arith, ap (length {A = ℕ}) at.bytes, length-append line (10 ∷ start))
start-short xs Y4m start (spaced line after more at e) = omega (arith, ap (length {A = ℕ}) at.bytes, length-append line (10 ∷ start))

-- nothing is within a picture
pub within-none : (shape : Shape) → IsWithinPicture shape []
within-none shape more start at long = omega (arith, start-short more (shape_form shape) start at)

-- a whole picture is
pub within-whole : (format : Format) (form : Form) (taken : List ℕ) (samples : Samples) → ((after : List ℕ) → PictureAt format form (taken ++ after) samples after)
    → (more start : List ℕ) → FrameLineAt (taken ++ more) form start → picture_len format ≤ length start → length start ≤ picture_len format + length more
within-whole format form taken samples whole more start at long =
    let p = whole more in
    let one : start ≡ p.start = one-start (taken ++ more) form start p.start at p.prefix in
    omega (arith, ap (length {A = ℕ}) one, ap (length {A = ℕ}) p.bytes, length-append (picture format samples) more, length-picture format samples)

-- ---- the shape of a track's pictures

abbrev pub track_shape : Source → Track → Shape
track_shape source track = record { format = format_of track.header.info; y4m = is_y4m (form_of source track.slot) }

form-again : (format : Format) (form : Form) → shape_form (record { format = format; y4m = is_y4m form }) ≡ form
form-again format Planar = refl
form-again format Y4m = refl

pub form-is : (source : Source) (track : Track) → shape_form (track_shape source track) ≡ form_of source track.slot
form-is source track = form-again (format_of track.header.info) (form_of source track.slot)

-- the shape that was read is that of the track
pub read-along : (source : Source) (track : Track) (number : ℕ) (old new : SlotView) (frame : Buffer ℕ) (result : Result Bool VideoEnd) (samples : Samples) → frame.grid ≡ grid_of track.header
    → ReadsFrame track.slot (shape_of frame (is_y4m (form_of source track.slot))) number old result samples new → ReadsFrame track.slot (track_shape source track) number old result samples new
read-along source track number old new frame result samples e h =
    subst (λ (grid : Grid). ReadsFrame track.slot (record { format = grid.format; y4m = is_y4m (form_of source track.slot) }) number old result samples new) e h

-- ---- one picture

-- a picture was read into a frame, and padded
pub picture-whole : (slot : Slot) (y4m : Bool) (number : ℕ) (old new : SlotView) (format : Format) (given read padded : Buffer ℕ) (result : Result Bool VideoEnd) (some : Bool) → result ≡ Ok some → some ≡ true → IsSoundFormat format
    → format ≡ given.grid.format → read.grid ≡ given.grid → padded.grid ≡ read.grid → IsPadded read.grid read.values padded.values → ReadsFrame slot (record { format = format; y4m = y4m }) number old result (samples_of read) new
    → ReadsPicture slot y4m number old (Ok true) padded new
picture-whole slot y4m number old new format given read padded result some is true_is sound format_is grid padded_grid pads h =
    let e : format ≡ padded.grid.format = format_is ∙ ap (λ (g : Grid). g.format) (sym (padded_grid ∙ grid)) in
    record {
      samples = samples_of read;
      sound = subst IsSoundFormat e sound;
      read = subst (λ (f : Format). ReadsFrame slot (record { format = f; y4m = y4m }) number old (Ok true) (samples_of read) new) e
          (subst (λ (r : Result Bool VideoEnd). ReadsFrame slot (record { format = format; y4m = y4m }) number old r (samples_of read) new) (is ∙ ap Ok true_is) h);
      padded = λ same. subst (λ (g : Grid). IsPaddedFrom g (samples_of read) padded.values) (sym padded_grid) pads;
    }

-- no picture was read
pub picture-none : (slot : Slot) (y4m : Bool) (number : ℕ) (old new : SlotView) (format : Format) (given read : Buffer ℕ) (result other : Result Bool VideoEnd) → result ≡ other → (other ≡ Ok true → ⊥) → IsSoundFormat format
    → format ≡ given.grid.format → read.grid ≡ given.grid → ReadsFrame slot (record { format = format; y4m = y4m }) number old result (samples_of read) new → ReadsPicture slot y4m number old other read new
picture-none slot y4m number old new format given read result other is not_read sound format_is grid h =
    let e : format ≡ read.grid.format = format_is ∙ ap (λ (g : Grid). g.format) (sym grid) in
    record {
      samples = samples_of read;
      sound = subst IsSoundFormat e sound;
      read = subst (λ (f : Format). ReadsFrame slot (record { format = f; y4m = y4m }) number old other (samples_of read) new) e
          (subst (λ (r : Result Bool VideoEnd). ReadsFrame slot (record { format = format; y4m = y4m }) number old r (samples_of read) new) is h);
      padded = λ same. absurd (not_read same);
    }

-- ---- frames

-- a picture of the track was taken, whatever follows
pub record IsReadAs (source : Source) (taken : Contents) (pictures : Pictures) (track : Track) : Type 0 where
  pub some : HasSamples (format_of track.header.info)
  pub whole : (after : List ℕ) → PictureAt (format_of track.header.info) (form_of source track.slot) (taken track.slot ++ after) (pictures track.slot) after

read-as : (source : Source) (taken : Contents) (pictures : Pictures) (track : Track) (number : ℕ) (old new : SlotView) (samples : Samples) (took : TookPicture (track_shape source track) number old samples new) → HasSamples (format_of track.header.info)
    → IsReadAs source (with_at track.slot took.taken taken) (with_at track.slot samples pictures) track
read-as source taken pictures track number old new samples took some = record {
  some = some;
  whole = λ after.
      subst (λ (xs : List ℕ). PictureAt (format_of track.header.info) (form_of source track.slot) (xs ++ after) (with_at track.slot samples pictures track.slot) after) (sym (at-it track.slot took.taken taken))
      (subst (λ (s : Samples). PictureAt (format_of track.header.info) (form_of source track.slot) (took.taken ++ after) s after) (sym (at-it track.slot samples pictures))
      (subst (λ (form : Form). PictureAt (format_of track.header.info) form (took.taken ++ after) samples after) (form-is source track) (took.picture after)));
}

-- still, after a picture of another slot
read-still : (source : Source) (taken : Contents) (pictures : Pictures) (track : Track) (slot : Slot) (bytes : List ℕ) (samples : Samples) → IsReadAs source taken pictures track → AreApart track.slot slot
    → IsReadAs source (with_at slot bytes taken) (with_at slot samples pictures) track
read-still source taken pictures track slot bytes samples read apart = record {
  some = read.some;
  whole = λ after.
      subst (λ (xs : List ℕ). PictureAt (format_of track.header.info) (form_of source track.slot) (xs ++ after) (with_at slot samples pictures track.slot) after) (sym (at-other slot track.slot bytes taken apart))
      (subst (λ (s : Samples). PictureAt (format_of track.header.info) (form_of source track.slot) (taken track.slot ++ after) s after) (sym (at-other slot track.slot samples pictures apart)) (read.whole after));
}

have-push : (done : List Track) (track : Track) (pictures : Pictures) (states : List TrackState) (state : TrackState) (samples : Samples) → HavePictures done pictures states → AllByRecursion (λ (other : Track). AreApart other.slot track.slot) done
    → IsPaddedFrom (grid_of track.header) samples state.frame.values → HavePictures (done ++ track ∷ []) (with_at track.slot samples pictures) (states ++ state ∷ [])
have-push [] track pictures states state samples have apart padded =
    subst (λ (ss : List TrackState). HavePictures (track ∷ []) (with_at track.slot samples pictures) (ss ++ state ∷ [])) (sym have)
    (subst (λ (s : Samples). IsPaddedFrom (grid_of track.header) s state.frame.values) (sym (at-it track.slot samples pictures)) padded, refl)
have-push (other ∷ done) track pictures [] state samples have apart padded = absurd have
have-push (other ∷ done) track pictures (s ∷ states) state samples have apart padded = (
  subst (λ (p : Samples). IsPaddedFrom (grid_of other.header) p s.frame.values) (sym (at-other track.slot other.slot samples pictures apart.0)) have.0,
  have-push done track pictures states state samples have.1 apart.1 padded,
)

-- ---- the tracks so far

-- a picture was taken of each of the first i tracks, and is in its frame; the slots of the others are as they were
pub record SoFar (source : Source) (tracks : List Track) (number i : ℕ) (old mid : Slot → SlotView) (states : List TrackState) : Type 0 where
  pub done : List Track
  pub rest : List Track
  pub parts : tracks ≡ done ++ rest
  pub count : length done ≡ i
  pub taken : Contents
  pub pictures : Pictures
  pub took : (slot : Slot) → TookAll (old slot) (taken slot) (mid slot)
  pub none : i ≡ 0 → (slot : Slot) → mid slot ≡ old slot
  pub few : 0 < i → number < MAX_UNITS
  pub each : AllByRecursion (IsReadAs source taken pictures) done
  pub have : HavePictures done pictures (take i states)
  pub unread : AllByRecursion (λ (track : Track). mid track.slot ≡ old track.slot) rest

-- this track is the next one
pub record IsNext (source : Source) (tracks : List Track) (number i : ℕ) (old mid : Slot → SlotView) (states : List TrackState) (track : Track) : Type 0 where
  pub so_far : SoFar source tracks number i old mid states
  pub later : List Track
  pub next : so_far.rest ≡ track ∷ later

pub next-parts : (source : Source) (tracks : List Track) (number i : ℕ) (old mid : Slot → SlotView) (states : List TrackState) (track : Track) (p : IsNext source tracks number i old mid states track) → tracks ≡ p.so_far.done ++ track ∷ p.later
next-parts source tracks number i old mid states track p = p.so_far.parts ∙ ap (λ (ts : List Track). p.so_far.done ++ ts) p.next

-- before the first track
pub none-so-far : (source : Source) (tracks : List Track) (number : ℕ) (old : Slot → SlotView) (states : List TrackState) → SoFar source tracks number 0 old old states
none-so-far source tracks number old states = record {
  done = [];
  rest = tracks;
  parts = refl;
  count = refl;
  taken = λ slot. [];
  pictures = λ slot comp x y. 0;
  took = λ slot. took-none (old slot);
  none = λ e slot. refl;
  few = λ lt. absurd (omega (arith, lt));
  each = tt;
  have = refl;
  unread = all-of (λ (track : Track). old track.slot ≡ old track.slot) tracks (λ track. refl);
}

split-next : (tracks done rest : List Track) → tracks ≡ done ++ rest → length done < length tracks → (track : Track) × (later : List Track) × (rest ≡ track ∷ later)
split-next tracks done [] e lt = absurd (omega (arith, lt, ap length e, length-append done []))
split-next tracks done (track ∷ later) e lt = (track, later, refl)

-- there is a next track
pub next-of : (source : Source) (tracks : List Track) (number i : ℕ) (old mid : Slot → SlotView) (states : List TrackState) → i < length tracks → SoFar source tracks number i old mid states
    → (track : Track) × IsNext source tracks number i old mid states track
next-of source tracks number i old mid states lt p =
    let split = split-next tracks p.done p.rest p.parts (omega (arith, lt, p.count)) in
    (split.0, record { so_far = p; later = split.1; next = split.2 })

-- one more picture
pub one-more : (source : Source) (tracks : List Track) (number i : ℕ) (old mid new : Slot → SlotView) (states : List TrackState) (track : Track) (state : TrackState) → HaveOwnSlots tracks → i < length states → (p : IsNext source tracks number i old mid states track)
    → state.frame.grid ≡ grid_of track.header → ReadsPicture track.slot (is_y4m (form_of source track.slot)) number (mid track.slot) (Ok true) state.frame (new track.slot) → OnlyAt track.slot mid new
    → SoFar source tracks number (i + 1) old new (slice_set states i state)
one-more source tracks number i old mid new states track state own lt p grid read elsewhere =
    let parts : tracks ≡ p.so_far.done ++ track ∷ p.later = next-parts source tracks number i old mid states track p in
    let own-parts : HaveOwnSlots (p.so_far.done ++ track ∷ p.later) = subst HaveOwnSlots parts own in
    let took : TookPicture (track_shape source track) number (mid track.slot) read.samples (new track.slot) = read-along source track number (mid track.slot) (new track.slot) state.frame (Ok true) read.samples grid read.read in
    let some : HasSamples (format_of track.header.info) = subst (λ (g : Grid). HasSamples g.format) grid read.sound.size in
    let unread : AllByRecursion (λ (t : Track). mid t.slot ≡ old t.slot) (track ∷ p.later) = subst (λ (ts : List Track). AllByRecursion (λ (t : Track). mid t.slot ≡ old t.slot) ts) p.next p.so_far.unread in
    let before = apart-before p.so_far.done track p.later own-parts in
    record {
      done = p.so_far.done ++ track ∷ [];
      rest = p.later;
      parts = parts ∙ sym (append_assoc p.so_far.done (track ∷ []) p.later);
      count = omega (arith, length-append p.so_far.done (track ∷ []), p.so_far.count);
      taken = with_at track.slot took.taken p.so_far.taken;
      pictures = with_at track.slot read.samples p.so_far.pictures;
      took = took-first old mid new track.slot elsewhere p.so_far.taken took.taken p.so_far.took unread.0 took.took;
      none = λ e. absurd (omega (arith, e));
      few = λ lt'. took.few;
      each = all-append (IsReadAs source (with_at track.slot took.taken p.so_far.taken) (with_at track.slot read.samples p.so_far.pictures)) p.so_far.done (track ∷ [])
          (all-by-two (IsReadAs source p.so_far.taken p.so_far.pictures) (λ (t : Track). AreApart t.slot track.slot) (IsReadAs source (with_at track.slot took.taken p.so_far.taken) (with_at track.slot read.samples p.so_far.pictures)) p.so_far.done
          (λ t as_before apart. read-still source p.so_far.taken p.so_far.pictures t track.slot took.taken read.samples as_before apart) p.so_far.each before)
          (read-as source p.so_far.taken p.so_far.pictures track number (mid track.slot) (new track.slot) read.samples took some, tt);
      have = subst (λ (ss : List TrackState). HavePictures (p.so_far.done ++ track ∷ []) (with_at track.slot read.samples p.so_far.pictures) ss) (sym (take_more_set states i state lt))
          (have-push p.so_far.done track p.so_far.pictures (take i states) state read.samples p.so_far.have before (subst (λ (g : Grid). IsPaddedFrom g read.samples state.frame.values) grid (read.padded refl)));
      unread = all-by-two (λ (t : Track). mid t.slot ≡ old t.slot) (λ (t : Track). AreApart t.slot track.slot) (λ (t : Track). new t.slot ≡ old t.slot) p.later
          (λ t same apart. same-other old mid new track.slot elsewhere t.slot apart ∙ same) unread.1 (apart-later p.so_far.done track p.later own-parts);
    }

no-rest : (tracks done rest : List Track) → tracks ≡ done ++ rest → length done ≡ length tracks → done ≡ tracks
no-rest tracks done [] e count = sym (e ∙ append-nil done)
no-rest tracks done (track ∷ rest) e count = absurd (omega (arith, ap length e, length-append done (track ∷ rest), count))

-- after the last track
pub all-read : (source : Source) (tracks : List Track) (number i : ℕ) (old new : Slot → SlotView) (states : List TrackState) → 0 < i → i ≡ length tracks → i ≡ length states → SoFar source tracks number i old new states → TookPictures source tracks number old states new
all-read source tracks number i old new states some count states_count p =
    let done : p.done ≡ tracks = no-rest tracks p.done p.rest p.parts (p.count ∙ count) in
    let each : AllByRecursion (IsReadAs source p.taken p.pictures) tracks = subst (λ (ts : List Track). AllByRecursion (IsReadAs source p.taken p.pictures) ts) done p.each in
    record {
      taken = p.taken;
      pictures = p.pictures;
      took = λ track among. p.took track.slot;
      few = p.few some;
      frame_at = λ left after joined track among.
          subst (λ (xs : List ℕ). PictureAt (format_of track.header.info) (form_of source track.slot) xs (p.pictures track.slot) (after track.slot)) (sym (joined track among))
          ((all-among (IsReadAs source p.taken p.pictures) tracks track each among).whole (after track.slot));
      have = subst (λ (ts : List Track). HavePictures ts p.pictures states) done (subst (λ (ss : List TrackState). HavePictures p.done p.pictures ss) (take_all i states (omega (arith, states_count))) p.have);
    }
