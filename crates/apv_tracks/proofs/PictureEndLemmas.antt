-- Why the next frame wasn't read.
use Rattle.std.proofs.Common.{◌≡◌, ◌≢◌, ℕ, ◌<◌, ◌⊎◌, inl, inr, List, [], ◌∷◌, ◌++◌, length, refl, sym, ap, ap₂, ◌∙◌, subst, arith, false, Ok, Err, append-nil}
use Rattle.std.specs.Prelude.{Contains}
use Rattle.std.specs.List.{AllByRecursion}
use Rattle.std.specs.Io.KnownBytes.{IsAtEnd, prepend_known}
use Rattle.std.proofs.KnownBytes.{prepend_known-nil}
use Rattle.std.proofs.lemmas.List.Elements.{Contains-append_left}
use Rattle.apv_base.specs.declared.exits.VideoBreak.{VideoBreak}
use Rattle.apv_base.specs.declared.exits.Exit.{Exit}
use Rattle.apv_base.specs.declared.exits.Exit.TheVariants.{BadVideo, Done, Memory, ReadFailed}
use Rattle.apv_base.specs.declared.exits.VideoRule.TheVariants.{Missing}
use Rattle.apv_base.specs.declared.options.Form.{Form}
use Rattle.apv_base.specs.declared.slot.Slot.{Slot}
use Rattle.apv_base.specs.declared.slot.Slot.TheVariants.{Input}
use Rattle.apv_base.specs.model.Header.{format_of}
use Rattle.apv_base.specs.model.Picture.{Samples}
use Rattle.apv_base.specs.model.Video.{VideoFault, bad, over, FrameLineAt, PictureAt, PictureBreaks}
use Rattle.apv_encoding.specs.Settings.{Source, Track}
use Rattle.apv_encoding.specs.Tracks.{Contents, FramesStop, HasPicture, IsTurnOf, form_of, missing, no_picture, video_exit}
use Rattle.apv_encoding.proofs.PictureLemmas.{fault-left, picture-left}
use Rattle.apv_encoding.proofs.TracksLemmas.{contains-middle}
use Rattle.apv_files.specs.Loops.{TookAll, TookFailed}
use Rattle.apv_files.specs.SlotView.{OnlyAt, SlotView}
use Rattle.apv_files.proofs.Many.{took-none}
use Rattle.apv_run.proofs.KnownLemmas.{known-prefix}
use Rattle.apv_video.specs.ReadFrame.{form_of as shape_form, IsWithinPicture, PictureStops, ReadsFrame}
use Rattle.apv_video.specs.declared.end.VideoEnd.{VideoEnd}
use Rattle.apv_video.specs.declared.end.VideoEnd.TheVariants.{Bad, Limit as Over, Read, Memory as EndMemory}
use Rattle.apv_video.specs.declared.open.Shape.{Shape}
use Rattle.apv_workers.specs.Track.{TrackState}
use Rattle.apv_tracks.specs.PictureSteps.{video_end_exit}
use Rattle.apv_tracks.specs.Pictures.{AreJoined, AreKnownLeft, IsWithinFrame, PicturesEnd, by_fault, by_memory, by_stop}
use Rattle.apv_tracks.proofs.PictureReadLemmas.{IsNext, IsReadAs, form-is, next-parts, track_shape, within-none, within-whole}
use Rattle.apv_tracks.proofs.SlotReadLemmas.{AreApart, at-it, at-other, content, content-end, content-known, fault-others, only-left, read-fault, same-other, took-first, with_at}
use Rattle.apv_tracks.proofs.TrackPlaceLemmas.{HaveOwnSlots, all-among, apart-before}

-- the answer, and how much of Input was taken
pub record EndsWithin (source : Source) (tracks : List Track) (shape : Shape) (number : ℕ) (old new : Slot → SlotView) (exit : Exit) : Type 0 where
  pub end : PicturesEnd source tracks number old new exit
  pub within : IsWithinFrame shape (old Input) (new Input)

-- what was taken of each slot, and what is left of it
abbrev pub left_by : Contents → (Slot → SlotView) → Contents
left_by taken views slot = taken slot ++ content (views slot)

pub told-by : (tracks : List Track) (old new : Slot → SlotView) (taken : Contents) → ((slot : Slot) → TookAll (old slot) (taken slot) (new slot)) → AreKnownLeft tracks old (left_by taken new)
told-by tracks old new taken took track among =
    known-prefix (old track.slot).left (new track.slot).left (taken track.slot) (content (new track.slot)) (took track.slot).prefix (content-known (new track.slot).left)

-- where this is left of the slots of the tracks, and nothing more
pub joined-at : (tracks : List Track) (all left : Contents) (track : Track) → AreJoined tracks all left (λ slot. []) → Contains tracks track → all track.slot ≡ left track.slot
joined-at tracks all left track joined among = joined track among ∙ append-nil (left track.slot)

pub same-within : (shape : Shape) (old new : SlotView) → new ≡ old → IsWithinFrame shape old new
same-within shape old new e = record { taken = []; within = within-none shape; took = sym (prepend_known-nil old.left) ∙ ap (λ (view : SlotView). prepend_known [] view.left) (sym e) }

pub break-is : (slot : Slot) (number : ℕ) (break : VideoBreak) → break.slot ≡ slot → break.frame ≡ number → video_exit slot number (bad break.rule) ≡ BadVideo break
break-is slot number break e f = ap₂ (λ (place : Slot) (frame : ℕ). BadVideo (record { slot = place; rule = break.rule; frame = frame })) (sym e) (sym f)

module _ (source : Source) (first : Track) (more : List Track) (input : first.slot ≡ Input) (own : HaveOwnSlots (first ∷ more)) (number i : ℕ) (old mid new : Slot → SlotView) (states : List TrackState) (track : Track)
    (p : IsNext source (first ∷ more) number i old mid states track) (elsewhere : OnlyAt track.slot mid new) where
  abbrev tracks : List Track
  tracks = first ∷ more

  abbrev done : List Track
  done = p.so_far.done

  parts : tracks ≡ done ++ track ∷ p.later
  parts = next-parts source tracks number i old mid states track p

  among : Contains tracks track
  among = contains-middle done track p.later tracks parts

  among-done : (other : Track) → Contains done other → Contains tracks other
  among-done other in-them = subst (λ (ts : List Track). Contains ts other) (sym parts) (Contains-append_left done (track ∷ p.later) other in-them)

  apart-done : (other : Track) → Contains done other → AreApart other.slot track.slot
  apart-done other in-them = all-among (λ (t : Track). AreApart t.slot track.slot) done other (apart-before done track p.later (subst HaveOwnSlots parts own)) in-them

  unread : mid track.slot ≡ old track.slot
  unread = (subst (λ (ts : List Track). AllByRecursion (λ (t : Track). mid t.slot ≡ old t.slot) ts) p.next p.so_far.unread).0

  read-done : (other : Track) → Contains done other → IsReadAs source p.so_far.taken p.so_far.pictures other
  read-done other in-them = all-among (IsReadAs source p.so_far.taken p.so_far.pictures) done other p.so_far.each in-them

  -- Input is this track's slot, or a picture of it was taken
  first-cases : (track ≡ first) ⊎ Contains done first
  first-cases = by-list done parts
    where
      by-list : (before : List Track) → tracks ≡ before ++ track ∷ p.later → (track ≡ first) ⊎ Contains before first
      by-list [] e = inl (let same : track ≡ first = cc in same)
      by-list (other ∷ before) e = inr (0, omega arith, let same : other ≡ first = cc in same)

  -- ---- Input

  within-here : (bytes : List ℕ) → IsWithinPicture (track_shape source track) bytes → (mid track.slot).left ≡ prepend_known bytes (new track.slot).left → IsWithinFrame (track_shape source first) (old Input) (new Input)
  within-here bytes within took = elim first-cases [
    | inl e ↦ (
        let slot_is : track.slot ≡ Input = ap (λ (t : Track). t.slot) e ∙ input in
        let same : mid Input ≡ old Input = subst (λ (slot : Slot). mid slot ≡ old slot) slot_is unread in
        record {
          taken = bytes;
          within = subst (λ (t : Track). IsWithinPicture (track_shape source t) bytes) e within;
          took = sym (ap (λ (view : SlotView). view.left) same) ∙ subst (λ (slot : Slot). (mid slot).left ≡ prepend_known bytes (new slot).left) slot_is took;
        })
    | inr in-them ↦ (
        let read = read-done first in-them in
        let apart : AreApart Input track.slot = subst (λ (slot : Slot). AreApart slot track.slot) input (apart-done first in-them) in
        let whole : IsWithinPicture (track_shape source first) (p.so_far.taken first.slot) = λ more_bytes start at long.
        within-whole (format_of first.header.info) (form_of source first.slot) (p.so_far.taken first.slot) (p.so_far.pictures first.slot) read.whole more_bytes start (subst (λ (form : Form). FrameLineAt (p.so_far.taken first.slot ++ more_bytes) form start) (form-is source first) at) long in
        record {
          taken = p.so_far.taken Input;
          within = subst (λ (slot : Slot). IsWithinPicture (track_shape source first) (p.so_far.taken slot)) input whole;
          took = (p.so_far.took Input).prefix ∙ ap (λ (view : SlotView). prepend_known (p.so_far.taken Input) view.left) (sym (same-other old mid new track.slot elsewhere Input apart));
        })
  ]

  -- ---- memory that ran out, and reads that failed

  lacks-memory : (bytes : List ℕ) → TookAll (mid track.slot) bytes (new track.slot) → PicturesEnd source tracks number old new Memory
  lacks-memory bytes took = by_memory (λ other in-them. only-left old mid new track.slot elsewhere p.so_far.taken bytes p.so_far.took took other.slot)

  read-fails : (bytes : List ℕ) → TookFailed (mid track.slot) bytes (new track.slot) → PicturesEnd source tracks number old new (ReadFailed track.slot)
  read-fails bytes failed = by_fault track (record {
    among = among;
    fault = read-fault old mid new track.slot elsewhere p.so_far.taken bytes p.so_far.took failed;
    others = λ other in-them. fault-others old mid new track.slot elsewhere p.so_far.taken p.so_far.took other.slot;
  })

  -- ---- no frame follows

  module _ (bytes : List ℕ) (took : TookAll (mid track.slot) bytes (new track.slot)) where
    abbrev all_taken : Contents
    all_taken = with_at track.slot bytes p.so_far.taken

    abbrev left : Contents
    left = left_by all_taken new

    all-took : (slot : Slot) → TookAll (old slot) (all_taken slot) (new slot)
    all-took = took-first old mid new track.slot elsewhere p.so_far.taken bytes p.so_far.took unread took

    module _ (all : Contents) (joined : AreJoined tracks all left (λ slot. [])) where
      here-is : all track.slot ≡ bytes ++ content (new track.slot)
      here-is = joined-at tracks all left track joined among ∙ ap (λ (xs : List ℕ). xs ++ content (new track.slot)) (at-it track.slot bytes p.so_far.taken)

      done-is : (other : Track) → Contains done other → all other.slot ≡ p.so_far.taken other.slot ++ content (new other.slot)
      done-is other in-them = joined-at tracks all left other joined (among-done other in-them) ∙ ap (λ (xs : List ℕ). xs ++ content (new other.slot)) (at-other track.slot other.slot bytes p.so_far.taken (apart-done other in-them))

      picture-done : (other : Track) → Contains done other → PictureAt (format_of other.header.info) (form_of source other.slot) (all other.slot) (p.so_far.pictures other.slot) (content (new other.slot))
      picture-done other in-them = subst (λ (xs : List ℕ). PictureAt (format_of other.header.info) (form_of source other.slot) xs (p.so_far.pictures other.slot) (content (new other.slot))) (sym (done-is other in-them)) ((read-done other in-them).whole (content (new other.slot)))

      turn : IsTurnOf tracks track (HasPicture source all)
      turn = record {
        before = done;
        later = p.later;
        parts = parts;
        each = λ other in-them. (p.so_far.pictures other.slot, (λ slot. content (new slot)), picture-done other in-them);
      }

      -- a picture of Input was taken
      input-read : Contains done first → all Input ≢ []
      input-read in-them none = picture-left (format_of first.header.info) (form_of source first.slot) (all first.slot) (p.so_far.pictures first.slot) (content (new first.slot)) (read-done first in-them).some (picture-done first in-them) (ap all input ∙ none)

      input-some : all track.slot ≢ [] → all Input ≢ []
      input-some some = elim first-cases [
        | inl e ↦ (λ none. some (ap all (ap (λ (t : Track). t.slot) e ∙ input) ∙ none))
        | inr in-them ↦ input-read in-them
      ]

    stops-by : (exit : Exit) → (exit ≡ Done → ⊥) → ((all : Contents) → AreJoined tracks all left (λ slot. []) → FramesStop source tracks number all exit) → PicturesEnd source tracks number old new exit
    stops-by exit not-done stops = by_stop exit (record {
      left = left;
      told = told-by tracks old new all_taken all-took;
      stops = stops;
      read = λ other in-them. (all-took other.slot).rest;
      end = λ e. absurd (not-done e);
    })

    -- the track has no more pictures
    pub is-missing : bytes ≡ [] → IsAtEnd (new track.slot).left → 0 < i → PicturesEnd source tracks number old new (BadVideo (record { slot = track.slot; rule = Missing; frame = number }))
    is-missing none end later = stops-by (BadVideo (record { slot = track.slot; rule = Missing; frame = number })) (λ e. let no : ⊥ = cc in no) (λ all joined.
        missing track (input-read all joined first-in) (p.so_far.few later) (turn all joined) (here-is all joined ∙ ap₂ (λ (xs ys : List ℕ). xs ++ ys) none (content-end (new track.slot).left end)))
      where
        first-in : Contains done first
        first-in = by-list done parts p.so_far.count
          where
            by-list : (before : List Track) → tracks ≡ before ++ track ∷ p.later → length before ≡ i → Contains before first
            by-list [] e count = absurd (omega (arith, count, later))
            by-list (other ∷ before) e count = (0, omega arith, let same : other ≡ first = cc in same)

    -- its picture breaks a rule
    breaks-rule : (fault : VideoFault) → (video_exit track.slot number fault ≡ Done → ⊥) → PictureBreaks (format_of track.header.info) (form_of source track.slot) number (bytes ++ content (new track.slot)) fault → PicturesEnd source tracks number old new (video_exit track.slot number fault)
    breaks-rule fault not-done breaks = stops-by (video_exit track.slot number fault) not-done (λ all joined.
        let at : PictureBreaks (format_of track.header.info) (form_of source track.slot) number (all track.slot) fault = subst (λ (xs : List ℕ). PictureBreaks (format_of track.header.info) (form_of source track.slot) number xs fault) (sym (here-is all joined)) breaks in
        no_picture track fault (input-some all joined (fault-left (format_of track.header.info) (form_of source track.slot) number (all track.slot) fault at)) (turn all joined) at)

  -- whatever follows, or where nothing follows
  picture-stops : (fault : VideoFault) → (video_exit track.slot number fault ≡ Done → ⊥) → PictureStops (track_shape source track) number (mid track.slot) fault (new track.slot) → PicturesEnd source tracks number old new (video_exit track.slot number fault)
  picture-stops fault not-done stops =
      let along : (xs : List ℕ) → PictureBreaks (format_of track.header.info) (shape_form (track_shape source track)) number xs fault → PictureBreaks (format_of track.header.info) (form_of source track.slot) number xs fault =
      λ xs breaks. subst (λ (form : Form). PictureBreaks (format_of track.header.info) form number xs fault) (form-is source track) breaks in
      elim stops.stops [
        | inl all ↦ breaks-rule stops.taken stops.took fault not-done (along (stops.taken ++ content (new track.slot)) (all (content (new track.slot))))
        | inr here ↦ breaks-rule stops.taken stops.took fault not-done (along (stops.taken ++ content (new track.slot))
            (subst (λ (xs : List ℕ). PictureBreaks (format_of track.header.info) (shape_form (track_shape source track)) number xs fault)
            (sym (append-nil stops.taken) ∙ ap (λ (xs : List ℕ). stops.taken ++ xs) (sym (content-end (new track.slot).left here.0))) here.1))
      ]

  -- ---- the answers

  -- no picture of the track was read
  pub unread-ends : (end : VideoEnd) (samples : Samples) → ReadsFrame track.slot (track_shape source track) number (mid track.slot) (Err end) samples (new track.slot) → EndsWithin source tracks (track_shape source first) number old new (video_end_exit end)
  unread-ends (Bad break) samples h = record {
    end = subst (λ (exit : Exit). PicturesEnd source tracks number old new exit) (break-is track.slot number break h.1 h.2) (picture-stops (bad break.rule) (λ e. let no : ⊥ = cc in no) h.0);
    within = within-here h.0.taken h.0.within h.0.took.prefix;
  }
  unread-ends (Over limit count) samples h = record {
    end = picture-stops (over limit count) (λ e. let no : ⊥ = cc in no) h;
    within = within-here h.taken h.within h.took.prefix;
  }
  unread-ends (Read slot) samples h = record {
    end = subst (λ (place : Slot). PicturesEnd source tracks number old new (ReadFailed place)) (sym h.1) (read-fails h.0.taken h.0.failed);
    within = within-here h.0.taken h.0.within h.0.failed.prefix;
  }
  unread-ends EndMemory samples h = record {
    end = lacks-memory h.taken h.took;
    within = within-here h.taken h.within h.took.prefix;
  }

  -- the track has no more pictures, and Input has one
  pub missing-ends : (samples : Samples) → 0 < i → ReadsFrame track.slot (track_shape source track) number (mid track.slot) (Ok false) samples (new track.slot)
      → EndsWithin source tracks (track_shape source first) number old new (BadVideo (record { slot = track.slot; rule = Missing; frame = number }))
  missing-ends samples later h =
      let took : TookAll (mid track.slot) [] (new track.slot) = subst (λ (view : SlotView). TookAll (mid track.slot) [] view) (sym h.0) (took-none (mid track.slot)) in
      record {
        end = is-missing [] took refl (subst (λ (view : SlotView). IsAtEnd view.left) (sym h.0) h.1) later;
        within = within-here [] (within-none (track_shape source track)) took.prefix;
      }
