-- After frames of bytes a further frame follows, or the frames stop; and they end.
use Rattle.std.proofs.Common.{◌≡◌, ◌≢◌, ℕ, zero, suc, ◌+◌, ◌<◌, ◌≤◌, ◌⊎◌, inl, inr, List, [], ◌∷◌, ◌++◌, length, refl, sym, ap, ◌∙◌, subst, arith, append-nil, append_assoc, length-append, lit<}
use Rattle.std.specs.Prelude.{Contains, if◌then◌else◌, ◌==◌}
use Rattle.std.proofs.lemmas.Bool.{cases_eq, cases_lt}
use Rattle.std.proofs.lemmas.List.{get_or_append_left, get_or_push}
use Rattle.apv_base.specs.declared.exits.Exit.{Exit}
use Rattle.apv_base.specs.declared.slot.Slot.{Slot}
use Rattle.apv_base.specs.declared.slot.Slot.TheVariants.{Input, Preview, Depth, Alpha, Metadata, TileQp, Output, Recon, MetaOut, Console}
use Rattle.apv_base.specs.laws.Answer.{HasSomeAnswer}
use Rattle.apv_base.specs.model.Bits.{AreBytes}
use Rattle.apv_base.specs.model.Header.{format_of}
use Rattle.apv_base.specs.model.Picture.{Samples}
use Rattle.apv_base.specs.model.Run.{MAX_UNITS}
use Rattle.apv_base.specs.model.Slot.{slot_number}
use Rattle.apv_base.specs.model.Video.{VideoFault, PictureAt, PictureBreaks, full}
use Rattle.apv_encoding.specs.AccessUnit.{Pictures}
use Rattle.apv_encoding.specs.Laws.{AreTracks, AreByteContents, FollowsFrame, Ending, HasEnding}
use Rattle.apv_encoding.specs.Settings.{Source, Track}
use Rattle.apv_encoding.specs.Tracks.{Contents, form_of, FrameAt, IsTurnOf, HasPicture, FramesStop, ended, extra, missing, no_picture}
use Rattle.apv_encoding.proofs.SomePictureLemmas.{picture-or, after-bytes, after-fewer}
use Rattle.apv_encoding.proofs.TracksLemmas.{contains-middle, input-in, input-left, track-sound, EndsAfter}

-- ---- the first track that doesn't pass

-- a test of each track, in their order
data TurnOr (tracks : List Track) (Passes Fails : Track → Type 0) : Type 0 where
  all_pass : ((track : Track) → Contains tracks track → Passes track) → TurnOr tracks Passes Fails
  one_fails : (track : Track) → IsTurnOf tracks track Passes → Fails track → TurnOr tracks Passes Fails

-- what is in a list with one more item is in it, or is that item
in-push : (before : List Track) (track : Track) (Passes : Track → Type 0) → ((other : Track) → Contains before other → Passes other) → Passes track → (other : Track) → Contains (before ++ track ∷ []) other → Passes other
in-push before track Passes each here other in-them = elim (cases_lt in-them.0 (length before)) [
  | inl lt ↦ each other (in-them.0, lt, sym (get_or_append_left before (track ∷ []) other in-them.0 lt) ∙ in-them.2)
  | inr ge ↦ (let last : in-them.0 ≡ length before = omega (arith, in-them.1, length-append before (track ∷ [])) in
      let is : track ≡ other = sym (get_or_push before track other in-them.0 (sym last)) ∙ in-them.2 in
      subst Passes is here)
]

turn-from : (tracks before later : List Track) (Passes Fails : Track → Type 0) → tracks ≡ before ++ later → ((track : Track) → Contains tracks track → Passes track ⊎ Fails track) → ((other : Track) → Contains before other → Passes other) → TurnOr tracks Passes Fails
turn-from tracks before [] Passes Fails e test each = all_pass (λ track in-them. each track (subst (λ (xs : List Track). Contains xs track) (e ∙ append-nil before) in-them))
turn-from tracks before (track ∷ later) Passes Fails e test each = elim (test track (contains-middle before track later tracks e)) [
  | inr fails ↦ one_fails track (record { before = before; later = later; parts = e; each = each }) fails
  | inl passes ↦ turn-from tracks (before ++ track ∷ []) later Passes Fails (e ∙ sym (append_assoc before (track ∷ []) later)) test (in-push before track Passes each passes)
]

turn-or : (tracks : List Track) (Passes Fails : Track → Type 0) → ((track : Track) → Contains tracks track → Passes track ⊎ Fails track) → TurnOr tracks Passes Fails
turn-or tracks Passes Fails test = turn-from tracks [] tracks Passes Fails refl test (λ other in-them. absurd (omega (arith, in-them.1)))

-- ---- a stop

pub cases_nil : (xs : List ℕ) → (xs ≡ []) ⊎ (xs ≢ [])
cases_nil [] = inl refl
cases_nil (x ∷ xs) = inr (λ e. absurd (omega (arith, ap (length {A = ℕ}) e)))

-- where Input has ended
stop-at-end : (source : Source) (tracks : List Track) (n : ℕ) (left : Contents) → left Input ≡ [] → (exit : Exit) × FramesStop source tracks n left exit
stop-at-end source tracks n left none = elim (turn-or tracks (λ track. left track.slot ≡ []) (λ track. left track.slot ≢ []) (λ track in-them. cases_nil (left track.slot))) [
  | all_pass all ↦ (_, ended all)
  | one_fails track turn some ↦ (_, extra track none turn some)
]

-- where the maximum number of frames is met
stop-at-maximum : (source : Source) (tracks : List Track) (n : ℕ) (left : Contents) → AreTracks tracks → left Input ≢ [] → n ≡ MAX_UNITS → (exit : Exit) × FramesStop source tracks n left exit
stop-at-maximum source tracks n left are some e =
    (_, no_picture are.first _ some (record { before = []; later = are.more; parts = are.parts; each = λ other in-them. absurd (omega (arith, in-them.1)) }) (full (λ none. some (sym (input-left tracks left are) ∙ none)) e))

-- a track ends, or has a fault
data Fails (source : Source) (n : ℕ) (left : Contents) (track : Track) : Type 0 where
  nothing : left track.slot ≡ [] → Fails source n left track
  fault_at : (fault : VideoFault) → PictureBreaks (format_of track.header.info) (form_of source track.slot) n (left track.slot) fault → Fails source n left track

stop-at : (source : Source) (tracks : List Track) (n : ℕ) (left : Contents) (track : Track) → left Input ≢ [] → n < MAX_UNITS → IsTurnOf tracks track (HasPicture source left) → Fails source n left track → (exit : Exit) × FramesStop source tracks n left exit
stop-at source tracks n left track some few turn (nothing none) = (_, missing track some few turn none)
stop-at source tracks n left track some few turn (fault_at fault breaks) = (_, no_picture track fault some turn breaks)

-- a content that is the same at each slot
abbrev everywhere : List ℕ → Contents
everywhere xs slot = xs

picture-here : (source : Source) (n : ℕ) (left : Contents) (track : Track) → left track.slot ≢ [] → n < MAX_UNITS → AreBytes (left track.slot) → HasPicture source left track ⊎ Fails source n left track
picture-here source n left track some few bytes = elim (picture-or (format_of track.header.info) (form_of source track.slot) n (left track.slot) some few bytes) [
  | inl at ↦ inl (at.0, everywhere at.1, at.2)
  | inr fault ↦ inr (fault_at fault.0 fault.1)
]

track-or : (source : Source) (n : ℕ) (left : Contents) (track : Track) → n < MAX_UNITS → AreBytes (left track.slot) → HasPicture source left track ⊎ Fails source n left track
track-or source n left track few bytes = elim (cases_nil (left track.slot)) [
  | inl none ↦ inr (nothing none)
  | inr some ↦ picture-here source n left track some few bytes
]

-- ---- a frame

-- the slot with a number
abbrev numbered : ℕ → Slot
numbered n = if n == 0 then Input else (if n == 1 then Preview else (if n == 2 then Depth else (if n == 3 then Alpha else (if n == 4 then Metadata else (if n == 5 then TileQp else (if n == 6 then Output else (if n == 7 then Recon else (if n == 8 then MetaOut else Console))))))))

numbered-back : (slot : Slot) → numbered (slot_number slot) ≡ slot
numbered-back Input = refl
numbered-back Preview = refl
numbered-back Depth = refl
numbered-back Alpha = refl
numbered-back Metadata = refl
numbered-back TileQp = refl
numbered-back Output = refl
numbered-back Recon = refl
numbered-back MetaOut = refl
numbered-back Console = refl

cases_slot : (a b : Slot) → (a ≡ b) ⊎ (a ≢ b)
cases_slot a b = elim (cases_eq (slot_number a) (slot_number b)) [
  | inl e ↦ inl (sym (numbered-back a) ∙ ap numbered e ∙ numbered-back b)
  | inr ne ↦ inr (λ e. ne (ap slot_number e))
]

swapped : (P : Type 0) → P ⊎ (P → ⊥) → (P → ⊥) ⊎ P
swapped P (inl here) = inr here
swapped P (inr none) = inl none

-- the picture of the track of a slot, or of none
data Picked (source : Source) (tracks : List Track) (left : Contents) (slot : Slot) : Type 0 where
  of_track : (track : Track) → Contains tracks track → slot ≡ track.slot → HasPicture source left track → Picked source tracks left slot
  of_none : ((track : Track) → Contains tracks track → slot ≢ track.slot) → Picked source tracks left slot

pick : (source : Source) (tracks : List Track) (left : Contents) (slot : Slot) → ((track : Track) → Contains tracks track → HasPicture source left track) → Picked source tracks left slot
pick source tracks left slot all = elim (turn-or tracks (λ track. slot ≢ track.slot) (λ track. slot ≡ track.slot) (λ track in-them. swapped (slot ≡ track.slot) (cases_slot slot track.slot))) [
  | all_pass none ↦ of_none none
  | one_fails track turn e ↦ of_track track (contains-middle turn.before track turn.later tracks turn.parts) e (all track (contains-middle turn.before track turn.later tracks turn.parts))
]

picked_samples : (source : Source) (tracks : List Track) (left : Contents) (slot : Slot) → Picked source tracks left slot → Samples
picked_samples source tracks left slot (of_track track in-them e has) = has.0
picked_samples source tracks left slot (of_none none) = λ comp x y. 0

picked_after : (source : Source) (tracks : List Track) (left : Contents) (slot : Slot) → Picked source tracks left slot → List ℕ
picked_after source tracks left slot (of_track track in-them e has) = has.1 track.slot
picked_after source tracks left slot (of_none none) = []

picked-at : (source : Source) (tracks : List Track) (left : Contents) (track : Track) → AreTracks tracks → Contains tracks track → (picked : Picked source tracks left track.slot)
    → PictureAt (format_of track.header.info) (form_of source track.slot) (left track.slot) (picked_samples source tracks left track.slot picked) (picked_after source tracks left track.slot picked)
unfolding picked_samples picked_after
picked-at source tracks left track are in-them (of_track other in-too e has) =
    let one : other ≡ track = are.one_each other track in-too in-them (sym e) in
    subst (λ (t : Track). PictureAt (format_of t.header.info) (form_of source t.slot) (left t.slot) has.0 (has.1 other.slot)) one has.2
picked-at source tracks left track are in-them (of_none none) = absurd (none track in-them refl)

picked-bytes : (source : Source) (tracks : List Track) (left : Contents) (slot : Slot) → AreByteContents left → (picked : Picked source tracks left slot) → AreBytes (picked_after source tracks left slot picked)
unfolding picked_after
picked-bytes source tracks left slot bytes (of_track track in-them e has) = after-bytes (format_of track.header.info) (form_of source track.slot) (left track.slot) has.0 (has.1 track.slot) has.2 (bytes track.slot)
picked-bytes source tracks left slot bytes (of_none none) = λ i. lit< tt

-- a frame, after which bytes are left
pub record NextFrame (source : Source) (tracks : List Track) (n : ℕ) (left : Contents) : Type 0 where
  pub few : n < MAX_UNITS
  pub pictures : Pictures
  pub after : Contents
  pub frame_at : FrameAt source tracks left pictures after
  pub bytes : AreByteContents after

frame-follows : (source : Source) (tracks : List Track) (n : ℕ) (left : Contents) → AreTracks tracks → n < MAX_UNITS → AreByteContents left → ((track : Track) → Contains tracks track → HasPicture source left track) → NextFrame source tracks n left
frame-follows source tracks n left are few bytes all = record {
  few = few;
  pictures = λ slot. picked_samples source tracks left slot (pick source tracks left slot all);
  after = λ slot. picked_after source tracks left slot (pick source tracks left slot all);
  frame_at = λ track in-them. picked-at source tracks left track are in-them (pick source tracks left track.slot all);
  bytes = λ slot. picked-bytes source tracks left slot bytes (pick source tracks left slot all);
}

-- ---- a frame or a stop

abbrev pub FrameOr : Source → List Track → ℕ → Contents → Type 0
FrameOr source tracks n left = NextFrame source tracks n left ⊎ ((exit : Exit) × FramesStop source tracks n left exit)

frame-or-below : (source : Source) (tracks : List Track) (n : ℕ) (left : Contents) → AreTracks tracks → left Input ≢ [] → n < MAX_UNITS → AreByteContents left → FrameOr source tracks n left
frame-or-below source tracks n left are some few bytes = elim (turn-or tracks (HasPicture source left) (Fails source n left) (λ track in-them. track-or source n left track few (bytes track.slot))) [
  | all_pass all ↦ inl (frame-follows source tracks n left are few bytes all)
  | one_fails track turn fails ↦ inr (stop-at source tracks n left track some few turn fails)
]

pub frame-or : (source : Source) (tracks : List Track) (n : ℕ) (left : Contents) → AreTracks tracks → n ≤ MAX_UNITS → AreByteContents left → FrameOr source tracks n left
frame-or source tracks n left are most bytes = elim (cases_nil (left Input)) [
  | inl none ↦ inr (stop-at-end source tracks n left none)
  | inr some ↦ elim (cases_lt n MAX_UNITS) [
    | inl few ↦ frame-or-below source tracks n left are some few bytes
    | inr ge ↦ inr (stop-at-maximum source tracks n left are some (omega arith))
  ]
]

frame-answer : (source : Source) (tracks : List Track) (n : ℕ) (left : Contents) → FrameOr source tracks n left → HasSomeAnswer (λ (follows : Unit {0}). FollowsFrame source tracks n left) (FramesStop source tracks n left)
frame-answer source tracks n left (inl next) = inl (tt, (next.few, (next.pictures, next.after, next.frame_at)))
frame-answer source tracks n left (inr stop) = inr stop

pub frame-some : (source : Source) (tracks : List Track) (n : ℕ) (left : Contents) → AreTracks tracks → n ≤ MAX_UNITS → AreByteContents left → HasSomeAnswer (λ (follows : Unit {0}). FollowsFrame source tracks n left) (FramesStop source tracks n left)
frame-some source tracks n left are most bytes = frame-answer source tracks n left (frame-or source tracks n left are most bytes)

-- ---- an ending

-- the frames after n frames, and why no further one follows
record SomeEnd (source : Source) (tracks : List Track) (n : ℕ) (left : Contents) : Type 0 where
  frames : List Pictures
  after : Contents
  exit : Exit
  ends : EndsAfter source tracks n left frames after exit

end-here : (source : Source) (tracks : List Track) (n : ℕ) (left : Contents) (exit : Exit) → n ≤ MAX_UNITS → FramesStop source tracks n left exit → SomeEnd source tracks n left
end-here source tracks n left exit most stop =
    let count : n ≡ n + length {A = Pictures} [] = omega arith in
    record {
      frames = [];
      after = left;
      exit = exit;
      ends = record { few = omega (arith, most); frames_at = λ track in-them. refl; stop = subst (λ (k : ℕ). FramesStop source tracks k left exit) count stop };
    }

end-later : (source : Source) (tracks : List Track) (n : ℕ) (left : Contents) (next : NextFrame source tracks n left) → SomeEnd source tracks (suc n) next.after → SomeEnd source tracks n left
end-later source tracks n left next end =
    let count : suc n + length end.frames ≡ n + suc (length end.frames) = omega arith in
    record {
      frames = next.pictures ∷ end.frames;
      after = end.after;
      exit = end.exit;
      ends = record {
        few = omega (arith, end.ends.few);
        frames_at = (next.after, next.frame_at, end.ends.frames_at);
        stop = subst (λ (k : ℕ). FramesStop source tracks k end.after end.exit) count end.ends.stop;
      };
    }

-- each frame leaves less of Input
pub fewer-left : (source : Source) (tracks : List Track) (n : ℕ) (left : Contents) (are : AreTracks tracks) (next : NextFrame source tracks n left) → length (next.after are.first.slot) < length (left are.first.slot)
fewer-left source tracks n left are next =
    after-fewer (format_of are.first.header.info) (form_of source are.first.slot) (left are.first.slot) (next.pictures are.first.slot) (next.after are.first.slot) (track-sound tracks are.first are (input-in tracks are)) (next.frame_at are.first (input-in tracks are))

some-end : (source : Source) (tracks : List Track) (most n : ℕ) (left : Contents) (are : AreTracks tracks) → length (left are.first.slot) < most → n ≤ MAX_UNITS → AreByteContents left → SomeEnd source tracks n left
some-end source tracks zero n left are lt few bytes = absurd (omega (arith, lt))
some-end source tracks (suc most) n left are lt few bytes = elim (frame-or source tracks n left are few bytes) [
  | inr stop ↦ end-here source tracks n left stop.0 few stop.1
  | inl next ↦ end-later source tracks n left next (some-end source tracks most (suc n) next.after are (omega (arith, lt, fewer-left source tracks n left are next)) (omega (arith, next.few)) next.bytes)
]

pub some-ending : (source : Source) (tracks : List Track) (left : Contents) → AreTracks tracks → AreByteContents left → (ending : Ending) × HasEnding source tracks left ending
some-ending source tracks left are bytes =
    let end = some-end source tracks (suc (length (left are.first.slot))) 0 left are (omega arith) (omega arith) bytes in
    let count : 0 + length end.frames ≡ length end.frames = omega arith in (
      record { count = length end.frames; exit = end.exit },
      record {
        frames = end.frames;
        after = end.after;
        count = refl;
        few = omega (arith, end.ends.few);
        frames_at = end.ends.frames_at;
        stop = subst (λ (k : ℕ). FramesStop source tracks k end.after end.exit) count end.ends.stop;
      },
    )
