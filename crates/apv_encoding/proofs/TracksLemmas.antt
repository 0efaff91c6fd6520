-- The frames of the tracks end in one way.
use Rattle.std.proofs.Common.{◌≡◌, ◌≢◌, ℕ, suc, ◌+◌, ◌<◌, ◌≤◌, inl, inr, List, [], ◌∷◌, ◌++◌, length, refl, sym, ap, ap₂, ◌∙◌, subst, arith}
use Rattle.std.specs.Prelude.{Contains}
use Rattle.std.proofs.lemmas.List.Elements.{All-from_recursion, All-contains, Contains-append_left, Contains-append_right}
use Rattle.apv_base.specs.declared.exits.Exit.{Exit}
use Rattle.apv_base.specs.declared.exits.Exit.TheVariants.{BadVideo}
use Rattle.apv_base.specs.declared.exits.VideoRule.{VideoRule}
use Rattle.apv_base.specs.declared.exits.VideoRule.TheVariants.{Missing, Extra}
use Rattle.apv_base.specs.declared.rules.Limit.TheVariants.{L3}
use Rattle.apv_base.specs.declared.slot.Slot.TheVariants.{Input}
use Rattle.apv_base.specs.laws.Answer.{HasOneAnswer}
use Rattle.apv_base.specs.model.Header.{IsSoundHeader, format_of}
use Rattle.apv_base.specs.model.Run.{MAX_UNITS}
use Rattle.apv_base.specs.model.Video.{VideoFault, over, PictureAt, PictureBreaks}
use Rattle.apv_base.proofs.SplitLemmas.{splits, same, first, second}
use Rattle.apv_encoding.specs.AccessUnit.{Pictures}
use Rattle.apv_encoding.specs.Laws.{AreTracks, FollowsFrame, Ending, HasEnding}
use Rattle.apv_encoding.specs.Settings.{Source, Track}
use Rattle.apv_encoding.specs.Tracks.{Contents, form_of, video_exit, FrameAt, FramesAt, IsTurnOf, HasPicture, FramesStop, ended, extra, missing, no_picture}
use Rattle.apv_encoding.proofs.PictureLemmas.{HasSamples, picture-left, fault-cases, fault-left, picture-or-fault, one-fault, one-after}

-- ---- the tracks

pub contains-middle : {A : Type 0} (before : List A) (x : A) (later all : List A) → all ≡ before ++ x ∷ later → Contains all x
contains-middle {A} before x later all e = subst (λ (xs : List A). Contains xs x) (sym e) (Contains-append_right before (x ∷ later) x (0, omega arith, refl))

pub track-in : (tracks : List Track) (track : Track) (Passes : Track → Type 0) → IsTurnOf tracks track Passes → Contains tracks track
track-in tracks track Passes turn = contains-middle turn.before track turn.later tracks turn.parts

pub input-in : (tracks : List Track) (are : AreTracks tracks) → Contains tracks are.first
input-in tracks are = contains-middle [] are.first are.more tracks are.parts

pub track-sound : (tracks : List Track) (track : Track) → AreTracks tracks → Contains tracks track → HasSamples (format_of track.header.info)
track-sound tracks track are in-them =
    (All-contains (λ (t : Track). IsSoundHeader t.header) tracks track (All-from_recursion (λ (t : Track). IsSoundHeader t.header) tracks are.sound) in-them).info.format.size

-- ---- a frame or a stop

-- a picture of a track needs something to be left of its slot
no-picture-left : {A : Type 0} (source : Source) (tracks : List Track) (left : Contents) (pictures : Pictures) (after : Contents) (track : Track) → AreTracks tracks → FrameAt source tracks left pictures after → Contains tracks track → left track.slot ≡ [] → A
no-picture-left source tracks left pictures after track are at in-them e =
    picture-left (format_of track.header.info) (form_of source track.slot) (left track.slot) (pictures track.slot) (after track.slot) (track-sound tracks track are in-them) (at track in-them) e

-- Input is the slot of the first track
pub input-left : (tracks : List Track) (left : Contents) (are : AreTracks tracks) → left are.first.slot ≡ left Input
input-left tracks left are = ap left are.input

pub frame-or-stop : {A : Type 0} (source : Source) (tracks : List Track) (n : ℕ) (left : Contents) (exit : Exit) → AreTracks tracks → FollowsFrame source tracks n left → FramesStop source tracks n left exit → A
frame-or-stop source tracks n left exit are follows (ended all) = no-picture-left source tracks left follows.1.0 follows.1.1 are.first are follows.1.2 (input-in tracks are) (all are.first (input-in tracks are))
frame-or-stop source tracks n left exit are follows (extra track none turn some) = no-picture-left source tracks left follows.1.0 follows.1.1 are.first are follows.1.2 (input-in tracks are) (input-left tracks left are ∙ none)
frame-or-stop source tracks n left exit are follows (missing track some few turn none) = no-picture-left source tracks left follows.1.0 follows.1.1 track are follows.1.2 (track-in tracks track (HasPicture source left) turn) none
frame-or-stop source tracks n left exit are follows (no_picture track fault some turn breaks) =
    picture-or-fault (format_of track.header.info) (form_of source track.slot) n (left track.slot) (follows.1.0 track.slot) (follows.1.1 track.slot) fault follows.0 (follows.1.2 track (track-in tracks track (HasPicture source left) turn)) breaks

-- ---- one stop

-- of two turns one is before the other, or they are one; what passes can't be where a turn ends
turns : {A : Type 0} (tracks : List Track) (a b : Track) (P Q : Track → Type 0) → IsTurnOf tracks a P → IsTurnOf tracks b Q → (a ≡ b → A) → (Q a → A) → (P b → A) → A
turns {A} tracks a b P Q p q one before after = elim (splits p.before a p.later q.before b q.later (sym p.parts ∙ q.parts)) [
  | same e f ↦ one f
  | first more e ↦ before (q.each a (contains-middle p.before a more q.before e))
  | second more e ↦ after (p.each b (contains-middle q.before b more p.before e))
]

-- a picture that is there needs something to be left
has-left : {A : Type 0} (source : Source) (tracks : List Track) (left : Contents) (track : Track) → AreTracks tracks → Contains tracks track → HasPicture source left track → left track.slot ≡ [] → A
has-left source tracks left track are in-them has e = picture-left (format_of track.header.info) (form_of source track.slot) (left track.slot) has.0 (has.1 track.slot) (track-sound tracks track are in-them) has.2 e

has-or-fault : {A : Type 0} (source : Source) (n : ℕ) (left : Contents) (track : Track) (fault : VideoFault) → n < MAX_UNITS → HasPicture source left track → PictureBreaks (format_of track.header.info) (form_of source track.slot) n (left track.slot) fault → A
has-or-fault source n left track fault few has breaks = picture-or-fault (format_of track.header.info) (form_of source track.slot) n (left track.slot) has.0 (has.1 track.slot) fault few has.2 breaks

abbrev bad_at : VideoRule → ℕ → Track → Exit
bad_at rule n track = BadVideo (record { slot = track.slot; rule = rule; frame = n })

one-extra : (source : Source) (tracks : List Track) (n : ℕ) (left : Contents) (a b : Track) → IsTurnOf tracks a (λ other. left other.slot ≡ []) → IsTurnOf tracks b (λ other. left other.slot ≡ []) → left a.slot ≢ [] → left b.slot ≢ [] → bad_at Extra n a ≡ bad_at Extra n b
one-extra source tracks n left a b p q some some' = turns tracks a b (λ other. left other.slot ≡ []) (λ other. left other.slot ≡ []) p q (λ e. ap (bad_at Extra n) e) (λ none. absurd (some none)) (λ none. absurd (some' none))

one-missing : (source : Source) (tracks : List Track) (n : ℕ) (left : Contents) (a b : Track) → AreTracks tracks → IsTurnOf tracks a (HasPicture source left) → IsTurnOf tracks b (HasPicture source left) → left a.slot ≡ [] → left b.slot ≡ [] → bad_at Missing n a ≡ bad_at Missing n b
one-missing source tracks n left a b are p q none none' = turns tracks a b (HasPicture source left) (HasPicture source left) p q (λ e. ap (bad_at Missing n) e)
    (λ has. has-left source tracks left a are (track-in tracks a (HasPicture source left) p) has none) (λ has. has-left source tracks left b are (track-in tracks b (HasPicture source left) q) has none')

missing-or-fault : {A : Type 0} (source : Source) (tracks : List Track) (n : ℕ) (left : Contents) (a b : Track) (fault : VideoFault) → AreTracks tracks → n < MAX_UNITS → IsTurnOf tracks a (HasPicture source left) → IsTurnOf tracks b (HasPicture source left)
    → left a.slot ≡ [] → PictureBreaks (format_of b.header.info) (form_of source b.slot) n (left b.slot) fault → A
missing-or-fault source tracks n left a b fault are few p q none breaks = turns tracks a b (HasPicture source left) (HasPicture source left) p q
    (λ e. absurd (fault-left (format_of b.header.info) (form_of source b.slot) n (left b.slot) fault breaks (ap (λ (t : Track). left t.slot) (sym e) ∙ none)))
    (λ has. has-left source tracks left a are (track-in tracks a (HasPicture source left) p) has none) (λ has. has-or-fault source n left b fault few has breaks)

-- the break of a track's picture
abbrev BreaksOf : Source → ℕ → Contents → Track → VideoFault → Type 0
BreaksOf source n left track fault = PictureBreaks (format_of track.header.info) (form_of source track.slot) n (left track.slot) fault

same-exit : (source : Source) (n : ℕ) (left : Contents) (a b : Track) (e f : VideoFault) → a ≡ b → BreaksOf source n left a e → BreaksOf source n left b f → video_exit a.slot n e ≡ video_exit b.slot n f
same-exit source n left a b e f is p q =
    let fault : e ≡ f = one-fault (format_of b.header.info) (form_of source b.slot) n (left b.slot) e f (subst (λ (t : Track). BreaksOf source n left t e) is p) q in
    ap₂ (λ (t : Track) (x : VideoFault). video_exit t.slot n x) is fault

full-exit : (n : ℕ) (a b : Track) (e f : VideoFault) → e ≡ over L3 (MAX_UNITS + 1) → f ≡ over L3 (MAX_UNITS + 1) → video_exit a.slot n e ≡ video_exit b.slot n f
full-exit n a b e f p q = ap (video_exit a.slot n) p ∙ sym (ap (video_exit b.slot n) q)

one-breaks : (source : Source) (tracks : List Track) (n : ℕ) (left : Contents) (a b : Track) (e f : VideoFault) → IsTurnOf tracks a (HasPicture source left) → IsTurnOf tracks b (HasPicture source left)
    → BreaksOf source n left a e → BreaksOf source n left b f → video_exit a.slot n e ≡ video_exit b.slot n f
one-breaks source tracks n left a b e f p q x y = elim (fault-cases (format_of a.header.info) (form_of source a.slot) n (left a.slot) e x) [
  | inl few ↦ turns tracks a b (HasPicture source left) (HasPicture source left) p q (λ is. same-exit source n left a b e f is x y) (λ has. has-or-fault source n left a e few has x) (λ has. has-or-fault source n left b f few has y)
  | inr at ↦ elim (fault-cases (format_of b.header.info) (form_of source b.slot) n (left b.slot) f y) [
    | inl few ↦ absurd (omega (arith, few, at.0))
    | inr also ↦ full-exit n a b e f at.1 also.1
  ]
]

-- Input is nothing where all have ended
input-none : (tracks : List Track) (left : Contents) (are : AreTracks tracks) → ((track : Track) → Contains tracks track → left track.slot ≡ []) → left Input ≡ []
input-none tracks left are all = sym (input-left tracks left are) ∙ all are.first (input-in tracks are)

pub one-stop : (source : Source) (tracks : List Track) (n : ℕ) (left : Contents) (e f : Exit) → AreTracks tracks → FramesStop source tracks n left e → FramesStop source tracks n left f → e ≡ f
one-stop source tracks n left e f are (ended all) (ended all') = refl
one-stop source tracks n left e f are (ended all) (extra track none turn some) = absurd (some (all track (track-in tracks track (λ other. left other.slot ≡ []) turn)))
one-stop source tracks n left e f are (ended all) (missing track some few turn none) = absurd (some (input-none tracks left are all))
one-stop source tracks n left e f are (ended all) (no_picture track fault some turn breaks) = absurd (some (input-none tracks left are all))
one-stop source tracks n left e f are (extra track none turn some) (ended all) = absurd (some (all track (track-in tracks track (λ other. left other.slot ≡ []) turn)))
one-stop source tracks n left e f are (extra a none turn some) (extra b none' turn' some') = one-extra source tracks n left a b turn turn' some some'
one-stop source tracks n left e f are (extra a none turn some) (missing b some' few turn' none') = absurd (some' none)
one-stop source tracks n left e f are (extra a none turn some) (no_picture b fault some' turn' breaks) = absurd (some' none)
one-stop source tracks n left e f are (missing track some few turn none) (ended all) = absurd (some (input-none tracks left are all))
one-stop source tracks n left e f are (missing a some few turn none) (extra b none' turn' some') = absurd (some none')
one-stop source tracks n left e f are (missing a some few turn none) (missing b some' few' turn' none') = one-missing source tracks n left a b are turn turn' none none'
one-stop source tracks n left e f are (missing a some few turn none) (no_picture b fault some' turn' breaks) = missing-or-fault source tracks n left a b fault are few turn turn' none breaks
one-stop source tracks n left e f are (no_picture track fault some turn breaks) (ended all) = absurd (some (input-none tracks left are all))
one-stop source tracks n left e f are (no_picture a fault some turn breaks) (extra b none' turn' some') = absurd (some none')
one-stop source tracks n left e f are (no_picture a fault some turn breaks) (missing b some' few turn' none) = missing-or-fault source tracks n left b a fault are few turn' turn none breaks
one-stop source tracks n left e f are (no_picture a fault some turn breaks) (no_picture b fault' some' turn' breaks') = one-breaks source tracks n left a b fault fault' turn turn' breaks breaks'

pub stop-once : (source : Source) (tracks : List Track) (n : ℕ) (left : Contents) → AreTracks tracks → HasOneAnswer (λ (follows : Unit {0}). FollowsFrame source tracks n left) (FramesStop source tracks n left)
stop-once source tracks n left are = record {
  accepted = λ a b p q. refl;
  refused = λ e f p q. one-stop source tracks n left e f are p q;
  not_both = λ a e p q. frame-or-stop source tracks n left e are p q;
}

-- ---- one ending

-- two contents are the same at the slots of the tracks
abbrev pub AreSameAt : List Track → Contents → Contents → Type 0
AreSameAt tracks left other = (track : Track) → Contains tracks track → left track.slot ≡ other track.slot

-- what a picture is of, at the bytes of its slot
has-along : (source : Source) (left other : Contents) (track : Track) → left track.slot ≡ other track.slot → HasPicture source left track → HasPicture source other track
has-along source left other track e has = (has.0, has.1, subst (λ (xs : List ℕ). PictureAt (format_of track.header.info) (form_of source track.slot) xs has.0 (has.1 track.slot)) e has.2)

before-in : (tracks : List Track) (track : Track) (P : Track → Type 0) (turn : IsTurnOf tracks track P) (other : Track) → Contains turn.before other → Contains tracks other
before-in tracks track P turn other in-them = subst (λ (xs : List Track). Contains xs other) (sym turn.parts) (Contains-append_left turn.before (track ∷ turn.later) other in-them)

turn-along : (tracks : List Track) (track : Track) (P Q : Track → Type 0) → ((other : Track) → Contains tracks other → P other → Q other) → IsTurnOf tracks track P → IsTurnOf tracks track Q
turn-along tracks track P Q more turn = record {
  before = turn.before;
  later = turn.later;
  parts = turn.parts;
  each = λ other in-them. more other (before-in tracks track P turn other in-them) (turn.each other in-them);
}

input-along : (tracks : List Track) (left other : Contents) (are : AreTracks tracks) → AreSameAt tracks left other → left Input ≡ other Input
input-along tracks left other are alike = sym (input-left tracks left are) ∙ alike are.first (input-in tracks are) ∙ input-left tracks other are

-- a stop depends on the slots of the tracks alone
pub stop-along : (source : Source) (tracks : List Track) (n : ℕ) (left other : Contents) (exit : Exit) → AreTracks tracks → AreSameAt tracks left other → FramesStop source tracks n left exit → FramesStop source tracks n other exit
stop-along source tracks n left other exit are alike (ended all) = ended (λ track in-them. sym (alike track in-them) ∙ all track in-them)
stop-along source tracks n left other exit are alike (extra track none turn some) =
    let here = alike track (track-in tracks track (λ (t : Track). left t.slot ≡ []) turn) in
    extra track (sym (input-along tracks left other are alike) ∙ none) (turn-along tracks track (λ (t : Track). left t.slot ≡ []) (λ (t : Track). other t.slot ≡ []) (λ t in-them e. sym (alike t in-them) ∙ e) turn) (λ e. some (here ∙ e))
stop-along source tracks n left other exit are alike (missing track some few turn none) =
    missing track (λ e. some (input-along tracks left other are alike ∙ e)) few (turn-along tracks track (HasPicture source left) (HasPicture source other) (λ t in-them has. has-along source left other t (alike t in-them) has) turn)
    (sym (alike track (track-in tracks track (HasPicture source left) turn)) ∙ none)
stop-along source tracks n left other exit are alike (no_picture track fault some turn breaks) =
    no_picture track fault (λ e. some (input-along tracks left other are alike ∙ e)) (turn-along tracks track (HasPicture source left) (HasPicture source other) (λ t in-them has. has-along source left other t (alike t in-them) has) turn)
    (subst (λ (xs : List ℕ). PictureBreaks (format_of track.header.info) (form_of source track.slot) n xs fault) (alike track (track-in tracks track (HasPicture source left) turn)) breaks)

pub frame-along : (source : Source) (tracks : List Track) (left other : Contents) (pictures : Pictures) (after : Contents) → AreSameAt tracks left other → FrameAt source tracks left pictures after → FrameAt source tracks other pictures after
frame-along source tracks left other pictures after alike at track in-them =
    subst (λ (xs : List ℕ). PictureAt (format_of track.header.info) (form_of source track.slot) xs (pictures track.slot) (after track.slot)) (alike track in-them) (at track in-them)

pub frames-along : (source : Source) (tracks : List Track) (left other : Contents) (frames : List Pictures) (after : Contents) → AreSameAt tracks left other → FramesAt source tracks left frames after → FramesAt source tracks other frames after
frames-along source tracks left other [] after alike at = λ track in-them. sym (alike track in-them) ∙ at track in-them
frames-along source tracks left other (pictures ∷ frames) after alike at = (at.0, frame-along source tracks left other pictures at.0 alike at.1, at.2)

-- what follows a frame is one at the slots of the tracks
pub after-same : (source : Source) (tracks : List Track) (left : Contents) (p q : Pictures) (a b : Contents) → FrameAt source tracks left p a → FrameAt source tracks left q b → AreSameAt tracks a b
after-same source tracks left p q a b x y track in-them =
    one-after (format_of track.header.info) (form_of source track.slot) (left track.slot) (p track.slot) (q track.slot) (a track.slot) (b track.slot) (x track in-them) (y track in-them)

-- the frames after n frames, and why no further one follows
pub record EndsAfter (source : Source) (tracks : List Track) (n : ℕ) (left : Contents) (frames : List Pictures) (after : Contents) (exit : Exit) : Type 0 where
  pub few : n + length frames ≤ MAX_UNITS
  pub frames_at : FramesAt source tracks left frames after
  pub stop : FramesStop source tracks (n + length frames) after exit

-- where a frame follows, no stop is
no-stop : {A : Type 0} (source : Source) (tracks : List Track) (n : ℕ) (left : Contents) (after : Contents) (e : Exit) (pictures : Pictures) (frames : List Pictures) (end : Contents) (f : Exit) → AreTracks tracks
    → EndsAfter source tracks n left [] after e → EndsAfter source tracks n left (pictures ∷ frames) end f → A
no-stop source tracks n left after e pictures frames end f are p q =
    let none : n + length {A = Pictures} [] ≡ n = omega arith in
    let here : FramesStop source tracks n left e = stop-along source tracks n after left e are (λ track in-them. sym (p.frames_at track in-them)) (subst (λ (k : ℕ). FramesStop source tracks k after e) none p.stop) in
    frame-or-stop source tracks n left e are (omega (arith, q.few), (pictures, q.frames_at.0, q.frames_at.1)) here

next-ends : (source : Source) (tracks : List Track) (n : ℕ) (left mid : Contents) (pictures : Pictures) (frames : List Pictures) (after : Contents) (exit : Exit) (p : EndsAfter source tracks n left (pictures ∷ frames) after exit)
    → AreSameAt tracks p.frames_at.0 mid → EndsAfter source tracks (suc n) mid frames after exit
next-ends source tracks n left mid pictures frames after exit p alike =
    let count : n + suc (length frames) ≡ suc n + length frames = omega arith in
    record {
      few = omega (arith, p.few);
      frames_at = frames-along source tracks p.frames_at.0 mid frames after alike p.frames_at.2;
      stop = subst (λ (k : ℕ). FramesStop source tracks k after exit) count p.stop;
    }

one-end : (source : Source) (tracks : List Track) (n : ℕ) (left : Contents) (frames others : List Pictures) (a b : Contents) (e f : Exit) → AreTracks tracks → EndsAfter source tracks n left frames a e → EndsAfter source tracks n left others b f
    → (length frames ≡ length others) × (e ≡ f)
one-end source tracks n left [] [] a b e f are p q =
    (refl, one-stop source tracks (n + length {A = Pictures} []) b e f are (stop-along source tracks (n + length {A = Pictures} []) a b e are (λ track in-them. sym (p.frames_at track in-them) ∙ q.frames_at track in-them) p.stop) q.stop)
one-end source tracks n left [] (y ∷ others) a b e f are p q = no-stop source tracks n left a e y others b f are p q
one-end source tracks n left (x ∷ frames) [] a b e f are p q = no-stop source tracks n left b f x frames a e are q p
one-end source tracks n left (x ∷ frames) (y ∷ others) a b e f are p q =
    let alike = after-same source tracks left x y p.frames_at.0 q.frames_at.0 p.frames_at.1 q.frames_at.1 in
    let later = one-end source tracks (suc n) q.frames_at.0 frames others a b e f are (next-ends source tracks n left q.frames_at.0 x frames a e p alike) (next-ends source tracks n left q.frames_at.0 y others b f q (λ track in-them. refl)) in
    (omega (arith, later.0), later.1)

same-ending : (m n : ℕ) (e f : Exit) → m ≡ n → e ≡ f → ◌≡◌ {A = Ending} (record { count = m; exit = e }) (record { count = n; exit = f })
same-ending m n e f p q = rw (p, q) refl

ends-from : (source : Source) (tracks : List Track) (left : Contents) (ending : Ending) (h : HasEnding source tracks left ending) → EndsAfter source tracks 0 left h.frames h.after ending.exit
ends-from source tracks left ending h =
    let count : ending.count ≡ 0 + length h.frames = omega (arith, h.count) in
    record { few = omega (arith, h.few); frames_at = h.frames_at; stop = subst (λ (k : ℕ). FramesStop source tracks k h.after ending.exit) count h.stop }

pub one-ending : (source : Source) (tracks : List Track) (left : Contents) → AreTracks tracks → (a b : Ending) → HasEnding source tracks left a → HasEnding source tracks left b → a ≡ b
one-ending source tracks left are a b p q =
    let one = one-end source tracks 0 left p.frames q.frames p.after q.after a.exit b.exit are (ends-from source tracks left a p) (ends-from source tracks left b q) in
    same-ending a.count b.count a.exit b.exit (sym p.count ∙ one.0 ∙ q.count) one.1
