-- The tracks of a run by their places, their kinds and how they are kept.
use Rattle.std.proofs.Common.{◌≡◌, ℕ, zero, suc, ◌<◌, List, [], ◌∷◌, ◌++◌, length, get_or, map, refl, sym, ap, ◌∙◌, subst, arith, Option, Some, None, Bool, true, false}
use Rattle.std.specs.Prelude.{ℤ, Contains, slice_set}
use Rattle.std.specs.List.{AllByRecursion}
use Rattle.apv_base.specs.declared.format.Format.{Format}
use Rattle.apv_base.specs.declared.slot.Slot.TheVariants.{Depth, Alpha}
use Rattle.apv_base.specs.model.Header.{grid_of}
use Rattle.apv_encoding.specs.Settings.{EncoderSettings, Track, grey_track, preview_tracks, primary_track, tracks_of, where_asked}
use Rattle.apv_workers.specs.Track.{TrackState}
use Rattle.apv_tracks.specs.States.{AreSameButFrames, AreStatesOf, HaveOwnGrids, IsSameButFrame, IsStateOf}
use Rattle.apv_tracks.specs.declared.kinds.TrackKind.{TrackKind}
use Rattle.apv_tracks.proofs.KindLemmas.{kind_of}
use Rattle.apv_tracks.proofs.SlotReadLemmas.{AreApart}

-- ---- what is true of each

pub all-of : {A : Type 0} (P : A → Type 0) (xs : List A) → ((x : A) → P x) → AllByRecursion P xs
all-of P [] f = tt
all-of P (x ∷ xs) f = (f x, all-of P xs f)

pub all-by : {A : Type 0} (P Q : A → Type 0) (xs : List A) → ((x : A) → P x → Q x) → AllByRecursion P xs → AllByRecursion Q xs
all-by P Q [] f all = tt
all-by P Q (x ∷ xs) f all = (f x all.0, all-by P Q xs f all.1)

pub all-by-two : {A : Type 0} (P Q R : A → Type 0) (xs : List A) → ((x : A) → P x → Q x → R x) → AllByRecursion P xs → AllByRecursion Q xs → AllByRecursion R xs
all-by-two P Q R [] f all both = tt
all-by-two P Q R (x ∷ xs) f all both = (f x all.0 both.0, all-by-two P Q R xs f all.1 both.1)

pub all-among : {A : Type 0} (P : A → Type 0) (xs : List A) (x : A) → AllByRecursion P xs → Contains xs x → P x
all-among P [] x all among = absurd (omega (arith, among.1))
all-among {A} P (y ∷ xs) x all (zero, lt, e) = subst P e all.0
all-among P (y ∷ xs) x all (suc k, lt, e) = all-among P xs x all.1 (k, omega (arith, lt), e)

pub all-from : {A : Type 0} (P : A → Type 0) (xs : List A) → ((x : A) → Contains xs x → P x) → AllByRecursion P xs
all-from P [] f = tt
all-from P (x ∷ xs) f = (f x (0, omega arith, refl), all-from P xs (λ y among. f y (suc among.0, omega (arith, among.1), among.2)))

all-middle : {A : Type 0} (P : A → Type 0) (before : List A) (x : A) (later : List A) → AllByRecursion P (before ++ x ∷ later) → P x
all-middle P [] x later all = all.0
all-middle P (y ∷ before) x later all = all-middle P before x later all.1

-- an element that is there doesn't depend on the one that stands for others
pub any-default : {A : Type 0} (xs : List A) (i : ℕ) (d e : A) → i < length xs → get_or xs i d ≡ get_or xs i e
any-default [] i d e lt = absurd (omega (arith, lt))
any-default (x ∷ xs) zero d e lt = refl
any-default (x ∷ xs) (suc i) d e lt = any-default xs i d e (omega (arith, lt))

-- ---- their slots

-- no two tracks have one slot
abbrev pub HaveOwnSlots : List Track → Type 0
HaveOwnSlots [] = Unit {0}
HaveOwnSlots (track ∷ tracks) = AllByRecursion (λ (other : Track). AreApart other.slot track.slot) tracks × HaveOwnSlots tracks

-- those before a track, and those after it, have other slots
pub apart-before : (before : List Track) (track : Track) (later : List Track) → HaveOwnSlots (before ++ track ∷ later) → AllByRecursion (λ (other : Track). AreApart other.slot track.slot) before
apart-before [] track later own = tt
apart-before (other ∷ before) track later own = (λ e. all-middle (λ (t : Track). AreApart t.slot other.slot) before track later own.0 (sym e), apart-before before track later own.1)

pub apart-later : (before : List Track) (track : Track) (later : List Track) → HaveOwnSlots (before ++ track ∷ later) → AllByRecursion (λ (other : Track). AreApart other.slot track.slot) later
apart-later [] track later own = own.0
apart-later (other ∷ before) track later own = apart-later before track later own.1

module _ (settings : EncoderSettings) (format : Format) (tile_offset : ℕ → ℤ) where
  own-by : (preview : Option (ℕ × ℕ)) (depth alpha : Bool) → HaveOwnSlots (
      primary_track settings format tile_offset
      ∷ preview_tracks settings preview
      ++ where_asked depth (grey_track settings format Depth 26)
      ++ where_asked alpha (grey_track settings format Alpha 27))
  own-by None false false = (tt, tt)
  own-by None false true = ((λ e. cc, tt), (tt, tt))
  own-by None true false = ((λ e. cc, tt), (tt, tt))
  own-by None true true = ((λ e. cc, (λ e. cc, tt)), ((λ e. cc, tt), (tt, tt)))
  own-by (Some size) false false = ((λ e. cc, tt), (tt, tt))
  own-by (Some size) false true = ((λ e. cc, (λ e. cc, tt)), ((λ e. cc, tt), (tt, tt)))
  own-by (Some size) true false = ((λ e. cc, (λ e. cc, tt)), ((λ e. cc, tt), (tt, tt)))
  own-by (Some size) true true = ((λ e. cc, (λ e. cc, (λ e. cc, tt))), ((λ e. cc, (λ e. cc, tt)), ((λ e. cc, tt), (tt, tt))))

  -- those of a run
  pub own-slots : HaveOwnSlots (tracks_of settings format tile_offset)
  own-slots = own-by settings.preview settings.depth settings.alpha

-- ---- their kinds

pub kind-at : (before : List Track) (track : Track) (later : List Track) (d : TrackKind) → get_or (map kind_of (before ++ track ∷ later)) (length before) d ≡ kind_of track
kind-at [] track later d = refl
kind-at (other ∷ before) track later d = kind-at before track later d

-- kinds in parts are those of tracks in parts
pub record KindParts (tracks : List Track) (before : List TrackKind) (kind : TrackKind) (later : List TrackKind) : Type 0 where
  pub first : List Track
  pub track : Track
  pub rest : List Track
  pub parts : tracks ≡ first ++ track ∷ rest
  pub before_is : before ≡ map kind_of first
  pub is : kind_of track ≡ kind

pub kind-parts : (tracks : List Track) (before : List TrackKind) (kind : TrackKind) (later : List TrackKind) → map kind_of tracks ≡ before ++ kind ∷ later → KindParts tracks before kind later
kind-parts [] [] kind later e = absurd (let no : ⊥ = cc in no)
kind-parts [] (k ∷ before) kind later e = absurd (let no : ⊥ = cc in no)
kind-parts (track ∷ tracks) [] kind later e = record { first = []; track = track; rest = tracks; parts = refl; before_is = refl; is = let same : kind_of track ≡ kind = cc in same }
kind-parts (track ∷ tracks) (k ∷ before) kind later e =
    let same : kind_of track ≡ k = cc in
    let more : map kind_of tracks ≡ before ++ kind ∷ later = cc in
    let p : KindParts tracks before kind later = kind-parts tracks before kind later more in
    record {
      first = track ∷ p.first;
      track = p.track;
      rest = p.rest;
      parts = ap (λ (ts : List Track). track ∷ ts) {y = p.first ++ p.track ∷ p.rest} p.parts;
      before_is = let rest : before ≡ map kind_of p.first = p.before_is in let head : k ≡ kind_of track = sym same in cc;
      is = p.is;
    }

pub kind-among : (tracks : List Track) (track : Track) → Contains tracks track → Contains (map kind_of tracks) (kind_of track)
kind-among [] track among = absurd (omega (arith, among.1))
kind-among (t ∷ tracks) track (zero, lt, e) = (zero, omega arith, ap kind_of e)
kind-among (t ∷ tracks) track (suc k, lt, e) =
    let later = kind-among tracks track (k, omega (arith, lt), e) in
    (suc later.0, omega (arith, later.1), later.2)

-- a kind among them is that of a track
pub track-among : (tracks : List Track) (kind : TrackKind) → Contains (map kind_of tracks) kind → (track : Track) × Contains tracks track × (kind_of track ≡ kind)
track-among [] kind among = absurd (omega (arith, among.1))
track-among (t ∷ tracks) kind (zero, lt, e) = (t, (zero, omega arith, refl), e)
track-among (t ∷ tracks) kind (suc k, lt, e) =
    let later = track-among tracks kind (k, omega (arith, lt), e) in
    (later.0, (suc later.1.0, omega (arith, later.1.1), later.1.2), later.2)

-- ---- how they are kept

pub state-count : (tracks : List Track) (states : List TrackState) → AreStatesOf tracks states → length states ≡ length tracks
state-count [] states are = ap length are
state-count (track ∷ tracks) [] are = absurd are
state-count (track ∷ tracks) (state ∷ states) are = ap suc (state-count tracks states are.1)

pub state-at : (before : List Track) (track : Track) (later : List Track) (states : List TrackState) (d : TrackState) → AreStatesOf (before ++ track ∷ later) states → IsStateOf track (get_or states (length before) d)
state-at [] track later [] d are = absurd are
state-at [] track later (state ∷ states) d are = are.0
state-at (other ∷ before) track later [] d are = absurd are
state-at (other ∷ before) track later (state ∷ states) d are = state-at before track later states d are.1

pub same-count : (olds news : List TrackState) → AreSameButFrames olds news → length news ≡ length olds
same-count [] news same = ap length same
same-count (old ∷ olds) [] same = absurd same
same-count (old ∷ olds) (new ∷ news) same = ap suc (same-count olds news same.1)

pub same-none : (states : List TrackState) → AreSameButFrames states states
same-none [] = refl
same-none (state ∷ states) = (record { rest = refl; grid = refl }, same-none states)

pub same-at : (i : ℕ) (olds news : List TrackState) (d e : TrackState) → i < length olds → AreSameButFrames olds news → IsSameButFrame (get_or olds i d) (get_or news i e)
same-at i [] news d e lt same = absurd (omega (arith, lt))
same-at i (old ∷ olds) [] d e lt same = absurd same
same-at zero (old ∷ olds) (new ∷ news) d e lt same = same.0
same-at (suc i) (old ∷ olds) (new ∷ news) d e lt same = same-at i olds news d e (omega (arith, lt)) same.1

pub same-then : (a b c : TrackState) → IsSameButFrame a b → IsSameButFrame b c → IsSameButFrame a c
same-then a b c p q = record { rest = q.rest ∙ ap (λ (t : TrackState). record t { frame = c.frame }) p.rest; grid = q.grid ∙ p.grid }

-- another frame at a place
pub same-set : (i : ℕ) (olds news : List TrackState) (d new : TrackState) → i < length news → AreSameButFrames olds news → IsSameButFrame (get_or news i d) new → AreSameButFrames olds (slice_set news i new)
same-set i [] [] d new lt same one = absurd (omega (arith, lt))
same-set i [] (x ∷ news) d new lt same one = absurd (let no : ⊥ = cc in no)
same-set i (old ∷ olds) [] d new lt same one = absurd same
same-set zero (old ∷ olds) (x ∷ news) d new lt same one = (same-then old x new same.0 one, same.1)
same-set (suc i) (old ∷ olds) (x ∷ news) d new lt same one = (same.0, same-set i olds news d new (omega (arith, lt)) same.1 one)

pub grid-at : (i : ℕ) (states : List TrackState) (d : TrackState) → i < length states → HaveOwnGrids states → (get_or states i d).frame.grid ≡ grid_of (get_or states i d).header
grid-at i [] d lt own = absurd (omega (arith, lt))
grid-at zero (state ∷ states) d lt own = own.0
grid-at (suc i) (state ∷ states) d lt own = grid-at i states d (omega (arith, lt)) own.1
