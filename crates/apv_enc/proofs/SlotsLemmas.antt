-- The slots of the tracks of a run, and calls that change no more than some of them.
use Rattle.std.proofs.Common.{◌≡◌, ℕ, ℤ, zero, suc, List, [], ◌∷◌, ◌++◌, length, map, refl, sym, ap, ◌∙◌, subst, arith, Bool, true, false, Option, None, Some, is_some}
use Rattle.std.specs.Prelude.{Contains}
use Rattle.std.specs.Bool.{OnFalse}
use Rattle.std.specs.List.{AllByRecursion, list_any}
use Rattle.std.proofs.lemmas.List.{length-map}
use Rattle.std.proofs.lemmas.List.Elements.{All-contains, All-from_recursion, Contains-append_right}
use Rattle.apv_base.specs.declared.format.Format.{Format}
use Rattle.apv_base.specs.declared.slot.Slot.{Slot}
use Rattle.apv_base.specs.declared.slot.Slot.TheVariants.{Input, Preview, Depth, Alpha, Metadata, TileQp, Output, Recon, MetaOut, Console}
use Rattle.apv_base.specs.model.Slot.{is_input, same_slot}
use Rattle.apv_files.specs.SlotView.{SlotView, OnlyAt}
use Rattle.apv_run.specs.Slots.{OnlyLeftChanged}
use Rattle.apv_words.specs.declared.encoder.EncSettings.{EncSettings}
use Rattle.apv_encoding.specs.Settings.{EncoderSettings, Track, primary_track, preview_track, preview_tracks, grey_track, where_asked, tracks_of}
use Rattle.apv_tracks.specs.declared.kinds.TrackKind.{TrackKind}
use Rattle.apv_tracks.specs.Kinds.{AreReading, OnlyAtTracks, has_track, kind_with, kinds_of, where_named}
use Rattle.apv_tracks.specs.Pictures.{AreRead, AtTracks}
use Rattle.apv_tracks.specs.Plain.{plain_settings, preview_by}
use Rattle.apv_enc.specs.Frames.{OnlyAtFiles}

-- ---- each track

all-append : {A : Type 0} (P : A → Type 0) (xs ys : List A) → AllByRecursion P xs → AllByRecursion P ys → AllByRecursion P (xs ++ ys)
all-append P [] ys a b = b
all-append P (x ∷ xs) ys a b = (a.0, all-append P xs ys a.1 b)

all-asked : (P : Track → Type 0) (asked : Bool) (track : Track) → P track → AllByRecursion P (where_asked asked track)
all-asked P true track p = (p, tt)
all-asked P false track p = tt

all-preview : (P : Track → Type 0) (e : EncoderSettings) (preview : Option (ℕ × ℕ)) → ((size : ℕ × ℕ) → preview ≡ Some size → P (preview_track e size)) → AllByRecursion P (preview_tracks e preview)
all-preview P e None p = tt
all-preview P e (Some size) p = (p size refl, tt)

-- what holds of the track of each kind holds of all tracks
pub all-tracks : (P : Track → Type 0) (e : EncoderSettings) (format : Format) (offset : ℕ → ℤ) → P (primary_track e format offset) → ((size : ℕ × ℕ) → e.preview ≡ Some size → P (preview_track e size)) → P (grey_track e format Depth 26) → P (grey_track e format Alpha 27)
    → AllByRecursion P (tracks_of e format offset)
all-tracks P e format offset primary preview depth alpha = (
  primary,
  all-append P (preview_tracks e e.preview ++ where_asked e.depth (grey_track e format Depth 26)) (where_asked e.alpha (grey_track e format Alpha 27))
      (all-append P (preview_tracks e e.preview) (where_asked e.depth (grey_track e format Depth 26)) (all-preview P e e.preview preview) (all-asked P e.depth (grey_track e format Depth 26) depth))
      (all-asked P e.alpha (grey_track e format Alpha 27) alpha),
)

-- an element after the first
pub later : {A : Type 0} (x : A) (xs : List A) (y : A) → Contains xs y → Contains (x ∷ xs) y
later x xs y in-them = Contains-append_right (x ∷ []) xs y in-them

-- ---- tracks and their kinds

abbrev kind_slots : List TrackKind → List Slot
kind_slots kinds = map (λ (kind : TrackKind). kind.slot) kinds

abbrev track_slots : List Track → List Slot
track_slots tracks = map (λ (track : Track). track.slot) tracks

abbrev kinds_by : Option (List ℕ) → Option (List ℕ) → Option (List ℕ) → List TrackKind
kinds_by preview depth alpha = kind_with Input 1 ∷ where_named preview (kind_with Preview 25) ++ where_named depth (kind_with Depth 26) ++ where_named alpha (kind_with Alpha 27)

abbrev tracks_by : EncoderSettings → Format → (ℕ → ℤ) → Option (ℕ × ℕ) → Bool → Bool → List Track
tracks_by e format offset preview depth alpha = primary_track e format offset ∷ preview_tracks e preview ++ where_asked depth (grey_track e format Depth 26) ++ where_asked alpha (grey_track e format Alpha 27)

slots-by : (s : EncSettings) (e : EncoderSettings) (format : Format) (offset : ℕ → ℤ) (preview depth alpha : Option (List ℕ)) → kind_slots (kinds_by preview depth alpha) ≡ track_slots (tracks_by e format offset (preview_by s preview) (is_some depth) (is_some alpha))
slots-by s e format offset None None None = refl
slots-by s e format offset None None (Some alpha) = refl
slots-by s e format offset None (Some depth) None = refl
slots-by s e format offset None (Some depth) (Some alpha) = refl
slots-by s e format offset (Some preview) None None = refl
slots-by s e format offset (Some preview) None (Some alpha) = refl
slots-by s e format offset (Some preview) (Some depth) None = refl
slots-by s e format offset (Some preview) (Some depth) (Some alpha) = refl

same-slots : (s : EncSettings) (format : Format) (offset : ℕ → ℤ) → kind_slots (kinds_of s) ≡ track_slots (tracks_of (plain_settings s) format offset)
same-slots s format offset = slots-by s (plain_settings s) format offset s.preview s.depth_map s.alpha

-- there are as many tracks as kinds
pub tracks-count : (s : EncSettings) (format : Format) (offset : ℕ → ℤ) → length (tracks_of (plain_settings s) format offset) ≡ length (kinds_of s)
tracks-count s format offset =
    sym (length-map (tracks_of (plain_settings s) format offset) (λ (track : Track). track.slot)) ∙ ap (length {A = Slot}) (sym (same-slots s format offset)) ∙ length-map (kinds_of s) (λ (kind : TrackKind). kind.slot)

at-kinds-by : (P : Slot → Type 0) (kinds : List TrackKind) (tracks : List Track) → kind_slots kinds ≡ track_slots tracks → AtTracks tracks P → (kind : TrackKind) → Contains kinds kind → P kind.slot
at-kinds-by P [] tracks e all kind (n, lt, is) = absurd (omega (arith, lt))
at-kinds-by P (k ∷ kinds) [] e all kind in-them = absurd (let no : ⊥ = cc in no)
at-kinds-by P (k ∷ kinds) (t ∷ tracks) e all kind (zero, lt, is) =
    let same : k.slot ≡ t.slot = cc in
    subst P (sym same ∙ ap (λ (x : TrackKind). x.slot) is) (all t (0, omega arith, refl))
at-kinds-by P (k ∷ kinds) (t ∷ tracks) e all kind (suc n, lt, is) =
    let same : kind_slots kinds ≡ track_slots tracks = cc in
    at-kinds-by P kinds tracks same (λ track in-them. all track (later t tracks track in-them)) kind (n, omega (arith, lt), is)

-- what holds at the slots of the tracks holds at those of their kinds
pub at-kinds : (P : Slot → Type 0) (s : EncSettings) (format : Format) (offset : ℕ → ℤ) → AtTracks (tracks_of (plain_settings s) format offset) P → (kind : TrackKind) → Contains (kinds_of s) kind → P kind.slot
at-kinds P s format offset all = at-kinds-by P (kinds_of s) (tracks_of (plain_settings s) format offset) (same-slots s format offset) all

-- slots of which only what is left changed are still open for reading
pub still-reading : (s : EncSettings) (format : Format) (offset : ℕ → ℤ) (old new : Slot → SlotView) → AreRead (tracks_of (plain_settings s) format offset) old new → AreReading s old → AreReading s new
still-reading s format offset old new read reading kind in-them =
    ap (λ (v : SlotView). v.mode) (at-kinds (λ slot. OnlyLeftChanged (old slot) (new slot)) s format offset read kind in-them) ∙ reading kind in-them

-- ---- the outputs aren't slots of tracks

abbrev IsOfInput : Track → Type 0
IsOfInput track = is_input track.slot ≡ true

of-inputs : (e : EncoderSettings) (format : Format) (offset : ℕ → ℤ) (track : Track) → Contains (tracks_of e format offset) track → IsOfInput track
of-inputs e format offset track = All-contains IsOfInput (tracks_of e format offset) track (All-from_recursion IsOfInput (tracks_of e format offset) (all-tracks IsOfInput e format offset refl (λ size is. refl) refl refl))

no-output : (slot : Slot) → is_input slot ≡ true → (same_slot slot Output ≡ false) × (same_slot slot Recon ≡ false)
no-output Input is = (refl, refl)
no-output Preview is = (refl, refl)
no-output Depth is = (refl, refl)
no-output Alpha is = (refl, refl)
no-output Metadata is = (refl, refl)
no-output TileQp is = (refl, refl)
no-output Output is = absurd (let no : ⊥ = cc in no)
no-output Recon is = absurd (let no : ⊥ = cc in no)
no-output MetaOut is = absurd (let no : ⊥ = cc in no)
no-output Console is = absurd (let no : ⊥ = cc in no)

no-track-by : (preview depth alpha : Option (List ℕ)) → (list_any (λ (kind : TrackKind). same_slot Output kind.slot) (kinds_by preview depth alpha) ≡ false) × (list_any (λ (kind : TrackKind). same_slot Recon kind.slot) (kinds_by preview depth alpha) ≡ false)
no-track-by None None None = (refl, refl)
no-track-by None None (Some alpha) = (refl, refl)
no-track-by None (Some depth) None = (refl, refl)
no-track-by None (Some depth) (Some alpha) = (refl, refl)
no-track-by (Some preview) None None = (refl, refl)
no-track-by (Some preview) None (Some alpha) = (refl, refl)
no-track-by (Some preview) (Some depth) None = (refl, refl)
no-track-by (Some preview) (Some depth) (Some alpha) = (refl, refl)

no-track : (s : EncSettings) → (has_track s Output ≡ false) × (has_track s Recon ≡ false)
no-track s = no-track-by s.preview s.depth_map s.alpha

on-false : (b : Bool) (P : Type 0) → (b ≡ false → P) → OnFalse b P
on-false true P f = tt
on-false false P f = f refl

at-false : (b : Bool) (P : Type 0) → b ≡ false → OnFalse b P → P
at-false true P e p = absurd (let no : ⊥ = cc in no)
at-false false P e p = p

-- where only slots of tracks changed, the outputs didn't
pub output-stays : (s : EncSettings) (old new : Slot → SlotView) → OnlyAtTracks s old new → new Output ≡ old Output
output-stays s old new only = at-false (has_track s Output) (new Output ≡ old Output) (no-track s).0 (only Output)

pub recon-stays : (s : EncSettings) (old new : Slot → SlotView) → OnlyAtTracks s old new → new Recon ≡ old Recon
recon-stays s old new only = at-false (has_track s Recon) (new Recon ≡ old Recon) (no-track s).1 (only Recon)

-- where only an output changed, the slots of the tracks didn't
pub stay-at-output : (e : EncoderSettings) (format : Format) (offset : ℕ → ℤ) (old new : Slot → SlotView) → OnlyAt Output old new → AtTracks (tracks_of e format offset) (λ slot. new slot ≡ old slot)
stay-at-output e format offset old new only track in-them =
    at-false (same_slot track.slot Output) (new track.slot ≡ old track.slot) (no-output track.slot (of-inputs e format offset track in-them)).0 (only track.slot)

pub stay-at-recon : (e : EncoderSettings) (format : Format) (offset : ℕ → ℤ) (old new : Slot → SlotView) → OnlyAt Recon old new → AtTracks (tracks_of e format offset) (λ slot. new slot ≡ old slot)
stay-at-recon e format offset old new only track in-them =
    at-false (same_slot track.slot Recon) (new track.slot ≡ old track.slot) (no-output track.slot (of-inputs e format offset track in-them)).1 (only track.slot)

-- ---- no slot changed but those of the tracks and the outputs

-- no call
pub tracks-none : (s : EncSettings) (old : Slot → SlotView) → OnlyAtTracks s old old
tracks-none s old slot = on-false (has_track s slot) _ (λ a. refl)

pub files-none : (s : EncSettings) (old : Slot → SlotView) → OnlyAtFiles s old old
files-none s old slot = on-false (has_track s slot) _ (λ a. on-false (same_slot slot Output) _ (λ b. on-false (same_slot slot Recon) _ (λ c. refl)))

files-then : (s : EncSettings) (old mid new : Slot → SlotView) → OnlyAtFiles s old mid → ((slot : Slot) → has_track s slot ≡ false → same_slot slot Output ≡ false → same_slot slot Recon ≡ false → new slot ≡ mid slot) → OnlyAtFiles s old new
files-then s old mid new only stays slot = on-false (has_track s slot) _ (λ a. on-false (same_slot slot Output) _ (λ b. on-false (same_slot slot Recon) _ (λ c.
    stays slot a b c ∙ at-false (same_slot slot Recon) _ c (at-false (same_slot slot Output) _ b (at-false (has_track s slot) _ a (only slot))))))

-- and then slots of tracks, or an output
pub files-tracks : (s : EncSettings) (old mid new : Slot → SlotView) → OnlyAtFiles s old mid → OnlyAtTracks s mid new → OnlyAtFiles s old new
files-tracks s old mid new f only = files-then s old mid new f (λ slot a b c. at-false (has_track s slot) _ a (only slot))

pub files-output : (s : EncSettings) (old mid new : Slot → SlotView) → OnlyAtFiles s old mid → OnlyAt Output mid new → OnlyAtFiles s old new
files-output s old mid new f only = files-then s old mid new f (λ slot a b c. at-false (same_slot slot Output) _ b (only slot))

pub files-recon : (s : EncSettings) (old mid new : Slot → SlotView) → OnlyAtFiles s old mid → OnlyAt Recon mid new → OnlyAtFiles s old new
files-recon s old mid new f only = files-then s old mid new f (λ slot a b c. at-false (same_slot slot Recon) _ c (only slot))
