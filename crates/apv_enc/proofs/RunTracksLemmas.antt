-- The slots of the tracks that settings ask for, and claims of each of them.
use Rattle.std.proofs.Common.{◌≡◌, ℕ, ℤ, List, [], ◌∷◌, ◌++◌, refl, sym, subst, map, Option, Some, None, Bool, true, false, is_some, ◌⊎◌, inl, inr, true≢false}
use Rattle.std.specs.Prelude.{Contains, ◌||◌}
use Rattle.std.specs.List.{AllByRecursion, list_any}
use Rattle.std.proofs.lemmas.Bool.{OnFalse_at, cases_Bool, eqb-true}
use Rattle.std.proofs.lemmas.List.Elements.{All-contains, All-from_recursion}
use Rattle.apv_base.specs.declared.format.Format.{Format}
use Rattle.apv_base.specs.declared.slot.Slot.{Slot}
use Rattle.apv_base.specs.declared.slot.Slot.TheVariants.{Input, Preview, Depth, Alpha, Metadata, TileQp, Output, Recon}
use Rattle.apv_base.specs.model.Slot.{same_slot, slot_number}
use Rattle.apv_files.specs.SlotView.{SlotView}
use Rattle.apv_run.proofs.SlotLemmas.{same-number}
use Rattle.apv_words.specs.declared.encoder.EncSettings.{EncSettings}
use Rattle.apv_encoding.specs.Settings.{EncoderSettings, Track, grey_track, preview_tracks, primary_track, tracks_of, where_asked}
use Rattle.apv_encoding.proofs.AlikeLemmas.{all-tracks}
use Rattle.apv_tracks.specs.Kinds.{has_track, kind_with, kinds_of, where_named}
use Rattle.apv_tracks.specs.Opening.{OnlyAtInputs}
use Rattle.apv_tracks.specs.Pictures.{AtTracks}
use Rattle.apv_tracks.specs.Plain.{plain_settings, preview_by}
use Rattle.apv_tracks.specs.declared.kinds.TrackKind.{TrackKind}
use Rattle.apv_enc.specs.Frames.{OnlyAtFiles}

-- ---- the slots of the tracks, in their order

-- a slot where it is asked for, before more of them
abbrev slot_where : Bool → Slot → List Slot → List Slot
slot_where true slot more = slot ∷ more
slot_where false slot more = more

abbrev picture_slots : Bool → Bool → Bool → List Slot
picture_slots preview depth alpha = Input ∷ slot_where preview Preview (slot_where depth Depth (slot_where alpha Alpha []))

kind-slots : (p d a : Option (List ℕ)) → map (λ (kind : TrackKind). kind.slot) (kind_with Input 1 ∷ where_named p (kind_with Preview 25) ++ where_named d (kind_with Depth 26) ++ where_named a (kind_with Alpha 27))
    ≡ picture_slots (is_some p) (is_some d) (is_some a)
kind-slots None None None = refl
kind-slots None None (Some a) = refl
kind-slots None (Some d) None = refl
kind-slots None (Some d) (Some a) = refl
kind-slots (Some p) None None = refl
kind-slots (Some p) None (Some a) = refl
kind-slots (Some p) (Some d) None = refl
kind-slots (Some p) (Some d) (Some a) = refl

track-slots : (settings : EncSettings) (s : EncoderSettings) (format : Format) (tile_offset : ℕ → ℤ) (p d a : Option (List ℕ))
    → map (λ (track : Track). track.slot) (primary_track s format tile_offset ∷ preview_tracks s (preview_by settings p) ++ where_asked (is_some d) (grey_track s format Depth 26) ++ where_asked (is_some a) (grey_track s format Alpha 27))
    ≡ picture_slots (is_some p) (is_some d) (is_some a)
track-slots settings s format tile_offset None None None = refl
track-slots settings s format tile_offset None None (Some a) = refl
track-slots settings s format tile_offset None (Some d) None = refl
track-slots settings s format tile_offset None (Some d) (Some a) = refl
track-slots settings s format tile_offset (Some p) None None = refl
track-slots settings s format tile_offset (Some p) None (Some a) = refl
track-slots settings s format tile_offset (Some p) (Some d) None = refl
track-slots settings s format tile_offset (Some p) (Some d) (Some a) = refl

-- ---- what is true of each slot of a list

module _ (claim : Slot → Type 0) where
  each-where : (asked : Bool) (slot : Slot) (more : List Slot) → (asked ≡ true → claim slot) → AllByRecursion claim more → AllByRecursion claim (slot_where asked slot more)
  each-where true slot more here all = (here refl, all)
  each-where false slot more here all = all

  where-here : (asked : Bool) (slot : Slot) (more : List Slot) → asked ≡ true → AllByRecursion claim (slot_where asked slot more) → claim slot
  where-here true slot more e all = all.0
  where-here false slot more e all = absurd (true≢false (sym e))

  where-later : (asked : Bool) (slot : Slot) (more : List Slot) → AllByRecursion claim (slot_where asked slot more) → AllByRecursion claim more
  where-later true slot more all = all.1
  where-later false slot more all = all

  all-map : {A : Type 0} (slot_of : A → Slot) (xs : List A) → AllByRecursion (λ (x : A). claim (slot_of x)) xs → AllByRecursion claim (map slot_of xs)
  all-map slot_of [] all = tt
  all-map slot_of (x ∷ xs) all = (all.0, all-map slot_of xs all.1)

  all-unmap : {A : Type 0} (slot_of : A → Slot) (xs : List A) → AllByRecursion claim (map slot_of xs) → AllByRecursion (λ (x : A). claim (slot_of x)) xs
  all-unmap slot_of [] all = tt
  all-unmap slot_of (x ∷ xs) all = (all.0, all-unmap slot_of xs all.1)

all-contains : {A : Type 0} (P : A → Type 0) (xs : List A) → AllByRecursion P xs → (x : A) → Contains xs x → P x
all-contains P xs all x in-them = All-contains P xs x (All-from_recursion P xs all) in-them

-- slots with one number are one
slot-is : (one other : Slot) → same_slot one other ≡ true → one ≡ other
slot-is one other e = same-number one other (eqb-true (slot_number one) (slot_number other) e)

or-either : (a b : Bool) → (a || b) ≡ true → (a ≡ true) ⊎ (b ≡ true)
or-either true b e = inl refl
or-either false b e = inr e

any-slot : (claim : Slot → Type 0) (slot : Slot) (kinds : List TrackKind) → AllByRecursion (λ (kind : TrackKind). claim kind.slot) kinds → list_any (λ (kind : TrackKind). same_slot slot kind.slot) kinds ≡ true → claim slot
any-slot claim slot [] all e = absurd (true≢false (sym e))
any-slot claim slot (kind ∷ kinds) all e = elim (or-either (same_slot slot kind.slot) (list_any (λ (k : TrackKind). same_slot slot k.slot) kinds) e) [
  | inl here ↦ subst claim (sym (slot-is slot kind.slot here)) all.0
  | inr later ↦ any-slot claim slot kinds all.1 later
]

no-slot : (slot : Slot) (kinds : List TrackKind) → AllByRecursion (λ (kind : TrackKind). same_slot slot kind.slot ≡ false) kinds → list_any (λ (kind : TrackKind). same_slot slot kind.slot) kinds ≡ false
no-slot slot [] all = refl
no-slot slot (kind ∷ kinds) all = rw all.0 (no-slot slot kinds all.1)

-- ---- the tracks of settings

module _ (settings : EncSettings) where
  abbrev slots_of : List Slot
  slots_of = picture_slots (is_some settings.preview) (is_some settings.depth_map) (is_some settings.alpha)

  module _ (claim : Slot → Type 0) where
    all-slots : claim Input → (is_some settings.preview ≡ true → claim Preview) → (is_some settings.depth_map ≡ true → claim Depth) → (is_some settings.alpha ≡ true → claim Alpha) → AllByRecursion claim slots_of
    all-slots i p d a =
        let last : List Slot = slot_where (is_some settings.alpha) Alpha [] in
        (i, each-where claim (is_some settings.preview) Preview (slot_where (is_some settings.depth_map) Depth last) p (each-where claim (is_some settings.depth_map) Depth last d (each-where claim (is_some settings.alpha) Alpha [] a tt)))

    kinds-by : AllByRecursion claim slots_of → AllByRecursion (λ (kind : TrackKind). claim kind.slot) (kinds_of settings)
    kinds-by all = all-unmap claim (λ (kind : TrackKind). kind.slot) (kinds_of settings) (subst (AllByRecursion claim) (sym (kind-slots settings.preview settings.depth_map settings.alpha)) all)

    -- what is true of Input, and of each other slot of pictures that is named, is true of each kind of track
    pub each-kind : claim Input → (is_some settings.preview ≡ true → claim Preview) → (is_some settings.depth_map ≡ true → claim Depth) → (is_some settings.alpha ≡ true → claim Alpha)
        → (kind : TrackKind) → Contains (kinds_of settings) kind → claim kind.slot
    each-kind i p d a = all-contains (λ (kind : TrackKind). claim kind.slot) (kinds_of settings) (kinds-by (all-slots i p d a))

    module _ (format : Format) (tile_offset : ℕ → ℤ) where
      abbrev tracks : List Track
      tracks = tracks_of (plain_settings settings) format tile_offset

      same-slots : map (λ (track : Track). track.slot) tracks ≡ slots_of
      same-slots = track-slots settings (plain_settings settings) format tile_offset settings.preview settings.depth_map settings.alpha

      -- and of each track
      pub each-track : claim Input → (is_some settings.preview ≡ true → claim Preview) → (is_some settings.depth_map ≡ true → claim Depth) → (is_some settings.alpha ≡ true → claim Alpha) → AtTracks tracks claim
      each-track i p d a =
          all-contains (λ (track : Track). claim track.slot) tracks (all-unmap claim (λ (track : Track). track.slot) tracks (subst (AllByRecursion claim) (sym same-slots) (all-slots i p d a)))

      tracks-by : AtTracks tracks claim → AllByRecursion claim slots_of
      tracks-by each = subst (AllByRecursion claim) same-slots (all-map claim (λ (track : Track). track.slot) tracks (all-tracks (λ (track : Track). claim track.slot) tracks each))

      -- what is true of each track is true of Input, and of each other slot of pictures that is named
      pub at-input : AtTracks tracks claim → claim Input
      at-input each = (tracks-by each).0

      pub at-preview : AtTracks tracks claim → is_some settings.preview ≡ true → claim Preview
      at-preview each named = where-here claim (is_some settings.preview) Preview (slot_where (is_some settings.depth_map) Depth (slot_where (is_some settings.alpha) Alpha [])) named (tracks-by each).1

      after-preview : AtTracks tracks claim → AllByRecursion claim (slot_where (is_some settings.depth_map) Depth (slot_where (is_some settings.alpha) Alpha []))
      after-preview each = where-later claim (is_some settings.preview) Preview (slot_where (is_some settings.depth_map) Depth (slot_where (is_some settings.alpha) Alpha [])) (tracks-by each).1

      pub at-depth : AtTracks tracks claim → is_some settings.depth_map ≡ true → claim Depth
      at-depth each named = where-here claim (is_some settings.depth_map) Depth (slot_where (is_some settings.alpha) Alpha []) named (after-preview each)

      pub at-alpha : AtTracks tracks claim → is_some settings.alpha ≡ true → claim Alpha
      at-alpha each named = where-here claim (is_some settings.alpha) Alpha [] named (where-later claim (is_some settings.depth_map) Depth (slot_where (is_some settings.alpha) Alpha []) (after-preview each))

      -- and of each slot that has a track
      pub at-track : AtTracks tracks claim → (slot : Slot) → has_track settings slot ≡ true → claim slot
      at-track each slot e = any-slot claim slot (kinds_of settings) (kinds-by (tracks-by each)) e

  -- a slot that isn't one of pictures has no track
  pub no-track : (slot : Slot) → same_slot slot Input ≡ false → same_slot slot Preview ≡ false → same_slot slot Depth ≡ false → same_slot slot Alpha ≡ false → has_track settings slot ≡ false
  no-track slot i p d a =
      let apart : Slot → Type 0 = λ other. same_slot slot other ≡ false in
      no-slot slot (kinds_of settings) (kinds-by apart (all-slots apart i (λ named. p) (λ named. d) (λ named. a)))

-- ---- what is true of each slot, before and after

module _ (old new : Slot → SlotView) (claim : SlotView → SlotView → Type 0) (same : (one other : SlotView) → other ≡ one → claim one other) where
  -- one of the slots that changed, or another one
  here-or : (slot other : Slot) → claim (old other) (new other) → (same_slot slot other ≡ false → claim (old slot) (new slot)) → claim (old slot) (new slot)
  here-or slot other here else = elim (cases_Bool (same_slot slot other)) [
    | inl e ↦ subst (λ (s : Slot). claim (old s) (new s)) (sym (slot-is slot other e)) here
    | inr e ↦ else e
  ]

  -- where only the files that are read before the first frame changed
  pub at-inputs : OnlyAtInputs old new → claim (old Input) (new Input) → claim (old Metadata) (new Metadata) → claim (old TileQp) (new TileQp) → (slot : Slot) → claim (old slot) (new slot)
  at-inputs others i m t slot = here-or slot Input i (λ not_input. here-or slot Metadata m (λ not_metadata. here-or slot TileQp t (λ not_offsets.
      same (old slot) (new slot) (OnFalse_at not_offsets (OnFalse_at not_metadata (OnFalse_at not_input (others slot)))))))

  -- where only the slots of the tracks and the outputs did
  pub at-outputs : (settings : EncSettings) (format : Format) (tile_offset : ℕ → ℤ) → OnlyAtFiles settings old new → AtTracks (tracks_of (plain_settings settings) format tile_offset) (λ slot. claim (old slot) (new slot))
      → claim (old Output) (new Output) → claim (old Recon) (new Recon) → (slot : Slot) → claim (old slot) (new slot)
  at-outputs settings format tile_offset others t o r slot = elim (cases_Bool (has_track settings slot)) [
    | inl e ↦ at-track settings (λ s. claim (old s) (new s)) format tile_offset t slot e
    | inr none ↦ here-or slot Output o (λ not_output. here-or slot Recon r (λ not_recon. same (old slot) (new slot) (OnFalse_at not_recon (OnFalse_at not_output (OnFalse_at none (others slot))))))
  ]

-- a slot that has no track, and is no output, is as before
pub stays : (settings : EncSettings) (old new : Slot → SlotView) → OnlyAtFiles settings old new → (slot : Slot) → has_track settings slot ≡ false → same_slot slot Output ≡ false → same_slot slot Recon ≡ false → new slot ≡ old slot
stays settings old new others slot none not_output not_recon = OnFalse_at not_recon (OnFalse_at not_output (OnFalse_at none (others slot)))
