-- The kinds of the tracks of a run are those that its settings ask for.
use Rattle.std.proofs.Common.{◌≡◌, ℕ, zero, suc, List, [], ◌∷◌, ◌++◌, map, refl, sym, ap, ◌∙◌, subst, arith, Option, Some, None, Bool, true, false, ◌||◌}
use Rattle.std.specs.Prelude.{ℤ, Contains, is_some}
use Rattle.std.specs.List.{list_any}
use Rattle.apv_base.specs.declared.format.Format.{Format}
use Rattle.apv_base.specs.declared.slot.Slot.{Slot}
use Rattle.apv_base.specs.declared.slot.Slot.TheVariants.{Input, Preview, Depth, Alpha, Metadata, TileQp, Output, Recon, MetaOut, Console}
use Rattle.apv_base.specs.model.Slot.{same_slot}
use Rattle.apv_encoding.specs.Settings.{EncoderSettings, Track, grey_track, preview_tracks, primary_track, tracks_of, where_asked}
use Rattle.apv_tracks.specs.Kinds.{has_track, kind_with, kinds_of, where_named}
use Rattle.apv_tracks.specs.Plain.{plain_settings, preview_by}
use Rattle.apv_tracks.specs.declared.kinds.TrackKind.{TrackKind}
use Rattle.apv_words.specs.declared.encoder.EncSettings.{EncSettings}

-- the kind of a track
abbrev pub kind_of : Track → TrackKind
kind_of track = kind_with track.slot track.kind

-- ---- the kinds

module _ (settings : EncSettings) (format : Format) (tile_offset : ℕ → ℤ) where
  abbrev plain : EncoderSettings
  plain = plain_settings settings

  abbrev tracks_by : Option (List ℕ) → Option (List ℕ) → Option (List ℕ) → List Track
  tracks_by preview depth alpha =
      primary_track plain format tile_offset
      ∷ preview_tracks plain (preview_by settings preview)
      ++ where_asked (is_some depth) (grey_track plain format Depth 26)
      ++ where_asked (is_some alpha) (grey_track plain format Alpha 27)

  abbrev kinds_by : Option (List ℕ) → Option (List ℕ) → Option (List ℕ) → List TrackKind
  kinds_by preview depth alpha =
      kind_with Input 1
      ∷ where_named preview (kind_with Preview 25)
      ++ where_named depth (kind_with Depth 26)
      ++ where_named alpha (kind_with Alpha 27)

  kinds-are : (preview depth alpha : Option (List ℕ)) → kinds_by preview depth alpha ≡ map kind_of (tracks_by preview depth alpha)
  kinds-are None None None = refl
  kinds-are None None (Some c) = refl
  kinds-are None (Some b) None = refl
  kinds-are None (Some b) (Some c) = refl
  kinds-are (Some a) None None = refl
  kinds-are (Some a) None (Some c) = refl
  kinds-are (Some a) (Some b) None = refl
  kinds-are (Some a) (Some b) (Some c) = refl

  -- the kinds are those of the tracks, in their order
  pub kinds-of-tracks : kinds_of settings ≡ map (λ (track : Track). kind_with track.slot track.kind) (tracks_of plain format tile_offset)
  kinds-of-tracks = kinds-are settings.preview settings.depth_map settings.alpha

-- ---- lists

contains-map : {A B : Type 0} (f : A → B) (xs : List A) (x : A) → Contains xs x → Contains (map f xs) (f x)
contains-map f [] x among = absurd (omega (arith, among.1))
contains-map f (a ∷ xs) x (zero, lt, e) = (zero, omega arith, ap f e)
contains-map f (a ∷ xs) x (suc k, lt, e) =
    let later = contains-map f xs x (k, omega (arith, lt), e) in
    (suc later.0, omega (arith, later.1), later.2)

map-contains : {A B : Type 0} (f : A → B) (xs : List A) (y : B) → Contains (map f xs) y → (x : A) × Contains xs x × (f x ≡ y)
map-contains f [] y among = absurd (omega (arith, among.1))
map-contains f (a ∷ xs) y (zero, lt, e) = (a, (zero, omega arith, refl), e)
map-contains f (a ∷ xs) y (suc k, lt, e) =
    let later = map-contains f xs y (k, omega (arith, lt), e) in
    (later.0, (suc later.1.0, omega (arith, later.1.1), later.1.2), later.2)

or-later : (b c : Bool) → c ≡ true → (b || c) ≡ true
or-later true c e = refl
or-later false c e = e

any-contained : {A : Type 0} (p : A → Bool) (xs : List A) (x : A) → Contains xs x → p x ≡ true → list_any p xs ≡ true
any-contained p [] x among passes = absurd (omega (arith, among.1))
any-contained p (a ∷ xs) x (zero, lt, e) passes = rw (ap p e ∙ passes) refl
any-contained p (a ∷ xs) x (suc k, lt, e) passes = or-later (p a) (list_any p xs) (any-contained p xs x (k, omega (arith, lt), e) passes)

-- ---- the slots

same-self : (slot : Slot) → same_slot slot slot ≡ true
same-self Input = refl
same-self Preview = refl
same-self Depth = refl
same-self Alpha = refl
same-self Metadata = refl
same-self TileQp = refl
same-self Output = refl
same-self Recon = refl
same-self MetaOut = refl
same-self Console = refl

module _ (settings : EncSettings) (format : Format) (tile_offset : ℕ → ℤ) where
  abbrev tracks : List Track
  tracks = tracks_of (plain_settings settings) format tile_offset

  -- the kind of each track is among the kinds
  pub kind-of-track : (track : Track) → Contains tracks track → Contains (kinds_of settings) (kind_of track)
  kind-of-track track among =
      subst (λ (kinds : List TrackKind). Contains kinds (kind_of track)) (sym (kinds-of-tracks settings format tile_offset)) (contains-map kind_of tracks track among)

  -- and each kind is that of a track
  pub track-of-kind : (kind : TrackKind) → Contains (kinds_of settings) kind → (track : Track) × Contains tracks track × (kind_of track ≡ kind)
  track-of-kind kind among =
      map-contains kind_of tracks kind (subst (λ (kinds : List TrackKind). Contains kinds kind) (kinds-of-tracks settings format tile_offset) among)

  -- the slot of each track has a track
  pub has-track : (track : Track) → Contains tracks track → has_track settings track.slot ≡ true
  has-track track among =
      any-contained (λ (kind : TrackKind). same_slot track.slot kind.slot) (kinds_of settings) (kind_of track) (kind-of-track track among) (same-self track.slot)

  -- a slot without a track is that of none
  pub no-track : (slot : Slot) → has_track settings slot ≡ false → (track : Track) → Contains tracks track → track.slot ≡ slot → ⊥
  no-track slot without track among e =
      let has : has_track settings slot ≡ true = subst (λ (s : Slot). has_track settings s ≡ true) e (has-track track among) in cc
