-- Which tracks a run has: the slots of their pictures, and the types of their frames.
use Rattle.std.specs.Prelude.{◌≡◌, ℕ, Bool, List, [], ◌∷◌, ◌++◌, Contains, Option, Some, None}
use Rattle.std.specs.Bool.{OnFalse}
use Rattle.std.specs.List.{list_any}
use Rattle.apv_base.specs.declared.slot.Slot.{Slot}
use Rattle.apv_base.specs.declared.slot.Slot.TheVariants.{Input, Preview, Depth, Alpha}
use Rattle.apv_base.specs.model.Slot.{same_slot}
use Rattle.apv_files.specs.SlotView.{SlotView}
use Rattle.apv_files.specs.declared.files.Mode.TheVariants.{Reading}
use Rattle.apv_tracks.specs.declared.kinds.TrackKind.{TrackKind}
use Rattle.apv_words.specs.declared.encoder.EncSettings.{EncSettings}

abbrev pub kind_with : Slot → ℕ → TrackKind
kind_with slot pbu_type = record { slot = slot; pbu_type = pbu_type }

-- a kind of track where its file is named
abbrev pub where_named : Option (List ℕ) → TrackKind → List TrackKind
where_named None kind = []
where_named (Some name) kind = kind ∷ []

-- the tracks in the order in which their pictures are read and their frames are in an access unit: primary frames, then
-- those of a preview, of a depth map and of an alpha plane, each where its file is named
abbrev pub kinds_of : EncSettings → List TrackKind
kinds_of settings =
    kind_with Input 1
    ∷ where_named settings.preview (kind_with Preview 25)
    ++ where_named settings.depth_map (kind_with Depth 26)
    ++ where_named settings.alpha (kind_with Alpha 27)

-- a track of these has its pictures in that slot
abbrev pub has_track : EncSettings → Slot → Bool
has_track settings slot = list_any (λ kind. same_slot slot kind.slot) (kinds_of settings)

-- the slots of the tracks are open for reading
abbrev pub AreReading : EncSettings → (Slot → SlotView) → Type 0
AreReading settings views =
    (kind : TrackKind) → Contains (kinds_of settings) kind → (views kind.slot).mode ≡ Reading

-- no slot but those of the tracks changed
abbrev pub OnlyAtTracks : EncSettings → (Slot → SlotView) → (Slot → SlotView) → Type 0
OnlyAtTracks settings old new = (slot : Slot) → OnFalse (has_track settings slot) (new slot ≡ old slot)
