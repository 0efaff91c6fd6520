-- The access unit that an encoder makes of one picture of each track, at a QP, and which QP it takes.
use Rattle.std.specs.Prelude.{◌≡◌, ℕ, ◌<◌, ◌≤◌, List, [], ◌∷◌, ◌++◌, length, map, replicate}
use Rattle.std.specs.Prelude.{Option, Some, None, if◌then◌else◌}
use Rattle.apv_base.specs.declared.slot.Slot.{Slot}
use Rattle.apv_base.specs.model.AuInfo.{ListedFrame, au_info_body}
use Rattle.apv_base.specs.model.Bits.{be}
use Rattle.apv_base.specs.model.CodedFrame.{Levels}
use Rattle.apv_base.specs.model.Encode.{frame_pbu, pbu_bytes}
use Rattle.apv_base.specs.model.Nearest.{AreLevelsOf}
use Rattle.apv_base.specs.model.Pbu.{signature, METADATA, FILLER, AU_INFO}
use Rattle.apv_base.specs.model.Picture.{Samples}
use Rattle.apv_encoding.specs.Settings.{EncoderSettings, Track, RateControl, fixed, limited, IsPermittedQp}

-- one picture of each slot that is read
abbrev pub Pictures : Type 0
Pictures = Slot → Samples

-- ---- the parts of an access unit; every PBU has the group 1

-- how access unit information lists the frames of a track
abbrev pub listed_frame : Track → ListedFrame
listed_frame track = record { kind = track.kind; group = 1; info = track.header.info }

-- access unit information that lists the frames of the tracks
abbrev pub au_info_pbu : List Track → List ℕ
au_info_pbu tracks = pbu_bytes AU_INFO 1 (au_info_body (map listed_frame tracks))

-- metadata_size and the payloads, where there are some
abbrev pub metadata_pbu : List ℕ → List ℕ
metadata_pbu [] = []
metadata_pbu (byte ∷ bytes) =
    let payloads = byte ∷ bytes in
    pbu_bytes METADATA 1 (be 4 (length payloads) ++ payloads)

abbrev pub filler_pbu : Option ℕ → List ℕ
filler_pbu None = []
filler_pbu (Some count) = pbu_bytes FILLER 1 (replicate count 255)

-- the frames of the tracks, in their order
abbrev pub frame_pbus : List Track → ℕ → List Levels → List ℕ
frame_pbus [] q all = []
frame_pbus (track ∷ tracks) q [] = []
frame_pbus (track ∷ tracks) q (levels ∷ more) =
    frame_pbu track.kind track.header (track.qps q) levels ++ frame_pbus tracks q more

-- ---- an access unit at a QP

-- the levels of each track are those of its picture
abbrev pub AreTheirLevels : List Track → Pictures → ℕ → List Levels → Type 0
AreTheirLevels [] pictures q all = all ≡ []
AreTheirLevels (track ∷ tracks) pictures q [] = ⊥
AreTheirLevels (track ∷ tracks) pictures q (levels ∷ more) =
    AreLevelsOf track.header (track.qps q) (pictures track.slot) levels × AreTheirLevels tracks pictures q more

-- an access unit and the levels in it
pub record EncodedUnit : Type 0 where
  pub q : ℕ
  pub levels : List Levels
  pub bytes : List ℕ

-- the access unit of these pictures at its QP: the signature and then the PBUs
pub record IsUnitOf (settings : EncoderSettings) (tracks : List Track) (payloads : List ℕ) (pictures : Pictures)
    (unit : EncodedUnit) : Type 0 where
  pub levels : AreTheirLevels tracks pictures unit.q unit.levels
  pub bytes : unit.bytes
      ≡ signature ++ ((if settings.au_info then au_info_pbu tracks else []) ++ (frame_pbus tracks unit.q unit.levels
      ++ (metadata_pbu payloads ++ filler_pbu settings.filler)))

-- the number of its bytes at a QP, which has no bound here
abbrev pub HasSizeAt : EncoderSettings → List Track → List ℕ → Pictures → ℕ → ℕ → Type 0
HasSizeAt settings tracks payloads pictures q size =
    (unit : EncodedUnit) × IsUnitOf settings tracks payloads pictures unit × (unit.q ≡ q) × (size ≡ length unit.bytes)

-- ---- the QP

-- the unit has the QP that is asked for, or the least permitted one that fits
abbrev pub IsChosen : EncoderSettings → ℕ → List Track → List ℕ → Pictures → RateControl → EncodedUnit → Type 0
IsChosen settings depth tracks payloads pictures (fixed qp) unit = unit.q ≡ qp
IsChosen settings depth tracks payloads pictures (limited limit first last) unit =
    IsPermittedQp (limited limit first last) depth unit.q × (length unit.bytes ≤ limit)
    × ((q size : ℕ) → IsPermittedQp (limited limit first last) depth q → q < unit.q
    → HasSizeAt settings tracks payloads pictures q size → limit < size)

-- no permitted QP fits, and smallest is the least of the sizes
pub record FitsNowhere (settings : EncoderSettings) (depth : ℕ) (tracks : List Track) (payloads : List ℕ)
    (pictures : Pictures) (smallest : ℕ) : Type 0 where
  pub q : ℕ
  pub permitted : IsPermittedQp settings.rate depth q
  pub size : HasSizeAt settings tracks payloads pictures q smallest
  pub least : (other size : ℕ) → IsPermittedQp settings.rate depth other
      → HasSizeAt settings tracks payloads pictures other size → smallest ≤ size
