-- Laws of the access units that an encoder makes, of how the frames of its slots end, and of its answer.
use Rattle.std.specs.Prelude.{◌≡◌, ℕ, ◌^◌, ◌<◌, ◌≤◌, List, ◌∷◌, length, Contains, Option, None, IfSome}
use Rattle.std.specs.List.{AllByRecursion}
use Rattle.apv_base.specs.declared.exits.Exit.{Exit}
use Rattle.apv_base.specs.declared.format.Format.{Format}
use Rattle.apv_base.specs.declared.slot.Slot.{Slot}
use Rattle.apv_base.specs.declared.slot.Slot.TheVariants.{Input}
use Rattle.apv_base.specs.model.Bits.{AreBytes}
use Rattle.apv_base.specs.model.Header.{IsSoundColour, IsSoundHeader}
use Rattle.apv_base.specs.model.Quant.{IsMatrix}
use Rattle.apv_base.specs.model.Run.{MAX_UNIT, MAX_UNITS}
use Rattle.apv_encoding.specs.AccessUnit.{Pictures, EncodedUnit, IsUnitOf, IsChosen, FitsNowhere}
use Rattle.apv_encoding.specs.Answer.{Inputs, Encodes}
use Rattle.apv_encoding.specs.Settings.{EncoderSettings, Source, Track, RateControl, fixed, limited, IsPermittedQp}
use Rattle.apv_encoding.specs.Settings.{check_input, check_preview, given_or}
use Rattle.apv_encoding.specs.Tracks.{Contents, FrameAt, FramesAt, FramesStop}

-- a width or height of tiles, in macroblocks, that is at least the minimum and has 20 bits
abbrev pub IsTileSize : ℕ → ℕ → Type 0
IsTileSize least size = (least ≤ size) × (size < 2 ^ 20)

-- settings whose numbers fit the fields of headers: level_idc and the colour description have bytes, band_idc has three
-- bits; there are four matrices, and each that is given has 64 values of 1 to 255; tiles that are given have at least
-- 16 by 8 macroblocks
pub record AreSoundSettings (settings : EncoderSettings) : Type 0 where
  pub level : settings.level < 256
  pub band : settings.band ≤ 7
  pub colour : IfSome settings.colour IsSoundColour
  pub four : length settings.matrices ≡ 4
  pub each : AllByRecursion (λ matrix. IfSome matrix IsMatrix) settings.matrices
  pub tile_width : IfSome settings.tile_width (IsTileSize 16)
  pub tile_height : IfSome settings.tile_height (IsTileSize 8)

-- the formats of the primary frames and of the preview frames pass
pub record FormatsPass (settings : EncoderSettings) (format : Format) : Type 0 where
  pub input : check_input settings format ≡ None
  pub preview : check_preview settings.preview ≡ None

-- the header of each track breaks no rule
abbrev pub HaveSoundHeaders : List Track → Type 0
HaveSoundHeaders tracks = AllByRecursion (λ track. IsSoundHeader track.header) tracks

-- the unit is the access unit of these pictures at this QP
pub record IsUnitAt (settings : EncoderSettings) (tracks : List Track) (payloads : List ℕ) (pictures : Pictures) (q : ℕ)
    (unit : EncodedUnit) : Type 0 where
  pub unit_of : IsUnitOf settings tracks payloads pictures unit
  pub qp : unit.q ≡ q

-- at least one QP is permitted
abbrev pub HasPermittedQp : RateControl → ℕ → Type 0
HasPermittedQp rate depth = (q : ℕ) × IsPermittedQp rate depth q

-- the unit is the access unit of these pictures at the QP that is chosen
pub record IsChosenUnit (settings : EncoderSettings) (depth : ℕ) (tracks : List Track) (payloads : List ℕ)
    (pictures : Pictures) (unit : EncodedUnit) : Type 0 where
  pub unit_of : IsUnitOf settings tracks payloads pictures unit
  pub chosen : IsChosen settings depth tracks payloads pictures settings.rate unit

-- a limit on the size is set, and the least of the sizes is above it
pub record IsTooLarge (settings : EncoderSettings) (depth : ℕ) (tracks : List Track) (payloads : List ℕ)
    (pictures : Pictures) (smallest : ℕ) : Type 0 where
  pub limit : ℕ
  pub first : Option ℕ
  pub last : Option ℕ
  pub rate : settings.rate ≡ limited limit first last
  pub nowhere : FitsNowhere settings depth tracks payloads pictures smallest
  pub above : limit < smallest

-- ---- the frames of the tracks

-- the tracks are those of an encoder: the first is that of Input, no two have the same slot, and the header of each
-- breaks no rule
pub record AreTracks (tracks : List Track) : Type 0 where
  pub first : Track
  pub more : List Track
  pub parts : tracks ≡ first ∷ more
  pub input : first.slot ≡ Input
  pub one_each : (a b : Track) → Contains tracks a → Contains tracks b → a.slot ≡ b.slot → a ≡ b
  pub sound : HaveSoundHeaders tracks

-- what is left of each slot is bytes
abbrev pub AreByteContents : Contents → Type 0
AreByteContents left = (slot : Slot) → AreBytes (left slot)

-- a frame follows n frames: fewer than the maximum, and a picture of each track is next
abbrev pub FollowsFrame : Source → List Track → ℕ → Contents → Type 0
FollowsFrame source tracks n left =
    (n < MAX_UNITS) × ((pictures : Pictures) × (after : Contents) × FrameAt source tracks left pictures after)

-- how the frames of slots end: after how many, and why no further one follows
pub record Ending : Type 0 where
  pub count : ℕ
  pub exit : Exit

-- the frames of these slots end so
pub record HasEnding (source : Source) (tracks : List Track) (left : Contents) (ending : Ending) : Type 0 where
  pub frames : List Pictures
  pub after : Contents
  pub count : length frames ≡ ending.count
  pub few : length frames ≤ MAX_UNITS
  pub frames_at : FramesAt source tracks left frames after
  pub stop : FramesStop source tracks ending.count after ending.exit

-- ---- the answer

-- a limit on the size of access units that is at most the limit L1, and a last QP that is no less than the first
abbrev pub IsSoundRate : RateControl → Type 0
IsSoundRate (fixed qp) = Unit {0}
IsSoundRate (limited limit first last) = (limit ≤ MAX_UNIT) × IfSome last (λ qp. given_or first 0 ≤ qp)

-- what an encoder makes of its inputs: the access units, what is in the outputs Output and Recon, and its answer
pub record Encoding : Type 0 where
  pub units : List EncodedUnit
  pub output : List ℕ
  pub recon : List ℕ
  pub exit : Exit

-- an encoder with these settings makes this of its inputs
abbrev pub HasEncoding : EncoderSettings → Inputs → Encoding → Type 0
HasEncoding settings inputs encoding =
    Encodes settings inputs encoding.units encoding.output encoding.recon encoding.exit
