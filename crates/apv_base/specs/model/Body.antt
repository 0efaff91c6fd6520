-- Bodies of PBUs: what a body is looked into as, by its pbu_type, and which rule it breaks first.
use Rattle.std.specs.Prelude.{◌≡◌, ℕ, true, false, List, [], if◌then◌else◌, ◌==◌}
use Rattle.apv_base.specs.declared.rules.Rule.{Rule}
use Rattle.apv_base.specs.declared.rules.Rule.TheVariants.{V23}
use Rattle.apv_base.specs.declared.rules.HeadEnd.{HeadEnd}
use Rattle.apv_base.specs.declared.rules.HeadEnd.TheVariants.{Rule as breaks}
use Rattle.apv_base.specs.model.Payload.{Payload}
use Rattle.apv_base.specs.model.Pbu.{METADATA, FILLER, AU_INFO, is_frame, is_filler, IsMetadata, MetadataBreaks}
use Rattle.apv_base.specs.model.Frame.{IsFrame, FrameBreaks}
use Rattle.apv_base.specs.model.AuInfo.{IsAuInfo, AuInfoBreaks}

-- Whether the bodies of PBUs are looked into: not at all, or all but those of reserved types.
pub data Reach : Type 0 where
  outline : Reach
  with_bodies : Reach

-- What a body is looked into as.
pub data BodyKind : Type 0 where
  unread : BodyKind
  metadata : BodyKind
  filler : BodyKind
  frame : BodyKind
  au_info : BodyKind

-- what a body of this pbu_type is looked into as; bodies of reserved types are never looked into
abbrev pub body_kind_of : Reach → ℕ → BodyKind
body_kind_of outline kind = unread
body_kind_of with_bodies kind =
    if kind == METADATA then metadata
    else (if kind == FILLER then filler
    else (if is_frame kind then frame
    else (if kind == AU_INFO then au_info else unread)))

-- a body breaks no rule, and holds these payloads
abbrev pub IsSoundBody : BodyKind → List ℕ → List Payload → Type 0
IsSoundBody unread body payloads = payloads ≡ []
IsSoundBody metadata body payloads = IsMetadata body payloads
IsSoundBody filler body payloads = (payloads ≡ []) × (is_filler body ≡ true)
IsSoundBody frame body payloads = (payloads ≡ []) × ((header tiles : List ℕ) × IsFrame body header tiles)
IsSoundBody au_info body payloads = (payloads ≡ []) × ((values : List ℕ) × IsAuInfo body values)

-- the first rule that a body breaks, or the limit that it doesn't keep, and the tile, which is 0 outside of tiles
abbrev pub BodyBreaks : BodyKind → List ℕ → ℕ → HeadEnd → Type 0
BodyBreaks unread body tile end = ⊥
BodyBreaks metadata body tile end = (tile ≡ 0) × ((rule : Rule) × (end ≡ breaks rule) × MetadataBreaks body rule)
BodyBreaks filler body tile end = (tile ≡ 0) × (end ≡ breaks V23) × (is_filler body ≡ false)
BodyBreaks frame body tile end = FrameBreaks body tile end
BodyBreaks au_info body tile end = (tile ≡ 0) × AuInfoBreaks body end
