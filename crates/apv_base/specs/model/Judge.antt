-- Judging an access unit: its structure, the three rules of strict judging where it is asked for, and then the content
-- of its frames.
use Rattle.std.specs.Prelude.{◌≡◌, ℕ, ℤ, ◌<◌, Bool, true, false, List, [], ◌∷◌, ◌++◌, length, ◌⊎◌}
use Rattle.apv_base.specs.declared.rules.Rule.{Rule}
use Rattle.apv_base.specs.declared.rules.UnitEnd.{UnitEnd}
use Rattle.apv_base.specs.declared.rules.UnitEnd.TheVariants.{Broken}
use Rattle.apv_base.specs.model.Answer.{place_of}
use Rattle.apv_base.specs.model.CodedFrame.{CodedFrame, HasFrame, Levels, Exists, HasBlocks, HasLevels, tile_at}
use Rattle.apv_base.specs.model.CodedFrame.{component_data}
use Rattle.apv_base.specs.model.Component.{ComponentBreaks}
use Rattle.apv_base.specs.model.Grid.{block_count}
use Rattle.apv_base.specs.model.Header.{grid_of}
use Rattle.apv_base.specs.model.Pbu.{Pbu, is_frame}
use Rattle.apv_base.specs.model.Strict.{IsStrict, StrictBreaks}
use Rattle.apv_base.specs.model.Body.{with_bodies}
use Rattle.apv_base.specs.model.Unit.{Structure, StructureBreaks}

-- ---- the content of a frame

-- where the content of a frame breaks which rule
pub record ContentBreak : Type 0 where
  pub tile : ℕ
  pub comp : ℕ
  pub rule : Rule

-- a component of a tile comes before another one
abbrev pub Before : ℕ → ℕ → ℕ → ℕ → Type 0
Before tile comp tile' comp' = (tile < tile') ⊎ ((tile ≡ tile') × (comp < comp'))

-- the first rule that the content breaks, in a component of a tile
pub record ContentBreaks (frame : CodedFrame) (at : ContentBreak) : Type 0 where
  pub exists : Exists frame at.tile at.comp
  pub before : (tile comp : ℕ) → Exists frame tile comp → Before tile comp at.tile at.comp
      → (blocks : List (List ℤ)) × HasBlocks frame tile comp blocks
  pub breaks : ComponentBreaks (block_count (grid_of frame.header) at.tile at.comp)
      (component_data (tile_at frame at.tile) at.comp) at.rule

-- ---- an access unit

-- a valid frame: its pbu_type and group_id, its parts, and its levels
pub record DecodedFrame : Type 0 where
  pub kind : ℕ
  pub group : ℕ
  pub frame : CodedFrame
  pub levels : Levels

-- the PBU is this frame
pub record IsDecodedFrame (pbu : Pbu) (decoded : DecodedFrame) : Type 0 where
  pub kind : pbu.kind ≡ decoded.kind
  pub group : pbu.group ≡ decoded.group
  pub frame : HasFrame pbu.body decoded.frame
  pub levels : HasLevels decoded.frame decoded.levels

-- the frames among PBUs, all of which are valid
pub data AreDecodedFrames : List Pbu → List DecodedFrame → Type 0 where
  none : AreDecodedFrames [] []
  other : (pbu : Pbu) (pbus : List Pbu) (frames : List DecodedFrame) → is_frame pbu.kind ≡ false
      → AreDecodedFrames pbus frames → AreDecodedFrames (pbu ∷ pbus) frames
  decoded : (pbu : Pbu) (pbus : List Pbu) (frame : DecodedFrame) (frames : List DecodedFrame) → is_frame pbu.kind ≡ true
      → IsDecodedFrame pbu frame → AreDecodedFrames pbus frames → AreDecodedFrames (pbu ∷ pbus) (frame ∷ frames)

-- the content of the frames among PBUs breaks a rule first in a component of a tile of this PBU
pub record FramesBreak (pbus : List Pbu) (n : ℕ) (at : ContentBreak) : Type 0 where
  pub prefix : List Pbu
  pub pbu : Pbu
  pub later : List Pbu
  pub frames : List DecodedFrame
  pub frame : CodedFrame
  pub parts : pbus ≡ prefix ++ pbu ∷ later
  pub count : length prefix ≡ n
  pub decoded : AreDecodedFrames prefix frames
  pub is_frame : is_frame pbu.kind ≡ true
  pub has_frame : HasFrame pbu.body frame
  pub breaks : ContentBreaks frame at

-- a valid unit: its bytes, its PBUs and its frames
pub record DecodedUnit : Type 0 where
  pub bytes : List ℕ
  pub pbus : List Pbu
  pub frames : List DecodedFrame

-- an access unit is valid, judged strictly or not
pub record IsValidUnit (strict : Bool) (unit : DecodedUnit) : Type 0 where
  pub structure : Structure with_bodies unit.bytes unit.pbus
  pub strictly : strict ≡ true → IsStrict unit.pbus
  pub content : AreDecodedFrames unit.pbus unit.frames

-- the first rule that the access unit breaks, which is the nth of its file, and the place; or the limit
pub data UnitBreaks (strict : Bool) (n : ℕ) (bytes : List ℕ) : UnitEnd → Type 0 where
  in_structure : (end : UnitEnd) → StructureBreaks with_bodies n bytes end → UnitBreaks strict n bytes end
  strictly : (pbus : List Pbu) (rule : Rule) (pbu : ℕ) → Structure with_bodies bytes pbus → strict ≡ true
      → StrictBreaks pbus (rule, pbu) → UnitBreaks strict n bytes
      (Broken (record { rule = rule; place = place_of n pbu }))
  in_content : (pbus : List Pbu) (pbu : ℕ) (at : ContentBreak) → Structure with_bodies bytes pbus
      → (strict ≡ true → IsStrict pbus)
      → FramesBreak pbus pbu at
      → UnitBreaks strict n bytes
      (Broken (record { rule = at.rule; place = record { unit = n; pbu = pbu; tile = at.tile; comp = at.comp } }))
