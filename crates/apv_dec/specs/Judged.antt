-- How an access unit is judged, and what its frames are decoded to.
use Rattle.std.specs.Prelude.{◌≡◌, ℕ, Bool, true, List}
use Rattle.apv_base.specs.declared.exits.Exit.{Exit}
use Rattle.apv_base.specs.declared.exits.Exit.TheVariants as exits
use Rattle.apv_base.specs.declared.rules.UnitEnd.{UnitEnd}
use Rattle.apv_base.specs.model.Body.{with_bodies}
use Rattle.apv_base.specs.model.Judge.{DecodedUnit, AreDecodedFrames, UnitBreaks}
use Rattle.apv_base.specs.model.Pbu.{Pbu}
use Rattle.apv_base.specs.model.Run.{exit_of}
use Rattle.apv_base.specs.model.Strict.{IsStrict}
use Rattle.apv_base.specs.model.Unit.{Structure}
use Rattle.apv_grid.specs.Buffer.{Buffer}
use Rattle.apv_frame.specs.Unit.{AreBuffersOf}
use Rattle.apv_frame.specs.declared.unit.FramesFault.{FramesFault}
use Rattle.apv_frame.specs.declared.unit.FramesFault.TheVariants.{Broken, Memory}

-- the PBUs are those of a unit of sound structure, which is judged strictly too where that is asked for
pub record PassesRules (strict : Bool) (bytes : List ℕ) (pbus : List Pbu) : Type 0 where
  pub structure : Structure with_bodies bytes pbus
  pub strictly : strict ≡ true → IsStrict pbus

-- the bytes are a valid unit, and the buffers are those of its frames
pub record IsJudged (strict : Bool) (bytes : List ℕ) (buffers : List (Buffer ℕ)) (unit : DecodedUnit) : Type 0 where
  pub same : unit.bytes ≡ bytes
  pub rules : PassesRules strict bytes unit.pbus
  pub content : AreDecodedFrames unit.pbus unit.frames
  pub held : AreBuffersOf unit.frames buffers

-- why the nth unit isn't decoded: memory ran out, or it isn't valid
pub data IsRefused (strict : Bool) (n : ℕ) (bytes : List ℕ) : Exit → Type 0 where
  no_memory : IsRefused strict n bytes exits.Memory
  breaks : (end : UnitEnd) → UnitBreaks strict n bytes end → IsRefused strict n bytes (exit_of end)

-- the frames of the nth unit aren't decoded
abbrev pub frames_exit : ℕ → FramesFault → Exit
frames_exit n (Broken pbu at) = exits.Broken
    (record { rule = at.rule; place = record { unit = n; pbu = pbu; tile = at.tile; comp = at.comp } })
frames_exit n Memory = exits.Memory
