-- Units judged by their structure.
use Rattle.std.specs.Prelude.{◌≡◌, ℕ, List, length}
use Rattle.std.specs.List.{flat_map}
use Rattle.apv_base.specs.declared.rules.UnitEnd.{UnitEnd}
use Rattle.apv_base.specs.model.Payload.{payloads_bytes}
use Rattle.apv_base.specs.model.Pbu.{Pbu}
use Rattle.apv_base.specs.model.Run.{Judgement, exit_of}
use Rattle.apv_base.specs.model.Body.{with_bodies}
use Rattle.apv_base.specs.model.Unit.{Structure, StructureBreaks}

-- a unit of sound structure: its bytes and its PBUs
pub record SoundUnit : Type 0 where
  pub bytes : List ℕ
  pub pbus : List Pbu

-- a unit is accepted where its structure is sound
abbrev pub by_structure : Judgement SoundUnit
by_structure = record {
  bytes = λ unit. unit.bytes;
  Accepts = λ before unit. Structure with_bodies unit.bytes unit.pbus;
  Refuses = λ before bytes exit.
      (end : UnitEnd) × (exit ≡ exit_of end) × StructureBreaks with_bodies (length before) bytes end;
}

-- what a unit adds to the metadata output: its payloads, in order
abbrev pub unit_payloads : List Pbu → List ℕ
unit_payloads pbus = flat_map (λ pbu. payloads_bytes pbu.payloads) pbus

-- the metadata output of units
abbrev pub meta_out : List SoundUnit → List ℕ
meta_out units = flat_map (λ unit. unit_payloads unit.pbus) units
