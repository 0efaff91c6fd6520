-- The file of payloads.
use Rattle.std.specs.Prelude.{◌≡◌, ℕ, ◌+◌, ◌<◌, ◌≤◌, List, length, Option, Some, None, Result, Ok, Err}
use Rattle.std.specs.Io.KnownBytes.{IsAtEnd}
use Rattle.apv_base.specs.declared.exits.Exit.{Exit}
use Rattle.apv_base.specs.declared.exits.Exit.TheVariants as exits
use Rattle.apv_base.specs.declared.rules.Limit.TheVariants.{L1}
use Rattle.apv_base.specs.declared.slot.Slot.TheVariants.{Metadata}
use Rattle.apv_base.specs.model.Payload.{Payload, ArePayloads, HasPartialPayload}
use Rattle.apv_base.specs.model.Run.{MAX_UNIT}
use Rattle.apv_files.specs.SlotView.{SlotView}
use Rattle.apv_files.specs.Loops.{TookAll, TookFailed, ReadsFailed, ReadsStopped}
use Rattle.apv_encoding.specs.Answer.{HasPayloads}
use Rattle.apv_tracks.specs.declared.payload_file.ListEnd.{ListEnd}
use Rattle.apv_tracks.specs.declared.payload_file.ListEnd.TheVariants.{Bad, Limit, Read, Memory}

-- the list is whole payloads
abbrev pub AreWhole : List ℕ → Type 0
AreWhole list = (payloads : List Payload) × ArePayloads list payloads

-- all that was left was taken: whole payloads, within the limit L1
pub record TookPayloads (old : SlotView) (list : List ℕ) (new : SlotView) : Type 0 where
  pub took : TookAll old list new
  pub end : IsAtEnd new.left
  pub few : length list ≤ MAX_UNIT
  pub whole : AreWhole list

-- all that was left was taken, within the limit L1, and the first payload that isn't whole begins at this byte
pub record PayloadsStop (old : SlotView) (byte : ℕ) (new : SlotView) : Type 0 where
  pub taken : List ℕ
  pub took : TookAll old taken new
  pub end : IsAtEnd new.left
  pub few : length taken ≤ MAX_UNIT
  pub partial : HasPartialPayload taken byte

-- one byte more than the limit L1 was taken
pub record IsLongList (old : SlotView) (count : ℕ) (new : SlotView) : Type 0 where
  pub taken : List ℕ
  pub took : TookAll old taken new
  pub long : length taken ≡ MAX_UNIT + 1
  pub count_is : count ≡ MAX_UNIT + 1

-- the file of payloads was read
abbrev pub ReadsPayloads : {T : Type 0} → SlotView → Result T ListEnd → List ℕ → SlotView → Type 0
ReadsPayloads old (Ok _) list new = TookPayloads old list new
ReadsPayloads old (Err (Bad byte)) list new = PayloadsStop old byte new
ReadsPayloads old (Err (Limit count)) list new = IsLongList old count new
ReadsPayloads old (Err Read) list new = ReadsFailed old (MAX_UNIT + 1) new
ReadsPayloads old (Err Memory) list new = ReadsStopped old (MAX_UNIT + 1) new

-- the exit for a file of payloads that wasn't read
abbrev pub list_exit : ListEnd → Exit
list_exit (Bad byte) = exits.BadPayloads byte
list_exit (Limit count) = exits.LimitMet L1 count
list_exit Read = exits.ReadFailed Metadata
list_exit Memory = exits.Memory

-- why the file of payloads wasn't read or isn't right
pub data PayloadsEnd (old new : SlotView) : Exit → Type 0 where
  payloads_memory : (taken : List ℕ) → TookAll old taken new → PayloadsEnd old new exits.Memory
  payloads_fault : (taken : List ℕ) → TookFailed old taken new → PayloadsEnd old new (exits.ReadFailed Metadata)
  payloads_long : IsLongList old (MAX_UNIT + 1) new → PayloadsEnd old new (exits.LimitMet L1 (MAX_UNIT + 1))
  payloads_partial : (byte : ℕ) → PayloadsStop old byte new → PayloadsEnd old new (exits.BadPayloads byte)
