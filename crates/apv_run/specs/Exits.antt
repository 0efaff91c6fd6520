-- What a failed call on files is to a run.
use Rattle.apv_base.specs.declared.exits.Exit.{Exit}
use Rattle.apv_base.specs.declared.exits.Exit.TheVariants as exits
use Rattle.apv_base.specs.declared.slot.Slot.{Slot}
use Rattle.apv_files.specs.declared.files.Failed.{Failed}
use Rattle.apv_files.specs.declared.files.Failed.TheVariants.{Device, Memory}
use Rattle.apv_video.specs.declared.write.Put.{Put}
use Rattle.apv_video.specs.declared.write.Put.TheVariants as puts

-- an open or a create failed
abbrev pub open_exit : Slot → Failed → Exit
open_exit slot Device = exits.OpenFailed slot
open_exit slot Memory = exits.Memory

-- a read failed
abbrev pub read_exit : Slot → Failed → Exit
read_exit slot Device = exits.ReadFailed slot
read_exit slot Memory = exits.Memory

-- a write failed
abbrev pub write_exit : Slot → Failed → Exit
write_exit slot Device = exits.WriteFailed slot
write_exit slot Memory = exits.Memory

-- a picture or a header line wasn't written whole
abbrev pub failed_by : Put → Failed
failed_by puts.Failed = Device
failed_by puts.Memory = Memory
