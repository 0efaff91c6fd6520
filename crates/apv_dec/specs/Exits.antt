-- What a failed call is to the reader of access units and to the writer of pictures, and what is answered where there
-- is no unit.
use Rattle.apv_base.specs.declared.exits.Exit.{Exit}
use Rattle.apv_base.specs.declared.exits.Exit.TheVariants as exits
use Rattle.apv_base.specs.declared.slot.Slot.TheVariants.{Input}
use Rattle.apv_files.specs.declared.files.Failed.{Failed}
use Rattle.apv_files.specs.declared.files.Failed.TheVariants.{Device, Memory as OutOfMemory}
use Rattle.apv_dec.specs.declared.unit.UnitRead.{UnitRead}
use Rattle.apv_dec.specs.declared.unit.UnitRead.TheVariants.{Broken, Limit, Read, Memory}

-- a read failed
abbrev pub read_end : Failed → UnitRead
read_end Device = Read
read_end OutOfMemory = Memory

-- no access unit was read
abbrev pub no_unit_exit : UnitRead → Exit
no_unit_exit (Broken break) = exits.Broken break
no_unit_exit (Limit limit count) = exits.LimitMet limit count
no_unit_exit Read = exits.ReadFailed Input
no_unit_exit Memory = exits.Memory
