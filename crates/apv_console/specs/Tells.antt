-- What is on the console after a run.
use Rattle.std.specs.Prelude.{◌≡◌, ◌⊎◌, ⊤, ℕ, List}
use Rattle.apv_base.specs.declared.exits.Exit.{Exit}
use Rattle.apv_base.specs.declared.exits.Exit.TheVariants.{Memory}
use Rattle.apv_files.specs.SlotView.{SlotView}
use Rattle.apv_files.specs.Loops.{WroteAll, WritesFailed}
use Rattle.apv_console.specs.Line.{line_of}

-- The console got the line, or a prefix of it where a write to it failed. Where the answer is that memory ran out,
-- nothing is said of the console.
abbrev pub TellsLine : SlotView → List ℕ → Exit → SlotView → Type 0
TellsLine old line Memory new = ⊤
TellsLine old line exit new = WroteAll old line new ⊎ WritesFailed old line new

-- the same for the line of the answer
abbrev pub Tells : SlotView → Exit → SlotView → Type 0
Tells old exit new = TellsLine old (line_of exit) exit new

-- no write to the console failed by the device
abbrev pub NoFault : SlotView → SlotView → Type 0
NoFault old new = new.write_faults ≡ old.write_faults
