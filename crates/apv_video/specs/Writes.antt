-- What a call that writes a text to a slot does.
use Rattle.std.specs.Prelude.{ℕ, List, Result, Ok, Err}
use Rattle.apv_files.specs.SlotView.{SlotView}
use Rattle.apv_files.specs.Loops.{WroteAll, WritesFailed, WritesStopped}
use Rattle.apv_video.specs.declared.write.Put.{Put}
use Rattle.apv_video.specs.declared.write.Put.TheVariants.{Failed, Memory}

-- the whole text was written; after an error, a prefix of it that isn't the whole
abbrev pub PutsAll : {T : Type 0} → SlotView → List ℕ → Result T Put → SlotView → Type 0
PutsAll old text (Ok _) new = WroteAll old text new
PutsAll old text (Err Failed) new = WritesFailed old text new
PutsAll old text (Err Memory) new = WritesStopped old text new
