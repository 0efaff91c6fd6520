use Rattle.apv_files.proofs.Reading.{took-start}
use Rattle.apv_files.proofs.memory.MemoryFilesFiles.read.Goals as goal

pub returns-clause-here : goal.returns-clause-here
returns-clause-here c = took-start _ _ _ _ _ c.read.ensures.here
