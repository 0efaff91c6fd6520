use Rattle.apv_laws.proofs.SpelledFrameLemmas.{spelled-frame}
use Rattle.apv_laws.proofs.SpelledLevelsLemmas.{spelled-levels}
use Rattle.apv_laws.proofs.laws.spelled_frame.Goals as goal

pub returns-clause-frame : goal.returns-clause-frame
returns-clause-frame c = spelled-frame

pub returns-clause-levels : goal.returns-clause-levels
returns-clause-levels c = spelled-levels
