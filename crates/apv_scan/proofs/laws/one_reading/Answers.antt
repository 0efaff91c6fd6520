use Rattle.apv_scan.proofs.OnceLemmas.{one_block, whole_or_broken, one_break}
use Rattle.apv_scan.proofs.laws.one_reading.Goals as goal

pub returns-clause-block : goal.returns-clause-block
returns-clause-block c = one_block

pub returns-clause-either : goal.returns-clause-either
returns-clause-either c = whole_or_broken

pub returns-clause-break_once : goal.returns-clause-break_once
returns-clause-break_once c = λ context b ok. one_break context b
