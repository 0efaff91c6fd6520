use Rattle.apv_words.proofs.LawLemmas.{one_fault as fault_is_one}
use Rattle.apv_words.proofs.laws.one_fault.Goals as goal

pub returns : goal.returns
returns c = fault_is_one
