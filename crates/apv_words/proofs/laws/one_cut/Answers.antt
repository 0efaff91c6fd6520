use Rattle.apv_words.proofs.CutLemmas.{one_cut as cut_is_one}
use Rattle.apv_words.proofs.LawLemmas.{some_cut}
use Rattle.apv_words.proofs.laws.one_cut.Goals as goal

pub returns : goal.returns
returns c = record {
  one = λ table ok words one other. cut_is_one table words one other ok;
  some = some_cut;
}
