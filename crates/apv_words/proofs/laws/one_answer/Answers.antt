use Rattle.apv_words.specs.Decoder.{settings_by}
use Rattle.apv_words.proofs.LawLemmas.{one_settings, some_given}
use Rattle.apv_words.proofs.laws.one_answer.Goals as goal

pub returns : goal.returns
returns c = record { one = one_settings; some = some_given settings_by }
