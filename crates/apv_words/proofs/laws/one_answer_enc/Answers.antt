use Rattle.apv_words.specs.Encoder.{enc_settings_by}
use Rattle.apv_words.proofs.LawLemmas.{one_given, some_given}
use Rattle.apv_words.proofs.laws.one_answer_enc.Goals as goal

pub returns : goal.returns
returns c = record { one = one_given enc_settings_by; some = some_given enc_settings_by }
