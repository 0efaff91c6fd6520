use Rattle.std.proofs.Common.{refl}
use Rattle.apv_words.specs.Encoder.{is_built_enc_option}
use Rattle.apv_words.proofs.tables.enc_built_options.Goals as goal

pub returns-clause-rows : goal.returns-clause-rows
returns-clause-rows c = (is_built_enc_option, refl)
