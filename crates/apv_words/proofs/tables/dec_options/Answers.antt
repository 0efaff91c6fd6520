use Rattle.std.proofs.Common.{true, refl}
use Rattle.apv_words.proofs.tables.dec_options.Goals as goal

pub returns-clause-rows : goal.returns-clause-rows
returns-clause-rows c = (λ name. true, refl)
