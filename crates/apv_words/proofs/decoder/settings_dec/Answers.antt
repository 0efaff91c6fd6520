use Rattle.apv_words.proofs.DecoderLemmas.{input_of, threads_few}
use Rattle.apv_words.proofs.decoder.settings_dec.Goals as goal

pub returns-clause-input : goal.returns-clause-input
returns-clause-input c = input_of _ _ c.settings_by.result c.dec_options.ensures.options c.settings_by.ensures.settings

pub returns-clause-threads : goal.returns-clause-threads
returns-clause-threads c = threads_few _ _ c.settings_by.result c.dec_options.ensures.options c.settings_by.ensures.settings
