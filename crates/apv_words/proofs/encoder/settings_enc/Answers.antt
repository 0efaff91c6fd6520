use Rattle.std.proofs.Common.{◌∙◌, ap, drop}
use Rattle.apv_words.specs.Encoder.{enc_settings_by, is_built_enc_option}
use Rattle.apv_words.specs.View.{table_view, texts_of}
use Rattle.apv_words.proofs.EncoderLemmas.{has_bounds, has_files}
use Rattle.apv_words.proofs.RowLemmas.{answer, refused_by}
use Rattle.apv_words.proofs.encoder.settings_enc.Goals as goal

pub settings-requires-clause-rows : goal.settings-requires-clause-rows
settings-requires-clause-rows c = (is_built_enc_option, ap table_view c.in-Ok-read_sound.ensures.table ∙ c.enc_built_options.ensures.options)

pub returns-in-Err-clause-refused : goal.returns-in-Err-clause-refused
returns-in-Err-clause-refused c =
    refused_by c.in-Err.end c.enc_built_options.ensures.options (ap (λ ws. drop 1 (texts_of ws)) c.as_slice.ensures.value ∙ ap (drop 1) c.in-Ok.ensures)
    c.in-Err.ensures.refused

pub returns-in-Ok-files_at-clause-settings : goal.returns-in-Ok-files_at-clause-settings
returns-in-Ok-files_at-clause-settings c =
    answer _ _ c.in-Ok-read_sound.options c.in-Ok-read_sound.ensures.found (ap (λ ws. drop 1 (texts_of ws)) c.as_slice.ensures.value ∙ ap (drop 1) c.in-Ok.ensures)
    _ (ap table_view c.in-Ok-read_sound.ensures.table ∙ c.enc_built_options.ensures.options) enc_settings_by c.settings.result
    c.in-Ok-read_sound.ensures.sound c.settings.ensures

pub returns-in-Ok-files_at-clause-bounds : goal.returns-in-Ok-files_at-clause-bounds
returns-in-Ok-files_at-clause-bounds c = has_bounds _ c.settings.result (returns-in-Ok-files_at-clause-settings c)

pub returns-in-Ok-files_at-clause-files : goal.returns-in-Ok-files_at-clause-files
returns-in-Ok-files_at-clause-files c = has_files _ c.settings.result (returns-in-Ok-files_at-clause-settings c)
