use Rattle.std.proofs.Common.{◌∙◌, ap, drop, refl}
use Rattle.apv_words.specs.Decoder.{settings_by}
use Rattle.apv_words.specs.View.{table_view, texts_of}
use Rattle.apv_words.proofs.RowLemmas.{answer, refused_by}
use Rattle.apv_words.proofs.decoder.settings_by.Goals as goal

pub settings-requires-clause-rows : goal.settings-requires-clause-rows
settings-requires-clause-rows c = (c.requires.rows.0, ap table_view c.in-Ok-read_sound.ensures.table ∙ c.requires.rows.1)

pub returns-in-Err-clause-refused : goal.returns-in-Err-clause-refused
returns-in-Err-clause-refused c =
    refused_by c.in-Err.end refl (ap (λ ws. drop 1 (texts_of ws)) c.as_slice.ensures.value ∙ ap (drop 1) c.in-Ok.ensures) c.in-Err.ensures.refused

pub returns-in-Ok-settings-clause-settings : goal.returns-in-Ok-settings-clause-settings
returns-in-Ok-settings-clause-settings c =
    answer _ _ c.in-Ok-read_sound.options c.in-Ok-read_sound.ensures.found (ap (λ ws. drop 1 (texts_of ws)) c.as_slice.ensures.value ∙ ap (drop 1) c.in-Ok.ensures)
    _ (ap table_view c.in-Ok-read_sound.ensures.table) settings_by c.in-Ok-settings.settings c.in-Ok-read_sound.ensures.sound c.in-Ok-settings.ensures
