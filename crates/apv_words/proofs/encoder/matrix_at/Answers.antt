use Rattle.std.proofs.Common.{◌∙◌, ap, sym}
use Rattle.apv_words.specs.View.{text_of}
use Rattle.apv_words.proofs.encoder.matrix_at.Goals as goal

pub matrix_of-requires : goal.matrix_of-requires
matrix_of-requires c = c.requires c.in_ok-value.field-0.now (sym c.value.ensures ∙ ap text_of c.in_ok-value.was)
