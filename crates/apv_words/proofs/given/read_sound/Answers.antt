use Rattle.std.proofs.Common.{◌∙◌, ap, refl, sym}
use Rattle.apv_words.specs.View.{table_view}
use Rattle.apv_words.proofs.RowLemmas.{refusal}
use Rattle.apv_words.proofs.given.read_sound.Goals as goal

pub returns-in-Some-clause-refused : goal.returns-in-Some-clause-refused
returns-in-Some-clause-refused c =
    refusal _ _ c.in-Ok.options c.in-Ok.ensures.found refl _ (ap table_view c.in-Ok.ensures.table) c.in-Some.kind (sym c.fault.ensures ∙ c.in-Some.is)
