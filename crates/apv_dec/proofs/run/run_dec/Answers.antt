use Rattle.apv_base.specs.declared.slot.Slot.TheVariants.{Output, MetaOut}
use Rattle.apv_run.proofs.ToldLemmas.{cause-told, named-along, refused-told, usage-told}
use Rattle.apv_dec.specs.Answer.{is_own_answer}
use Rattle.apv_dec.specs.Outputs.{output_settings}
use Rattle.apv_dec.specs.Settings.{input_content, name_of}
use Rattle.apv_dec.proofs.CauseLemmas.{complete-of}
use Rattle.apv_dec.proofs.ToldLemmas.{by-unit-told, decodes-told}
use Rattle.apv_dec.proofs.run.run_dec.Goals as goal

pub returns-clause-usage : goal.returns-clause-usage
returns-clause-usage g c kind fault =
    usage-told kind (g.F.Files.slot_view c.args.files.now) (g.F.Files.slot_view c.answer-exit.new.files) (g.F.Files.slot_view c.tell.new.files) c.answer-exit.result c.tell.result c.tell.ensures.answer c.tell.ensures.elsewhere (c.answer-exit.ensures.usage kind fault)

pub returns-clause-refused : goal.returns-clause-refused
returns-clause-refused g c kind is = c.answer-exit.ensures.refused kind (refused-told kind c.answer-exit.result c.tell.result c.tell.ensures.answer is)

pub returns-clause-decodes : goal.returns-clause-decodes
returns-clause-decodes g c settings given =
    decodes-told (output_settings settings) (input_content settings (g.F.Files.held c.args.files.now)) c.answer-exit.result c.tell.result (g.F.Files.slot_view c.answer-exit.new.files) (g.F.Files.slot_view c.tell.new.files)
    c.tell.ensures.answer c.tell.ensures.elsewhere (c.answer-exit.ensures.ends settings given).decodes

pub returns-clause-cause : goal.returns-clause-cause
returns-clause-cause g c settings given =
    cause-told is_own_answer (name_of settings) (g.F.Files.slot_view c.args.files.now) (g.F.Files.slot_view c.answer-exit.new.files) (g.F.Files.slot_view c.tell.new.files) c.tell.ensures.elsewhere c.answer-exit.result c.tell.result c.tell.ensures.answer
    (c.answer-exit.ensures.ends settings given).cause

pub returns-clause-by_unit : goal.returns-clause-by_unit
returns-clause-by_unit g c settings given =
    by-unit-told settings (g.F.Files.held c.args.files.now) c.answer-exit.result c.tell.result (g.F.Files.slot_view c.answer-exit.new.files) (g.F.Files.slot_view c.tell.new.files)
    c.tell.ensures.answer c.tell.ensures.elsewhere (c.answer-exit.ensures.ends settings given).by_unit

pub returns-clause-named : goal.returns-clause-named
returns-clause-named g c settings given =
    named-along (name_of settings) (g.F.Files.slot_view c.answer-exit.new.files) (g.F.Files.slot_view c.tell.new.files) c.tell.ensures.elsewhere (c.answer-exit.ensures.ends settings given).named

pub returns-clause-complete : goal.returns-clause-complete
returns-clause-complete g c settings given =
    complete-of settings (c.runs.ensures.one (output_settings settings)) (input_content settings (g.F.Files.held c.args.files.now)) (g.F.Files.slot_view c.args.files.now) (g.F.Files.slot_view c.tell.new.files)
    (g.F.Files.slot_view c.tell.new.files Output).written (g.F.Files.slot_view c.tell.new.files MetaOut).written c.tell.result (returns-clause-decodes g c settings given) (returns-clause-cause g c settings given)
