use Rattle.apv_base.specs.declared.slot.Slot.TheVariants.{Console}
use Rattle.apv_run.proofs.ToldLemmas.{cause-told, named-along, refused-told, usage-told}
use Rattle.apv_enc.specs.Run.{is_own_answer, name_of}
use Rattle.apv_enc.proofs.RunToldLemmas.{by-frame-told, complete-told, decodes-told, encodes-told, tells-run}
use Rattle.apv_enc.proofs.run.run_enc.Goals as goal

pub returns-clause-usage : goal.returns-clause-usage
returns-clause-usage g c kind fault =
    usage-told kind (g.F.Files.slot_view c.args.files.now) (g.F.Files.slot_view c.answer-end.new.files) (g.F.Files.slot_view c.tell_end.new.files) c.answer-end.result.exit c.tell_end.result c.tell_end.ensures.answer c.tell_end.ensures.elsewhere (c.answer-end.ensures.usage kind fault)

pub returns-clause-refused : goal.returns-clause-refused
returns-clause-refused g c kind is = c.answer-end.ensures.refused kind (refused-told kind c.answer-end.result.exit c.tell_end.result c.tell_end.ensures.answer is)

pub returns-clause-encodes : goal.returns-clause-encodes
returns-clause-encodes g c settings given =
    encodes-told settings (g.F.Files.held c.args.files.now) c.answer-end.result.exit c.tell_end.result c.tell_end.ensures.answer (g.F.Files.slot_view c.answer-end.new.files) (g.F.Files.slot_view c.tell_end.new.files) c.tell_end.ensures.elsewhere
    (c.answer-end.ensures.ends settings given).encodes

pub returns-clause-decodes : goal.returns-clause-decodes
returns-clause-decodes g c settings given =
    decodes-told settings (g.F.Files.held c.args.files.now) c.answer-end.result.exit c.tell_end.result c.tell_end.ensures.answer (g.F.Files.slot_view c.answer-end.new.files) (g.F.Files.slot_view c.tell_end.new.files) c.tell_end.ensures.elsewhere
    (c.answer-end.ensures.ends settings given).decodes

pub returns-clause-cause : goal.returns-clause-cause
returns-clause-cause g c settings given =
    cause-told is_own_answer (name_of settings) (g.F.Files.slot_view c.args.files.now) (g.F.Files.slot_view c.answer-end.new.files) (g.F.Files.slot_view c.tell_end.new.files) c.tell_end.ensures.elsewhere c.answer-end.result.exit c.tell_end.result c.tell_end.ensures.answer
    (c.answer-end.ensures.ends settings given).cause

pub returns-clause-by_frame : goal.returns-clause-by_frame
returns-clause-by_frame g c settings given =
    by-frame-told settings (g.F.Files.held c.args.files.now) c.answer-end.result.exit c.tell_end.result c.tell_end.ensures.answer (g.F.Files.slot_view c.answer-end.new.files) (g.F.Files.slot_view c.tell_end.new.files) c.tell_end.ensures.elsewhere
    (c.answer-end.ensures.ends settings given).by_frame

pub returns-clause-named : goal.returns-clause-named
returns-clause-named g c settings given =
    named-along (name_of settings) (g.F.Files.slot_view c.answer-end.new.files) (g.F.Files.slot_view c.tell_end.new.files) c.tell_end.ensures.elsewhere (c.answer-end.ensures.ends settings given).named

pub returns-clause-complete : goal.returns-clause-complete
returns-clause-complete g c settings given =
    complete-told settings (g.F.Files.held c.args.files.now) c.answer-end.result.exit c.tell_end.result c.tell_end.ensures.answer (g.F.Files.slot_view c.answer-end.new.files) (g.F.Files.slot_view c.tell_end.new.files) c.tell_end.ensures.elsewhere (g.F.Files.slot_view c.args.files.now)
    (c.answer-end.ensures.ends settings given).complete

pub returns-clause-console : goal.returns-clause-console
returns-clause-console g c =
    tells-run c.args.words.now (g.F.Files.held c.args.files.now) c.answer-end.result c.tell_end.result (g.F.Files.slot_view c.args.files.now Console) (g.F.Files.slot_view c.answer-end.new.files Console) (g.F.Files.slot_view c.tell_end.new.files Console)
    c.tell_end.ensures.answer c.answer-end.ensures.given (λ settings given. (c.answer-end.ensures.ends settings given).report) c.answer-end.ensures.console c.tell_end.ensures.console
