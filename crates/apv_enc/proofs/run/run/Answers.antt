use Rattle.std.proofs.Common.{◌∙◌, is_some}
use Rattle.apv_run.proofs.OpenLemmas.{closed-unwritten}
use Rattle.apv_enc.proofs.RunCauseLemmas.{console-of}
use Rattle.apv_enc.proofs.RunEndsLemmas.{generated-console, generated-run, named-without, opened-run, refused-run}
use Rattle.apv_enc.proofs.RunOpenLemmas.{generated-inputs, generated-tracks, opened-inputs, opened-output, opened-recon, opened-tracks}
use Rattle.apv_enc.proofs.run.run.Goals as goal

pub returns-in-Err-clause-ends : goal.returns-in-Err-clause-ends
returns-in-Err-clause-ends g c =
    rw c.of.ensures (refused-run c.args.settings.now (g.F.Files.held c.args.files.now) (g.F.Files.slot_view c.args.files.now) (g.F.Files.slot_view c.open_files.new.files) _ c.in-Err.ensures.opens)

pub encode_opened-requires-clause-inputs : goal.encode_opened-requires-clause-inputs
encode_opened-requires-clause-inputs g c lifetimes lives =
    opened-inputs c.args.settings.now (g.F.Files.held c.args.files.now) (g.F.Files.slot_view c.args.files.now) (g.F.Files.slot_view c.open_files.new.files) c.in_default.ensures.opens (named-without c.args.settings.now.generate (is_some c.args.settings.now.input) c.in-None.is c.requires.given.input)

pub encode_opened-requires-clause-reading : goal.encode_opened-requires-clause-reading
encode_opened-requires-clause-reading g c lifetimes lives =
    opened-tracks c.args.settings.now (g.F.Files.held c.args.files.now) (g.F.Files.slot_view c.args.files.now) (g.F.Files.slot_view c.open_files.new.files) c.in_default.ensures.opens (named-without c.args.settings.now.generate (is_some c.args.settings.now.input) c.in-None.is c.requires.given.input)

pub encode_opened-requires-clause-output : goal.encode_opened-requires-clause-output
encode_opened-requires-clause-output g c lifetimes lives =
    opened-output c.args.settings.now (g.F.Files.held c.args.files.now) (g.F.Files.slot_view c.args.files.now) (g.F.Files.slot_view c.open_files.new.files) c.in_default.ensures.opens

pub encode_opened-requires-clause-recon : goal.encode_opened-requires-clause-recon
encode_opened-requires-clause-recon g c lifetimes lives =
    opened-recon c.args.settings.now (g.F.Files.held c.args.files.now) (g.F.Files.slot_view c.args.files.now) (g.F.Files.slot_view c.open_files.new.files) c.in_default.ensures.opens

pub encode_generated-requires-clause-inputs : goal.encode_generated-requires-clause-inputs
encode_generated-requires-clause-inputs g c lifetimes lives =
    generated-inputs c.args.settings.now (g.F.Files.held c.args.files.now) (g.F.Files.slot_view c.args.files.now) (g.F.Files.slot_view c.open_files.new.files) c.in_default.ensures.opens

pub encode_generated-requires-clause-reading : goal.encode_generated-requires-clause-reading
encode_generated-requires-clause-reading g c lifetimes lives =
    generated-tracks c.args.settings.now (g.F.Files.held c.args.files.now) (g.F.Files.slot_view c.args.files.now) (g.F.Files.slot_view c.open_files.new.files) c.in_default.ensures.opens

pub encode_generated-requires-clause-output : goal.encode_generated-requires-clause-output
encode_generated-requires-clause-output g c lifetimes lives =
    opened-output c.args.settings.now (g.F.Files.held c.args.files.now) (g.F.Files.slot_view c.args.files.now) (g.F.Files.slot_view c.open_files.new.files) c.in_default.ensures.opens

pub encode_generated-requires-clause-recon : goal.encode_generated-requires-clause-recon
encode_generated-requires-clause-recon g c lifetimes lives =
    opened-recon c.args.settings.now (g.F.Files.held c.args.files.now) (g.F.Files.slot_view c.args.files.now) (g.F.Files.slot_view c.open_files.new.files) c.in_default.ensures.opens

pub returns-in-None-clause-ends : goal.returns-in-None-clause-ends
returns-in-None-clause-ends g c =
    let start = g.F.Files.slot_view c.args.files.now in
    opened-run c.args.settings.now c.one_nearest.ensures c.written_decodes.ensures c.requires.bounds c.requires.given (g.F.Files.held c.args.files.now) start (g.F.Files.slot_view c.open_files.new.files) (g.F.Files.slot_view c.encode_opened.new.files) c.requires.closed
    (closed-unwritten start (g.met.F.Files.bare_where_closed c.args.files.now) c.requires.closed) c.in_default.ensures.opens c.encode_opened.result c.in-None.is c.encode_opened.ensures.views

pub returns-in-None-clause-console : goal.returns-in-None-clause-console
returns-in-None-clause-console g c =
    console-of c.args.settings.now (g.F.Files.slot_view c.open_files.new.files) (g.F.Files.slot_view c.encode_opened.new.files) c.encode_opened.result c.encode_opened.ensures.views ∙ c.in_default.ensures.console

pub returns-in-Some-clause-ends : goal.returns-in-Some-clause-ends
returns-in-Some-clause-ends g c =
    let start = g.F.Files.slot_view c.args.files.now in
    generated-run c.args.settings.now c.one_nearest.ensures c.written_decodes.ensures c.requires.bounds c.requires.given (g.F.Files.held c.args.files.now) start (g.F.Files.slot_view c.open_files.new.files) (g.F.Files.slot_view c.encode_generated.new.files) c.requires.closed
    (closed-unwritten start (g.met.F.Files.bare_where_closed c.args.files.now) c.requires.closed) c.in_default.ensures.opens c.encode_generated.result c.in-Some.seed c.in-Some.is c.encode_generated.ensures

pub returns-in-Some-clause-console : goal.returns-in-Some-clause-console
returns-in-Some-clause-console g c =
    let start = g.F.Files.slot_view c.args.files.now in
    generated-console c.args.settings.now c.one_nearest.ensures c.written_decodes.ensures c.requires.bounds c.requires.given (g.F.Files.held c.args.files.now) start (g.F.Files.slot_view c.open_files.new.files) (g.F.Files.slot_view c.encode_generated.new.files) c.requires.closed
    (closed-unwritten start (g.met.F.Files.bare_where_closed c.args.files.now) c.requires.closed) c.in_default.ensures.opens c.encode_generated.result c.in-Some.seed c.in-Some.is c.encode_generated.ensures ∙ c.in_default.ensures.console
