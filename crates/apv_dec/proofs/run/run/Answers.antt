use Rattle.apv_run.proofs.OpenLemmas.{closed-unwritten}
use Rattle.apv_dec.specs.Outputs.{output_settings}
use Rattle.apv_dec.proofs.OpenLemmas.{opened-input, opened-metadata, opened-output}
use Rattle.apv_dec.proofs.RunLemmas.{opened-run, refused-run}
use Rattle.apv_dec.proofs.run.run.Goals as goal

pub returns-in-Err-clause-ends : goal.returns-in-Err-clause-ends
returns-in-Err-clause-ends g c =
    refused-run c.args.settings.now (g.F.Files.held c.args.files.now) (g.F.Files.slot_view c.args.files.now) (g.F.Files.slot_view c.open_files.new.files) _ c.in-Err.ensures.opens

pub decode_opened-requires-clause-reading : goal.decode_opened-requires-clause-reading
decode_opened-requires-clause-reading g c lifetimes lives =
    (opened-input c.args.settings.now (g.F.Files.held c.args.files.now) (g.F.Files.slot_view c.args.files.now) (g.F.Files.slot_view c.open_files.new.files) c.in_default.ensures.opens c.requires.input).0

pub decode_opened-requires-clause-output : goal.decode_opened-requires-clause-output
decode_opened-requires-clause-output g c lifetimes lives =
    opened-output c.args.settings.now (g.F.Files.held c.args.files.now) (g.F.Files.slot_view c.args.files.now) (g.F.Files.slot_view c.open_files.new.files) c.in_default.ensures.opens

pub decode_opened-requires-clause-metadata : goal.decode_opened-requires-clause-metadata
decode_opened-requires-clause-metadata g c lifetimes lives =
    opened-metadata c.args.settings.now (g.F.Files.held c.args.files.now) (g.F.Files.slot_view c.args.files.now) (g.F.Files.slot_view c.open_files.new.files) c.in_default.ensures.opens

pub returns-clause-ends : goal.returns-clause-ends
returns-clause-ends g c =
    let start = g.F.Files.slot_view c.args.files.now in
    opened-run c.args.settings.now (g.F.Files.held c.args.files.now) c.requires.input (c.runs.ensures.one (output_settings c.args.settings.now)) start (g.F.Files.slot_view c.open_files.new.files) (g.F.Files.slot_view c.decode_opened.new.files) c.requires.closed
    (closed-unwritten start (g.met.F.Files.bare_where_closed c.args.files.now) c.requires.closed) c.in_default.ensures.opens c.decode_opened.result c.decode_opened.ensures.views
