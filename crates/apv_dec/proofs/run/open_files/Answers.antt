use Rattle.std.proofs.Common.{◌∙◌}
use Rattle.apv_run.specs.Cause.{AreUnwritten}
use Rattle.apv_run.proofs.OpenLemmas.{closed-unwritten, passed-on}
use Rattle.apv_dec.specs.Settings.{name_of}
use Rattle.apv_dec.proofs.OpenLemmas.{input-next, metadata-next, output-next}
use Rattle.apv_dec.proofs.run.open_files.Goals as goal

pub returns-in_err-open_slot-clause-opens : goal.returns-in_err-open_slot-clause-opens
returns-in_err-open_slot-clause-opens g c =
    let s = c.args.settings.now in
    let held = g.F.Files.held c.args.files.now in
    let start = g.F.Files.slot_view c.args.files.now in
    let none : AreUnwritten start = closed-unwritten start (g.met.F.Files.bare_where_closed c.args.files.now) c.requires in
    passed-on 9 (name_of s) held start (g.F.Files.slot_view c.open_slot.new.files) c.from_residual.result c.in_err-open_slot.field-0.0 c.from_residual.ensures.1
    (c.in_err-open_slot.ensures.opens (name_of s) held start (input-next s held start c.requires none))

pub returns-in_err-open_slot-2-clause-opens : goal.returns-in_err-open_slot-2-clause-opens
returns-in_err-open_slot-2-clause-opens g c =
    let s = c.args.settings.now in
    let held = g.F.Files.held c.args.files.now in
    let start = g.F.Files.slot_view c.args.files.now in
    let none : AreUnwritten start = closed-unwritten start (g.met.F.Files.bare_where_closed c.args.files.now) c.requires in
    let one = c.in_ok-open_slot.ensures.opens (name_of s) held start (input-next s held start c.requires none) in
    passed-on 9 (name_of s) held start (g.F.Files.slot_view c.open_slot-2.new.files) c.from_residual-in_err-open_slot-2.result c.in_err-open_slot-2.field-0.0 c.from_residual-in_err-open_slot-2.ensures.1
    (c.in_err-open_slot-2.ensures.opens (name_of s) held start
    (output-next s held start c.requires none (g.F.Files.held c.open_slot.new.files) (g.F.Files.slot_view c.open_slot.new.files) c.in_ok-open_slot.ensures.held one))

pub returns-clause-opens : goal.returns-clause-opens
returns-clause-opens g c =
    let s = c.args.settings.now in
    let held = g.F.Files.held c.args.files.now in
    let start = g.F.Files.slot_view c.args.files.now in
    let none : AreUnwritten start = closed-unwritten start (g.met.F.Files.bare_where_closed c.args.files.now) c.requires in
    let one = c.in_ok-open_slot.ensures.opens (name_of s) held start (input-next s held start c.requires none) in
    let first = c.in_ok-open_slot.ensures.held in
    let second = c.in_ok-open_slot-2.ensures.held in
    let two = c.in_ok-open_slot-2.ensures.opens (name_of s) held start
    (output-next s held start c.requires none (g.F.Files.held c.open_slot.new.files) (g.F.Files.slot_view c.open_slot.new.files) first one) in
    c.open_slot-3.ensures.opens (name_of s) held start
    (metadata-next s held start c.requires none (g.F.Files.held c.open_slot-2.new.files) (g.F.Files.slot_view c.open_slot-2.new.files) (λ file. second file ∙ first file) two)
