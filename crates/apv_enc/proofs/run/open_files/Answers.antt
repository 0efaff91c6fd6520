use Rattle.apv_base.specs.declared.slot.Slot.TheVariants.{Metadata, TileQp, Output, Recon}
use Rattle.apv_run.proofs.OpenLemmas.{closed-unwritten, passed-on}
use Rattle.apv_enc.specs.Run.{name_of}
use Rattle.apv_enc.proofs.RunOpenLemmas.{more, next, none-open, one-more, recon-last}
use Rattle.apv_enc.proofs.run.open_files.Goals as goal

pub returns-in_err-open_pictures-clause-opens : goal.returns-in_err-open_pictures-clause-opens
returns-in_err-open_pictures-clause-opens g c =
    passed-on 9 (name_of c.args.settings.now) (g.F.Files.held c.args.files.now) (g.F.Files.slot_view c.args.files.now) (g.F.Files.slot_view c.open_pictures.new.files) c.from_residual.result c.in_err-open_pictures.field-0.0 c.from_residual.ensures.1 c.in_err-open_pictures.ensures.opens

pub returns-in_err-open_slot-clause-opens : goal.returns-in_err-open_slot-clause-opens
returns-in_err-open_slot-clause-opens g c =
    let s = c.args.settings.now in
    let held = g.F.Files.held c.args.files.now in
    let start = g.F.Files.slot_view c.args.files.now in
    let to_0 = none-open s held start c.requires (closed-unwritten start (g.met.F.Files.bare_where_closed c.args.files.now) c.requires) in
    let to_1 = more s held start held (g.F.Files.held c.open_pictures.new.files) start (g.F.Files.slot_view c.open_pictures.new.files) 4 c.in_ok-open_pictures.ensures.opens c.in_ok-open_pictures.ensures.held to_0 in
    passed-on 9 (name_of s) held start (g.F.Files.slot_view c.open_slot.new.files) c.from_residual-in_err-open_slot.result c.in_err-open_slot.field-0.0 c.from_residual-in_err-open_slot.ensures.1 (c.in_err-open_slot.ensures.opens (name_of s) held start (next s held start (g.F.Files.held c.open_pictures.new.files) (g.F.Files.slot_view c.open_pictures.new.files) Metadata to_1))

pub returns-in_err-open_slot-2-clause-opens : goal.returns-in_err-open_slot-2-clause-opens
returns-in_err-open_slot-2-clause-opens g c =
    let s = c.args.settings.now in
    let held = g.F.Files.held c.args.files.now in
    let start = g.F.Files.slot_view c.args.files.now in
    let to_0 = none-open s held start c.requires (closed-unwritten start (g.met.F.Files.bare_where_closed c.args.files.now) c.requires) in
    let to_1 = more s held start held (g.F.Files.held c.open_pictures.new.files) start (g.F.Files.slot_view c.open_pictures.new.files) 4 c.in_ok-open_pictures.ensures.opens c.in_ok-open_pictures.ensures.held to_0 in
    let to_2 = one-more s held start (g.F.Files.held c.open_pictures.new.files) (g.F.Files.held c.open_slot.new.files) (g.F.Files.slot_view c.open_pictures.new.files) (g.F.Files.slot_view c.open_slot.new.files) Metadata (c.in_ok-open_slot.ensures.opens (name_of s) held start) c.in_ok-open_slot.ensures.held to_1 in
    passed-on 9 (name_of s) held start (g.F.Files.slot_view c.open_slot-2.new.files) c.from_residual-in_err-open_slot-2.result c.in_err-open_slot-2.field-0.0 c.from_residual-in_err-open_slot-2.ensures.1 (c.in_err-open_slot-2.ensures.opens (name_of s) held start (next s held start (g.F.Files.held c.open_slot.new.files) (g.F.Files.slot_view c.open_slot.new.files) TileQp to_2))

pub returns-in_err-open_slot-3-clause-opens : goal.returns-in_err-open_slot-3-clause-opens
returns-in_err-open_slot-3-clause-opens g c =
    let s = c.args.settings.now in
    let held = g.F.Files.held c.args.files.now in
    let start = g.F.Files.slot_view c.args.files.now in
    let to_0 = none-open s held start c.requires (closed-unwritten start (g.met.F.Files.bare_where_closed c.args.files.now) c.requires) in
    let to_1 = more s held start held (g.F.Files.held c.open_pictures.new.files) start (g.F.Files.slot_view c.open_pictures.new.files) 4 c.in_ok-open_pictures.ensures.opens c.in_ok-open_pictures.ensures.held to_0 in
    let to_2 = one-more s held start (g.F.Files.held c.open_pictures.new.files) (g.F.Files.held c.open_slot.new.files) (g.F.Files.slot_view c.open_pictures.new.files) (g.F.Files.slot_view c.open_slot.new.files) Metadata (c.in_ok-open_slot.ensures.opens (name_of s) held start) c.in_ok-open_slot.ensures.held to_1 in
    let to_3 = one-more s held start (g.F.Files.held c.open_slot.new.files) (g.F.Files.held c.open_slot-2.new.files) (g.F.Files.slot_view c.open_slot.new.files) (g.F.Files.slot_view c.open_slot-2.new.files) TileQp (c.in_ok-open_slot-2.ensures.opens (name_of s) held start) c.in_ok-open_slot-2.ensures.held to_2 in
    passed-on 9 (name_of s) held start (g.F.Files.slot_view c.open_slot-3.new.files) c.from_residual-in_err-open_slot-3.result c.in_err-open_slot-3.field-0.0 c.from_residual-in_err-open_slot-3.ensures.1 (c.in_err-open_slot-3.ensures.opens (name_of s) held start (next s held start (g.F.Files.held c.open_slot-2.new.files) (g.F.Files.slot_view c.open_slot-2.new.files) Output to_3))

pub returns-clause-opens : goal.returns-clause-opens
returns-clause-opens g c =
    let s = c.args.settings.now in
    let held = g.F.Files.held c.args.files.now in
    let start = g.F.Files.slot_view c.args.files.now in
    let to_0 = none-open s held start c.requires (closed-unwritten start (g.met.F.Files.bare_where_closed c.args.files.now) c.requires) in
    let to_1 = more s held start held (g.F.Files.held c.open_pictures.new.files) start (g.F.Files.slot_view c.open_pictures.new.files) 4 c.in_ok-open_pictures.ensures.opens c.in_ok-open_pictures.ensures.held to_0 in
    let to_2 = one-more s held start (g.F.Files.held c.open_pictures.new.files) (g.F.Files.held c.open_slot.new.files) (g.F.Files.slot_view c.open_pictures.new.files) (g.F.Files.slot_view c.open_slot.new.files) Metadata (c.in_ok-open_slot.ensures.opens (name_of s) held start) c.in_ok-open_slot.ensures.held to_1 in
    let to_3 = one-more s held start (g.F.Files.held c.open_slot.new.files) (g.F.Files.held c.open_slot-2.new.files) (g.F.Files.slot_view c.open_slot.new.files) (g.F.Files.slot_view c.open_slot-2.new.files) TileQp (c.in_ok-open_slot-2.ensures.opens (name_of s) held start) c.in_ok-open_slot-2.ensures.held to_2 in
    let to_4 = one-more s held start (g.F.Files.held c.open_slot-2.new.files) (g.F.Files.held c.open_slot-3.new.files) (g.F.Files.slot_view c.open_slot-2.new.files) (g.F.Files.slot_view c.open_slot-3.new.files) Output (c.in_ok-open_slot-3.ensures.opens (name_of s) held start) c.in_ok-open_slot-3.ensures.held to_3 in
    recon-last s held start (g.F.Files.slot_view c.open_slot-4.new.files) c.open_slot-4.result (c.open_slot-4.ensures.opens (name_of s) held start (next s held start (g.F.Files.held c.open_slot-3.new.files) (g.F.Files.slot_view c.open_slot-3.new.files) Recon to_4))
