use Rattle.std.proofs.Common.{rules, ◌∙◌, false, ap, Ok}
use Rattle.apv_tracks.proofs.PictureReadLemmas.{picture-none, picture-whole}
use Rattle.apv_tracks.proofs.pictures.read_picture.Goals as goal

pub returns-in-Ok-true-clause-here : goal.returns-in-Ok-true-clause-here
returns-in-Ok-true-clause-here g c = search (
  rules,
  picture-whole c.args.slot c.args.y4m c.args.number (g.F.Files.slot_view c.args.files.now c.args.slot) (g.F.Files.slot_view c.read_frame.new.files c.args.slot)
      c.format_of-format.result c.frame_mut-frame.result.now c.read_frame.new.frame,
)

pub returns-in-Ok-false-clause-here : goal.returns-in-Ok-false-clause-here
returns-in-Ok-false-clause-here g c =
    picture-none c.args.slot c.args.y4m c.args.number (g.F.Files.slot_view c.args.files.now c.args.slot) (g.F.Files.slot_view c.read_frame.new.files c.args.slot)
    c.format_of-format.result c.frame_mut-frame.result.now c.read_frame.new.frame c.read_frame.result (Ok false) (c.in-Ok-false.is ∙ ap Ok c.in-Ok-false.field-0-test) (λ e. let no : ⊥ = cc in no)
    c.format_of-format.ensures.sound c.format_of-format.ensures.is c.read_frame.ensures.grid c.read_frame.ensures.here
