use Rattle.std.proofs.Common.{◌∙◌, ◌≡◌, ap, refl, sym}
use Rattle.apv_base.specs.declared.slot.Slot.TheVariants.{Input}
use Rattle.apv_files.specs.SlotView.{Lender}
use Rattle.apv_generated.specs.Files.{borrowed, left_in, name_of_borrowed, own_input}
use Rattle.apv_generated.specs.Views.{lender_of}
use Rattle.apv_enc.proofs.RunGeneratedLemmas.{ends-generated, inputs-generated, reading-generated}
use Rattle.apv_enc.proofs.run.encode_generated.Goals as goal

pub encode_opened-requires-clause-inputs : goal.encode_opened-requires-clause-inputs
encode_opened-requires-clause-inputs g c lifetimes lives =
    let made = c.new-generated.result in
    inputs-generated g.F.Files.slot_view c.args.settings.now (own_input g.F.Files.slot_view made) (borrowed made) c.args.files.now c.new-generated.ensures.borrowed (λ input reading. c.requires.inputs input reading) refl

pub encode_opened-requires-clause-reading : goal.encode_opened-requires-clause-reading
encode_opened-requires-clause-reading g c lifetimes lives =
    let made = c.new-generated.result in
    reading-generated g.F.Files.slot_view c.args.settings.now (own_input g.F.Files.slot_view made) (borrowed made) c.args.files.now c.new-generated.ensures.borrowed (λ input reading. c.requires.reading input reading) refl

pub returns : goal.returns
returns g c =
    let made = c.new-generated.result in
    let new = c.encode_opened.new.files in
    let view = g.F.Files.slot_view in
    let both : lender_of (name_of_borrowed new) (view (borrowed new) Input) ≡ lender_of (name_of_borrowed made) (view (borrowed made) Input) = cc (c.encode_opened.ensures.lender) in
    let names = ap (λ (lender : Lender). lender.files) both in
    let last = c.files-1.given.1 (sym c.new-generated.ensures.name ∙ sym names) in
    ends-generated view c.args.settings.now c.args.seed c.encode_opened.result (name_of_borrowed made) (name_of_borrowed new) (borrowed made) c.args.files.now (borrowed new) _ (left_in made) (left_in new)
    c.new-generated.ensures.borrowed (c.new-generated.ensures.left ∙ c.new-video.ensures) names (sym last) c.encode_opened.ensures.views
