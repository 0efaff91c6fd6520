use Rattle.std.proofs.Common.{◌-◌, ◌∙◌, sym, arith}
use Rattle.apv_unit.specs.Strict.{frames_of}
use Rattle.apv_unit.proofs.StrictLists.{count-bytes, lists-short, listing-start, listing-inside, listing-other, listing-frame, lists-fewer, lists-another, lists-more, lists-all}
use Rattle.apv_unit.proofs.strict_pass.list_by_frames.Goals as goal

pub returns-then-body-lt2 : goal.returns-then-body-lt2
returns-then-body-lt2 c pbus structure = lists-short (frames_of pbus) c.args.body.now c.if-body-lt2.true

pub loop-pbu-init : goal.loop-pbu-init
loop-pbu-init c = (
  tt,
  tt,
  λ pbus structure.
      listing-start c.args.body.now c.split_at.result.1.now c.from_be_bytes-count.result pbus c.of-pbu-items.result c.into_iter-pbu-iterator.result c.into_iter-pbu-iterator.ensures.into_iter_gives
      c.of-pbu-items.ensures.number (c.of-pbu-items.ensures.pbus pbus structure) c.split_at.ensures.back (c.from_be_bytes-count.ensures ∙ sym (count-bytes c.args.body.now c.if-body-lt2.false)),
)

pub returns-then-count-eq0 : goal.returns-then-count-eq0
returns-then-count-eq0 c pbus structure =
    lists-fewer c.args.body.now c.loop-pbu.rest.now c.loop-pbu.count pbus c.loop-pbu.pbu-iterator c.next.new.self c.in-Some.pbu (c.loop-pbu.invariant.2 pbus structure) c.in-Some.ensures.steps
    (sym c.is_frame.ensures ∙ c.if-is_frame.true) c.if-count-eq0.true

pub returns-in_default : goal.returns-in_default
returns-in_default c pbus structure =
    lists-another c.args.body.now c.loop-pbu.rest.now c.loop-pbu.count pbus c.loop-pbu.pbu-iterator c.next.new.self c.in-Some.pbu (c.loop-pbu.invariant.2 pbus structure) c.in-Some.ensures.steps
    (sym c.is_frame.ensures ∙ c.if-is_frame.true) c.in_default.ensures

pub loop-pbu-preserved-then-is_frame : goal.loop-pbu-preserved-then-is_frame
loop-pbu-preserved-then-is_frame c = (
  tt,
  tt,
  λ pbus structure.
      listing-frame c.args.body.now c.loop-pbu.rest.now c.in-Some-after_entry.after.now c.loop-pbu.count (c.loop-pbu.count - 1) pbus c.loop-pbu.pbu-iterator c.next.new.self c.in-Some.pbu
      (c.loop-pbu.invariant.2 pbus structure) c.in-Some.ensures.steps (sym c.is_frame.ensures ∙ c.if-is_frame.true) (omega (arith, c.if-count-eq0.false)) c.in-Some-after_entry.ensures,
)

pub loop-pbu-preserved : goal.loop-pbu-preserved
loop-pbu-preserved c = (
  tt,
  tt,
  λ pbus structure.
      listing-other c.args.body.now c.loop-pbu.rest.now c.loop-pbu.count pbus c.loop-pbu.pbu-iterator c.next.new.self c.in-Some.pbu (c.loop-pbu.invariant.2 pbus structure) c.in-Some.ensures.steps
      (sym c.is_frame.ensures ∙ c.if-is_frame.false),
)

pub returns-then-count-ne0 : goal.returns-then-count-ne0
returns-then-count-ne0 c pbus structure =
    lists-more c.args.body.now c.loop-pbu.rest.now c.loop-pbu.count pbus c.loop-pbu.pbu-iterator (c.loop-pbu.invariant.2 pbus structure) c.in-None.ensures.steps.0 c.if-count-ne0.true

pub overflow_sub-body : goal.overflow_sub-body
overflow_sub-body c =
    listing-inside c.args.body.now c.loop-pbu.rest.now c.loop-pbu.count c.requires.sound.0 c.loop-pbu.pbu-iterator (c.loop-pbu.invariant.2 c.requires.sound.0 c.requires.sound.1)

pub returns : goal.returns
returns c pbus structure =
    lists-all c.args.body.now c.loop-pbu.rest.now c.split_at-2.result.0.now c.loop-pbu.count pbus c.loop-pbu.pbu-iterator (λ i. omega (arith, c.type_inv.body i)) c.if-body-lt2.false
    (c.loop-pbu.invariant.2 pbus structure) c.in-None.ensures.steps.0 c.if-count-ne0.false c.split_at-2.ensures.front
