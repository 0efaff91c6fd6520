use Rattle.std.proofs.Common.{arith, ◌≡◌, ◌++◌, ◌∷◌, [], drop, length-append, subst, sym}
use Rattle.std.proofs.lemmas.List.{drop_all}
use Rattle.apv_base.specs.declared.rules.HeadEnd.TheVariants.{Rule as breaks}
use Rattle.apv_base.specs.declared.rules.UnitEnd.{UnitEnd}
use Rattle.apv_base.specs.model.Pbu.{Pbu}
use Rattle.apv_base.specs.model.Unit.{PbuAt, StructureBreaks, in_header, in_body}
use Rattle.apv_base.proofs.SequenceLemmas.{sequence-push, sequence-along}
use Rattle.apv_unit.specs.Reach.{reach_of}
use Rattle.apv_unit.proofs.Breaks.{breaks-here, push-some}
use Rattle.apv_unit.proofs.structure_pass.judge_pbus.Goals as goal

pub returns-in-Err : goal.returns-in-Err
returns-in-Err c =
    let i = c.loop-pbu.invariant in
    subst (λ (e : UnitEnd). StructureBreaks (reach_of c.args.bodies) c.args.number c.args.unit.now e) (sym c.end_before.ensures)
    (breaks-here (reach_of c.args.bodies) c.args.number c.args.unit.now 0 (breaks c.in-Err.rule) c.loop-pbu.count c.loop-pbu.place i.prefix.0 c.requires.signed i.prefix.2 i.prefix.1 i.more (in_header c.in-Err.rule c.in-Err.ensures))

pub returns-in-Some : goal.returns-in-Some
returns-in-Some c =
    let i = c.loop-pbu.invariant in
    subst (λ (e : UnitEnd). StructureBreaks (reach_of c.args.bodies) c.args.number c.args.unit.now e) (sym c.end_at.ensures)
    (breaks-here (reach_of c.args.bodies) c.args.number c.args.unit.now c.in-Some.broken.tile c.in-Some.broken.end c.loop-pbu.count c.loop-pbu.place i.prefix.0 c.requires.signed i.prefix.2 i.prefix.1 i.more
    (in_body c.in-Some.broken.tile c.in-Some.broken.end c.in-Ok.pbu.kind c.in-Ok.pbu.group c.in-Ok.pbu.body.now (drop c.in-Ok.pbu.next c.args.unit.now) c.in-Ok.ensures.header c.in-Some.ensures))

pub returns-then-pbu-unit : goal.returns-then-pbu-unit
returns-then-pbu-unit c =
    let i = c.loop-pbu.invariant in
    let reach = reach_of c.args.bodies in
    let pbu : Pbu = record { kind = c.in-Ok.pbu.kind; group = c.in-Ok.pbu.group; body = c.in-Ok.pbu.body.now; payloads = c.in_default.ensures.0 } in
    let at : PbuAt reach (drop c.loop-pbu.place c.args.unit.now) pbu (drop c.in-Ok.pbu.next c.args.unit.now) = record { header = c.in-Ok.ensures.header; sound = c.in_default.ensures.1 } in
    let end : drop c.in-Ok.pbu.next c.args.unit.now ≡ [] = drop_all c.in-Ok.pbu.next c.args.unit.now (omega (arith, c.if-pbu-unit.true)) in (
      i.prefix.0 ++ pbu ∷ [],
      record {
        signed = c.requires.signed;
        some = push-some i.prefix.0 pbu;
        sequence = sequence-along (PbuAt reach) _ _ [] _ end (sequence-push (PbuAt reach) (drop 4 c.args.unit.now) (drop c.loop-pbu.place c.args.unit.now) (drop c.in-Ok.pbu.next c.args.unit.now) i.prefix.0 pbu i.prefix.2 at);
      },
    )

pub loop-pbu-preserved : goal.loop-pbu-preserved
loop-pbu-preserved c =
    let i = c.loop-pbu.invariant in
    let reach = reach_of c.args.bodies in
    let pbu : Pbu = record { kind = c.in-Ok.pbu.kind; group = c.in-Ok.pbu.group; body = c.in-Ok.pbu.body.now; payloads = c.in_default.ensures.0 } in
    let at : PbuAt reach (drop c.loop-pbu.place c.args.unit.now) pbu (drop c.in-Ok.pbu.next c.args.unit.now) = record { header = c.in-Ok.ensures.header; sound = c.in_default.ensures.1 } in
    record {
      inside = c.in-Ok.ensures.inside;
      few = omega (arith, i.few, c.in-Ok.ensures.later);
      more = λ _. omega (arith, c.in-Ok.ensures.inside, c.if-pbu-unit.false);
      prefix = (i.prefix.0 ++ pbu ∷ [], omega (arith, length-append i.prefix.0 (pbu ∷ []), i.prefix.1), sequence-push (PbuAt reach) (drop 4 c.args.unit.now) (drop c.loop-pbu.place c.args.unit.now) (drop c.in-Ok.pbu.next c.args.unit.now) i.prefix.0 pbu i.prefix.2 at);
    }
