use Rattle.std.proofs.Common.{arith, ◌+◌, ◌<◌, ◌≡◌, [], List, ℕ, length, drop, sym, ap, subst, ◌∙◌, length-drop, refl}
use Rattle.apv_base.specs.model.Sequence.{Sequence}
use Rattle.apv_base.specs.model.Body.{with_bodies}
use Rattle.apv_base.specs.model.Unit.{PbuAt}
use Rattle.apv_unit.proofs.PbusLemmas.{first-left, none-left}
use Rattle.apv_unit.proofs.pbus.PbusIterator.next.Goals as goal

pub returns-in_default-clause-steps : goal.returns-in_default-clause-steps
returns-in_default-clause-steps c =
    let i = c.self.invariant in
    (sym (ap (λ v. v.bytes) c.self.view_is) ∙ none-left c.self.inside.unit.now c.self.inside.place _ i.pbus i.sequence c.in_default.ensures, refl)

pub invariant_of-self : goal.invariant_of-self
invariant_of-self c =
    let i = c.self.invariant in
    let found = c.in-Ok.ensures in
    let lt : c.self.inside.place < length c.self.inside.unit.now = omega (arith, found.later, found.inside) in
    let f = first-left c.self.inside.unit.now c.self.inside.place c.in-Ok.pbu.next c.in-Ok.pbu.kind c.in-Ok.pbu.group c.in-Ok.pbu.body.now i.pbus lt i.sequence found.header in
    record { pbus = f.others; sequence = f.left; inside = found.inside; small = i.small; count = omega (arith, found.later, i.count) }

pub returns-clause-steps : goal.returns-clause-steps
returns-clause-steps c =
    let i = c.self.invariant in
    let found = c.in-Ok.ensures in
    let unit : List ℕ = c.self.inside.unit.now in
    let bytes : drop c.self.inside.place unit ≡ c.args.self.now.bytes = ap (λ v. v.bytes) c.self.view_is in
    let number : c.self.inside.number ≡ c.args.self.now.number = ap (λ v. v.number) c.self.view_is in
    let lt : c.self.inside.place < length unit = omega (arith, found.later, found.inside) in
    let now = first-left unit c.self.inside.place c.in-Ok.pbu.next c.in-Ok.pbu.kind c.in-Ok.pbu.group c.in-Ok.pbu.body.now i.pbus lt i.sequence found.header in
    record {
      number = number;
      next = ap (λ (n : ℕ). n + 1) number;
      small = omega (arith, found.short, i.small);
      sound = (now.first.payloads, now.sound);
      shorter = omega (arith, ap length bytes, length-drop c.self.inside.place unit, length-drop c.in-Ok.pbu.next unit, found.later, found.inside);
      pbus = λ pbus row.
          let f = first-left unit c.self.inside.place c.in-Ok.pbu.next c.in-Ok.pbu.kind c.in-Ok.pbu.group c.in-Ok.pbu.body.now pbus lt (subst (λ (xs : List ℕ). Sequence (PbuAt with_bodies) xs pbus []) (sym bytes) row) found.header in
          record { first = f.first; others = f.others; parts = f.parts; is = record { kind = f.kinds; group = f.groups; body = f.bodies }; sound = f.sound; left = f.left };
    }
