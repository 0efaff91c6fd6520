use Rattle.std.proofs.Common.{arith, ◌<◌, List, ℕ, [], length, sym, ap, subst, length-drop}
use Rattle.apv_base.specs.model.Payload.{PayloadAt, ArePayloads}
use Rattle.apv_base.proofs.SequenceLemmas.{sequence-begins}
use Rattle.apv_base.proofs.OneUnitLemmas.{no-payload}
use Rattle.apv_meta.proofs.Left.{some-left, first-left}
use Rattle.apv_meta.proofs.payloads.PayloadsIterator.next.Goals as goal

pub returns-in_default-clause-steps : goal.returns-in_default-clause-steps
returns-in_default-clause-steps c =
    let i = c.self.invariant in
    let lt : c.self.inside.place < length c.self.inside.list.now = omega (arith, i.inside, c.if-self.false) in
    let b = sequence-begins PayloadAt _ [] i.payloads i.whole (some-left c.self.inside.list.now c.self.inside.place lt) in
    no-payload _ b.0 b.2 _ c.in_default.ensures.none b.4

pub invariant_of-self : goal.invariant_of-self
invariant_of-self c =
    let i = c.self.invariant in
    let found = c.in-Some.ensures.found in
    let lt : c.self.inside.place < length c.self.inside.list.now = omega (arith, i.inside, c.if-self.false) in
    let f = first-left c.self.inside.list.now c.self.inside.place c.in-Some.payload.next _ i.payloads lt i.whole found.stands in
    record { payloads = f.0; whole = f.2; inside = found.inside; small = i.small }

pub returns-clause-steps : goal.returns-clause-steps
returns-clause-steps c =
    let i = c.self.invariant in
    let found = c.in-Some.ensures.found in
    let list : List ℕ = c.self.inside.list.now in
    let lt : c.self.inside.place < length list = omega (arith, i.inside, c.if-self.false) in
    record {
      shorter = omega (arith, ap length c.self.view_is, length-drop c.self.inside.place list, length-drop c.in-Some.payload.next list, found.later, found.inside);
      payloads = λ ps row.
          let f = first-left list c.self.inside.place c.in-Some.payload.next _ ps lt (subst (λ (xs : List ℕ). ArePayloads xs ps) (sym c.self.view_is) row) found.stands in
          record { others = f.0; parts = f.1; left = f.2 };
    }
