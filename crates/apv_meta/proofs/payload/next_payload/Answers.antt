use Rattle.std.proofs.Common.{arith, ◌≡◌, ◌+◌, ◌-◌, length-drop, sym, refl}
use Rattle.std.proofs.lemmas.List.{drop-drop}
use Rattle.apv_base.proofs.SomeUnitLemmas.{no-kind, no-length, too-short}
use Rattle.apv_meta.proofs.Walks.{whole}
use Rattle.apv_meta.proofs.payload.next_payload.Goals as goal

pub returns-in_err-kind-clause-none : goal.returns-in_err-kind-clause-none
returns-in_err-kind-clause-none c = rw c.from_residual.ensures (no-kind _ c.in_err-kind.ensures.none)

pub returns-in_err-size-clause-none : goal.returns-in_err-size-clause-none
returns-in_err-size-clause-none c =
    rw c.from_residual-in_err-size.ensures (no-length _ _ _ c.in_ok-kind.ensures.found.value c.in_err-size.ensures.none)

pub returns-then-size-list-clause-none : goal.returns-then-size-list-clause-none
returns-then-size-list-clause-none c =
    too-short _ _ _ _ _ c.in_ok-kind.ensures.found.value c.in_ok-size.ensures.found.value (omega (arith, c.if-size-list.true, length-drop c.in_ok-size.place c.args.list.now))

pub returns-clause-found : goal.returns-clause-found
returns-clause-found c = record {
  stands = whole _ _ _ _ _ _ _ c.in_ok-kind.ensures.found.value c.in_ok-size.ensures.found.value (omega (arith, c.if-size-list.false, length-drop c.in_ok-size.place c.args.list.now)) (let e : c.in_ok-size.place + c.in_ok-size.size - c.in_ok-size.place ≡ c.in_ok-size.size = omega arith in rw e refl) (sym (drop-drop c.in_ok-size.size c.in_ok-size.place c.args.list.now));
  later = omega (arith, c.in_ok-kind.ensures.found.later, c.in_ok-size.ensures.found.later);
  inside = omega (arith, c.if-size-list.false, c.in_ok-size.ensures.found.inside);
}
