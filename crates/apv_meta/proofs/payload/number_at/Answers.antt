use Rattle.std.proofs.Common.{rules, arith, ◌≡◌, ◌<◌, ◌+◌, ◌∙◌, length, drop, get_or, length-drop, List, ℕ}
use Rattle.std.proofs.lemmas.List.{take_rest}
use Rattle.apv_meta.proofs.Walks.{goes-on, as-named, ends, cut-off}
use Rattle.apv_meta.proofs.payload.number_at.Goals as goal

-- what is left of the list, and the byte there
pub returns-then-byte-clause-found : goal.returns-then-byte-clause-found
returns-then-byte-clause-found c =
    let xs : List ℕ = drop c.args.place c.args.list.now in
    let lt : c.loop-i.i < length xs = rw (take_rest c.args.list.now c.args.place) at c.loop-i-test.true in
    let byte : c.from.result ≡ get_or xs c.loop-i.i 0 = rw (← take_rest c.args.list.now c.args.place) (search rules) in
    record {
      value = ends xs c.loop-i.i c.loop-i.value lt (rw (take_rest c.args.list.now c.args.place) at c.if-byte.true) c.loop-i.invariant.rest
          ∙ as-named c.args.list.now c.args.place c.loop-i.i (c.args.place + c.loop-i.i + 1) c.loop-i.value c.from.result (get_or xs c.loop-i.i 0) byte (omega arith);
      later = omega arith;
      inside = omega (arith, length-drop c.args.place c.args.list.now, lt);
    }

pub loop-i-preserved : goal.loop-i-preserved
loop-i-preserved c = record {
  value = omega (arith, c.loop-i.invariant.value);
  rest = goes-on (drop c.args.place c.args.list.now) c.loop-i.i c.loop-i.value (rw (take_rest c.args.list.now c.args.place) at c.loop-i-test.true) (rw (take_rest c.args.list.now c.args.place) at c.if-byte.false) c.loop-i.invariant.rest;
}

pub returns-clause-none : goal.returns-clause-none
returns-clause-none c = cut-off (drop c.args.place c.args.list.now) c.loop-i.i c.loop-i.value (rw (take_rest c.args.list.now c.args.place) at c.loop-i-test.false) c.loop-i.invariant.rest
