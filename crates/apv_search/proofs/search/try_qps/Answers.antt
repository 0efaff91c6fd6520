use Rattle.std.proofs.Common.{ℕ, ◌+◌, refl, ap, arith}
use Rattle.apv_search.specs.declared.choice.Chosen.{Chosen}
use Rattle.apv_search.proofs.SearchLemmas.{none-tried, is-least, left-at, still-same, tried-more, is-too-large, one-of}
use Rattle.apv_search.proofs.search.try_qps.Goals as goal

pub loop-qp-init : goal.loop-qp-init
loop-qp-init g c = none-tried c.args.fixed c.args.tracks.now c.args.range c.args.limit c.args.range.least 18446744073709551615 refl refl

pub returns-then-size-limit-clause-least : goal.returns-then-size-limit-clause-least
returns-then-size-limit-clause-least g c =
    let chosen : Chosen = record { qp = c.loop-qp.qp; size = c.args.fixed + c.code_at.result } in
    is-least c.args.fixed c.args.tracks.now c.args.range c.args.limit c.loop-qp.smallest chosen c.loop-qp.tracks c.code_at.new.tracks c.loop-qp.invariant c.code_at.ensures.at_qp
    (ap (λ (n : ℕ). c.args.fixed + n) c.code_at.ensures.bytes) (omega (arith, c.if-size-limit.true)) (omega (arith, c.loop-qp.auto.qp)) (omega (arith, c.loop-qp-test.true))

pub returns-then-size-limit-clause-at_qp : goal.returns-then-size-limit-clause-at_qp
returns-then-size-limit-clause-at_qp g c =
    let chosen : Chosen = record { qp = c.loop-qp.qp; size = c.args.fixed + c.code_at.result } in
    left-at c.args.fixed c.args.tracks.now c.args.range c.args.limit c.loop-qp.smallest chosen c.loop-qp.tracks c.code_at.new.tracks c.loop-qp.invariant c.code_at.ensures.at_qp
    (ap (λ (n : ℕ). c.args.fixed + n) c.code_at.ensures.bytes)

pub returns-then-size-limit-clause-others : goal.returns-then-size-limit-clause-others
returns-then-size-limit-clause-others g c =
    still-same c.args.fixed c.args.tracks.now c.args.range c.args.limit c.loop-qp.smallest c.loop-qp.qp c.loop-qp.tracks c.code_at.new.tracks c.loop-qp.invariant c.code_at.ensures.at_qp

pub loop-qp-preserved : goal.loop-qp-preserved
loop-qp-preserved g c =
    let size : ℕ = c.args.fixed + c.code_at.result in
    let lesser = one-of c.loop-qp.smallest size c.min-smallest.result c.min-smallest.ensures in
    tried-more c.args.fixed c.args.tracks.now c.args.range c.args.limit c.loop-qp.qp c.loop-qp.smallest size c.min-smallest.result c.loop-qp.tracks c.code_at.new.tracks c.loop-qp.invariant c.code_at.ensures.at_qp
    (ap (λ (n : ℕ). c.args.fixed + n) c.code_at.ensures.bytes) (omega (arith, c.if-size-limit.false)) (omega (arith, c.requires.fixed, c.code_at.ensures.few)) (omega (arith, c.loop-qp.auto.qp)) (omega (arith, c.loop-qp-test.true))
    lesser.0 lesser.1 lesser.2

pub returns-clause-large : goal.returns-clause-large
returns-clause-large g c =
    is-too-large c.args.fixed c.args.tracks.now c.args.range c.args.limit c.loop-qp.qp (record { smallest = c.loop-qp.smallest }) c.loop-qp.tracks c.loop-qp.invariant c.requires.order
    (omega (arith, c.loop-qp-test.false, c.loop-qp.auto.qp-end))
