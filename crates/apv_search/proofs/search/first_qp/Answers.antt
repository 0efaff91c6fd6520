use Rattle.std.proofs.Common.{ℕ, ◌+◌, ◌-◌, ◌/◌, arith}
use Rattle.apv_search.proofs.SearchLemmas.{as-before}
use Rattle.apv_search.proofs.SkippedLemmas.{large-to, tracks-again}
use Rattle.apv_search.proofs.search.first_qp.Goals as goal

pub loop-first-init : goal.loop-first-init
loop-first-init g c = record {
  same = as-before c.args.tracks.now;
  from = omega arith;
  order = c.requires.order;
  to = omega arith;
  before = λ q from below. absurd (omega (arith, from, below));
}

pub loop-first-preserved-then-fixed-least_data : goal.loop-first-preserved-then-fixed-least_data
loop-first-preserved-then-fixed-least_data g c =
    let skipped = c.loop-first.invariant in
    let middle : ℕ = c.loop-first.first + (c.loop-first.last - c.loop-first.first) / 2 in
    record {
      same = tracks-again c.args.tracks.now c.loop-first.tracks c.least_data.new.tracks skipped.same c.least_data.ensures.others;
      from = omega (arith, skipped.from);
      order = omega (arith, c.loop-first-test.true);
      to = skipped.to;
      before = λ q from below. large-to c.some_levels.ensures c.args.fixed c.args.tracks.now c.loop-first.tracks c.args.limit middle c.least_data.result q skipped.same c.least_data.ensures.least
          (omega (arith, c.if-fixed-least_data.true)) (omega (arith, below));
    }

pub loop-first-preserved : goal.loop-first-preserved
loop-first-preserved g c =
    let skipped = c.loop-first.invariant in
    record {
      same = tracks-again c.args.tracks.now c.loop-first.tracks c.least_data.new.tracks skipped.same c.least_data.ensures.others;
      from = skipped.from;
      order = omega arith;
      to = omega (arith, skipped.to, c.loop-first-test.true);
      before = skipped.before;
    }
