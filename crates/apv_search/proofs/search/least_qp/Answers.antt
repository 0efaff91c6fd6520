use Rattle.std.proofs.Common.{arith, refl}
use Rattle.std.proofs.lemmas.Result.{IfErr-weaker, IfOk-weaker}
use Rattle.apv_search.proofs.SkippedLemmas.{large-from, least-from, left-again, tracks-again}
use Rattle.apv_search.proofs.search.least_qp.Goals as goal

pub returns-in-Ok-clause-least : goal.returns-in-Ok-clause-least
returns-in-Ok-clause-least g c =
    least-from c.args.fixed c.args.tracks.now c.first_qp-least.new.tracks c.args.range (record c.args.range { least = c.first_qp-least.result }) c.args.limit c.in-Ok.chosen
    c.first_qp-least.ensures.others c.first_qp-least.ensures.range.0 refl c.first_qp-least.ensures.before c.in-Ok.ensures.least

pub returns-in-Ok-clause-at_qp : goal.returns-in-Ok-clause-at_qp
returns-in-Ok-clause-at_qp g c =
    left-again c.args.fixed c.in-Ok.chosen c.args.tracks.now c.first_qp-least.new.tracks c.try_qps.new.tracks c.first_qp-least.ensures.others c.in-Ok.ensures.at_qp

pub returns-in-Ok-clause-others : goal.returns-in-Ok-clause-others
returns-in-Ok-clause-others g c =
    tracks-again c.args.tracks.now c.first_qp-least.new.tracks c.try_qps.new.tracks c.first_qp-least.ensures.others c.try_qps.ensures.others

pub returns-in-Err-clause-least : goal.returns-in-Err-clause-least
returns-in-Err-clause-least g c =
    let same = tracks-again c.args.tracks.now c.first_qp-least.new.tracks c.try_qps.new.tracks c.first_qp-least.ensures.others c.try_qps.ensures.others in
    IfOk-weaker c.try_qps-in-Err.result _ _
    (λ chosen least. least-from c.args.fixed c.args.tracks.now c.try_qps.new.tracks c.args.range c.args.range c.args.limit chosen same (omega arith) refl (λ q from below. absurd (omega (arith, from, below))) least)
    c.try_qps-in-Err.ensures.least

pub returns-in-Err-clause-at_qp : goal.returns-in-Err-clause-at_qp
returns-in-Err-clause-at_qp g c =
    let same = tracks-again c.args.tracks.now c.first_qp-least.new.tracks c.try_qps.new.tracks c.first_qp-least.ensures.others c.try_qps.ensures.others in
    IfOk-weaker c.try_qps-in-Err.result _ _
    (λ chosen left. left-again c.args.fixed chosen c.args.tracks.now c.try_qps.new.tracks c.try_qps-in-Err.new.tracks same left) c.try_qps-in-Err.ensures.at_qp

pub returns-in-Err-clause-large : goal.returns-in-Err-clause-large
returns-in-Err-clause-large g c =
    let same = tracks-again c.args.tracks.now c.first_qp-least.new.tracks c.try_qps.new.tracks c.first_qp-least.ensures.others c.try_qps.ensures.others in
    IfErr-weaker c.try_qps-in-Err.result _ _
    (λ large is. large-from c.args.fixed c.args.tracks.now c.try_qps.new.tracks c.args.range c.args.limit large same is) c.try_qps-in-Err.ensures.large

pub returns-in-Err-clause-others : goal.returns-in-Err-clause-others
returns-in-Err-clause-others g c =
    tracks-again c.args.tracks.now c.try_qps.new.tracks c.try_qps-in-Err.new.tracks
    (tracks-again c.args.tracks.now c.first_qp-least.new.tracks c.try_qps.new.tracks c.first_qp-least.ensures.others c.try_qps.ensures.others) c.try_qps-in-Err.ensures.others
