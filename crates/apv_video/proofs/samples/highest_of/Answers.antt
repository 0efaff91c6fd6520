use Rattle.std.proofs.Common.{◌≡◌, get_or, length, refl, subst, arith, rules}
use Rattle.apv_video.specs.Reads.{AreValuesBelow, IsHighest}
use Rattle.apv_video.proofs.ReadLemmas.{highest-more}
use Rattle.apv_video.proofs.samples.highest_of.Goals as goal

pub loop-sample-preserved : goal.loop-sample-preserved
loop-sample-preserved c = highest-more (λ i. get_or c.args.samples.now i 0) c.loop-sample.sample-index c.loop-sample.highest _ c.max-highest.result c.loop-sample.invariant refl (omega (arith, c.max-highest.ensures))

pub returns : goal.returns
returns c =
    let all : c.loop-sample.sample-index ≡ length c.args.samples.now = search rules in
    subst (λ n. IsHighest (AreValuesBelow (λ i. get_or c.args.samples.now i 0) n) c.loop-sample.highest) all c.loop-sample.invariant
