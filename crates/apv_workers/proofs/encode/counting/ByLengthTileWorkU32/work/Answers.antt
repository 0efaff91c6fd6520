use Rattle.std.proofs.Common.{◌≢◌, ℕ, ◌<◌, ◌∙◌, length, get_or, set, sym, subst, length-set, get_or-set_same, get_or-set_other, below_more, arith}
use Rattle.apv_base.proofs.HeaderLemmas.{comps-few}
use Rattle.apv_workers.proofs.encode.counting.ByLengthTileWorkU32.work.Goals as goal

pub length_of-requires : goal.length_of-requires
length_of-requires g c = c.loop-comp.invariant.ready.ready c.args.tile c.loop-comp.comp c.loop-comp.invariant.ready.exists (omega (arith, c.loop-comp-test.true, c.comps-comp-end.ensures))

pub loop-comp-preserved : goal.loop-comp-preserved
loop-comp-preserved g c =
    let ready = c.loop-comp.invariant.ready in
    let Counts : ℕ → ℕ → ℕ → Type 0 = g.W.ComponentLength.counts c.args.self.now.work.now in
    let comp : ℕ = c.loop-comp.comp in
    let there : comp < length c.loop-comp.part = omega (arith, c.loop-comp-test.true, c.comps-comp-end.ensures, comps-few c.args.self.now.head.now.header.info.chroma, ready.four) in
    record {
      ready = record {
        exists = ready.exists;
        four = length-set c.loop-comp.part comp c.length_of.result ∙ ready.four;
        ready = ready.ready;
      };
      done = below_more (λ (k : ℕ). Counts c.args.tile k (get_or (set c.loop-comp.part comp c.length_of.result) k 0)) comp
          (λ k lt. let ne : k ≢ comp = omega arith in subst (λ (n : ℕ). Counts c.args.tile k n) (sym (get_or-set_other c.loop-comp.part comp k c.length_of.result 0 ne)) (c.loop-comp.invariant.done k lt))
          (subst (λ (n : ℕ). Counts c.args.tile comp n) (sym (get_or-set_same c.loop-comp.part comp c.length_of.result 0 there)) c.length_of.ensures);
    }
