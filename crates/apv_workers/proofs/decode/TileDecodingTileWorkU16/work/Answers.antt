use Rattle.std.proofs.Common.{◌≡◌, rules, arith, ◌∙◌}
use Rattle.apv_base.specs.model.Header.{header_comps}
use Rattle.apv_workers.specs.TileDecoding.{coded_by}
use Rattle.apv_workers.proofs.Parts.{one-more, blocks-of}
use Rattle.apv_workers.proofs.decode.TileDecodingTileWorkU16.work.Goals as goal

pub returns-in-Err-clause-err : goal.returns-in-Err-clause-err
returns-in-Err-clause-err c = record {
  exists = let comps : c.comps-comp-end.result ≡ header_comps c.args.self.now.head.now.header = search rules in let t = c.loop-comp-test.true in let e = c.loop-comp.auto.comp-end in omega arith;
  before = blocks-of (coded_by c.args.self.now) c.args.tile c.loop-comp.comp c.loop-comp.part c.loop-comp.invariant.decoded;
  breaks = c.in-Err.ensures.err;
}

pub loop-comp-preserved : goal.loop-comp-preserved
loop-comp-preserved c = record {
  len = c.decode_part.auto.part ∙ c.loop-comp.invariant.len;
  decoded = one-more (coded_by c.args.self.now) c.args.tile c.loop-comp.comp c.loop-comp.part c.decode_part.new.part c.loop-comp.invariant.decoded c.in-Ok.ensures.others c.in-Ok.ensures.ok;
}

pub returns-clause-ok : goal.returns-clause-ok
returns-clause-ok c =
    let comps : c.comps-comp-end.result ≡ header_comps c.args.self.now.head.now.header = search rules in
    let f = c.loop-comp-test.false in
    let e = c.loop-comp.auto.comp-end in (
      (λ comp lt. blocks-of (coded_by c.args.self.now) c.args.tile c.loop-comp.comp c.loop-comp.part c.loop-comp.invariant.decoded comp (omega arith)),
      (λ comp lt. c.loop-comp.invariant.decoded comp (omega arith)),
    )
