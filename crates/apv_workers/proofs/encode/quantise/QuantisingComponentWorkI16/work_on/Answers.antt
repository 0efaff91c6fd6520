use Rattle.std.proofs.Common.{length, sym, ◌∙◌, arith}
use Rattle.apv_workers.proofs.Coded.{coded-long, quantised}
use Rattle.apv_workers.proofs.encode.quantise.QuantisingComponentWorkI16.work_on.Goals as goal

pub quantise_component-requires-clause-whole : goal.quantise_component-requires-clause-whole
quantise_component-requires-clause-whole c =
    let long = coded-long c.args.self.now.head.now c.args.self.now.coeffs.now c.args.tile c.args.comp (length c.args.values.now) c.part-coeffs.result.now c.requires c.part-coeffs.ensures in
    omega (arith, long)

pub quantise_component-requires-clause-same : goal.quantise_component-requires-clause-same
quantise_component-requires-clause-same c =
    let long = coded-long c.args.self.now.head.now c.args.self.now.coeffs.now c.args.tile c.args.comp (length c.args.values.now) c.part-coeffs.result.now c.requires c.part-coeffs.ensures in
    c.requires.room ∙ sym long

pub returns : goal.returns
returns c =
    quantised c.args.self.now.head.now c.args.self.now.coeffs.now c.args.tile c.args.comp (length c.args.values.now) c.part-coeffs.result.now c.quantise_component.new.levels c.scale.result c.requires c.part-coeffs.ensures c.quantise_component.auto.levels c.scale.ensures c.quantise_component.ensures
