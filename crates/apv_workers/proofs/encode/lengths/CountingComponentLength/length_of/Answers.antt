use Rattle.std.proofs.Common.{arith}
use Rattle.apv_workers.proofs.Coded.{coded-long}
use Rattle.apv_workers.proofs.encode.lengths.CountingComponentLength.length_of.Goals as goal

pub len_component_with-bytes-requires-clause-whole : goal.len_component_with-bytes-requires-clause-whole
len_component_with-bytes-requires-clause-whole c =
    let long = coded-long c.args.self.now.head.now c.args.self.now.levels.now c.args.tile c.args.comp _ c.part-levels.result.now c.requires c.part-levels.ensures in
    omega (arith, long)

pub len_component-bytes-requires-clause-whole : goal.len_component-bytes-requires-clause-whole
len_component-bytes-requires-clause-whole c =
    let long = coded-long c.args.self.now.head.now c.args.self.now.levels.now c.args.tile c.args.comp _ c.part-levels.result.now c.requires c.part-levels.ensures in
    omega (arith, long)
