use Rattle.std.proofs.Common.{arith}
use Rattle.apv_workers.proofs.Coded.{coded-long}
use Rattle.apv_workers.proofs.encode.put.Putting.put_component.Goals as goal

pub put_component_with-requires-clause-whole : goal.put_component_with-requires-clause-whole
put_component_with-requires-clause-whole c =
    let long = coded-long c.args.self.now.head.now c.args.self.now.levels.now c.args.tile c.args.comp _ c.part-levels.result.now c.requires.ready c.part-levels.ensures in
    omega (arith, long)

pub put_component-requires-clause-whole : goal.put_component-requires-clause-whole
put_component-requires-clause-whole c =
    let long = coded-long c.args.self.now.head.now c.args.self.now.levels.now c.args.tile c.args.comp _ c.part-levels.result.now c.requires.ready c.part-levels.ensures in
    omega (arith, long)
