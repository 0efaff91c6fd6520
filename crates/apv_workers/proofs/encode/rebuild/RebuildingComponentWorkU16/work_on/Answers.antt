use Rattle.std.proofs.Common.{length, sym, ◌∙◌, arith}
use Rattle.apv_workers.proofs.Coded.{coded-long}
use Rattle.apv_workers.proofs.Rebuilt.{rebuilt-part}
use Rattle.apv_workers.proofs.encode.rebuild.RebuildingComponentWorkU16.work_on.Goals as goal

pub rebuild_component-requires-clause-whole : goal.rebuild_component-requires-clause-whole
rebuild_component-requires-clause-whole c =
    let long = coded-long c.args.self.now.head.now c.args.self.now.levels.now c.args.tile c.args.comp (length c.args.values.now) c.part-levels.result.now c.requires c.part-levels.ensures in
    omega (arith, long)

pub rebuild_component-requires-clause-same : goal.rebuild_component-requires-clause-same
rebuild_component-requires-clause-same c =
    let long = coded-long c.args.self.now.head.now c.args.self.now.levels.now c.args.tile c.args.comp (length c.args.values.now) c.part-levels.result.now c.requires c.part-levels.ensures in
    c.requires.room ∙ sym long

pub returns : goal.returns
returns c =
    rebuilt-part c.args.self.now.head.now c.args.self.now.levels.now c.args.tile c.args.comp (length c.args.values.now) c.part-levels.result.now c.rebuild_component.new.samples c.scale-scale.result c.requires c.part-levels.ensures
    (c.samples_of_a_frame.ensures _ _ _ c.scale-scale.result) c.scale-scale.ensures c.rebuild_component.ensures
