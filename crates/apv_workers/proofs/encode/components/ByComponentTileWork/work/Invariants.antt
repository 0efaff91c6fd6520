use Rattle.apv_workers.specs.Components.{AreDoneBelow, IsTileReady}
use Rattle.apv_workers.proofs.encode.components.ByComponentTileWork.work.Given as goal

abbrev pub invariant-loop-comp : goal.invariant-loop-comp
invariant-loop-comp g l = record {
  ready : IsTileReady (g.W.ComponentWork.ready l.self.work.now) l.self.grid.now l.tile l.part;
  done : AreDoneBelow (g.W.ComponentWork.done l.self.work.now) l.self.grid.now l.tile l.comp l.part;
}
