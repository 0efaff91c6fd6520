use Rattle.apv_workers.specs.Lengths.{AreTileLengths, IsTileOfLengths}
use Rattle.apv_workers.proofs.encode.counting.ByLengthTileWorkU32.work.Given as goal

abbrev pub invariant-loop-comp : goal.invariant-loop-comp
invariant-loop-comp g l = record {
  ready : IsTileOfLengths l.self.head.now.header (g.W.ComponentLength.ready l.self.work.now) l.tile l.part;
  done : AreTileLengths (g.W.ComponentLength.counts l.self.work.now) l.tile l.comp l.part;
}
