use Rattle.std.proofs.Common.{arith}
use Rattle.apv_quant.proofs.StepLemmas.{multiple_less}
use Rattle.apv_quant.proofs.narrow.Narrow.of.Goals as goal

pub over-requires-clause-multiples : goal.over-requires-clause-multiples
over-requires-clause-multiples c = λ place h. multiple_less _ c.args.power _ (c.requires.multiples place h) (omega arith)
