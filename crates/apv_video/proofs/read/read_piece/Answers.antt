use Rattle.std.proofs.Common.{rules}
use Rattle.apv_video.proofs.ReadLemmas.{stops-err}
use Rattle.apv_video.proofs.read.read_piece.Goals as goal

pub returns-in_err-fill_all-clause-here : goal.returns-in_err-fill_all-clause-here
returns-in_err-fill_all-clause-here g c = stops-err _ _ _ _ _ _ c.args.held _ c.from_residual.result c.in_err-fill_all.field-0.0 c.from_residual.ensures.1 c.in_err-fill_all.ensures.here (search rules) (search rules)
