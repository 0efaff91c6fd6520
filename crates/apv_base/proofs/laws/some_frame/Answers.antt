use Rattle.apv_base.proofs.FoundFrameLemmas.{some-frame}
use Rattle.apv_base.proofs.laws.some_frame.Goals as goal

pub returns : goal.returns
returns c = some-frame
