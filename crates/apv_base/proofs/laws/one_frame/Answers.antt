use Rattle.apv_base.proofs.CodedFrameLemmas.{one-frame}
use Rattle.apv_base.proofs.laws.one_frame.Goals as goal

pub returns : goal.returns
returns c = one-frame
