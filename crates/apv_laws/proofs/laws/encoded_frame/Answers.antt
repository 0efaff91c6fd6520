use Rattle.apv_base.specs.model.Encode.{frame_with}
use Rattle.apv_laws.proofs.SpelledFrameLemmas.{spelled-frame}
use Rattle.apv_laws.proofs.TileSizeLemmas.{encoded-fits}
use Rattle.apv_laws.proofs.laws.encoded_frame.Goals as goal

pub returns-clause-fits : goal.returns-clause-fits
returns-clause-fits c = encoded-fits

pub returns-clause-frame : goal.returns-clause-frame
returns-clause-frame c = λ header qps levels sound permitted are. spelled-frame (frame_with header qps levels) (encoded-fits header qps levels sound permitted are)
