use Rattle.apv_laws.proofs.ComponentLemmas.{component-once}
use Rattle.apv_laws.proofs.SomeBlockLemmas.{component-some}
use Rattle.apv_laws.proofs.DecodingLemmas.{exactly-one-decoding}
use Rattle.apv_laws.proofs.laws.decodings.Goals as goal

pub returns : goal.returns
returns c = exactly-one-decoding component-once component-some
