use Rattle.apv_encoding.proofs.SomeTracksLemmas.{some-ending}
use Rattle.apv_encoding.proofs.TracksLemmas.{one-ending}
use Rattle.apv_encoding.proofs.laws.ending.Goals as goal

pub returns-clause-one : goal.returns-clause-one
returns-clause-one c = one-ending

pub returns-clause-some : goal.returns-clause-some
returns-clause-some c = some-ending
