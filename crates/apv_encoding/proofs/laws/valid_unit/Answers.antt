use Rattle.apv_encoding.proofs.DecodedUnitLemmas.{valid-unit}
use Rattle.apv_encoding.proofs.laws.valid_unit.Goals as goal

pub returns : goal.returns
returns c = valid-unit
