use Rattle.apv_encoding.proofs.DecodedFileLemmas.{written-decodes}
use Rattle.apv_encoding.proofs.laws.written_decodes.Goals as goal

pub returns : goal.returns
returns c = written-decodes
