use Rattle.std.proofs.Common.{◌∙◌}
use Rattle.apv_bits.proofs.ByteLemmas.{number_of_2}
use Rattle.apv_bits.proofs.bytes.be16.Goals as goal

pub returns : goal.returns
returns c = c.from_be_bytes.ensures ∙ number_of_2 c.args.bytes.now c.requires
