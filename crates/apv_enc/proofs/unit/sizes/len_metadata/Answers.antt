use Rattle.std.proofs.Common.{◌<◌, length, arith}
use Rattle.std.proofs.lemmas.Bool.Decides.{nat_tests}
use Rattle.apv_enc.proofs.PartSizeLemmas.{metadata-size}
use Rattle.apv_enc.proofs.unit.sizes.len_metadata.Goals as goal

pub returns-clause-size : goal.returns-clause-size
returns-clause-size c =
    let some : 0 < length c.args.payloads.now = grind (arith, nat_tests) in
    metadata-size c.args.payloads.now some
