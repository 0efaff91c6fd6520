use Rattle.std.proofs.Common.{arith}
use Rattle.apv_meta.proofs.Spelled.{payload-length}
use Rattle.apv_meta.proofs.write.len_payload.Goals as goal

pub returns : goal.returns
returns c = λ bytes e. omega (arith, payload-length c.args.kind bytes c.args.size e, c.len_number.ensures, c.len_number-2.ensures)
