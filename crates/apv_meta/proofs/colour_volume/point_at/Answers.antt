use Rattle.std.proofs.Common.{◌+◌, arith}
use Rattle.apv_base.specs.model.Bits.{be}
use Rattle.apv_meta.proofs.NumberBytes.{both-read}
use Rattle.apv_meta.proofs.colour_volume.point_at.Goals as goal

pub returns : goal.returns
returns c = both-read c.args.bytes.now (be 2 c.two_bytes_at.result) (be 2 c.two_bytes_at-2.result) c.args.place (c.args.place + 2 + 2) (c.args.place + 4) (omega arith) c.two_bytes_at.ensures c.two_bytes_at-2.ensures
