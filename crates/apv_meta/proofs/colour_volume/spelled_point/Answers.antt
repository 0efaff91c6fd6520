use Rattle.apv_meta.proofs.NumberBytes.{both-spelled}
use Rattle.apv_meta.proofs.colour_volume.spelled_point.Goals as goal

pub returns : goal.returns
returns c = both-spelled c.args.point.0 c.args.point.1 c.to_be_bytes-x.result c.to_be_bytes-y.result c.to_be_bytes-x.ensures c.to_be_bytes-y.ensures
