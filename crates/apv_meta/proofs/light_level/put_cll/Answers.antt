use Rattle.apv_meta.proofs.NumberBytes.{both-spelled}
use Rattle.apv_meta.proofs.light_level.put_cll.Goals as goal

pub returns : goal.returns
returns c = both-spelled c.args.value.now.cll c.args.value.now.fall c.to_be_bytes-cll.result c.to_be_bytes-fall.result c.to_be_bytes-cll.ensures c.to_be_bytes-fall.ensures
