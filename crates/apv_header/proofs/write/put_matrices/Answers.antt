use Rattle.std.proofs.Common.{arith}
use Rattle.apv_base.specs.model.Format.{comps_of}
use Rattle.apv_header.proofs.LengthLemmas.{length-matrices}
use Rattle.apv_header.proofs.write.put_matrices.Goals as goal

pub put-requires-clause-room : goal.put-requires-clause-room
put-requires-clause-room c =
    omega (arith, c.requires, length-matrices c.args.header.now.use_matrix (comps_of c.args.header.now.info.chroma) c.args.header.now.matrices)
