use Rattle.std.proofs.Common.{arith}
use Rattle.apv_frame.proofs.ReadLemmas.{some-frame-body, grid-is}
use Rattle.apv_frame.proofs.read.frame_grid.Goals as goal

pub returns : goal.returns
returns c =
    let frame = some-frame-body c.args.body.now (λ i. omega (arith, c.type_inv.body i)) c.requires.frame in
    grid-is c.args.body.now c.in-Ok.head frame.0 c.in-Ok.ensures.ok frame.1
