use Rattle.std.proofs.Common.{arith}
use Rattle.apv_frame.proofs.ReadLemmas.{some-frame-body, tiles-sound, parts-are}
use Rattle.apv_frame.proofs.read.read_parts.Goals as goal

pub unreachable-requires-in_default-read_tiles : goal.unreachable-requires-in_default-read_tiles
unreachable-requires-in_default-read_tiles c =
    let frame = some-frame-body c.args.body.now (λ i. omega (arith, c.type_inv.body i)) c.requires.frame in
    tiles-sound c.args.body.now c.in-Ok.head frame.0 c.in_default-read_tiles.field-0 c.in-Ok.ensures.ok frame.1 c.in_default-read_tiles.ensures.err

pub returns : goal.returns
returns c =
    let frame = some-frame-body c.args.body.now (λ i. omega (arith, c.type_inv.body i)) c.requires.frame in
    parts-are c.args.body.now c.in-Ok.head c.in-Ok-read_tiles.table frame.0 c.in-Ok.ensures.ok c.in-Ok-read_tiles.ensures.ok frame.1
