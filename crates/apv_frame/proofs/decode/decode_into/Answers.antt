use Rattle.std.proofs.Common.{◌∙◌}
use Rattle.apv_frame.proofs.ReadLemmas.{same-grid, samples-of-parts, on-ok}
use Rattle.apv_frame.proofs.decode.decode_into.Goals as goal

pub decode_tiles-requires-clause-grid : goal.decode_tiles-requires-clause-grid
decode_tiles-requires-clause-grid g c κs within =
    same-grid c.args.body.now c.read_parts-head.result.0 c.read_parts-head.result.1 c.args.frame.now.grid c.read_parts-head.ensures c.requires.grid

pub returns-clause-ok : goal.returns-clause-ok
returns-clause-ok g c =
    let head = c.read_parts-head.result.0 in
    let table = c.read_parts-head.result.1 in
    let grid = c.decode_tiles.ensures.grid ∙ same-grid c.args.body.now head table c.args.frame.now.grid c.read_parts-head.ensures c.requires.grid in
    on-ok c.decode_tiles.result (λ decoded. samples-of-parts c.args.body.now head table c.decode_tiles.new.frame c.read_parts-head.ensures grid decoded) c.decode_tiles.ensures.ok
