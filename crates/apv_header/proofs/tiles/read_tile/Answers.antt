use Rattle.std.proofs.Common.{refl}
use Rattle.std.proofs.lemmas.Result.{err_from_is_err_and}
use Rattle.apv_header.proofs.TileLemmas.{tile-at, tile-breaks}
use Rattle.apv_header.proofs.tiles.read_tile.Goals as goal

pub returns-in_err-lengths : goal.returns-in_err-lengths
returns-in_err-lengths c =
    let p = err_from_is_err_and c.from_residual-in_err-lengths.result c.from_residual-in_err-lengths.ensures.1 in
    rw (p.1, p.2)
    (tile-breaks c.args.body.now c.args.place _ c.args.number c.in_ok-size.size c.args.stated c.split_at.result.1.now c.split_at-2.result.1.now _ c.split_at.ensures.back c.split_at-2.ensures.back c.in_ok-size.ensures c.in_err-lengths.ensures)

pub returns : goal.returns
returns c =
    tile-at c.args.body.now c.args.place _ c.args.number c.args.stated c.split_at.result.1.now c.split_at-2.result.1.now _ c.split_at.ensures.back c.requires.inside c.split_at-2.ensures.back c.in_ok-size.ensures c.in_ok-lengths.ensures refl
