use Rattle.std.proofs.Common.{◌+◌, set, get_or, refl, arith}
use Rattle.apv_grid.proofs.StripLemmas.{writes-one, writes-join}
use Rattle.apv_grid.proofs.runs.write_samples.Goals as goal

pub loop-i-preserved : goal.loop-i-preserved
loop-i-preserved c =
    let place = c.args.start + c.place_in_row.result in
    let v = get_or c.args.row.now c.loop-i.i 0 in
    writes-join c.args.half c.args.row.now c.args.start c.args.x c.args.values.now c.loop-i.values (set c.loop-i.values place v) c.args.a c.loop-i.i (c.loop-i.i + 1)
    (omega arith) (omega arith) c.loop-i.invariant
    (writes-one c.args.half c.args.row.now c.args.start c.args.x c.loop-i.values c.loop-i.i place v (omega (arith, c.place_in_row.ensures))
    (omega (arith, c.place_in_row.ensures, c.requires.within c.loop-i.i)) refl)
