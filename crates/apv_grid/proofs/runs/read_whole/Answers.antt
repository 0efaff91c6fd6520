use Rattle.std.proofs.Common.{◌≡◌, ◌+◌, ◌*◌, ◌%◌, ℕ, length, arith}
use Rattle.apv_grid.proofs.StripLemmas.{run-within, reads-more}
use Rattle.apv_grid.proofs.runs.read_whole.Goals as goal

pub copy_run-requires-clause-from : goal.copy_run-requires-clause-from
copy_run-requires-clause-from c =
    let i : ℕ = c.args.a + 8 * c.loop-k.k in
    run-within c.args.half c.args.start c.args.x c.args.a (c.args.a + 8 * c.args.runs) (length c.args.values.now) i c.place_in_row.result c.requires.within
    (let whole : (c.args.x + c.args.a) % 8 ≡ 0 = c.requires.run (omega arith) in omega arith) (omega arith) (omega arith) c.place_in_row.ensures

pub loop-k-preserved : goal.loop-k-preserved
loop-k-preserved c =
    let i : ℕ = c.args.a + 8 * c.loop-k.k in
    reads-more c.args.half c.args.values.now c.args.start c.args.x c.args.row.now c.loop-k.row c.copy_run.new.to c.args.a i (c.args.a + 8 * (c.loop-k.k + 1)) (c.args.start + c.place_in_row.result)
    (omega arith) (let whole : (c.args.x + c.args.a) % 8 ≡ 0 = c.requires.run (omega arith) in omega arith) (omega arith) (omega (arith, c.place_in_row.ensures)) c.loop-k.invariant c.copy_run.ensures
