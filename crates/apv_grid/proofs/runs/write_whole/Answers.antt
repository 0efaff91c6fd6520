use Rattle.std.proofs.Common.{◌≡◌, ◌+◌, ◌*◌, ◌%◌, ℕ, length, arith}
use Rattle.apv_grid.proofs.StripLemmas.{run-within, writes-more}
use Rattle.apv_grid.proofs.runs.write_whole.Goals as goal

pub copy_run-requires-clause-to : goal.copy_run-requires-clause-to
copy_run-requires-clause-to c =
    let i : ℕ = c.args.a + 8 * c.loop-k.k in
    run-within c.args.half c.args.start c.args.x c.args.a (c.args.a + 8 * c.args.runs) (length c.loop-k.values) i c.place_in_row.result (rw c.loop-k.auto.values c.requires.within)
    (let whole : (c.args.x + c.args.a) % 8 ≡ 0 = c.requires.run (omega arith) in omega arith) (omega arith) (omega arith) c.place_in_row.ensures

pub loop-k-preserved : goal.loop-k-preserved
loop-k-preserved c =
    let i : ℕ = c.args.a + 8 * c.loop-k.k in
    writes-more c.args.half c.args.row.now c.args.start c.args.x c.args.values.now c.loop-k.values c.copy_run.new.to c.args.a i (c.args.a + 8 * (c.loop-k.k + 1)) (c.args.start + c.place_in_row.result)
    (omega arith) (let whole : (c.args.x + c.args.a) % 8 ≡ 0 = c.requires.run (omega arith) in omega arith) (omega arith) (omega (arith, c.place_in_row.ensures)) c.loop-k.invariant c.copy_run.ensures
