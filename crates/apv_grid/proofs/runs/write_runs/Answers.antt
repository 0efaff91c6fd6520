use Rattle.std.proofs.Common.{◌+◌, ◌*◌, ◌-◌, ◌/◌, length, arith}
use Rattle.apv_grid.proofs.StripLemmas.{writes-join}
use Rattle.apv_grid.proofs.runs.write_runs.Goals as goal

pub returns : goal.returns
returns c =
    let head = c.min-head.result in
    let after = head + 8 * ((length c.args.row.now - head) / 8) in
    writes-join c.args.half c.args.row.now c.args.start c.args.x c.args.values.now c.write_whole.new.values c.write_samples-2.new.values 0 after (length c.args.row.now) (omega arith) (omega arith)
    (writes-join c.args.half c.args.row.now c.args.start c.args.x c.args.values.now c.write_samples.new.values c.write_whole.new.values 0 head after (omega arith) (omega arith)
    c.write_samples.ensures c.write_whole.ensures)
    c.write_samples-2.ensures
