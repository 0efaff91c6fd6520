use Rattle.std.proofs.Common.{◌+◌, ◌-◌, ◌/◌, refl, arith, rules}
use Rattle.apv_workers.proofs.Halves.{one_ready, one_done, left_ready, right_ready, both_done, on_ok_both}
use Rattle.apv_workers.proofs.run.+halves.Goals as goal

pub run-work-requires : goal.run-work-requires
run-work-requires g t c = one_ready (g.W.TileWork.ready c.args.work.now) c.args.tiles.cuts.now c.args.tiles.first c.args.tiles.count c.args.values.now c.if-count-eq1.true c.requires.run c.requires.ready

pub run-returns-in-Ok-clause-ok : goal.run-returns-in-Ok-clause-ok
run-returns-in-Ok-clause-ok g t c =
    one_done (g.W.TileWork.sound c.args.work.now) (g.W.TileWork.done c.args.work.now) c.args.tiles.cuts.now c.args.tiles.first c.args.tiles.count c.args.values.now c.work.new.part c.if-count-eq1.true (search rules) c.requires.run c.in-Ok.ensures.ok.0 c.in-Ok.ensures.ok.1

pub run-both_halves-requires-clause-ready_left : goal.run-both_halves-requires-clause-ready_left
run-both_halves-requires-clause-ready_left g t c κs within =
    left_ready (g.W.TileWork.ready c.args.work.now) c.args.tiles.cuts.now c.args.tiles.first c.args.tiles.count (c.args.tiles.count / 2) c.args.values.now c.split_at_mut-left.result.0.now c.split_at_mut-left.result.1.now (omega arith) c.split_at_mut-left.ensures.value c.split_at_mut-left.ensures.front_len c.requires.run c.requires.ready

pub run-both_halves-requires-clause-ready_right : goal.run-both_halves-requires-clause-ready_right
run-both_halves-requires-clause-ready_right g t c κs within =
    right_ready (g.W.TileWork.ready c.args.work.now) c.args.tiles.cuts.now c.args.tiles.first c.args.tiles.count (c.args.tiles.count / 2) (c.args.tiles.count - c.args.tiles.count / 2) (c.args.tiles.first + c.args.tiles.count / 2) c.args.values.now c.split_at_mut-left.result.0.now c.split_at_mut-left.result.1.now (omega arith) refl c.split_at_mut-left.ensures.value c.split_at_mut-left.ensures.front_len c.requires.run c.requires.ready

pub run-returns-clause-ok : goal.run-returns-clause-ok
run-returns-clause-ok g t c =
    on_ok_both c.both_halves.result
    (both_done (g.W.TileWork.sound c.args.work.now) (g.W.TileWork.done c.args.work.now) c.args.tiles.cuts.now c.args.tiles.first c.args.tiles.count (c.args.tiles.count / 2) (c.args.tiles.count - c.args.tiles.count / 2) (c.args.tiles.first + c.args.tiles.count / 2) c.args.values.now c.split_at_mut-left.result.0.now c.split_at_mut-left.result.1.now c.both_halves.new.left c.both_halves.new.right (omega arith) refl c.split_at_mut-left.ensures.value c.split_at_mut-left.ensures.front_len c.both_halves.auto.left c.requires.run)
    c.both_halves.ensures.ok_left c.both_halves.ensures.ok_right
