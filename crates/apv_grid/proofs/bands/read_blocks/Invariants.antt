use Rattle.std.proofs.Common.{◌-◌, ◌≤◌}
use Rattle.apv_grid.specs.Strip.{TakesBlocks}
use Rattle.apv_grid.proofs.bands.read_blocks.Given as goal

-- the samples so far are copied
abbrev pub invariant-loop-done : goal.invariant-loop-done
invariant-loop-done l = record {
  inside : l.done ≤ l.count;
  takes : TakesBlocks l.half l.values l.start l.first l.rows l.stride l.at l.done l.initial.out l.out;
}

abbrev pub decreases-loop-done : goal.decreases-loop-done
decreases-loop-done l = l.count - l.done
