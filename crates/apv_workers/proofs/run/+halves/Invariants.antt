use Rattle.std.proofs.Common.{◌+◌, ◌-◌, ◌*◌}
use Rattle.apv_workers.proofs.run.+halves.Given as goal

abbrev pub decreases-run : goal.decreases-run
decreases-run g l = 4 * l.tiles.count

abbrev pub decreases-both_halves : goal.decreases-both_halves
decreases-both_halves g l = 4 * (l.lower.count + l.upper.count) - 1

abbrev pub decreases-both_halves-first_half : goal.decreases-both_halves-first_half
decreases-both_halves-first_half g l = 4 * l.lower.count + 1

abbrev pub decreases-both_halves-second_half : goal.decreases-both_halves-second_half
decreases-both_halves-second_half g l = 4 * l.upper.count + 1
