use Rattle.std.proofs.Common.{◌≡◌, arith}
use Rattle.apv_grid.proofs.LayoutLemmas.{half-values, whole-values, no-values}
use Rattle.apv_grid.proofs.layout.macroblock_values.Goals as goal

pub returns-then-not-has_half-clause-count : goal.returns-then-not-has_half-clause-count
returns-then-not-has_half-clause-count c = omega (arith, whole-values c.args.chroma c.args.comp (grind arith))

pub returns-then-comp-eq0-clause-count : goal.returns-then-comp-eq0-clause-count
returns-then-comp-eq0-clause-count c = let e : c.args.comp ≡ 0 = grind arith in rw e (no-values c.args.chroma)

pub returns-clause-count : goal.returns-clause-count
returns-clause-count c = omega (arith, half-values c.args.chroma c.args.comp (grind arith) (grind arith) c.requires)
