use Rattle.std.proofs.Common.{◌≡◌, ℕ, ℤ, ◌≤◌, pos, get_or, length, below_more, arith, ⊎_elim, ◌<◌, to_z, of_z, w16, lit<}
use Rattle.std.proofs.lemmas.Bool.{cases_lt}
use Rattle.std.proofs.lemmas.Int.{to_z-of_z}
use Rattle.std.proofs.lemmas.List.{get_or_past}
use Rattle.apv_base.specs.model.Quant.{IsLevel}
use Rattle.apv_base.specs.model.Scan.{scan}
use Rattle.apv_scan.proofs.block.levels.is_block.Goals as goal

pub loop-place-preserved : goal.loop-place-preserved
loop-place-preserved c =
    let level : ℤ = get_or c.args.levels.now c.loop-place.place (pos 0) in
    let e : to_z w16 (of_z w16 (get_or c.args.levels.now c.loop-place.place (pos 0))) ≡ get_or c.args.levels.now c.loop-place.place (pos 0) = grind (arith, to_z-of_z) in
    below_more _ _ c.loop-place.invariant (rw e at c.is_level.ensures)

pub returns : goal.returns
returns c = record {
  count = c.told-levels;
  levels = λ p.
      let each : (place : ℕ) → IsLevel (get_or c.args.levels.now place (pos 0)) = λ place.
      ⊎_elim
      (λ (lt : place < 64). c.loop-place.invariant place (omega (arith, lt, c.loop-place-test.false)))
      (λ (le : 64 ≤ place). let past : length c.args.levels.now ≤ place = omega (arith, le, c.told-levels) in rw (get_or_past c.args.levels.now place (pos 0) past) (lit< tt))
      (cases_lt place 64) in
      each (scan p);
}
