-- Parts and their samples, and runs of tiles.
use Rattle.std.proofs.Common.{◌≡◌, ℕ, suc, ◌+◌, ◌-◌, ◌*◌, ◌<◌, ◌≤◌, get_or, drop, sym, ◌∙◌, ap, arith}
use Rattle.std.proofs.lemmas.List.{get_or-take, get_or-drop}
use Rattle.apv_base.specs.model.Grid.{Grid, IsSoundGrid, block_count}
use Rattle.apv_grid.specs.Buffer.{tile_start, part_start, place_in}
use Rattle.apv_grid.specs.Laws.{HasSamplesInParts, SplitsIntoRuns, HasValuesOfItsTile}
use Rattle.apv_grid.proofs.LawLemmas.{coded-in-block}
use Rattle.apv_grid.proofs.LayoutLemmas.{starts-rise, next-start}

pub samples-in-parts : (grid : Grid) → IsSoundGrid grid → HasSamplesInParts grid
samples-in-parts grid sound values tile comp block x y known component less hx hy =
    let k : ℕ = 64 * block + (8 * y + x) in
    let there : k < 64 * block_count grid tile comp = omega arith in
    get_or-take (64 * block_count grid tile comp) (drop (part_start grid tile comp) values) k 0 there ∙ get_or-drop (part_start grid tile comp) values k 0
    ∙ ap (λ (p : ℕ). get_or values p 0) (sym (ap (place_in grid comp) (coded-in-block grid sound tile comp block x y known component less hx hy)))

pub splits-into-runs : (grid : Grid) → SplitsIntoRuns grid
splits-into-runs grid first count size left run few =
    let low : tile_start grid first ≤ tile_start grid (first + left) = starts-rise grid first (first + left) (omega arith) in
    let high : tile_start grid (first + left) ≤ tile_start grid (first + count) = starts-rise grid (first + left) (first + count) (omega arith) in
    let whole : tile_start grid first + size ≡ tile_start grid (first + count) = run.values in
    let rest : first + left + (count - left) ≡ first + count = omega arith in (
      omega arith,
      record { sound = run.sound; range = omega (arith, run.range); values = omega arith },
      record { sound = run.sound; range = omega (arith, run.range); values = rw rest (omega arith) },
    )

pub values-of-tile : (grid : Grid) → HasValuesOfItsTile grid
values-of-tile grid tile size run =
    let e : tile + 1 ≡ suc tile = omega arith in
    let whole : tile_start grid tile + size ≡ tile_start grid (suc tile) = run.values ∙ ap (tile_start grid) e in
    (omega (arith, run.range), omega (arith, whole, next-start grid tile))
