-- How many macroblocks and blocks a tile has.
use Rattle.std.proofs.Common.{ℕ, ◌+◌, ◌*◌, ◌≤◌, arith}
use Rattle.std.proofs.lemmas.Nat.{mul-le}
use Rattle.apv_base.specs.model.Format.{macroblock_columns, macroblock_rows, MAX_MACROBLOCKS}
use Rattle.apv_base.specs.model.Grid.{Grid, IsSoundGrid}

-- a rectangle in the frame has no more macroblocks than a frame can have
pub macroblocks-few : (grid : Grid) (x y w h : ℕ) → IsSoundGrid grid → x + w ≤ macroblock_columns grid.format → y + h ≤ macroblock_rows grid.format
    → w * h ≤ MAX_MACROBLOCKS
macroblocks-few grid x y w h sound wide high =
    omega (arith, sound.format.few, mul-le w h (macroblock_columns grid.format) (macroblock_rows grid.format) (omega (arith, wide)) (omega (arith, high)))

-- and no more than four times as many blocks
pub blocks-few : (macroblocks each : ℕ) → macroblocks ≤ MAX_MACROBLOCKS → each ≤ 4 → macroblocks * each ≤ 4 * MAX_MACROBLOCKS
blocks-few macroblocks each few less = omega (arith, mul-le macroblocks each MAX_MACROBLOCKS 4 few less)
