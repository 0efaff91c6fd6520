use Rattle.std.proofs.Common.{◌≡◌, ◌+◌, ◌*◌, ◌-◌, ◌<◌, ◌≤◌, ℕ, get_or}
use Rattle.apv_grid.specs.Buffer.{samples_in}
use Rattle.apv_grid.proofs.bands.read_band.Given as goal

-- the columns so far are copied
abbrev pub invariant-loop-done : goal.invariant-loop-done
invariant-loop-done l = record {
  inside : l.done ≤ l.width;
  read : (row x : ℕ) → row < l.rows → x < l.done → get_or l.out (row * l.width + x) 0 ≡ samples_in l.grid l.values l.comp x (l.y + row);
}

abbrev pub decreases-loop-done : goal.decreases-loop-done
decreases-loop-done l = l.width - l.done
