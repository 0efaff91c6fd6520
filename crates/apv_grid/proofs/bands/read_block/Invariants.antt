use Rattle.apv_grid.proofs.BandLemmas.{TakesSome}
use Rattle.apv_grid.proofs.bands.read_block.Given as goal

-- the rows so far are copied
abbrev pub invariant-loop-row : goal.invariant-loop-row
invariant-loop-row l = TakesSome l.values l.place l.row l.rows l.stride l.at l.count l.initial.out l.out
