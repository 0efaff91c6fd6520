use Rattle.std.proofs.Common.{◌≡◌, ◌*◌, take}
use Rattle.std.specs.List.{flat_map}
use Rattle.apv_base.specs.model.Bits.{be}
use Rattle.apv_header.proofs.tile_write.put_lengths.Given as goal

-- the numbers so far
abbrev pub invariant-loop-comp : goal.invariant-loop-comp
invariant-loop-comp l = take (4 * l.comp) l.out ≡ flat_map (be 4) (take l.comp l.lengths)
