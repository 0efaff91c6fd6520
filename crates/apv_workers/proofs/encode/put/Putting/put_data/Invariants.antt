use Rattle.std.proofs.Common.{◌≡◌, length, take}
use Rattle.std.specs.List.{sum, concat}
use Rattle.apv_base.specs.model.Encode.{each}
use Rattle.apv_base.specs.model.Header.{grid_of}
use Rattle.apv_workers.specs.Lengths.{level_bytes}
use Rattle.apv_workers.proofs.encode.put.Putting.put_data.Given as goal

-- the components so far
abbrev pub invariant-loop-comp : goal.invariant-loop-comp
invariant-loop-comp l = record {
  len : length l.out ≡ sum l.lengths;
  place : l.place ≡ sum (take l.comp l.lengths);
  bytes : take l.place l.out ≡ concat (each l.comp (level_bytes (grid_of l.self.head.now.header) l.self.levels.now.values l.tile));
}
