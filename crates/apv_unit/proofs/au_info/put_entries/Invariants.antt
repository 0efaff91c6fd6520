use Rattle.std.proofs.Common.{◌≡◌, ◌*◌, length, take}
use Rattle.std.specs.List.{flat_map}
use Rattle.apv_unit.specs.AuInfo.{entry_bytes}
use Rattle.apv_unit.proofs.au_info.put_entries.Given as goal

-- the entries so far are written
abbrev pub invariant-loop-index : goal.invariant-loop-index
invariant-loop-index l = record {
  size : length l.out ≡ 16 * length l.initial.entries;
  written : take (16 * l.index) l.out ≡ flat_map entry_bytes (take l.index l.initial.entries);
}
