use Rattle.std.proofs.Common.{◌≡◌, length}
use Rattle.apv_enc.proofs.PartWriteLemmas.{AreListedSoFar}
use Rattle.apv_enc.proofs.unit.entries.entries_of.Given as goal

abbrev pub invariant-loop-index : goal.invariant-loop-index
invariant-loop-index l = record { four : length l.entries ≡ 4; listed : AreListedSoFar l.kinds l.tracks l.index l.entries }
