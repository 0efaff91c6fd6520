use Rattle.std.proofs.Common.{◌-◌}
use Rattle.apv_unit.proofs.AuInfoLemmas.{InEntries}
use Rattle.apv_unit.proofs.au_info.after_fields.Given as goal

-- up to the entries that are left the fields break no rule
abbrev pub invariant-loop : goal.invariant-loop
invariant-loop l = InEntries l.body (l.count - l.counter) l.reader.left
