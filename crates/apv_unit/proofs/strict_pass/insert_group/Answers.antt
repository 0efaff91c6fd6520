use Rattle.std.proofs.Common.{arith}
use Rattle.apv_unit.proofs.StrictGroups.{group-tested, group-set}
use Rattle.apv_unit.proofs.strict_pass.insert_group.Goals as goal

pub returns-clause-was : goal.returns-clause-was
returns-clause-was c = group-tested c.args.groups.now c.from-word.result c.args.group c.from-word.ensures

pub returns-clause-now : goal.returns-clause-now
returns-clause-now c other = group-set c.args.groups.now c.from-word.result c.args.group other c.from-word.ensures (omega (arith, c.from-word.ensures))
