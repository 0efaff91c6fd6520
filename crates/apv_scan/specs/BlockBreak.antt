-- The rule that a break of a block names.
use Rattle.apv_base.specs.declared.rules.Rule.{Rule}
use Rattle.apv_base.specs.declared.rules.Rule.TheVariants.{V27, V28, V29, V30}
use Rattle.apv_scan.specs.declared.block_break.BlockBreak.{BlockBreak}
use Rattle.apv_scan.specs.declared.block_break.BlockBreak.TheVariants.{Ends, Over, Run, Level}

-- the rule that is broken
abbrev pub rule_of : BlockBreak → Rule
rule_of Ends = V27
rule_of Over = V28
rule_of Run = V29
rule_of Level = V30
