-- Why words give no settings.
use Rattle.apv_base.specs.declared.options.UsageKind.{UsageKind}
use Rattle.apv_base.specs.declared.options.WordsEnd.{WordsEnd}
use Rattle.apv_base.specs.declared.options.WordsEnd.TheVariants.{Usage, Memory}

-- a refusal of words is one of these; memory may run out at any words
abbrev pub Refuses : (UsageKind → Type 0) → WordsEnd → Type 0
Refuses kinds (Usage kind) = kinds kind
Refuses kinds Memory = Unit {0}
