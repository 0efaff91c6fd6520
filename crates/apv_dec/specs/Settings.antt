-- What the words of a command line ask for.
use Rattle.std.specs.Prelude.{◌≡◌, ℕ, List, String, map, string_bytes, Option, None, option_and_then}
use Rattle.std.specs.declared.alloc.Global.{Global}
use Rattle.apv_base.specs.declared.exits.Exit.{Exit}
use Rattle.apv_base.specs.declared.exits.Exit.TheVariants.{Usage}
use Rattle.apv_base.specs.declared.options.UsageKind.{UsageKind}
use Rattle.apv_base.specs.declared.slot.Slot.TheVariants.{Input, Output, MetaOut}
use Rattle.apv_run.specs.Names.{Names}
use Rattle.apv_words.specs.Decoder.{HasSettings, dec_table}
use Rattle.apv_words.specs.Fault.{HasFault}
use Rattle.apv_words.specs.declared.decoder.DecSettings.{DecSettings}

-- the words are refused by that fault
abbrev pub HaveFault : List (String Global) → UsageKind → Type 0
HaveFault words kind = HasFault dec_table (map string_bytes words) kind

-- where the words give settings, the claim is true of them
abbrev pub WithSettings : List (String Global) → (DecSettings → Type 0) → Type 0
WithSettings words claim =
    (settings : DecSettings) → HasSettings dec_table (map string_bytes words) settings → claim settings

-- where the words have a fault, the claim is true of it
abbrev pub WithFault : List (String Global) → (UsageKind → Type 0) → Type 0
WithFault words claim = (kind : UsageKind) → HaveFault words kind → claim kind

-- no words are refused but by the fault that they have
abbrev pub OnlyByFault : List (String Global) → Exit → Type 0
OnlyByFault words exit = (kind : UsageKind) → exit ≡ Usage kind → HaveFault words kind

-- the names that the settings give to slots
abbrev pub name_of : DecSettings → Names
name_of settings Input = settings.input
name_of settings Output = settings.output
name_of settings MetaOut = settings.metadata
name_of settings _ = None

-- the content of the input, where it is known what files hold
abbrev pub input_content : DecSettings → (List ℕ → Option (List ℕ)) → Option (List ℕ)
input_content settings held = option_and_then held settings.input
