-- What the laws say.
use Rattle.std.specs.Prelude.{◌≡◌, ◌⊎◌, List}
use Rattle.apv_base.specs.declared.options.UsageKind.{UsageKind}
use Rattle.apv_words.specs.Cut.{Cut, NoCut, Pair}
use Rattle.apv_words.specs.Fault.{HasFault}
use Rattle.apv_words.specs.Settings.{Gives, SettingsBy}
use Rattle.apv_words.specs.Table.{OptionRow, Text}

abbrev pub HasOneCut : List OptionRow → List Text → Type 0
HasOneCut table words =
    (one other : List Pair) → Cut table words one → Cut table words other → one ≡ other

abbrev pub HasSomeCut : List OptionRow → List Text → Type 0
HasSomeCut table words = ((pairs : List Pair) × Cut table words pairs) ⊎ NoCut table words

abbrev pub HasOneFault : List OptionRow → List Text → Type 0
HasOneFault table words =
    (one other : UsageKind) → HasFault table words one → HasFault table words other → one ≡ other

-- by the options of the table, for the settings of any program
abbrev pub HasOneSettings : {S : Type 0} → SettingsBy S → List OptionRow → List Text → Type 0
HasOneSettings {S} by table words = ((one other : S) → Gives by table words one
    → Gives by table words other → one ≡ other)
    × ((settings : S) (kind : UsageKind) → Gives by table words settings
    → HasFault table words kind → ⊥)

abbrev pub HasSettingsOrFault : {S : Type 0} → SettingsBy S → List OptionRow → List Text → Type 0
HasSettingsOrFault {S} by table words = ((settings : S) × Gives by table words settings)
    ⊎ ((kind : UsageKind) × HasFault table words kind)
