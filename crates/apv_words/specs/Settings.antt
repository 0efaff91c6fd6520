-- What words give by a table of options: settings by the value of each option and whether it is given.
use Rattle.std.specs.Prelude.{◌≡◌, Bool, List, filter, Option, None}
use Rattle.apv_words.specs.Cut.{Cut, Pair}
use Rattle.apv_words.specs.Fault.{fault_of}
use Rattle.apv_words.specs.Given.{is_given, value_of}
use Rattle.apv_words.specs.Table.{OptionRow, Text}

-- those rows of a table whose names pass the test, in its order
abbrev pub rows_of : (Text → Bool) → List OptionRow → List OptionRow
rows_of test all = filter (λ row. test row.name) all

-- the rows are rows of the table, in its order
abbrev pub HasRows : List OptionRow → List OptionRow → Type 0
HasRows all rows = (test : Text → Bool) × (rows ≡ rows_of test all)

-- the settings of a program by the value of each option and whether it is given
abbrev pub SettingsBy : Type 0 → Type 0
SettingsBy S = (Text → Option Text) → (Text → Bool) → S

-- the words give these settings by the options of the table
abbrev pub Gives : {S : Type 0} → SettingsBy S → List OptionRow → List Text → S → Type 0
Gives by table words settings = (pairs : List Pair) × Cut table words pairs
    × (fault_of table pairs ≡ None) × (settings ≡ by (value_of pairs) (is_given pairs))
