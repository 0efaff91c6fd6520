-- What `clap` has found of the options of a table.
use Rattle.std.specs.Prelude.{◌≡◌, Bool, true, false, List, Option, Some, None, option_and_then}
use Rattle.std.specs.Prelude.{if◌then◌else◌, find, option_map}
use Rattle.clap.specs.Matches.{first_value, found_of, matched_of}
use Rattle.clap.specs.declared.parser.matches.ValueSource.{ValueSource}
use Rattle.clap.specs.declared.parser.matches.ValueSource.TheVariants.{CommandLine}
use Rattle.apv_base.specs.declared.options.Opt.{Opt}
use Rattle.apv_base.specs.declared.options.UsageKind.{UsageKind}
use Rattle.apv_words.specs.Cut.{Cut, Pair}
use Rattle.apv_words.specs.Fault.{fault_by, holds}
use Rattle.apv_words.specs.Given.{is_given, value_of}
use Rattle.apv_words.specs.Table.{OptionRow, RowCondition, Text, row_by_name, takes_value}
use Rattle.apv_words.specs.View.{table_view}
use Rattle.apv_words.specs.declared.reading.Options.{Options}

abbrev pub value_by : Option OptionRow → Option Text → Option Text
value_by None value = None
value_by (Some row) value = if takes_value row.kind then value else None

-- the table of the options
abbrev pub table_in : Options → List OptionRow
table_in options = table_view options.table.now

-- the value of the option of that name
abbrev pub value_in : Options → Text → Option Text
value_in options name =
    value_by (row_by_name (table_in options) name) (first_value (found_of options.matches) name)

abbrev pub is_from_words : Option ValueSource → Bool
is_from_words (Some CommandLine) = true
is_from_words _ = false

-- the option of that name is given
abbrev pub given_in : Options → Text → Bool
given_in options name = is_from_words
    (option_and_then (λ matched. matched.source) (matched_of (found_of options.matches) name))

-- what holds of a row or not, by the options, and the first option of the table of which it holds
abbrev pub RowTest : Type 0
RowTest = OptionRow → Bool

abbrev pub holds_in : ((Text → Option Text) → (Text → Bool) → RowTest) → Options → RowTest
holds_in test options = test (value_in options) (given_in options)

abbrev pub first_in : ((Text → Option Text) → (Text → Bool) → RowTest) → Options → Option Opt
first_in test options =
    option_map (λ row. row.opt) (find (holds_in test options) (table_in options))

-- the condition holds for the option of that name
abbrev pub condition_in : Options → Text → RowCondition → Bool
condition_in options name condition = holds (value_in options) (given_in options) name condition

-- the fault of the options
abbrev pub fault_in : Options → Option UsageKind
fault_in options = fault_by (value_in options) (given_in options) (table_in options)

-- the options are those into which the words are cut
pub record HasPairs (words : List Text) (options : Options) (pairs : List Pair) : Type 0 where
  pub cut : Cut (table_in options) words pairs
  pub values : (name : Text) → value_in options name ≡ value_of pairs name
  pub given : (name : Text) → given_in options name ≡ is_given pairs name
