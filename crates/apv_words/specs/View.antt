-- The table of the code, as the definitions see it.
use Rattle.std.specs.Prelude.{ℕ, List, Option, map, option_map}
use Rattle.std.specs.Borrow.{Bor}
use Rattle.apv_words.specs.Table.{Choice, Flag, Name, NameOrDash, Number, Numbers, OptionRow, Ratio}
use Rattle.apv_words.specs.Table.{Signed, ValueKind}
use Rattle.apv_words.specs.Table.{Below, HasValue, LacksValue, With, Without}
use Rattle.apv_words.specs.Table.{Optional, Required, RequiredWhere}
use Rattle.apv_words.specs.Table.{RowCondition, RowRequirement}
use Rattle.apv_words.specs.declared.table.Condition.{Condition}
use Rattle.apv_words.specs.declared.table.Condition.TheVariants as conditions
use Rattle.apv_words.specs.declared.table.Requirement.{Requirement}
use Rattle.apv_words.specs.declared.table.Requirement.TheVariants as requirements
use Rattle.apv_words.specs.declared.table.Kind.{Kind}
use Rattle.apv_words.specs.declared.table.Kind.TheVariants as kinds
use Rattle.apv_words.specs.declared.table.OptRow.{OptRow}

-- the text after a reference
abbrev pub text_of : Option (Bor (List ℕ)) → Option (List ℕ)
text_of text = option_map (λ text. text.now) text

-- the texts after references
abbrev pub texts_of : List (Bor (List ℕ)) → List (List ℕ)
texts_of texts = map (λ text. text.now) texts

abbrev pub kind_view : Kind → ValueKind
kind_view kinds.Flag = Flag
kind_view kinds.Name = Name
kind_view kinds.NameOrDash = NameOrDash
kind_view (kinds.Number bounds) = Number bounds
kind_view (kinds.Ratio bounds) = Ratio bounds
kind_view (kinds.List bounds) = Numbers bounds.now
kind_view (kinds.Signed size) = Signed size
kind_view (kinds.Choice texts) = Choice (texts_of texts.now)

abbrev pub condition_view : Condition → RowCondition
condition_view (conditions.With other) = With other.now
condition_view (conditions.Without other) = Without other.now
condition_view (conditions.HasValue other text) = HasValue other.now text.now
condition_view (conditions.LacksValue other text) = LacksValue other.now text.now
condition_view (conditions.Below other) = Below other.now

abbrev pub conditions_view : List Condition → List RowCondition
conditions_view all = map condition_view all

abbrev pub requirement_view : Requirement → RowRequirement
requirement_view requirements.Optional = Optional
requirement_view requirements.Required = Required
requirement_view (requirements.RequiredWhere all) = RequiredWhere (conditions_view all.now)

abbrev pub row_view : OptRow → OptionRow
row_view row = record {
  opt = row.opt;
  name = row.name.now;
  kind = kind_view row.kind;
  requirement = requirement_view row.requirement;
  clashes = conditions_view row.clashes.now;
}

abbrev pub table_view : List OptRow → List OptionRow
table_view table = map row_view table
