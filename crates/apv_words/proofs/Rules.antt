-- What `clap` makes of a table of options: the rules of its command, and which rule a name finds.
use Rattle.std.proofs.Common.{◌≡◌, ◌||◌, ℕ, Bool, true, false, cond, refl, ap, ap₂, List, [], ◌∷◌, map, Option, Some, None}
use Rattle.std.specs.Option.{option_map}
use Rattle.std.specs.Str.{bytes_eq}
use Rattle.std.proofs.lemmas.Slice.Eq.{bytes_eq-Decides}
use Rattle.clap.specs.Walk.{Rule, arg_by_id, arg_by_long}
use Rattle.clap.specs.Simple.{filled, filled_from}
use Rattle.apv_words.specs.Clap.{plain_rule, plain_rules}
use Rattle.apv_words.specs.Table.{OptionRow, Text, row_by_name, takes_value}

-- the rule of an option once `clap` has built the command
abbrev pub rule_at : Text → Bool → Rule
rule_at name takes = filled (plain_rule name takes)

abbrev pub rules_at : List OptionRow → List Rule
rules_at table = map (λ row. rule_at row.name (takes_value row.kind)) table

pub filled_rules : (i : ℕ) (table : List OptionRow) → filled_from i (plain_rules table) ≡ rules_at table
filled_rules i [] = refl
filled_rules i (row ∷ rows) = ap (λ rs. rule_at row.name (takes_value row.kind) ∷ rs) (filled_rules i rows)

-- the name of an option of the table finds its rule
pub known : (table : List OptionRow) (name : Text) (takes : Bool) → option_map (λ row. takes_value row.kind) (row_by_name table name) ≡ Some takes
    → (arg_by_long (rules_at table) name ≡ Some (rule_at name takes)) × (arg_by_id (rules_at table) name ≡ Some (rule_at name takes))
known [] name takes e = let bad : ◌≡◌ {A = Option Bool} None (Some takes) = e in (cc, cc)
known (row ∷ rows) name takes e = go (bytes_eq row.name name) refl e (known rows name takes)
  where
    go : (b : Bool) → bytes_eq row.name name ≡ b → option_map (λ r. takes_value r.kind) (cond b (Some row) (row_by_name rows name)) ≡ Some takes
        → (option_map (λ r. takes_value r.kind) (row_by_name rows name) ≡ Some takes
        → (arg_by_long (rules_at rows) name ≡ Some (rule_at name takes)) × (arg_by_id (rules_at rows) name ≡ Some (rule_at name takes)))
        → (cond (b || false) (Some (rule_at row.name (takes_value row.kind))) (arg_by_long (rules_at rows) name) ≡ Some (rule_at name takes))
        × (cond b (Some (rule_at row.name (takes_value row.kind))) (arg_by_id (rules_at rows) name) ≡ Some (rule_at name takes))
    go true is f rest =
        let same : row.name ≡ name = (bytes_eq-Decides row.name name).0 is in
        let kind : takes_value row.kind ≡ takes = cc in
        let rule : rule_at row.name (takes_value row.kind) ≡ rule_at name takes = ap₂ rule_at same kind in
        (ap Some rule, ap Some rule)
    go false is f rest = rest f
