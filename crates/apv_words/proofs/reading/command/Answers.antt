use Rattle.std.proofs.Common.{◌≡◌, ◌∙◌, ◌+◌, ◌<◌, ℕ, List, [], ◌∷◌, ◌++◌, sym, ap, ap₂, arith, codes, length, get_or, take}
use Rattle.std.proofs.lemmas.List.{map-append, take_more}
use Rattle.clap.specs.Simple.{with_rule}
use Rattle.apv_words.specs.Clap.{app_with, plain_rule, plain_rules}
use Rattle.apv_words.specs.Table.{OptionRow, takes_value}
use Rattle.apv_words.specs.View.{kind_view, row_view, table_view}
use Rattle.apv_words.specs.declared.table.OptRow.{OptRow}
use Rattle.apv_words.proofs.reading.command.Goals as goal

rules_more : (table : List OptRow) (i : ℕ) (d : OptRow) → i < length table → plain_rules (table_view (take (i + 1) table))
    ≡ plain_rules (table_view (take i table)) ++ plain_rule (get_or table i d).name.now (takes_value (kind_view (get_or table i d).kind)) ∷ []
rules_more table i d lt =
    ap (λ (rows : List OptRow). plain_rules (table_view rows)) (take_more table i d lt)
    ∙ ap plain_rules (map-append row_view (take i table) (get_or table i d ∷ []))
    ∙ map-append (λ (row : OptionRow). plain_rule row.name (takes_value row.kind)) (table_view (take i table)) (row_view (get_or table i d) ∷ [])

pub loop-row-preserved : goal.loop-row-preserved
loop-row-preserved c =
    c.in_ok-command.ensures.shape c.argument.ensures.local ∙ ap₂ with_rule c.loop-row.invariant c.argument.ensures.rule
    ∙ ap (app_with (codes "apv")) (sym (rules_more c.args.table.now c.loop-row.row-index _ (omega arith)))
