use Rattle.std.proofs.Common.{◌≡◌, drop}
use Rattle.std.specs.List.{list_any}
use Rattle.apv_words.specs.Options.{condition_in}
use Rattle.apv_words.specs.View.{conditions_view}
use Rattle.apv_words.proofs.reading.Options.holds_any.Given as goal

abbrev pub invariant-loop-condition : goal.invariant-loop-condition
invariant-loop-condition l =
    list_any (condition_in l.self l.name) (conditions_view (drop l.condition-index l.conditions))
    ≡ list_any (condition_in l.self l.name) (conditions_view l.conditions)
