use Rattle.std.proofs.Common.{◌≡◌, drop}
use Rattle.apv_words.specs.Values.{is_choice}
use Rattle.apv_words.specs.View.{texts_of}
use Rattle.apv_words.proofs.values.is_choice.Given as goal

abbrev pub invariant-loop-choice : goal.invariant-loop-choice
invariant-loop-choice l = is_choice (texts_of (drop l.choice-index l.choices)) l.text ≡ is_choice (texts_of l.choices) l.text
