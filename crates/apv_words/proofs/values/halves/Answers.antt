use Rattle.apv_words.proofs.NumberLemmas.{halves_are}
use Rattle.apv_words.proofs.values.halves.Goals as goal

pub returns : goal.returns
returns c = halves_are c.args.separator c.args.text.now c.split_once.result c.split_once.ensures.cases c.requires
