use Rattle.std.proofs.Common.{◌∙◌}
use Rattle.apv_scan.proofs.ReadingLemmas.{one_bit}
use Rattle.apv_scan.proofs.elements.words.sign_word.Goals as goal

pub returns : goal.returns
returns c = rw c.from.ensures at c.new.ensures.bits ∙ one_bit c.args.sign c.requires
