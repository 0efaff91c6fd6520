use Rattle.apv_hv.proofs.ReadingLemmas.{no_value_is}
use Rattle.apv_hv.proofs.reading.read_h_slowly.Goals as goal

pub returns-in_default : goal.returns-in_default
returns-in_default c =
    no_value_is c.args.k c.args.limit c.args.reader c.ahead-ahead.result c.read_word-read.new.reader c.read_word-read.result c.ahead-ahead.ensures c.in_default.not-Value c.read_word-read.ensures
