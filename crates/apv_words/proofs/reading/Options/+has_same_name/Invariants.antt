use Rattle.std.proofs.Common.{length}
use Rattle.apv_words.proofs.reading.Options.+has_same_name.Given as goal

abbrev pub decreases-has_same_name : goal.decreases-has_same_name
decreases-has_same_name l = length l.rows.now
