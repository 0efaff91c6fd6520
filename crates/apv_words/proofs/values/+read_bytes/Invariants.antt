use Rattle.std.proofs.Common.{length}
use Rattle.apv_words.proofs.values.+read_bytes.Given as goal

abbrev pub decreases-read_bytes : goal.decreases-read_bytes
decreases-read_bytes l = length l.bounds.now
