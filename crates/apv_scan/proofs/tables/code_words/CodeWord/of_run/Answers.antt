use Rattle.std.proofs.Common.{arith}
use Rattle.apv_scan.proofs.LengthLemmas.{length-run_word}
use Rattle.apv_scan.proofs.tables.code_words.CodeWord.of_run.Goals as goal

pub of-requires-clause-few : goal.of-requires-clause-few
of-requires-clause-few c =
    let few = length-run_word c.args.k c.args.run c.requires.k c.requires.run in
    rw c.encode_h.ensures.word (omega (arith, few))
