use Rattle.apv_scan.proofs.LengthLemmas.{length-run_word}
use Rattle.apv_scan.proofs.block.write.word_of_run.Goals as goal

pub returns-in-None : goal.returns-in-None
returns-in-None c = record {
  bits = c.encode_h.ensures.word;
  few = rw c.encode_h.ensures.word (length-run_word c.args.k c.args.run c.requires.k c.requires.run);
  next = c.run_parameter.ensures.parameter;
}
