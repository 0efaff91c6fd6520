use Rattle.std.proofs.Common.{◌≡◌, ◌+◌, ◌*◌, ◌/◌, ◌%◌, min, ap, ap₂, ◌∙◌, arith}
use Rattle.apv_base.specs.model.CodeWord.{code_word}
use Rattle.apv_scan.proofs.LengthLemmas.{length-run_word}
use Rattle.apv_scan.proofs.tables.code_words.Lent.run.Goals as goal

pub returns : goal.returns
returns c =
    let entry = c.args.self.runs_are.each (4 * c.args.run + c.args.k) (omega arith) in
    let row : min 2 ((4 * c.args.run + c.args.k) % 4) ≡ c.args.k = omega arith in
    let run : (4 * c.args.run + c.args.k) / 4 ≡ c.args.run = omega arith in
    let bits = c.word.ensures.bits ∙ entry.word ∙ ap₂ code_word row run in
    record {
      bits = bits;
      few = rw bits (length-run_word c.args.k c.args.run c.requires.k c.requires.run);
      next = c.from.ensures ∙ entry.next ∙ ap (λ r. min 2 (r / 4)) run;
    }
