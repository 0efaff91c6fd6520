use Rattle.std.proofs.Common.{List, ℕ, subst}
use Rattle.std.specs.Prelude.{SomeIff}
use Rattle.apv_base.specs.model.Quant.{IsMatrix}
use Rattle.apv_words.specs.Encoder.{matrix_of}
use Rattle.apv_words.proofs.EncoderLemmas.{matrix_made, matrix_sound}
use Rattle.apv_words.proofs.encoder.matrix_of.Goals as goal

pub returns : goal.returns
returns c =
    matrix_made c.of.result (matrix_of c.args.text.now) (subst (λ (values : List ℕ). SomeIff c.of.result (IsMatrix values) values) c.read_bytes.ensures c.of.ensures)
    (matrix_sound c.args.text.now c.requires)
