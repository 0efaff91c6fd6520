use Rattle.std.proofs.Common.{◌∙◌, ◌≡◌, arith, w8, to_z, of_z}
use Rattle.std.proofs.lemmas.Int.{to_z-of_z}
use Rattle.apv_words.specs.Encoder.{enc_table}
use Rattle.apv_words.proofs.RowLemmas.{good_at}
use Rattle.apv_words.proofs.encoder.coding_at.Goals as goal

pub number_at-requires : goal.number_at-requires
number_at-requires c = good_at enc_table c.args.options.now c.requires.rows c.requires.sound 11 (omega arith)

pub number_at-requires-2 : goal.number_at-requires-2
number_at-requires-2 c = good_at enc_table c.args.options.now c.requires.rows c.requires.sound 12 (omega arith)

pub number_at-requires-3 : goal.number_at-requires-3
number_at-requires-3 c = good_at enc_table c.args.options.now c.requires.rows c.requires.sound 13 (omega arith)

pub number_at-requires-4 : goal.number_at-requires-4
number_at-requires-4 c = good_at enc_table c.args.options.now c.requires.rows c.requires.sound 14 (omega arith)

pub offset_at-requires : goal.offset_at-requires
offset_at-requires c = good_at enc_table c.args.options.now c.requires.rows c.requires.sound 15 (omega arith)

pub offset_at-requires-2 : goal.offset_at-requires-2
offset_at-requires-2 c = good_at enc_table c.args.options.now c.requires.rows c.requires.sound 16 (omega arith)

pub offset_at-requires-3 : goal.offset_at-requires-3
offset_at-requires-3 c = good_at enc_table c.args.options.now c.requires.rows c.requires.sound 17 (omega arith)

pub matrix_at-requires : goal.matrix_at-requires
matrix_at-requires c = good_at enc_table c.args.options.now c.requires.rows c.requires.sound 18 (omega arith)

pub matrix_at-requires-2 : goal.matrix_at-requires-2
matrix_at-requires-2 c = good_at enc_table c.args.options.now c.requires.rows c.requires.sound 19 (omega arith)

pub matrix_at-requires-3 : goal.matrix_at-requires-3
matrix_at-requires-3 c = good_at enc_table c.args.options.now c.requires.rows c.requires.sound 20 (omega arith)

pub matrix_at-requires-4 : goal.matrix_at-requires-4
matrix_at-requires-4 c = good_at enc_table c.args.options.now c.requires.rows c.requires.sound 21 (omega arith)

pub number_at-requires-5 : goal.number_at-requires-5
number_at-requires-5 c = good_at enc_table c.args.options.now c.requires.rows c.requires.sound 23 (omega arith)

pub number_at-requires-6 : goal.number_at-requires-6
number_at-requires-6 c = good_at enc_table c.args.options.now c.requires.rows c.requires.sound 24 (omega arith)

pub returns : goal.returns
returns c =
    let first : to_z w8 (of_z w8 c.offset_at.result) ≡ c.offset_at.result = grind (arith, to_z-of_z) in
    let second : to_z w8 (of_z w8 c.offset_at-2.result) ≡ c.offset_at-2.result = grind (arith, to_z-of_z) in
    let third : to_z w8 (of_z w8 c.offset_at-3.result) ≡ c.offset_at-3.result = grind (arith, to_z-of_z) in
    λ i. record {
      qp = c.number_at.ensures i;
      limit = c.number_at-2.ensures i;
      qp_min = c.number_at-3.ensures i;
      qp_max = c.number_at-4.ensures i;
      qp_offset_1 = (first ∙ c.offset_at.ensures) i;
      qp_offset_2 = (second ∙ c.offset_at-2.ensures) i;
      qp_offset_3 = (third ∙ c.offset_at-3.ensures) i;
      matrix_0 = c.matrix_at.ensures i;
      matrix_1 = c.matrix_at-2.ensures i;
      matrix_2 = c.matrix_at-3.ensures i;
      matrix_3 = c.matrix_at-4.ensures i;
      tile_width = c.number_at-5.ensures i;
      tile_height = c.number_at-6.ensures i;
    }
