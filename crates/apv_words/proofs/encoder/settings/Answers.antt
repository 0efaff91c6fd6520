use Rattle.std.proofs.Common.{arith}
use Rattle.apv_words.specs.Encoder.{enc_table}
use Rattle.apv_words.proofs.RowLemmas.{good_at}
use Rattle.apv_words.proofs.encoder.settings.Goals as goal

pub number_at-requires : goal.number_at-requires
number_at-requires c = good_at enc_table c.args.options.now c.requires.rows c.requires.sound 0 (omega arith)

pub number_at-requires-2 : goal.number_at-requires-2
number_at-requires-2 c = good_at enc_table c.args.options.now c.requires.rows c.requires.sound 4 (omega arith)

pub number_at-requires-3 : goal.number_at-requires-3
number_at-requires-3 c = good_at enc_table c.args.options.now c.requires.rows c.requires.sound 5 (omega arith)

pub number_at-requires-4 : goal.number_at-requires-4
number_at-requires-4 c = good_at enc_table c.args.options.now c.requires.rows c.requires.sound 7 (omega arith)

pub level_at-requires : goal.level_at-requires
level_at-requires c = good_at enc_table c.args.options.now c.requires.rows c.requires.sound 9 (omega arith)

pub number_or-requires : goal.number_or-requires
number_or-requires c = good_at enc_table c.args.options.now c.requires.rows c.requires.sound 10 (omega arith)

pub colour_at-requires : goal.colour_at-requires
colour_at-requires c = good_at enc_table c.args.options.now c.requires.rows c.requires.sound 22 (omega arith)

pub number_at-requires-5 : goal.number_at-requires-5
number_at-requires-5 c = good_at enc_table c.args.options.now c.requires.rows c.requires.sound 29 (omega arith)

pub number_at-requires-6 : goal.number_at-requires-6
number_at-requires-6 c = good_at enc_table c.args.options.now c.requires.rows c.requires.sound 30 (omega arith)

pub number_at-requires-7 : goal.number_at-requires-7
number_at-requires-7 c = good_at enc_table c.args.options.now c.requires.rows c.requires.sound 33 (omega arith)

pub number_or-requires-2 : goal.number_or-requires-2
number_or-requires-2 c = good_at enc_table c.args.options.now c.requires.rows c.requires.sound 36 (omega arith)
