use Rattle.std.proofs.Common.{ℕ, [], get_or}
use Rattle.apv_transform.proofs.Stored.{filled_first, filled_more}
use Rattle.apv_transform.proofs.rows.block_of_samples.Goals as goal

pub returns : goal.returns
returns c =
    let F = λ (y : ℕ) (x : ℕ). get_or (get_or c.args.rows.now y []) x 0 in
    let rows_1 = filled_first 0 F c.set_sample_row.new.samples c.set_sample_row.ensures.written in
    let rows_2 = filled_more 0 F 1 c.set_sample_row.new.samples c.set_sample_row-2.new.samples rows_1 c.set_sample_row-2.ensures.kept c.set_sample_row-2.ensures.written in
    let rows_3 = filled_more 0 F 2 c.set_sample_row-2.new.samples c.set_sample_row-3.new.samples rows_2 c.set_sample_row-3.ensures.kept c.set_sample_row-3.ensures.written in
    let rows_4 = filled_more 0 F 3 c.set_sample_row-3.new.samples c.set_sample_row-4.new.samples rows_3 c.set_sample_row-4.ensures.kept c.set_sample_row-4.ensures.written in
    let rows_5 = filled_more 0 F 4 c.set_sample_row-4.new.samples c.set_sample_row-5.new.samples rows_4 c.set_sample_row-5.ensures.kept c.set_sample_row-5.ensures.written in
    let rows_6 = filled_more 0 F 5 c.set_sample_row-5.new.samples c.set_sample_row-6.new.samples rows_5 c.set_sample_row-6.ensures.kept c.set_sample_row-6.ensures.written in
    let rows_7 = filled_more 0 F 6 c.set_sample_row-6.new.samples c.set_sample_row-7.new.samples rows_6 c.set_sample_row-7.ensures.kept c.set_sample_row-7.ensures.written in
    let rows_8 = filled_more 0 F 7 c.set_sample_row-7.new.samples c.set_sample_row-8.new.samples rows_7 c.set_sample_row-8.ensures.kept c.set_sample_row-8.ensures.written in
    rows_8
