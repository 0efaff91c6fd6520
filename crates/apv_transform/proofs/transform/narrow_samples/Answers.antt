use Rattle.apv_transform.proofs.Blocks.{rows_make}
use Rattle.apv_transform.proofs.transform.narrow_samples.Goals as goal

pub returns : goal.returns
returns c =
    rows_make c.eight.result c.block_of_samples.result c.eight.ensures _ c.narrow_row.ensures c.narrow_row-2.ensures c.narrow_row-3.ensures c.narrow_row-4.ensures c.narrow_row-5.ensures c.narrow_row-6.ensures c.narrow_row-7.ensures c.narrow_row-8.ensures c.block_of_samples.ensures
