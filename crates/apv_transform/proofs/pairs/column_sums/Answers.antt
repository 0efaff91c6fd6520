use Rattle.apv_transform.proofs.LaneBits.{within_16}
use Rattle.apv_transform.proofs.Sums.{inverse_from_halves}
use Rattle.apv_transform.proofs.Passes.{Inverts, column_sums_are, column_sums_within}
use Rattle.apv_transform.proofs.pairs.column_sums.Goals as goal

pub returns : goal.returns
returns c =
    let block = c.args.rows.now in
    let result = c.positions.result in
    let are : Inverts block result 7 =
    inverse_from_halves 7 block c.even_sums.result c.odd_sums.result result c.even_sums.ensures.value c.odd_sums.ensures.value c.positions.ensures.near c.positions.ensures.far in
    record {
      value = column_sums_are block result are;
      bound = column_sums_within block result (λ u h. within_16 _ (c.requires u h)) are;
    }
