use Rattle.apv_transform.proofs.pairs.odd_sums.Goals as goal

pub returns : goal.returns
returns c = record { value = c.odd_rows.ensures.value; bound = c.odd_rows.ensures.bound }
