use Rattle.apv_transform.proofs.Sums.{forward_from_mirrored}
use Rattle.apv_transform.proofs.pairs.column_frequencies.Goals as goal

pub returns : goal.returns
returns c =
    forward_from_mirrored 9 c.args.sums.now c.mirrored-mirrored.result c.even_frequencies.result c.odd_frequencies.result c.frequencies.result
    c.mirrored-mirrored.ensures.sums c.mirrored-mirrored.ensures.differences c.even_frequencies.ensures.value c.odd_frequencies.ensures.value
    c.frequencies.ensures.even c.frequencies.ensures.odd
