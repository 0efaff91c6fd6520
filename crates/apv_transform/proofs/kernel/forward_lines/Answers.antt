use Rattle.apv_transform.proofs.Sums.{forward_from_halves}
use Rattle.apv_transform.proofs.kernel.forward_lines.Goals as goal

pub returns : goal.returns
returns c =
    forward_from_halves c.args.shift c.args.lines.now c.even_frequencies.result c.odd_frequencies.result c.frequencies.result
    c.even_frequencies.ensures.value c.odd_frequencies.ensures.value c.frequencies.ensures.even c.frequencies.ensures.odd
