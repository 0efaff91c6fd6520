use Rattle.apv_transform.proofs.Sums.{inverse_from_halves}
use Rattle.apv_transform.proofs.kernel.inverse_lines.Goals as goal

pub returns : goal.returns
returns c =
    inverse_from_halves c.args.shift c.args.lines.now c.even_sums.result c.odd_sums.result c.positions.result
    c.even_sums.ensures.value c.odd_sums.ensures.value c.positions.ensures.near c.positions.ensures.far
