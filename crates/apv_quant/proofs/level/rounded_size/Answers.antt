use Rattle.std.proofs.Common.{◌*◌, ◌^◌, arith}
use Rattle.std.proofs.Math.Nat.{mod-le}
use Rattle.apv_quant.proofs.NearestLemmas.{size_few}
use Rattle.apv_quant.proofs.level.rounded_size.Goals as goal

pub returns-clause-few : goal.returns-clause-few
returns-clause-few c =
    let few = size_few c.from.result c.args.shift (omega arith) c.requires.shift_high in
    omega (arith, mod-le (c.from.result * 2 ^ c.args.shift) (2 ^ 32))
