use Rattle.std.proofs.Common.{◌≤◌, length, ap, arith, length-append}
use Rattle.std.specs.Fmt.{decimal}
use Rattle.std.proofs.lemmas.Fmt.{length-decimal-le}
use Rattle.apv_video.proofs.line.Line.push_number.Goals as goal

pub push_digits-requires : goal.push_digits-requires
push_digits-requires c =
    let few : length (decimal c.args.number) ≤ 10 = length-decimal-le 10 c.args.number (omega arith) (omega arith) (omega arith) in
    omega (arith, few, c.requires)

pub returns-clause-size : goal.returns-clause-size
returns-clause-size c =
    let few : length (decimal c.args.number) ≤ 10 = length-decimal-le 10 c.args.number (omega arith) (omega arith) (omega arith) in
    omega (arith, few, ap length c.push_digits.ensures, length-append c.args.self.now (decimal c.args.number))
