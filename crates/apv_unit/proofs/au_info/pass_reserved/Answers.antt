use Rattle.apv_unit.specs.AuInfo.{short}
use Rattle.apv_unit.proofs.AuInfoLemmas.{reserved-zero, reserved-set, reserved-cut}
use Rattle.apv_unit.proofs.au_info.pass_reserved.Goals as goal
use Rattle.std.proofs.Common.{arith, refl}

pub returns-then-left-from : goal.returns-then-left-from
returns-then-left-from c = short (omega (arith, c.if-left-from.true, c.left.ensures.left))

pub returns-in-Ok-eq0 : goal.returns-in-Ok-eq0
returns-in-Ok-eq0 c =
    reserved-zero c.args.free c.args.reserved c.in-Ok-eq0.field-0 c.args.reader.now.left c.skip.new.self.left c.read.new.self.left (omega (arith, c.if-left-from.false, c.left.ensures.left))
    c.skip.ensures.prefix c.in-Ok-eq0.ensures.ok.0 c.in-Ok-eq0.ensures.ok.1.prefix c.in-Ok-eq0.field-0-test

pub returns-in-Ok : goal.returns-in-Ok
returns-in-Ok c =
    reserved-set c.args.free c.args.reserved c.in-Ok.field-0 c.args.reader.now.left c.skip.new.self.left c.read.new.self.left (omega (arith, c.if-left-from.false, c.left.ensures.left))
    c.skip.ensures.prefix c.in-Ok.ensures.ok.0 c.in-Ok.ensures.ok.1.prefix c.in-Ok.field-0-test.1

pub returns-in-Err : goal.returns-in-Err
returns-in-Err c =
    reserved-cut c.args.free c.args.reserved c.args.reader.now.left c.skip.new.self.left (omega (arith, c.if-left-from.false, c.left.ensures.left)) c.skip.ensures.prefix (c.in-Err.ensures.ended.0 refl)
