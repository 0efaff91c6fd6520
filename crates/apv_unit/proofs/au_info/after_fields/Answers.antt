use Rattle.std.proofs.Common.{◌+◌, ◌-◌, refl, ap, arith}
use Rattle.std.proofs.lemmas.Result.{err_from_is_err_and}
use Rattle.apv_bits.specs.Reader.{Unread}
use Rattle.apv_unit.proofs.AuInfoLemmas.{fields-short, entries-start, entries-next, entries-break, last-breaks, last-inside, fields-pass}
use Rattle.apv_unit.proofs.au_info.after_fields.Goals as goal

pub returns-in_default : goal.returns-in_default
returns-in_default c = fields-short c.args.body.now c.new-reader.result.left (ap (λ (u : Unread). u.left) c.new-reader.ensures) (c.in_default.ensures.ended.0 refl)

pub loop-init : goal.loop-init
loop-init c =
    entries-start c.args.body.now c.new-reader.result.left c.read.new.self.left c.in-Ok.count (c.in-Ok.count - 0) (ap (λ (u : Unread). u.left) c.new-reader.ensures)
    c.in-Ok.ensures.ok.0 c.in-Ok.ensures.ok.1.prefix (omega arith)

pub returns-in_err-pass_entry : goal.returns-in_err-pass_entry
returns-in_err-pass_entry c =
    let p = err_from_is_err_and c.from_residual.result c.from_residual.ensures.1 in
    rw (p.1, p.2)
    (entries-break c.args.body.now (c.in-Ok.count - c.loop.counter) (c.in-Ok.count - (c.loop.counter + 1)) c.loop.reader.left c.in_err-pass_entry.field-0.0 (omega arith)
    c.loop.invariant c.in_err-pass_entry.ensures)

pub loop-preserved : goal.loop-preserved
loop-preserved c =
    entries-next c.args.body.now (c.in-Ok.count - c.loop.counter) (c.in-Ok.count - (c.loop.counter + 1)) c.loop.reader.left c.pass_entry.new.reader.left (omega (arith, c.loop-test.true))
    c.loop.invariant c.in_ok-pass_entry.ensures

pub returns-in_err-pass_reserved : goal.returns-in_err-pass_reserved
returns-in_err-pass_reserved c =
    let p = err_from_is_err_and c.from_residual-in_err-pass_reserved.result c.from_residual-in_err-pass_reserved.ensures.1 in
    rw (p.1, p.2)
    (last-breaks c.args.body.now (c.in-Ok.count - c.loop.counter) c.loop.reader.left c.in_err-pass_reserved.field-0.0 (omega arith) c.loop.invariant c.in_err-pass_reserved.ensures)

pub overflow_sub-body : goal.overflow_sub-body
overflow_sub-body c =
    last-inside c.args.body.now (c.in-Ok.count - c.loop.counter) c.loop.reader.left c.pass_reserved.new.reader.left c.left.result c.loop.invariant c.in_ok-pass_reserved.ensures c.left.ensures.left

pub returns : goal.returns
returns c =
    fields-pass c.args.body.now (c.in-Ok.count - c.loop.counter) c.loop.reader.left c.pass_reserved.new.reader.left c.split_at.result.1.now c.left.result (omega arith)
    c.loop.invariant c.in_ok-pass_reserved.ensures c.left.ensures.left c.split_at.ensures.back
