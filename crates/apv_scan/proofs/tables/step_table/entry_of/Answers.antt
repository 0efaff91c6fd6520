use Rattle.std.proofs.Common.{◌*◌, ◌%◌, ◌^◌, ◌≤◌, arith}
use Rattle.std.proofs.lemmas.List.{length-take}
use Rattle.apv_base.specs.model.Bits.{bin}
use Rattle.apv_bits.proofs.WindowLemmas.{skipped}
use Rattle.apv_scan.proofs.TableLemmas.{top_prefix, entry_one, entry_two}
use Rattle.apv_scan.proofs.tables.step_table.entry_of.Goals as goal

pub returns-then-second-gt64 : goal.returns-then-second-gt64
returns-then-second-gt64 c =
    let prefix = top_prefix c.args.prefix (c.from.result * 2 ^ 53 % 2 ^ 64) (omega (arith, c.from.ensures)) in
    entry_one c.args.context (bin 11 c.args.prefix) c.move_of-first.result (rw prefix at c.move_of-first.ensures)

pub returns : goal.returns
returns c =
    let prefix = top_prefix c.args.prefix (c.from.result * 2 ^ 53 % 2 ^ 64) (omega (arith, c.from.ensures)) in
    let spells = c.move_of-first.ensures c.if-first-gt64.false in
    let few : c.move_of-first.result.length ≤ 11 = omega (arith, spells.few, length-take 11 (bin 64 (c.from.result * 2 ^ 53 % 2 ^ 64))) in
    let after = skipped 11 c.move_of-first.result.length (c.from.result * 2 ^ 53 % 2 ^ 64) few (omega arith) in
    let second = rw (c.from-2.ensures, c.from-length.ensures, after, prefix) at (c.move_of-second.ensures c.if-second-gt64.false) in
    entry_two c.args.context (bin 11 c.args.prefix) c.move_of-first.result c.move_of-second.result c.both.result (rw prefix at spells) second
    c.both.ensures.length c.both.ensures.advance c.both.ensures.next c.both.ensures.level
