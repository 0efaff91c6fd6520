use Rattle.std.proofs.Common.{◌≡◌, to_z, of_z, w8, w16, ap, ◌∙◌, arith}
use Rattle.std.proofs.lemmas.Int.{to_z-of_z}
use Rattle.apv_base.specs.model.Bits.{bin}
use Rattle.apv_bits.specs.Reader.{Unread}
use Rattle.apv_scan.proofs.TableLemmas.{eight_bits, move_spells}
use Rattle.apv_scan.proofs.tables.step_table.move_of.Goals as goal

pub returns : goal.returns
returns c =
    let e : to_z w16 (of_z w16 c.in-Some-Level.level) ≡ c.in-Some-Level.level = grind (arith, to_z-of_z) in
    let n : to_z w8 (of_z w8 c.in-Ok.level) ≡ c.in-Ok.level = grind (arith, to_z-of_z) in
    let same : c.in-Ok.level ≡ c.in-Some-Level.level = rw e at c.in-Ok.ensures.1 in
    let taken = rw c.in-Some-Level.field-0-is at c.in-Some-Level.ensures in
    let left : c.new-reader.result.left ≡ bin 64 c.args.bits = ap (λ (u : Unread). u.left) c.new-reader.ensures ∙ eight_bits c.args.bits c.to_be_bytes-bytes.result c.to_be_bytes-bytes.ensures in
    λ few. rw (n, same, ← left)
    (move_spells c.args.context c.args.most c.taken-length.result c.in-Some-Level.run' c.in-Some-Level.size c.context_after.result c.in-Some-Level.level
    c.new-reader.result.left c.in-Some.window c.take_run_level.new.window c.in-Some.ensures.some taken.1 c.taken-length.ensures c.if-length-most.false taken.0.1 taken.0.3 c.context_after.ensures.number)
