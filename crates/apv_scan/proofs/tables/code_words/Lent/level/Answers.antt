use Rattle.std.proofs.Common.{◌≡◌, ◌+◌, ◌*◌, ◌/◌, ◌%◌, min, unsigned_abs, ap, ap₂, ◌∙◌, arith}
use Rattle.apv_scan.specs.CodeWords.{level_in, signed_bits}
use Rattle.apv_scan.proofs.tables.code_words.Lent.level.Goals as goal

pub returns : goal.returns
returns c =
    let near = c.in-Some.ensures in
    let entry = c.args.self.levels_are.each (8 * c.in-Some.slot + c.args.k) (omega (arith, near.0)) in
    let row : min 4 ((8 * c.in-Some.slot + c.args.k) % 8) ≡ c.args.k = omega arith in
    let slot : (8 * c.in-Some.slot + c.args.k) / 8 ≡ c.in-Some.slot = omega arith in
    record {
      bits = c.word.ensures.bits ∙ entry.word ∙ ap₂ signed_bits row (ap level_in slot ∙ near.1);
      few = omega (arith, c.word.ensures.len, entry.few);
      next = c.from.ensures ∙ entry.next ∙ ap (λ z. min 4 (unsigned_abs z / 4)) (ap level_in slot ∙ near.1);
    }
