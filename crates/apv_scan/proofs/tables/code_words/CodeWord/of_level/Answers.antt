use Rattle.std.proofs.Common.{◌≤◌, length, ap, arith}
use Rattle.std.proofs.lemmas.Int.{ints}
use Rattle.apv_scan.proofs.tables.code_words.CodeWord.of_level.Goals as goal

pub of-requires-clause-few : goal.of-requires-clause-few
of-requires-clause-few c =
    let size : c.unsigned_abs-size.result ≤ 64 = omega (arith, ints, c.unsigned_abs-size.ensures.value) in
    let short = c.encode_h.ensures.short 6 (omega arith) (omega (arith, size, c.saturating_sub.ensures)) in
    omega (arith, short, c.join-word.ensures.len, ap length c.sign_word.ensures)
