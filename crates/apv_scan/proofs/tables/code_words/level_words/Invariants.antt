use Rattle.std.proofs.Common.{◌≡◌, ℕ, ◌/◌, ◌%◌, ◌<◌, min, unsigned_abs, length, get_or}
use Rattle.apv_scan.specs.CodeWords.{level_in, no_word, signed_bits, HoldsWord}
use Rattle.apv_scan.proofs.tables.code_words.level_words.Given as goal

-- the words so far
abbrev pub invariant-loop-index : goal.invariant-loop-index
invariant-loop-index l = record {
  count : length l.words.items ≡ l.index;
  each : (i : ℕ) → i < l.index → HoldsWord (get_or l.words.items i no_word) (signed_bits (min 4 (i % 8)) (level_in (i / 8))) (min 4 (unsigned_abs (level_in (i / 8)) / 4));
}
