use Rattle.std.proofs.Common.{◌≡◌, ℕ, ◌/◌, ◌%◌, ◌<◌, min, length, get_or}
use Rattle.apv_base.specs.model.CodeWord.{code_word}
use Rattle.apv_scan.specs.CodeWords.{no_word, HoldsWord}
use Rattle.apv_scan.proofs.tables.code_words.run_words.Given as goal

-- the words so far
abbrev pub invariant-loop-index : goal.invariant-loop-index
invariant-loop-index l = record {
  count : length l.words.items ≡ l.index;
  each : (i : ℕ) → i < l.index → HoldsWord (get_or l.words.items i no_word) (code_word (min 2 (i % 4)) (i / 4)) (min 2 (i / 4 / 4));
}
