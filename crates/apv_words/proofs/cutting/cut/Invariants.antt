use Rattle.std.proofs.Common.{◌≤◌, ◌-◌, length, drop}
use Rattle.apv_words.specs.FirstOption.{pairs_at}
use Rattle.apv_words.specs.View.{table_view, texts_of}
use Rattle.apv_words.proofs.CutLemmas.{Cutting}
use Rattle.apv_words.proofs.cutting.cut.Given as goal

abbrev pub invariant-loop-taken : goal.invariant-loop-taken
invariant-loop-taken l = record {
  within : l.taken ≤ length l.words;
  so_far : Cutting (table_view l.table) (texts_of l.words) (drop l.taken (texts_of l.words)) (pairs_at l.givens.items);
}

abbrev pub decreases-loop-taken : goal.decreases-loop-taken
decreases-loop-taken l = length l.words - l.taken
