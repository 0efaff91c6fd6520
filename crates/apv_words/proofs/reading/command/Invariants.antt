use Rattle.std.proofs.Common.{◌≡◌, codes, take}
use Rattle.clap.specs.Simple.{app_of}
use Rattle.apv_words.specs.Clap.{app_for}
use Rattle.apv_words.specs.View.{table_view}
use Rattle.apv_words.proofs.reading.command.Given as goal

abbrev pub invariant-loop-row : goal.invariant-loop-row
invariant-loop-row l = app_of l.command ≡ app_for (codes "apv") (table_view (take l.row-index l.table))
