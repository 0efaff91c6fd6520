-- What a cursor has read.
use Rattle.std.specs.Prelude.{ℤ, List}
use Rattle.apv_scan.specs.declared.tables.cursor.Cursor.{Cursor}
use Rattle.apv_scan.specs.Walk.{Progress}

-- the levels so far, and the cursor's place, context and bits
abbrev pub progress_of : Cursor → List ℤ → Progress
progress_of cursor levels = record {
  levels = levels;
  place = cursor.place;
  context = cursor.context;
  unread = cursor.reader;
}
