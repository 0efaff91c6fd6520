use Rattle.std.proofs.Common.{◌≡◌, take, sym, ◌∙◌, arith}
use Rattle.apv_scan.proofs.CursorLemmas.{seen_window, seen_word}
use Rattle.apv_scan.proofs.tables.cursor.Cursor.steps_by_table.Goals as goal

pub take_all-requires-clause-entry : goal.take_all-requires-clause-entry
take_all-requires-clause-entry c =
    let before : take 11 c.loop-window.self.reader.left ≡ take 11 c.loop-window.window = seen_word 11 c.loop-window.window _ c.loop-window.invariant.seen c.loop-window.invariant.ahead in
    let after : take 11 c.loop-window.self.reader.left ≡ take 11 c.in-Some-window.fresh =
    seen_word 11 c.in-Some-window.fresh _ (seen_window _ _ c.in-Some-window.ensures.some) (omega (arith, c.in-Some-window.ensures.some.len)) in
    let e : take 11 c.loop-window.window ≡ take 11 c.in-Some-window.fresh = sym before ∙ after in
    rw e at c.look_up-entry.ensures
