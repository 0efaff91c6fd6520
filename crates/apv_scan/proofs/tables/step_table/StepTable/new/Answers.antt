use Rattle.std.proofs.Common.{arith}
use Rattle.apv_scan.proofs.TableLemmas.{entries_push}
use Rattle.apv_scan.proofs.tables.step_table.StepTable.new.Goals as goal

pub loop-index-preserved : goal.loop-index-preserved
loop-index-preserved c = record {
  count = omega (arith, c.in_ok-push.ensures.len, c.loop-index.invariant.count);
  right =
      rw c.in_ok-push.ensures.items
      (entries_push c.loop-index.entries.items c.entry_of-entry.result c.loop-index.index (omega (arith, c.loop-index.entries.ok.0)) c.entry_of-entry.ensures c.loop-index.invariant.right);
}

pub invariant_of-result : goal.invariant_of-result
invariant_of-result c = record {
  right = record {
    count = omega (arith, c.loop-index.invariant.count, c.loop-index.entries.ok.0);
    right = λ i none h. c.loop-index.invariant.right i none (omega (arith, c.loop-index.entries.ok.0));
  };
}
