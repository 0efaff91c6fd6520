use Rattle.apv_encoding.specs.Generated.{generated_picture}
use Rattle.apv_generated.specs.Bytes.{row_bytes}
use Rattle.apv_generated.proofs.ByteLemmas.{push-more}
use Rattle.apv_generated.proofs.bytes.push_component.Goals as goal

pub loop-y-preserved : goal.loop-y-preserved
loop-y-preserved c = push-more c.args.bytes.now.items c.loop-y.bytes.items c.push_row.new.bytes.items c.loop-y.y (row_bytes (generated_picture c.args.seed c.args.number) c.args.comp c.args.width) c.loop-y.invariant c.in_ok-push_row.ensures
