use Rattle.apv_encoding.specs.Generated.{generated_picture}
use Rattle.apv_generated.proofs.ByteLemmas.{push-picture}
use Rattle.apv_generated.proofs.bytes.push_picture.Goals as goal

pub returns : goal.returns
returns c =
    push-picture (generated_picture c.args.seed c.args.number) c.args.bytes.now.items c.push_component.new.bytes.items c.push_component-2.new.bytes.items c.push_component-3.new.bytes.items c.in_ok-push_component.ensures c.in_ok-push_component-2.ensures c.in_ok-push_component-3.ensures
