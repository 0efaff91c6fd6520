use Rattle.std.proofs.Common.{◌∙◌, ◌%◌, ◌/◌, ◌++◌, ap, ℕ}
use Rattle.apv_base.specs.model.Picture.{low_first}
use Rattle.apv_encoding.specs.Generated.{generated_picture}
use Rattle.apv_generated.proofs.ByteLemmas.{push-more, push-two}
use Rattle.apv_generated.proofs.bytes.push_row.Goals as goal

pub loop-x-preserved : goal.loop-x-preserved
loop-x-preserved c =
    let sample = c.generated-sample.result in
    let two = push-two c.loop-x.bytes.items c.push.new.self.items c.push-in-loop-x.new.self.items (sample % 256) (sample / 256) c.in_ok-push.ensures.items c.in_ok-push-2.ensures.items in
    push-more c.args.bytes.now.items c.loop-x.bytes.items c.push-in-loop-x.new.self.items c.loop-x.x (λ (x : ℕ). low_first (generated_picture c.args.seed c.args.number c.args.comp x c.args.y)) c.loop-x.invariant
    (two ∙ ap (λ (s : ℕ). c.loop-x.bytes.items ++ low_first s) c.generated-sample.ensures.is)
