use Rattle.std.proofs.Common.{◌∙◌, ◌+◌, ◌++◌, arith, ap, sym, refl, drop, take, List, ℕ, Some, append_assoc}
use Rattle.std.proofs.lemmas.Grind.{common_steps}
use Rattle.apv_encoding.specs.Generated.{generated_from}
use Rattle.apv_files.proofs.Prefixes.{drop-copied, length-zero}
use Rattle.apv_generated.proofs.video.GeneratedVideo.read.Goals as goal

pub returns : goal.returns
returns c name beneath =
    let video = c.refill.new.self in
    let n = c.min-count.result in
    let later = generated_from video.seed video.number in
    let piece = take n (c.copy_from_slice.new.self ++ drop n c.args.buf.now) in
    let parts = drop-copied video.picture.items video.taken n c.args.buf.now c.copy_from_slice.new.self (grind (arith, common_steps)) (grind (arith, common_steps)) in
    record {
      fits = grind (arith, common_steps);
      prefix = ap Some (sym c.in_ok-refill.ensures.left ∙ ap (λ (xs : List ℕ). xs ++ later) parts ∙ append_assoc piece (drop (video.taken + n) video.picture.items) later);
      end = λ none. sym c.in_ok-refill.ensures.left ∙ c.in_ok-refill.ensures.end (length-zero (drop video.taken video.picture.items) (grind (arith, common_steps)));
      rest = refl;
    }
