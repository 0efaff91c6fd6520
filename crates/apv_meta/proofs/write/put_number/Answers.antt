use Rattle.std.proofs.Common.{◌≡◌, ◌-◌, ◌∙◌, length, replicate, take, ap, arith}
use Rattle.std.proofs.lemmas.List.{length-take-le, length-replicate}
use Rattle.apv_meta.proofs.Spelled.{last-set}
use Rattle.apv_meta.proofs.write.put_number.Goals as goal

pub returns : goal.returns
returns c =
    let part : length (take (length c.args.out.now - 1) c.args.out.now) ≡ length c.args.out.now - 1 = length-take-le (length c.args.out.now - 1) c.args.out.now (omega arith) in
    let filled : c.fill.new.self ≡ replicate (length c.args.out.now - 1) 255 = c.fill.ensures.after (λ y e. e) ∙ ap (λ k. replicate k 255) part in
    last-set c.args.out.now c.fill.new.self (length c.args.out.now - 1) c.args.value (ap length filled ∙ length-replicate (length c.args.out.now - 1) 255) (omega (arith, c.requires)) filled c.requires
