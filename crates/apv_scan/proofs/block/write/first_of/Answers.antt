use Rattle.std.proofs.Common.{sym, ◌∙◌, arith}
use Rattle.apv_base.specs.model.Scan.{level_at}
use Rattle.apv_scan.proofs.ElementLemmas.{places_rise}
use Rattle.apv_scan.proofs.WritingLemmas.{at_start}
use Rattle.apv_scan.proofs.block.write.first_of.Goals as goal

pub size_and_sign-requires : goal.size_and_sign-requires
size_and_sign-requires c =
    let first = c.in-Some.ensures.some in
    (at_start (level_at c.args.levels.now) 0 c.in-Some.place _ first.0 (sym c.requires.places ∙ first.1) (places_rise (level_at c.args.levels.now) 63 1 0 (omega arith) (omega arith))).1
