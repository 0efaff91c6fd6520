use Rattle.std.proofs.Common.{◌≡◌, refl, ◌∙◌, arith, to_z, of_z, w16}
use Rattle.std.proofs.lemmas.Int.{to_z-of_z}
use Rattle.apv_scan.proofs.ScanLemmas.{level_at-set_same, level_at-set_other, level_at-zeros, zeros_list}
use Rattle.apv_scan.proofs.block.read.clear.Goals as goal

pub returns-clause-first : goal.returns-clause-first
unfolding zeros_list
returns-clause-first c =
    let d : to_z w16 (of_z w16 c.args.dc) ≡ c.args.dc = grind (arith, to_z-of_z) in
    rw (c.place_of.ensures.place, d) (level_at-set_same zeros_list 0 c.args.dc refl (omega arith))

pub returns-clause-zeros : goal.returns-clause-zeros
unfolding zeros_list
returns-clause-zeros c = λ q low high.
    rw c.place_of.ensures.place (level_at-set_other zeros_list 0 q _ (omega arith) high (omega arith) ∙ level_at-zeros q high)
