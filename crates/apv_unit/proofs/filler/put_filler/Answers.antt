use Rattle.std.proofs.Common.{◌≡◌, ℕ, zero, suc, length, true, replicate, refl, ap, ◌∙◌}
use Rattle.apv_base.specs.model.Pbu.{is_filler}
use Rattle.apv_unit.proofs.filler.put_filler.Goals as goal

all-filler : (n : ℕ) → is_filler (replicate n 255) ≡ true
all-filler zero = refl
all-filler (suc n) = all-filler n

pub returns-clause-bytes : goal.returns-clause-bytes
returns-clause-bytes c = ap is_filler (c.fill.ensures.after (λ y e. e)) ∙ all-filler (length c.args.out.now)
