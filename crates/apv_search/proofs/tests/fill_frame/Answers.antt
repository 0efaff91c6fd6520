use Rattle.std.proofs.Common.{◌≡◌, ℕ, List, ◌<◌, ◌≤◌, length, get_or, drop, sym, ap, ◌∙◌, subst, arith, inl, inr}
use Rattle.std.proofs.lemmas.Bool.{cases_lt}
use Rattle.std.proofs.lemmas.List.{get_or_past, take_at}
use Rattle.apv_search.proofs.tests.fill_frame.Goals as goal

pub returns-clause-below : goal.returns-clause-below
returns-clause-below c place =
    let many : length c.fill.new.values ≡ length c.args.frame.now.values = c.fill.auto.values ∙ ap length c.pieces-values.ensures.pieces.1 in
    let P : ℕ → Type 0 = λ v. v < 1024 in
    subst (λ (values : List ℕ). P (get_or values place 0)) (sym (take_at c.fill.new.values (drop (length c.fill.new.values) c.args.frame.now.values) (length c.args.frame.now.values) many))
    (elim (cases_lt place (length c.fill.new.values)) [
      | inl h ↦ c.fill.ensures place (omega (arith, h, c.fill.auto.values))
      | inr h ↦ subst P (sym (get_or_past c.fill.new.values place 0 h)) (omega arith)
    ])
