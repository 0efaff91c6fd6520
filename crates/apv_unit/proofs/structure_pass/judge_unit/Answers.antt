use Rattle.std.proofs.Common.{◌≡◌, ◌∙◌, ◌∷◌, ◌++◌, take, drop, List, ℕ, nat_eq, sym, ap, subst, true}
use Rattle.std.specs.List.{starts_with}
use Rattle.std.proofs.lemmas.List.{take-append-drop}
use Rattle.apv_base.specs.model.Pbu.{signature}
use Rattle.apv_base.specs.declared.rules.UnitEnd.{UnitEnd}
use Rattle.apv_base.specs.model.Unit.{StructureBreaks, unsigned}
use Rattle.apv_unit.specs.Reach.{reach_of}
use Rattle.apv_unit.proofs.structure_pass.judge_unit.Goals as goal

begins-signed : (unit : List ℕ) → take 4 unit ≡ signature → starts_with nat_eq unit signature ≡ true
begins-signed unit signed =
    let parts : unit ≡ 97 ∷ 80 ∷ 118 ∷ 49 ∷ drop 4 unit = sym (take-append-drop 4 unit) ∙ ap (λ (prefix : List ℕ). prefix ++ drop 4 unit) signed in
    ap (λ (xs : List ℕ). starts_with nat_eq xs signature) parts

pub returns-then-not-starts_with : goal.returns-then-not-starts_with
returns-then-not-starts_with c = subst (λ (e : UnitEnd). StructureBreaks (reach_of c.args.bodies) c.args.number c.args.unit.now e) (sym c.end_before.ensures) (unsigned (λ signed. absurd (let no : ⊥ = cc (sym c.if-not-starts_with.true ∙ c.starts_with.ensures.value ∙ begins-signed c.args.unit.now signed) in no)))
