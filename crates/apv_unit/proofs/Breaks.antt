-- Where the structure of an access unit breaks, as the loop over its PBUs names it.
use Rattle.std.proofs.Common.{◌≡◌, ◌≢◌, ℕ, ◌<◌, List, [], ◌∷◌, ◌++◌, length, take, drop, refl, ap, subst, arith, length-drop}
use Rattle.apv_base.specs.declared.rules.HeadEnd.{HeadEnd}
use Rattle.apv_base.specs.model.Sequence.{Sequence}
use Rattle.apv_base.specs.model.Pbu.{Pbu, signature}
use Rattle.apv_base.specs.model.Body.{Reach}
use Rattle.apv_base.specs.model.Unit.{PbuAt, PbuBreaks, StructureBreaks, unit_end, broken}

some-from_length : (pbus : List Pbu) (n : ℕ) → pbus ≢ [] → length pbus ≡ n → 0 < n
some-from_length [] n ne e = absurd (ne refl)
some-from_length (pbu ∷ pbus) n ne e = omega (arith, e)

-- after some sound PBUs there is none, where the unit goes on or has had none
pub breaks-here : (reach : Reach) (n : ℕ) (unit : List ℕ) (tile : ℕ) (end : HeadEnd) (count : ℕ) (place : ℕ) (pbus : List Pbu)
    → take 4 unit ≡ signature → Sequence (PbuAt reach) (drop 4 unit) pbus (drop place unit) → length pbus ≡ count → (0 < count → place < length unit)
    → PbuBreaks reach (drop place unit) tile end → StructureBreaks reach n unit (unit_end n count tile end)
breaks-here reach n unit tile end count place pbus signed row is more breaks =
    let goes_on : pbus ≢ [] → drop place unit ≢ [] = λ some end. omega (arith, more (some-from_length pbus count some is), ap (length {A = ℕ}) end, length-drop place unit) in
    subst (λ (i : ℕ). StructureBreaks reach n unit (unit_end n i tile end)) is (broken tile end pbus (drop place unit) signed row goes_on breaks)

pub push-some : (pbus : List Pbu) (pbu : Pbu) → (pbus ++ pbu ∷ []) ≢ []
push-some [] pbu e = absurd (let no : ⊥ = cc in no)
push-some (first ∷ pbus) pbu e = absurd (let no : ⊥ = cc in no)
