-- Going over the PBUs of an access unit: what was passed and what is left.
use Rattle.std.proofs.Common.{◌≡◌, ℕ, List, [], ◌∷◌, ◌++◌, length, refl, sym, ap, subst, ◌∙◌, arith, append_assoc, append-nil, length-append}
use Rattle.apv_base.specs.model.Sequence.{Sequence}
use Rattle.apv_base.specs.model.Pbu.{Pbu}
use Rattle.apv_base.specs.model.Body.{with_bodies}
use Rattle.apv_base.specs.model.Unit.{PbuAt}
use Rattle.apv_base.proofs.UnitLemmas.{none-at-end}
use Rattle.apv_unit.specs.Pbus.{PbusLeft, AreLeft}
use Rattle.apv_unit.specs.GivesPbu.{IsPbu, HasPayloads, GivesNext}
use Rattle.apv_unit.specs.declared.pbus.SoundPbu.{SoundPbu}

-- of these PBUs, some were passed, and the others are left
pub record Midway (pbus passed : List Pbu) (now : PbusLeft) : Type 0 where
  pub others : List Pbu
  pub parts : pbus ≡ passed ++ others
  pub number : length passed ≡ now.number
  pub left : AreLeft now others

pub midway-start : (pbus : List Pbu) (now : PbusLeft) → now.number ≡ 0 → AreLeft now pbus → Midway pbus [] now
midway-start pbus now zero left = record { others = pbus; parts = refl; number = sym zero; left = left }

-- the next PBU, and that it is passed then
pub record Passes (pbus passed : List Pbu) (given : SoundPbu) (new : PbusLeft) : Type 0 where
  pub pbu : Pbu
  pub later : List Pbu
  pub parts : pbus ≡ passed ++ pbu ∷ later
  pub number : length passed ≡ given.number
  pub is : IsPbu given pbu
  pub sound : HasPayloads given pbu.payloads
  pub midway : Midway pbus (passed ++ pbu ∷ []) new

pub midway-next : (pbus passed : List Pbu) (old new : PbusLeft) (given : SoundPbu) → Midway pbus passed old → GivesNext old given new → Passes pbus passed given new
midway-next pbus passed old new given at next =
    let f = next.pbus at.others at.left in
    let parts : pbus ≡ passed ++ f.first ∷ f.others = at.parts ∙ ap (λ (ps : List Pbu). passed ++ ps) f.parts in
    record {
      pbu = f.first;
      later = f.others;
      parts = parts;
      number = at.number ∙ sym next.number;
      is = f.is;
      sound = f.sound;
      midway = record {
        others = f.others;
        parts = parts ∙ sym (append_assoc passed (f.first ∷ []) f.others);
        number = omega (arith, length-append passed (f.first ∷ []), at.number, next.next);
        left = f.left;
      };
    }

-- where none is left, all were passed
pub midway-end : (pbus passed : List Pbu) (now : PbusLeft) → Midway pbus passed now → now.bytes ≡ [] → pbus ≡ passed
midway-end pbus passed now at end =
    let none = none-at-end with_bodies at.others (subst (λ (xs : List ℕ). Sequence (PbuAt with_bodies) xs at.others []) end at.left) in
    at.parts ∙ ap (λ (ps : List Pbu). passed ++ ps) none ∙ append-nil passed
