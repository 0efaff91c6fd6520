-- The first of the PBUs that are left of an access unit.
use Rattle.std.proofs.Common.{◌≡◌, ◌≢◌, ℕ, ◌<◌, List, [], ◌∷◌, length, drop, sym, ap, subst, arith, length-drop, Result, Err}
use Rattle.apv_base.specs.declared.rules.Rule.{Rule}
use Rattle.apv_base.specs.model.Table.{walk}
use Rattle.apv_base.specs.model.Sequence.{Sequence}
use Rattle.apv_base.specs.model.Pbu.{Pbu, pbu_table}
use Rattle.apv_base.specs.model.Body.{with_bodies, body_kind_of, IsSoundBody}
use Rattle.apv_base.specs.model.Unit.{HasPbuHeader, PbuAt}
use Rattle.apv_base.proofs.SequenceLemmas.{sequence-begins}
use Rattle.apv_base.proofs.UnitLemmas.{same-pbu, no-fault}

pub some-left : (unit : List ℕ) (place : ℕ) → place < length unit → drop place unit ≢ []
some-left unit place lt e = omega (arith, ap (length {A = ℕ}) e, length-drop place unit)

-- the PBU that was found is the first, and the others are from the next place on
pub record Found (unit : List ℕ) (next kind group : ℕ) (body : List ℕ) (pbus : List Pbu) : Type 0 where
  pub first : Pbu
  pub others : List Pbu
  pub parts : pbus ≡ first ∷ others
  pub kinds : kind ≡ first.kind
  pub groups : group ≡ first.group
  pub bodies : body ≡ first.body
  pub sound : IsSoundBody (body_kind_of with_bodies kind) body first.payloads
  pub left : Sequence (PbuAt with_bodies) (drop next unit) others []

-- the soundness of a body, as the code names it
sound-along : (pbu : Pbu) (kind : ℕ) (body : List ℕ) → pbu.kind ≡ kind → pbu.body ≡ body → IsSoundBody (body_kind_of with_bodies pbu.kind) pbu.body pbu.payloads → IsSoundBody (body_kind_of with_bodies kind) body pbu.payloads
sound-along pbu kind body k b s =
    subst (λ (n : ℕ). IsSoundBody (body_kind_of with_bodies n) body pbu.payloads) k (subst (λ (xs : List ℕ). IsSoundBody (body_kind_of with_bodies pbu.kind) xs pbu.payloads) b s)

pub first-left : (unit : List ℕ) (place next kind group : ℕ) (body : List ℕ) (pbus : List Pbu) → place < length unit → Sequence (PbuAt with_bodies) (drop place unit) pbus []
    → HasPbuHeader (drop place unit) kind group body (drop next unit) → Found unit next kind group body pbus
first-left unit place next kind group body pbus lt row header =
    let b = sequence-begins (PbuAt with_bodies) _ [] pbus row (some-left unit place lt) in
    let same = same-pbu with_bodies _ _ _ kind group body (drop next unit) b.4 header in
    record {
      first = b.0;
      others = b.1;
      parts = b.3;
      kinds = sym same.kinds;
      groups = sym same.groups;
      bodies = sym same.bodies;
      sound = sound-along b.0 kind body same.kinds same.bodies b.4.sound;
      left = subst (λ (xs : List ℕ). Sequence (PbuAt with_bodies) xs b.1 []) same.afters b.5;
    }

-- where no PBU is found, none is left
pub none-left : (unit : List ℕ) (place : ℕ) (rule : Rule) (pbus : List Pbu) → Sequence (PbuAt with_bodies) (drop place unit) pbus []
    → ◌≡◌ {A = Result (List ℕ × List ℕ) Rule} (walk 256 pbu_table (drop place unit)) (Err rule) → drop place unit ≡ []
none-left unit place rule [] row e = row
none-left unit place rule (pbu ∷ pbus) row e = no-fault with_bodies _ pbu row.0 rule row.1 e
