-- Units that are judged by their structure are judged in one way.
use Rattle.std.proofs.Common.{◌≡◌, ℕ, List, length, refl, sym, ap, ap₂, ◌∙◌, subst, inl, inr}
use Rattle.apv_base.specs.declared.rules.UnitEnd.{UnitEnd}
use Rattle.apv_base.specs.laws.Run.{JudgesOnce, JudgesAll, GivesRuns}
use Rattle.apv_base.specs.model.Pbu.{Pbu}
use Rattle.apv_base.specs.model.Run.{exit_of}
use Rattle.apv_base.specs.model.Sound.{SoundUnit, by_structure}
use Rattle.apv_base.specs.model.Body.{with_bodies}
use Rattle.apv_base.specs.model.Unit.{Structure, StructureBreaks}
use Rattle.apv_base.proofs.OneUnitLemmas.{one-structure, valid-or-broken, one-break}
use Rattle.apv_base.proofs.SomeUnitLemmas.{unit-or}
use Rattle.apv_base.proofs.SomeRunLemmas.{gives-runs}

-- a unit is its bytes and their PBUs
same-unit : (a b : SoundUnit) → a.bytes ≡ b.bytes → Structure with_bodies a.bytes a.pbus → Structure with_bodies b.bytes b.pbus → a ≡ b
same-unit a b e s t =
    let pbus : a.pbus ≡ b.pbus = one-structure with_bodies b.bytes a.pbus b.pbus (subst (λ (xs : List ℕ). Structure with_bodies xs a.pbus) e s) t in
    ap₂ {C = SoundUnit} (λ (xs : List ℕ) (ps : List Pbu). record { bytes = xs; pbus = ps }) e pbus

-- a unit isn't sound and broken
sound-not-broken : {A : Type 0} (unit : SoundUnit) (n : ℕ) (bytes : List ℕ) (end : UnitEnd) → unit.bytes ≡ bytes → Structure with_bodies unit.bytes unit.pbus → StructureBreaks with_bodies n bytes end → A
sound-not-broken unit n bytes end e s b = valid-or-broken with_bodies n bytes unit.pbus end (subst (λ (xs : List ℕ). Structure with_bodies xs unit.pbus) e s) b

structure-once : JudgesOnce by_structure
structure-once before bytes all = record {
  accepted = λ a b s t. same-unit a b (s.0 ∙ sym t.0) s.1 t.1;
  refused = λ e f s t. s.1 ∙ ap exit_of (one-break with_bodies (length before) bytes s.0 t.0 s.2 t.2) ∙ sym t.1;
  not_both = λ a e s t. sound-not-broken a (length before) bytes t.0 s.0 s.1 t.2;
}

structure-all : JudgesAll by_structure
structure-all before bytes all is_bytes small = elim (unit-or with_bodies (length before) bytes) [
  | inl s ↦ inl (record { bytes = bytes; pbus = s.0 }, (refl, s.1))
  | inr b ↦ inr (exit_of b.0, (b.0, refl, b.1))
]

pub by_structure-runs : GivesRuns by_structure
by_structure-runs = gives-runs by_structure structure-once structure-all
