use Rattle.std.proofs.Common.{◌≡◌, ◌∙◌, ◌++◌, ◌∷◌, [], List, ℕ, sym, ap, subst, append-nil}
use Rattle.std.proofs.lemmas.Grind.{flat_map-append}
use Rattle.apv_base.specs.declared.slot.Slot.TheVariants.{MetaOut}
use Rattle.apv_base.specs.model.Payload.{payloads_bytes}
use Rattle.apv_base.specs.model.Pbu.{Pbu}
use Rattle.apv_base.specs.model.Sound.{unit_payloads}
use Rattle.apv_files.proofs.Many.{only-at-trans, wrote-wrote}
use Rattle.apv_files.specs.Loops.{WroteAll}
use Rattle.apv_unit.proofs.PbusWalk.{midway-next, midway-end}
use Rattle.apv_dec.proofs.WritingLemmas.{err-then}
use Rattle.apv_dec.proofs.metadata.write_payloads.Goals as goal

payloads-push : (passed : List Pbu) (pbu : Pbu) → unit_payloads (passed ++ pbu ∷ []) ≡ unit_payloads passed ++ payloads_bytes pbu.payloads
payloads-push passed pbu = flat_map-append (λ (p : Pbu). payloads_bytes p.payloads) passed (pbu ∷ []) ∙ ap (λ (xs : List ℕ). unit_payloads passed ++ xs) (append-nil (payloads_bytes pbu.payloads))

payloads-split : (pbus passed later : List Pbu) (pbu : Pbu) (bytes : List ℕ) → pbus ≡ passed ++ pbu ∷ later → bytes ≡ payloads_bytes pbu.payloads → unit_payloads pbus ≡ unit_payloads passed ++ (bytes ++ unit_payloads later)
payloads-split pbus passed later pbu bytes e f =
    ap unit_payloads e ∙ flat_map-append (λ (p : Pbu). payloads_bytes p.payloads) passed (pbu ∷ later) ∙ ap (λ (xs : List ℕ). unit_payloads passed ++ (xs ++ unit_payloads later)) (sym f)

pub pbu_payloads-payloads-requires : goal.pbu_payloads-payloads-requires
pbu_payloads-payloads-requires g c = c.in-Some.ensures.steps.sound

pub returns-in-Err-clause-here : goal.returns-in-Err-clause-here
returns-in-Err-clause-here g c pbus structure =
    let f = c.loop-pbu.invariant.2 pbus structure in
    let step = midway-next pbus f.0 c.loop-pbu.pbu-iterator c.next.new.self c.in-Some.pbu f.1 c.in-Some.ensures.steps in
    let bytes = c.pbu_payloads-payloads.ensures step.pbu.payloads step.sound in
    let all = payloads-split pbus f.0 step.later step.pbu c.pbu_payloads-payloads.result.now step.parts bytes in
    err-then (Unit {0}) (Unit {0}) _ (g.F.Files.slot_view c.loop-pbu.files MetaOut) _ (unit_payloads f.0) c.pbu_payloads-payloads.result.now (unit_payloads step.later) (unit_payloads pbus) c.in-Err.failed all f.2 c.in-Err.ensures.here

pub loop-pbu-preserved : goal.loop-pbu-preserved
loop-pbu-preserved g c = (
  tt,
  tt,
  λ pbus structure.
      let f = c.loop-pbu.invariant.2 pbus structure in
      let step = midway-next pbus f.0 c.loop-pbu.pbu-iterator c.next.new.self c.in-Some.pbu f.1 c.in-Some.ensures.steps in
      let bytes = c.pbu_payloads-payloads.ensures step.pbu.payloads step.sound in
      let more : WroteAll (g.F.Files.slot_view c.args.files.now MetaOut) (unit_payloads f.0 ++ c.pbu_payloads-payloads.result.now) (g.F.Files.slot_view c.write_all.new.files MetaOut) = wrote-wrote _ (g.F.Files.slot_view c.loop-pbu.files MetaOut) _ (unit_payloads f.0) c.pbu_payloads-payloads.result.now f.2 c.in-Ok.ensures.here in
      let same : unit_payloads f.0 ++ c.pbu_payloads-payloads.result.now ≡ unit_payloads (f.0 ++ step.pbu ∷ []) = ap (λ (xs : List ℕ). unit_payloads f.0 ++ xs) bytes ∙ sym (payloads-push f.0 step.pbu) in
      (f.0 ++ step.pbu ∷ [], step.midway, subst (λ (xs : List ℕ). WroteAll (g.F.Files.slot_view c.args.files.now MetaOut) xs (g.F.Files.slot_view c.write_all.new.files MetaOut)) same more),
  only-at-trans MetaOut _ _ _ c.loop-pbu.invariant.3 c.in-Ok.ensures.elsewhere,
  λ file. c.in-Ok.ensures.held file ∙ c.loop-pbu.invariant.4 file,
)

pub returns-clause-here : goal.returns-clause-here
returns-clause-here g c pbus structure =
    let f = c.loop-pbu.invariant.2 pbus structure in
    subst (λ (ps : List Pbu). WroteAll (g.F.Files.slot_view c.args.files.now MetaOut) (unit_payloads ps) (g.F.Files.slot_view c.loop-pbu.files MetaOut)) (sym (midway-end pbus f.0 c.loop-pbu.pbu-iterator f.1 c.in-None.ensures.steps.0)) f.2
