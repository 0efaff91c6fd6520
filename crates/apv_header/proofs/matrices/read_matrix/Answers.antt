use Rattle.std.proofs.Common.{rules, ◌+◌, ◌-◌, ◌<◌, ◌∙◌, length, sym, ap, arith, ℕ, length-set}
use Rattle.std.proofs.lemmas.List.{take_more_set}
use Rattle.apv_header.specs.Parts.{matrix_value_fields}
use Rattle.apv_header.proofs.FieldLemmas.{err-gives, fields-breaks, fields-walks, walks-as}
use Rattle.apv_header.proofs.PartLemmas.{set-more}
use Rattle.apv_header.proofs.matrices.read_matrix.Goals as goal

pub returns-in_err-values-clause-err : goal.returns-in_err-values-clause-err
returns-in_err-values-clause-err c =
    err-gives _ _ _ c.from_residual.ensures.1 (λ more next.
    fields-breaks next (64 - c.loop-place.place + more) (63 - c.loop-place.place + more) (omega arith) (c.loop-place.invariant.passed more next) (c.in_err-values.ensures.err _))

pub loop-place-preserved : goal.loop-place-preserved
loop-place-preserved c =
    let place : ℕ = c.loop-place.place in
    let value : ℕ = c.in_ok-values.field-0 in
    let inside : place < length c.loop-place.values = omega (arith, c.loop-place.invariant.count) in
    record {
      count = length-set c.loop-place.values place value ∙ c.loop-place.invariant.count;
      some = set-more (λ (v : ℕ). (0 < v) × (v < 256)) c.loop-place.values place value inside (c.in_ok-values.ensures.some, search rules) c.loop-place.invariant.some;
      passed = λ more next.
          walks-as (omega arith) (sym (take_more_set c.loop-place.values place value inside)) (ap (λ (n : ℕ). matrix_value_fields n next) (omega arith))
          (fields-walks next (64 - place + more) (63 - place + more) (omega arith) (c.loop-place.invariant.passed more next) (c.in_ok-values.ensures.ok _));
    }

pub unreachable-requires : goal.unreachable-requires
unreachable-requires c =
    c.in_default.ensures (record {
      count = c.loop-place.invariant.count;
      each = λ place small. c.loop-place.invariant.some place (omega arith);
    })
