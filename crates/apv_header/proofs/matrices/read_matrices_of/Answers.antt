use Rattle.std.proofs.Common.{◌≡◌, ◌+◌, ◌-◌, ◌*◌, ◌<◌, ◌∙◌, [], List, length, take, ap, refl, arith, ℕ, length-set}
use Rattle.std.specs.List.{concat}
use Rattle.std.proofs.lemmas.List.{get_or-set_other}
use Rattle.apv_header.specs.Parts.{matrix_value_fields}
use Rattle.apv_header.proofs.FieldLemmas.{err-gives, walks-as, walks-walks, walks-breaks}
use Rattle.apv_header.proofs.PartLemmas.{concat-set, none-left}
use Rattle.apv_header.proofs.MatrixLemmas.{matrices-set}
use Rattle.apv_header.proofs.matrices.read_matrices_of.Goals as goal

pub returns-in_err-matrices-clause-err : goal.returns-in_err-matrices-clause-err
returns-in_err-matrices-clause-err c =
    let more : ℕ = 64 * (c.args.comps - (c.loop-comp.comp + 1)) in
    let left : 64 * (c.args.comps - c.loop-comp.comp) ≡ 64 + more = omega arith in
    err-gives _ _ _ c.from_residual.ensures.1 (λ next.
    walks-breaks (walks-as refl refl (ap (λ (n : ℕ). matrix_value_fields n next) left) (c.loop-comp.invariant.passed next)) (c.in_err-matrices.ensures.err more next))

pub loop-comp-preserved : goal.loop-comp-preserved
loop-comp-preserved c =
    let comp : ℕ = c.loop-comp.comp in
    let matrices : List (List ℕ) = c.loop-comp.matrices in
    let matrix : List ℕ = c.in_ok-matrices.field-0 in
    let more : ℕ = 64 * (c.args.comps - (comp + 1)) in
    let left : 64 * (c.args.comps - comp) ≡ 64 + more = omega arith in
    let inside : comp < length matrices = omega (arith, c.loop-comp.invariant.count, c.requires) in
    record {
      count = length-set matrices comp matrix ∙ c.loop-comp.invariant.count;
      flat = λ k le lt. get_or-set_other matrices comp k matrix [] (λ e. omega arith) ∙ c.loop-comp.invariant.flat k (omega arith) lt;
      each = matrices-set matrices comp matrix inside c.in_ok-matrices.ensures.matrix c.loop-comp.invariant.each;
      passed = λ next.
          walks-as (omega arith) (concat-set matrices comp matrix inside) refl
          (walks-walks (walks-as refl refl (ap (λ (n : ℕ). matrix_value_fields n next) left) (c.loop-comp.invariant.passed next)) (c.in_ok-matrices.ensures.ok more next));
    }

pub returns-clause-ok : goal.returns-clause-ok
returns-clause-ok c next =
    let all : c.loop-comp.comp ≡ c.args.comps = omega arith in
    walks-as (ap (λ (n : ℕ). 512 * n) all) (ap (λ (n : ℕ). concat (take n c.loop-comp.matrices)) all) (none-left (64 * (c.args.comps - c.loop-comp.comp)) next (omega arith)) (c.loop-comp.invariant.passed next)
