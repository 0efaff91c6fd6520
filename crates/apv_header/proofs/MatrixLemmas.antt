-- Lists of matrices.
use Rattle.std.proofs.Common.{⊎_elim, ◌≡◌, ◌≢◌, ℕ, zero, suc, ◌<◌, List, [], ◌∷◌, length, set, get_or, replicate, arith}
use Rattle.std.specs.List.{AllByRecursion}
use Rattle.std.proofs.lemmas.Bool.{cases_eq}
use Rattle.std.proofs.lemmas.List.{get_or-set_other, get_or-set_same, get_or-replicate}
use Rattle.apv_base.specs.model.Header.{flat}
use Rattle.apv_base.proofs.HeaderLemmas.{flat-is-matrix}
use Rattle.apv_base.specs.model.Quant.{IsMatrix}

-- four flat matrices
pub flats-are-matrices : (comp : ℕ) → comp < 4 → IsMatrix (get_or (replicate 4 flat) comp [])
flats-are-matrices comp lt = rw (get_or-replicate 4 comp flat [] lt) flat-is-matrix

-- with one more matrix
pub matrices-set : (matrices : List (List ℕ)) (comp : ℕ) (matrix : List ℕ) → comp < length matrices → IsMatrix matrix → ((k : ℕ) → k < 4 → IsMatrix (get_or matrices k []))
    → (k : ℕ) → k < 4 → IsMatrix (get_or (set matrices comp matrix) k [])
matrices-set matrices comp matrix lt is all k few =
    ⊎_elim
    (λ (same : k ≡ comp). rw (same, get_or-set_same matrices comp matrix [] lt) is)
    (λ (other : k ≢ comp). rw (get_or-set_other matrices comp k matrix [] other) (all k few))
    (cases_eq k comp)

-- all of a list, by their numbers
pub all-matrices : (n : ℕ) (matrices : List (List ℕ)) → length matrices ≡ n → ((k : ℕ) → k < n → IsMatrix (get_or matrices k [])) → AllByRecursion IsMatrix matrices
all-matrices n [] e all = tt
all-matrices zero (matrix ∷ matrices) e all = absurd (omega (arith, e))
all-matrices (suc n) (matrix ∷ matrices) e all = (all zero (omega arith), all-matrices n matrices (omega (arith, e)) (λ k lt. all (suc k) (omega arith)))
