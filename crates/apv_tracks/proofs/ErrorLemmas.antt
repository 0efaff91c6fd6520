-- The error that a call gave, which is handed on.
use Rattle.std.proofs.Common.{◌≡◌, Result, Ok, Err, IfErr, subst, sym}
use Rattle.std.specs.Prelude.{IsErrAnd}

-- what is true of the error is true of that of the result
pub err-gives : {T E : Type 0} (r : Result T E) (end : E) (Q : E → Type 0) → IsErrAnd r (λ given. given ≡ end) → Q end → IfErr r Q
err-gives (Ok x) end Q is q = tt
err-gives (Err given) end Q is q = subst Q (sym is) q
