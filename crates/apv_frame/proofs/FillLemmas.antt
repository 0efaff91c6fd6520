-- All values of a slice that was filled.
use Rattle.std.proofs.Common.{◌≡◌, ◌++◌, List, length, take, sym, ap, ◌∙◌, arith}
use Rattle.std.specs.List.{refill}
use Rattle.std.proofs.lemmas.List.{drop_all, append-nil}
use Rattle.std.proofs.Math.Seq.{take-length}

pub refill_whole : {A : Type 0} (xs ws : List A) → length ws ≡ length xs → refill (length xs) xs ws ≡ ws
refill_whole xs ws e =
    let none = drop_all (length ws) xs (omega arith) in
    ap (λ t. take (length xs) (ws ++ t)) none ∙ ap (λ t. take (length xs) t) (append-nil ws) ∙ ap (λ k. take k ws) (sym e) ∙ take-length ws
