-- The item at a place of a list, and those after it.
use Rattle.std.proofs.Common.{◌≡◌, ℕ, ◌+◌, ◌<◌, List, ◌∷◌, ◌++◌, length, get_or, take, drop, sym, ap, ◌∙◌, append_assoc, length-append, add-one, drop-cons}
use Rattle.std.proofs.lemmas.List.{take_at}

-- the items from a place on
pub from-place : {A : Type 0} (xs : List A) (i : ℕ) (d : A) → i < length xs → drop i xs ≡ get_or xs i d ∷ drop (i + 1) xs
from-place xs i d lt = rw add-one (drop-cons xs i d lt)

-- for an item that was taken from there
pub from-item : {A : Type 0} (xs : List A) (i : ℕ) (x : A) → i < length xs → x ≡ get_or xs i x → drop i xs ≡ x ∷ drop (i + 1) xs
from-item {A} xs i x lt e = from-place xs i x lt ∙ ap (λ (y : A). y ∷ drop (i + 1) xs) (sym e)

-- bytes are written after those before a place, and others follow
pub next-written : (new before bytes after rest all : List ℕ) (end : ℕ) → new ≡ before ++ (bytes ++ after) → length before + length bytes ≡ end → before ++ (bytes ++ rest) ≡ all → take end new ++ rest ≡ all
next-written new before bytes after rest all end e long is =
    let same : new ≡ (before ++ bytes) ++ after = e ∙ sym (append_assoc before bytes after) in
    ap (λ (xs : List ℕ). take end xs ++ rest) same
    ∙ ap (λ (xs : List ℕ). xs ++ rest) (take_at (before ++ bytes) after end (length-append before bytes ∙ long))
    ∙ append_assoc before bytes rest
    ∙ is
