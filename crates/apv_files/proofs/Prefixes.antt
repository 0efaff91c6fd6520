-- The prefix of a file, as a read copies it.
use Rattle.std.proofs.Common.{◌≡◌, ℕ, ◌+◌, ◌≤◌, List, [], ◌∷◌, ◌++◌, take, drop, length, length-take, ap, sym, refl, ◌∙◌, arith}
use Rattle.std.proofs.Math.Seq.{take-append-add}
use Rattle.std.proofs.lemmas.List.{take-append-drop, take-append-le, take_at, drop-drop}
use borrow.Rule.Slice.PartMut.{put_mid, post_of}

-- a copy of the start of what is left, and what is left after it
pub drop-copied : (xs : List ℕ) (at n : ℕ) (buf copied : List ℕ) → length copied ≡ n → copied ≡ take n (drop at xs) → drop at xs ≡ take n (copied ++ drop n buf) ++ drop (at + n) xs
drop-copied xs at n buf copied len e =
    rw (take_at copied (drop n buf) n len, ← drop-drop n at xs, e) (sym (take-append-drop n (drop at xs)))

-- a list without elements is the empty one
pub length-zero : (xs : List ℕ) → length xs ≡ 0 → xs ≡ []
length-zero [] e = refl
length-zero (x ∷ xs) e = absurd (omega arith)

-- the start of a buffer of which the part after the first a elements was written
pub take-written : (a n k : ℕ) (xs ys : List ℕ) → a ≤ length xs → n ≤ length ys → take (a + n) (put_mid a k xs ys) ≡ take a xs ++ take n ys
take-written a n k xs ys inside fits =
    let long : length (take a xs) ≡ a = omega (arith, length-take a xs) in
    ap (λ m. take (m + n) (put_mid a k xs ys)) (sym long) ∙ take-append-add (take a xs) (ys ++ post_of a k xs) n ∙ ap (λ zs. take a xs ++ zs) (take-append-le n ys (post_of a k xs) fits)
