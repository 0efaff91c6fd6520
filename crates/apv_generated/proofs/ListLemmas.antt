-- Lists that are joined of pieces, and their maxima.
use Rattle.std.proofs.Common.{◌≡◌, ℕ, zero, suc, ◌+◌, ◌<◌, max, List, [], ◌∷◌, ◌++◌, refl, ap, sym, ◌∙◌, arith, add-zero, zero-add}
use Rattle.std.specs.List.{flat_map, range_with_len}
use Rattle.std.proofs.lemmas.List.{append-nil}
use Rattle.std.proofs.lemmas.List.Concat.{flat_map-append}
use Rattle.apv_base.specs.model.Picture.{joined}
use Rattle.apv_encoding.specs.Difference.{larger, maximum}

range-add : (m a n : ℕ) → range_with_len a (m + n) ≡ range_with_len a m ++ range_with_len (a + m) n
range-add zero a n = rw (zero-add n, add-zero a) refl
range-add (suc m) a n =
    let e : suc m + n ≡ suc (m + n) = omega arith in
    let f : a + suc m ≡ a + 1 + m = omega arith in
    rw (e, f) (ap (λ (xs : List ℕ). a ∷ xs) (range-add m (a + 1) n))

-- the same pieces
pub pieces-same : (n a b : ℕ) (f g : ℕ → List ℕ) → ((i : ℕ) → i < n → f (a + i) ≡ g (b + i)) → flat_map f (range_with_len a n) ≡ flat_map g (range_with_len b n)
pieces-same zero a b f g h = refl
pieces-same (suc n) a b f g h =
    let first : f a ≡ g b = rw (sym (add-zero a)) (rw (sym (add-zero b)) (h 0 (omega arith))) in
    let later : flat_map f (range_with_len (a + 1) n) ≡ flat_map g (range_with_len (b + 1) n) = pieces-same n (a + 1) (b + 1) f g (λ i less.
    let e : a + 1 + i ≡ a + (i + 1) = omega arith in
    let e' : b + 1 + i ≡ b + (i + 1) = omega arith in
    rw (e, e') (h (i + 1) (omega arith))) in
    cc

-- one more piece
pub joined-next : (n : ℕ) (f : ℕ → List ℕ) → joined (n + 1) f ≡ joined n f ++ f n
joined-next n f =
    let e : range_with_len 0 (n + 1) ≡ range_with_len 0 n ++ n ∷ [] = range-add n 0 1 ∙ ap (λ (k : ℕ). range_with_len 0 n ++ k ∷ []) (zero-add n) in
    ap (flat_map f) e ∙ flat_map-append f (range_with_len 0 n) (n ∷ []) ∙ ap (λ (xs : List ℕ). joined n f ++ xs) (append-nil (f n))

-- ---- maxima

larger-larger : (a b c : ℕ) → larger a (larger b c) ≡ larger (larger a b) c
larger-larger a b c = omega arith

maximum-append : (xs ys : List ℕ) → maximum (xs ++ ys) ≡ larger (maximum xs) (maximum ys)
unfolding maximum
maximum-append [] ys = omega arith
maximum-append (x ∷ xs) ys = ap (larger x) (maximum-append xs ys) ∙ larger-larger x (maximum xs) (maximum ys)

-- the maximum of no pieces
pub peak-none : (f : ℕ → List ℕ) → 0 ≡ maximum (flat_map f (range_with_len 0 0))
unfolding maximum
peak-none f = refl

-- the maximum of one number
pub peak-one : (n : ℕ) → n ≡ maximum (n ∷ [])
unfolding maximum
peak-one n = omega arith

-- more pieces
pub peak-more : (f : ℕ → List ℕ) (n m peak here top : ℕ) → peak ≡ maximum (flat_map f (range_with_len 0 n)) → here ≡ maximum (flat_map f (range_with_len n m)) → top ≡ max peak here
    → top ≡ maximum (flat_map f (range_with_len 0 (n + m)))
peak-more f n m peak here top so is most =
    let e : range_with_len 0 (n + m) ≡ range_with_len 0 n ++ range_with_len n m = range-add n 0 m ∙ ap (λ (k : ℕ). range_with_len 0 n ++ range_with_len k m) (zero-add n) in
    let all : maximum (flat_map f (range_with_len 0 (n + m))) ≡ larger (maximum (flat_map f (range_with_len 0 n))) (maximum (flat_map f (range_with_len n m))) =
    ap (λ (ns : List ℕ). maximum (flat_map f ns)) e ∙ ap maximum (flat_map-append f (range_with_len 0 n) (range_with_len n m)) ∙ maximum-append (flat_map f (range_with_len 0 n)) (flat_map f (range_with_len n m)) in
    omega arith

-- one more piece
pub peak-next : (f : ℕ → List ℕ) (n peak here top : ℕ) → peak ≡ maximum (flat_map f (range_with_len 0 n)) → here ≡ maximum (f n) → top ≡ max peak here
    → top ≡ maximum (flat_map f (range_with_len 0 (n + 1)))
peak-next f n peak here top so is most = peak-more f n 1 peak here top so (is ∙ ap maximum (sym (append-nil (f n)))) most
