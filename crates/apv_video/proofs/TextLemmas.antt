-- Texts that are joined of pieces.
use Rattle.std.proofs.Common.{◌≡◌, ℕ, zero, suc, ◌+◌, ◌-◌, ◌*◌, ◌/◌, ◌%◌, ◌<◌, List, [], ◌∷◌, ◌++◌, map, refl, ap, sym, ◌∙◌, arith, add-zero, zero-add}
use Rattle.std.specs.List.{flat_map, range_with_len}
use Rattle.std.proofs.lemmas.List.{append-nil}
use Rattle.std.proofs.lemmas.List.Concat.{flat_map-append}
use Rattle.std.proofs.lemmas.Nat.{div-mul-add, mod-mul-add}
use Rattle.apv_base.specs.model.Picture.{joined, low_first}

range-add : (m a n : ℕ) → range_with_len a (m + n) ≡ range_with_len a m ++ range_with_len (a + m) n
range-add zero a n = rw (zero-add n, add-zero a) refl
range-add (suc m) a n =
    let e : suc m + n ≡ suc (m + n) = omega arith in
    let f : a + suc m ≡ a + 1 + m = omega arith in
    rw (e, f) (ap (λ (xs : List ℕ). a ∷ xs) (range-add m (a + 1) n))

-- n more pieces
pub joined-add : (a n : ℕ) (f : ℕ → List ℕ) → joined (a + n) f ≡ joined a f ++ flat_map f (range_with_len a n)
joined-add a n f =
    ap (flat_map f) (range-add a 0 n)
    ∙ ap (λ (k : ℕ). flat_map f (range_with_len 0 a ++ range_with_len k n)) (zero-add a)
    ∙ flat_map-append f (range_with_len 0 a) (range_with_len a n)

-- the pieces before one, that one, and those after it
pub joined-split : (i n : ℕ) (f : ℕ → List ℕ) → i < n → joined n f ≡ joined i f ++ (f i ++ flat_map f (range_with_len (i + 1) (n - i - 1)))
joined-split i n f less =
    let e : n ≡ i + suc (n - i - 1) = omega arith in
    ap (λ (m : ℕ). joined m f) e ∙ joined-add i (suc (n - i - 1)) f

-- one more piece
pub joined-more : (i : ℕ) (f : ℕ → List ℕ) → joined (i + 1) f ≡ joined i f ++ f i
joined-more i f = joined-add i 1 f ∙ ap (λ (xs : List ℕ). joined i f ++ xs) (append-nil (f i))

-- the same pieces
pub pieces-same : (n a b : ℕ) (f g : ℕ → List ℕ) → ((x : ℕ) → x < n → f (a + x) ≡ g (b + x)) → flat_map f (range_with_len a n) ≡ flat_map g (range_with_len b n)
pieces-same zero a b f g h = refl
pieces-same (suc n) a b f g h =
    let first : f a ≡ g b = rw (sym (add-zero a)) (rw (sym (add-zero b)) (h 0 (omega arith))) in
    let later : flat_map f (range_with_len (a + 1) n) ≡ flat_map g (range_with_len (b + 1) n) = pieces-same n (a + 1) (b + 1) f g (λ x less.
    let e : a + 1 + x ≡ a + (x + 1) = omega arith in
    let e' : b + 1 + x ≡ b + (x + 1) = omega arith in
    rw (e, e') (h (x + 1) (omega arith))) in
    cc

-- h rows of w pieces each
pub joined-rows : (h w : ℕ) (f : ℕ → List ℕ) (row : ℕ → ℕ → List ℕ) → ((x y : ℕ) → x < w → f (y * w + x) ≡ row y x) → joined (h * w) f ≡ joined h (λ y. joined w (row y))
joined-rows zero w f row same = let e : zero * w ≡ zero = omega arith in rw e refl
joined-rows (suc h) w f row same =
    let e : suc h * w ≡ h * w + w = grind arith in
    let s : suc h ≡ h + 1 = omega arith in
    let g : ℕ → List ℕ = λ (y : ℕ). joined w (row y) in
    let last : flat_map f (range_with_len (h * w) w) ≡ joined w (row h) = pieces-same w (h * w) 0 f (row h) (λ x less. rw (zero-add x) (same x h less)) in
    ap (λ (n : ℕ). joined n f) e ∙ joined-add (h * w) w f
    ∙ ap (λ (xs : List ℕ). xs ++ flat_map f (range_with_len (h * w) w)) (joined-rows h w f row same)
    ∙ ap (λ (xs : List ℕ). joined h g ++ xs) last ∙ sym (joined-more h g) ∙ ap (λ (n : ℕ). joined n g) (sym s)

-- samples by their numbers, row after row
pub by-number : (h w : ℕ) (s : ℕ → ℕ → ℕ) → joined (h * w) (λ n. low_first (s (n % w) (n / w))) ≡ joined h (λ y. joined w (λ x. low_first (s x y)))
by-number h w s =
    joined-rows h w (λ (n : ℕ). low_first (s (n % w) (n / w))) (λ (y x : ℕ). low_first (s x y))
    (λ x y less. rw (mod-mul-add y w x less, div-mul-add y w x less) refl)

-- the pieces of a mapped list
pub flat_map-map : (f : ℕ → List ℕ) (g : ℕ → ℕ) (xs : List ℕ) → flat_map f (map g xs) ≡ flat_map (λ x. f (g x)) xs
flat_map-map f g [] = refl
flat_map-map f g (x ∷ xs) = ap (λ (ys : List ℕ). f (g x) ++ ys) (flat_map-map f g xs)
