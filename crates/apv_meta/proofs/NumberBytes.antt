-- Numbers of two and of four bytes, the high byte first.
use Rattle.std.proofs.Common.{◌≡◌, ℕ, zero, suc, ◌+◌, ◌/◌, ◌%◌, ◌^◌, ◌<◌, ◌≤◌, List, [], ◌∷◌, ◌++◌, length, drop, get_or, refl, sym, ap, ap₂, ◌∙◌, arith, w16, w32}
use Rattle.std.proofs.Math.Nat.{div-one, pow-zero}
use Rattle.std.proofs.lemmas.List.{drop_more, drop_all, append-nil, append_assoc}
use Rattle.std.proofs.lemmas.Nat.{be_bytes_2, be_bytes_4}
use Rattle.std.specs.Int.{bytes_high_first, to_be_bytes, from_be_bytes}
use Rattle.apv_base.specs.model.Bits.{be, digits}

high-first : (n v : ℕ) → bytes_high_first n v ≡ be n v
unfolding digits
high-first zero v = refl
high-first (suc zero) v = rw (pow-zero 256, div-one v) refl
high-first (suc (suc n)) v = ap (λ (ds : List ℕ). v / 256 ^ suc n % 256 ∷ ds) (high-first (suc n) v)

pub spelled-2 : (v : ℕ) → to_be_bytes w16 v ≡ be 2 v
spelled-2 v = high-first 2 v

pub spelled-4 : (v : ℕ) → to_be_bytes w32 v ≡ be 4 v
spelled-4 v = high-first 4 v

-- two numbers of two bytes each
pub both-spelled : (x y : ℕ) (a b : List ℕ) → a ≡ to_be_bytes w16 x → b ≡ to_be_bytes w16 y → get_or a 0 0 ∷ get_or a 1 0 ∷ get_or b 0 0 ∷ get_or b 1 0 ∷ [] ≡ be 2 x ++ be 2 y
both-spelled x y a b e f =
    ap₂ (λ (s t : List ℕ). get_or s 0 0 ∷ get_or s 1 0 ∷ get_or t 0 0 ∷ get_or t 1 0 ∷ []) e f ∙ ap₂ (λ (s t : List ℕ). s ++ t) (spelled-2 x) (spelled-2 y)

-- ---- read

two-small : (a b : ℕ) → a < 256 → b < 256 → (i : ℕ) → get_or (a ∷ b ∷ []) i 0 < 256
two-small a b p q zero = p
two-small a b p q (suc zero) = q
two-small a b p q (suc (suc i)) = omega arith

four-small : (a b c d : ℕ) → a < 256 → b < 256 → c < 256 → d < 256 → (i : ℕ) → get_or (a ∷ b ∷ c ∷ d ∷ []) i 0 < 256
four-small a b c d p q r s zero = p
four-small a b c d p q r s (suc zero) = q
four-small a b c d p q r s (suc (suc i)) = two-small c d r s i

-- two bytes of a list, and what follows them
two-cells : (xs : List ℕ) (p k m : ℕ) → p + 1 ≡ k → p + 2 ≡ m → m ≤ length xs → drop p xs ≡ get_or xs p 0 ∷ get_or xs k 0 ∷ drop m xs
two-cells xs p k m e f le =
    let next : k + 1 ≡ m = omega arith in
    drop_more xs p 0 (omega arith) ∙ ap (λ (ys : List ℕ). get_or xs p 0 ∷ ys)
    (ap (λ (n : ℕ). drop n xs) e ∙ drop_more xs k 0 (omega arith) ∙ ap (λ (n : ℕ). get_or xs k 0 ∷ drop n xs) next)

pub two-read : (xs : List ℕ) (p n : ℕ) → p + 2 ≤ length xs → ((i : ℕ) → get_or xs i 0 < 256) → n ≡ from_be_bytes w16 (get_or xs p 0 ∷ get_or xs (p + 1) 0 ∷ []) → drop p xs ≡ be 2 n ++ drop (p + 2) xs
two-read xs p n le small e =
    let bytes : List ℕ = get_or xs p 0 ∷ get_or xs (p + 1) 0 ∷ [] in
    let is : be 2 n ≡ bytes = sym (spelled-2 n) ∙ be_bytes_2 bytes n refl (two-small _ _ (small p) (small (p + 1))) e in
    two-cells xs p (p + 1) (p + 2) refl refl le ∙ ap (λ (ys : List ℕ). ys ++ drop (p + 2) xs) (sym is)

pub four-read : (xs : List ℕ) (p n : ℕ) → p + 4 ≤ length xs → ((i : ℕ) → get_or xs i 0 < 256) → n ≡ from_be_bytes w32 (get_or xs p 0 ∷ get_or xs (p + 1) 0 ∷ get_or xs (p + 2) 0 ∷ get_or xs (p + 3) 0 ∷ [])
    → drop p xs ≡ be 4 n ++ drop (p + 4) xs
four-read xs p n le small e =
    let bytes : List ℕ = get_or xs p 0 ∷ get_or xs (p + 1) 0 ∷ get_or xs (p + 2) 0 ∷ get_or xs (p + 3) 0 ∷ [] in
    let is : be 4 n ≡ bytes = sym (spelled-4 n) ∙ be_bytes_4 bytes n refl (four-small _ _ _ _ (small p) (small (p + 1)) (small (p + 2)) (small (p + 3))) e in
    two-cells xs p (p + 1) (p + 2) refl refl (omega arith)
    ∙ ap (λ (ys : List ℕ). get_or xs p 0 ∷ get_or xs (p + 1) 0 ∷ ys) (two-cells xs (p + 2) (p + 3) (p + 4) (omega arith) (omega arith) le)
    ∙ ap (λ (ys : List ℕ). ys ++ drop (p + 4) xs) (sym is)

-- a number, or two, and another after it
pub one-more : (xs a b : List ℕ) (p k m : ℕ) → k ≡ m → drop p xs ≡ a ++ drop k xs → drop m xs ≡ b → drop p xs ≡ a ++ b
one-more xs a b p k m same e f = e ∙ ap (λ (ys : List ℕ). a ++ ys) (ap (λ (n : ℕ). drop n xs) same ∙ f)

-- two parts, and what follows them
pub both-read : (xs a b : List ℕ) (p k m : ℕ) → k ≡ m → drop p xs ≡ a ++ drop (p + 2) xs → drop (p + 2) xs ≡ b ++ drop k xs → drop p xs ≡ (a ++ b) ++ drop m xs
both-read xs a b p k m same e f =
    one-more xs a (b ++ drop m xs) p (p + 2) (p + 2) refl e (f ∙ ap (λ (n : ℕ). b ++ drop n xs) same) ∙ sym (append_assoc a b (drop m xs))

-- the last part
pub last-read : (xs a : List ℕ) (p k : ℕ) → length xs ≡ k → drop p xs ≡ a ++ drop k xs → drop p xs ≡ a
last-read xs a p k len e = e ∙ ap (λ (ys : List ℕ). a ++ ys) (drop_all k xs (omega arith)) ∙ append-nil a

-- ---- parts

pub joined : {a b c d : List ℕ} → a ≡ b → c ≡ d → a ++ c ≡ b ++ d
joined {a} {b} {c} {d} e f = ap₂ (λ (x y : List ℕ). x ++ y) e f
