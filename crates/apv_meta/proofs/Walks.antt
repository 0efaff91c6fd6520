-- Walking a number, byte by byte, and a payload.
use Rattle.std.proofs.Common.{◌≡◌, ◌≢◌, ℕ, ◌+◌, ◌<◌, ◌≤◌, List, length, get_or, drop, take, refl, ap, ◌∙◌, Option, Some, None, arith}
use Rattle.std.proofs.lemmas.List.{drop_more, drop_all, drop-drop}
use Rattle.std.proofs.lemmas.Bool.{ne_eqb}
use Rattle.apv_base.specs.model.Table.{coded_at, counted}
use Rattle.apv_base.specs.model.Payload.{PayloadAt}
use Rattle.apv_base.proofs.SomeUnitLemmas.{whole-payload}

pub counted-counted : (m n k : ℕ) (read : Option (ℕ × List ℕ)) → m + n ≡ k → counted m (counted n read) ≡ counted k read
counted-counted m n k None e = refl
counted-counted m n k (Some r) e = ap (λ (x : ℕ). Some (x, r.1)) (omega arith)

-- at a byte that counts 255
pub goes-on : (xs : List ℕ) (i n : ℕ) → i < length xs → get_or xs i 0 ≡ 255 → coded_at xs ≡ counted n (coded_at (drop i xs)) → coded_at xs ≡ counted (n + 255) (coded_at (drop (i + 1) xs))
unfolding coded_at
goes-on xs i n lt e h = h ∙ (rw (drop_more xs i 0 lt, e) (counted-counted n 255 (n + 255) (coded_at (drop (i + 1) xs)) refl))

-- at another
pub ends : (xs : List ℕ) (i n : ℕ) → i < length xs → get_or xs i 0 ≢ 255 → coded_at xs ≡ counted n (coded_at (drop i xs)) → coded_at xs ≡ Some (n + get_or xs i 0, drop (i + 1) xs)
unfolding coded_at
ends xs i n lt ne h = h ∙ (rw (drop_more xs i 0 lt, ne_eqb (get_or xs i 0) 255 ne) refl)

-- at the end of the list
pub cut-off : (xs : List ℕ) (i n : ℕ) → length xs ≤ i → coded_at xs ≡ counted n (coded_at (drop i xs)) → coded_at xs ≡ None
unfolding coded_at
cut-off xs i n le h = h ∙ rw (drop_all i xs le) refl

-- the same, as the code names it
pub as-named : (ys : List ℕ) (p i k n v w : ℕ) → v ≡ w → k ≡ p + (i + 1) → ◌≡◌ {A = Option (ℕ × List ℕ)} (Some (n + w, drop (i + 1) (drop p ys))) (Some (n + v, drop k ys))
as-named ys p i k n v w e f = rw (e, f) (ap (λ (r : List ℕ). Some (n + w, r)) (drop-drop (i + 1) p ys))

-- ---- payloads

-- a whole payload, as the code names its bytes and what follows it
pub whole : (xs : List ℕ) (k : ℕ) (ys : List ℕ) (n : ℕ) (zs bytes after : List ℕ) → coded_at xs ≡ Some (k, ys) → coded_at ys ≡ Some (n, zs) → n ≤ length zs → bytes ≡ take n zs → after ≡ drop n zs
    → PayloadAt xs (record { kind = k; bytes = bytes }) after
whole xs k ys n zs bytes after e f le g h = rw (g, h) (whole-payload xs k ys n zs e f le)
