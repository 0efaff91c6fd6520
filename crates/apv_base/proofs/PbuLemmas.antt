-- What a walk over the fields before a body finds, by its tests.
use Rattle.std.proofs.Common.{◌≡◌, ◌≢◌, ℕ, ◌+◌, ◌-◌, ◌*◌, ◌<◌, ◌≤◌, List, [], ◌∷◌, ◌++◌, length, get_or, drop, take, refl, ap, ap₂, sym, subst, ◌∙◌, Result, Ok, Err, arith, length-drop}
use Rattle.std.specs.Int.{from_be_bytes, w32}
use Rattle.std.proofs.lemmas.List.{drop-drop, take_at, drop_at, take-append-drop, length-take-le}
use Rattle.std.proofs.lemmas.Bool.{ne_eqb, lt-ltb, le-ltb, eq-eqb}
use Rattle.apv_base.specs.declared.rules.Rule.{Rule}
use Rattle.apv_base.specs.declared.rules.Rule.TheVariants.{V4, V5, V6, V7, V8, V25}
use Rattle.apv_base.specs.model.Bits.{number}
use Rattle.apv_base.specs.model.Table.{walk}
use Rattle.apv_base.specs.model.Pbu.{pbu_table, metadata_table}
use Rattle.apv_base.specs.model.Unit.{HasPbuHeader}

-- ---- numbers of a few bytes

pub number_1 : (a : ℕ) → number 256 (a ∷ []) ≡ a
unfolding number
number_1 a = omega arith

pub number_2 : (a b : ℕ) → number 256 (a ∷ b ∷ []) ≡ a * 256 + b
unfolding number
number_2 a b = omega arith

pub number_4 : (a b c d : ℕ) → number 256 (a ∷ b ∷ c ∷ d ∷ []) ≡ from_be_bytes w32 (a ∷ b ∷ c ∷ d ∷ [])
unfolding number
number_4 a b c d = omega arith

-- the digits of a number that is spelled in four bytes
pub cells_4 : (xs : List ℕ) → 4 ≤ length xs → (a b c d : ℕ) × (rest : List ℕ) × (xs ≡ a ∷ b ∷ c ∷ d ∷ rest)
cells_4 [] le = absurd (omega arith)
cells_4 (a ∷ []) le = absurd (omega arith)
cells_4 (a ∷ b ∷ []) le = absurd (omega arith)
cells_4 (a ∷ b ∷ c ∷ []) le = absurd (omega arith)
cells_4 (a ∷ b ∷ c ∷ d ∷ rest) le = (a, b, c, d, rest, refl)

pub number_4-take : (xs : List ℕ) → 4 ≤ length xs → number 256 (take 4 xs) ≡ from_be_bytes w32 (take 4 xs)
number_4-take xs le = let s = cells_4 xs le in rw s.5 (number_4 s.0 s.1 s.2 s.3)

-- ---- the fields before a body

abbrev pub Fails : List ℕ → Rule → Type 0
Fails xs rule = ◌≡◌ {A = Result (List ℕ × List ℕ) Rule} (walk 256 pbu_table xs) (Err rule)

pub no-size : (xs : List ℕ) → length xs < 4 → Fails xs V4
unfolding walk
no-size xs lt = rw (lt-ltb (length xs) 4 lt) refl

pub small : (xs : List ℕ) (n : ℕ) → 4 ≤ length xs → n ≡ number 256 (take 4 xs) → n < 4 → Fails xs V5
unfolding walk
small xs n le e lt = rw (le-ltb (length xs) 4 le, ← e, lt-ltb n 4 lt) refl

pub cut : (xs : List ℕ) (n : ℕ) → 4 ≤ length xs → n ≡ number 256 (take 4 xs) → 4 ≤ n → length xs < 4 + n → Fails xs V6
unfolding walk
cut xs n le e le2 lt = let gt : length xs - 4 < n = omega arith in rw (le-ltb (length xs) 4 le, ← e, le-ltb n 4 le2, lt-ltb (length xs - 4) n gt) refl

-- the eight bytes of the fields
pub cells_8 : (xs : List ℕ) → 8 ≤ length xs → (a b c d e f g h : ℕ) × (rest : List ℕ) × (xs ≡ a ∷ b ∷ c ∷ d ∷ e ∷ f ∷ g ∷ h ∷ rest)
cells_8 xs le =
    let s = cells_4 xs (omega arith) in
    let t = cells_4 s.4 (omega (arith, ap length s.5)) in
    (s.0, s.1, s.2, s.3, t.0, t.1, t.2, t.3, t.4, s.5 ∙ ap (λ (ys : List ℕ). s.0 ∷ s.1 ∷ s.2 ∷ s.3 ∷ ys) t.5)

abbrev pub Walked : List ℕ → List ℕ → List ℕ → Type 0
Walked xs values rest = ◌≡◌ {A = Result (List ℕ × List ℕ) Rule} (walk 256 pbu_table xs) (Ok (values, rest))

header-zero : (a b c d k g h r : ℕ) (rest : List ℕ) (n : ℕ) → n ≡ number 256 (a ∷ b ∷ c ∷ d ∷ []) → 4 ≤ n → n ≤ length rest + 4 → r ≡ 0
    → Walked (a ∷ b ∷ c ∷ d ∷ k ∷ g ∷ h ∷ r ∷ rest) (n ∷ k ∷ (g * 256 + h) ∷ r ∷ []) rest
unfolding walk
header-zero a b c d k g h r rest n e low high z =
    let eight : 4 ≤ length (a ∷ b ∷ c ∷ d ∷ k ∷ g ∷ h ∷ r ∷ rest) = omega arith in
    let fits : n ≤ length (a ∷ b ∷ c ∷ d ∷ k ∷ g ∷ h ∷ r ∷ rest) - 4 = omega arith in
    let four : 1 ≤ length (k ∷ g ∷ h ∷ r ∷ rest) = omega arith in
    let three : 2 ≤ length (g ∷ h ∷ r ∷ rest) = omega arith in
    let one : 1 ≤ length (r ∷ rest) = omega arith in
    rw (
      le-ltb (length (a ∷ b ∷ c ∷ d ∷ k ∷ g ∷ h ∷ r ∷ rest)) 4 eight,
      ← e,
      le-ltb n 4 low,
      le-ltb (length (a ∷ b ∷ c ∷ d ∷ k ∷ g ∷ h ∷ r ∷ rest) - 4) n fits,
      le-ltb (length (k ∷ g ∷ h ∷ r ∷ rest)) 1 four,
      le-ltb (length (g ∷ h ∷ r ∷ rest)) 2 three,
      le-ltb (length (r ∷ rest)) 1 one,
      number_1 k,
      number_2 g h,
      number_1 r,
      eq-eqb r 0 z,
    ) refl

header-set : (a b c d k g h r : ℕ) (rest : List ℕ) (n : ℕ) → n ≡ number 256 (a ∷ b ∷ c ∷ d ∷ []) → 4 ≤ n → n ≤ length rest + 4 → r ≢ 0
    → Fails (a ∷ b ∷ c ∷ d ∷ k ∷ g ∷ h ∷ r ∷ rest) V7
unfolding walk
header-set a b c d k g h r rest n e low high ne =
    let eight : 4 ≤ length (a ∷ b ∷ c ∷ d ∷ k ∷ g ∷ h ∷ r ∷ rest) = omega arith in
    let fits : n ≤ length (a ∷ b ∷ c ∷ d ∷ k ∷ g ∷ h ∷ r ∷ rest) - 4 = omega arith in
    let four : 1 ≤ length (k ∷ g ∷ h ∷ r ∷ rest) = omega arith in
    let three : 2 ≤ length (g ∷ h ∷ r ∷ rest) = omega arith in
    let one : 1 ≤ length (r ∷ rest) = omega arith in
    rw (
      le-ltb (length (a ∷ b ∷ c ∷ d ∷ k ∷ g ∷ h ∷ r ∷ rest)) 4 eight,
      ← e,
      le-ltb n 4 low,
      le-ltb (length (a ∷ b ∷ c ∷ d ∷ k ∷ g ∷ h ∷ r ∷ rest) - 4) n fits,
      le-ltb (length (k ∷ g ∷ h ∷ r ∷ rest)) 1 four,
      le-ltb (length (g ∷ h ∷ r ∷ rest)) 2 three,
      le-ltb (length (r ∷ rest)) 1 one,
      number_1 r,
      ne_eqb r 0 ne,
    ) refl

pub reserved : (xs : List ℕ) (n : ℕ) → 8 ≤ length xs → n ≡ number 256 (take 4 xs) → 4 ≤ n → n + 4 ≤ length xs → get_or xs 7 0 ≢ 0 → Fails xs V7
reserved xs n le e low high ne =
    let s = cells_8 xs le in
    subst (λ (ys : List ℕ). Fails ys V7) (sym s.9)
    (header-set s.0 s.1 s.2 s.3 s.4 s.5 s.6 s.7 s.8 n (e ∙ ap (λ (ys : List ℕ). number 256 (take 4 ys)) s.9) low (omega (arith, ap length s.9)) (λ z. ne (ap (λ (ys : List ℕ). get_or ys 7 0) s.9 ∙ z)))

same-header : (n m k l g h : ℕ) (r : ℕ) (xs ys : List ℕ) → n ≡ m → k ≡ l → g ≡ h → r ≡ 0 → xs ≡ ys
    → ◌≡◌ {A = Result (List ℕ × List ℕ) Rule} (Ok (n ∷ k ∷ g ∷ r ∷ [], xs)) (Ok (m ∷ l ∷ h ∷ 0 ∷ [], ys))
same-header n m k l g h r xs ys e f i j p = rw (e, f, i, j, p) refl

pub whole : (xs : List ℕ) (n kind group : ℕ) (body after : List ℕ) → 8 ≤ length xs → n ≡ number 256 (take 4 xs) → 4 ≤ n → n + 4 ≤ length xs → get_or xs 7 0 ≡ 0
    → kind ≡ get_or xs 4 0 → group ≡ get_or xs 5 0 * 256 + get_or xs 6 0 → body ≡ take (n - 4) (drop 8 xs) → after ≡ drop (n + 4) xs → HasPbuHeader xs kind group body after
whole xs n kind group body after le e low high z k g b h =
    let s = cells_8 xs le in
    let at = header-zero s.0 s.1 s.2 s.3 s.4 s.5 s.6 s.7 s.8 n (e ∙ ap (λ (ys : List ℕ). number 256 (take 4 ys)) s.9) low (omega (arith, ap length s.9)) (sym (ap (λ (ys : List ℕ). get_or ys 7 0) s.9) ∙ z) in
    let rest : drop 8 xs ≡ s.8 = ap (drop 8) s.9 in
    let cut : n - 4 ≤ length (drop 8 xs) = omega (arith, length-drop 8 xs) in
    let size : n ≡ length body + 4 = omega (arith, ap length b, length-take-le (n - 4) (drop 8 xs) cut) in
    let m : 8 + (n - 4) ≡ n + 4 = omega arith in
    let parts : s.8 ≡ body ++ after = sym rest ∙ sym (take-append-drop (n - 4) (drop 8 xs)) ∙ ap₂ (λ (x y : List ℕ). x ++ y) (sym b) (drop-drop (n - 4) 8 xs ∙ ap (λ (i : ℕ). drop i xs) m ∙ sym h) in
    let kinds : s.4 ≡ kind = sym (ap (λ (ys : List ℕ). get_or ys 4 0) s.9) ∙ sym k in
    let groups : s.5 * 256 + s.6 ≡ group = sym (ap (λ (ys : List ℕ). get_or ys 5 0 * 256 + get_or ys 6 0) s.9) ∙ sym g in
    ap (walk 256 pbu_table) s.9 ∙ (at ∙ same-header n (length body + 4) s.4 kind (s.5 * 256 + s.6) group s.7 s.8 (body ++ after) size kinds groups (sym (ap (λ (ys : List ℕ). get_or ys 7 0) s.9) ∙ z) parts)

-- ---- metadata_size

abbrev pub MetadataFails : List ℕ → Rule → Type 0
MetadataFails xs rule = ◌≡◌ {A = Result (List ℕ × List ℕ) Rule} (walk 256 metadata_table xs) (Err rule)

pub metadata-no-size : (xs : List ℕ) → length xs < 4 → MetadataFails xs V8
unfolding walk
metadata-no-size xs lt = rw (lt-ltb (length xs) 4 lt) refl

pub metadata-small : (xs : List ℕ) (n : ℕ) → 4 ≤ length xs → n ≡ number 256 (take 4 xs) → n < 2 → MetadataFails xs V25
unfolding walk
metadata-small xs n le e lt = rw (le-ltb (length xs) 4 le, ← e, lt-ltb n 2 lt) refl

pub metadata-cut : (xs : List ℕ) (n : ℕ) → 4 ≤ length xs → n ≡ number 256 (take 4 xs) → 2 ≤ n → length (drop 4 xs) < n → MetadataFails xs V25
unfolding walk
metadata-cut xs n le e le2 lt =
    let gt : length xs - 4 < n = omega (arith, length-drop 4 xs) in
    rw (le-ltb (length xs) 4 le, ← e, le-ltb n 2 le2, lt-ltb (length xs - 4) n gt) refl

pub metadata-whole : (xs : List ℕ) (n : ℕ) → 4 ≤ length xs → n ≡ number 256 (take 4 xs) → 2 ≤ n → n ≤ length (drop 4 xs) → ◌≡◌ {A = Result (List ℕ × List ℕ) Rule} (walk 256 metadata_table xs) (Ok (n ∷ [], drop 4 xs))
unfolding walk
metadata-whole xs n le e le2 le3 =
    let fits : n ≤ length xs - 4 = omega (arith, length-drop 4 xs) in
    rw (le-ltb (length xs) 4 le, ← e, le-ltb n 2 le2, le-ltb (length xs - 4) n fits) refl

-- ---- a list has the fields of one body at most

append-same : (xs ys us vs : List ℕ) → length xs ≡ length us → xs ++ ys ≡ us ++ vs → (xs ≡ us) × (ys ≡ vs)
append-same xs ys us vs len e = (
  sym (take_at xs ys (length xs) refl) ∙ ap (take (length xs)) e ∙ take_at us vs (length xs) (sym len),
  sym (drop_at xs ys (length xs) refl) ∙ ap (drop (length xs)) e ∙ drop_at us vs (length xs) (sym len),
)

pub record SameHeader (kind group kind' group' : ℕ) (body after body' after' : List ℕ) : Type 0 where
  pub kinds : kind ≡ kind'
  pub groups : group ≡ group'
  pub bodies : body ≡ body'
  pub afters : after ≡ after'

pair_of-Ok : {a c b d : List ℕ} → ◌≡◌ {A = Result (List ℕ × List ℕ) Rule} (Ok (a, b)) (Ok (c, d)) → (a ≡ c) × (b ≡ d)
pair_of-Ok {a} {c} {b} {d} e =
    let p : ◌≡◌ {A = List ℕ × List ℕ} (a, b) (c, d) = cc in
    (ap (λ (q : List ℕ × List ℕ). q.0) p, ap (λ (q : List ℕ × List ℕ). q.1) p)

pub one-header : (xs : List ℕ) (kind group kind' group' : ℕ) (body after body' after' : List ℕ) → HasPbuHeader xs kind group body after → HasPbuHeader xs kind' group' body' after'
    → SameHeader kind group kind' group' body after body' after'
one-header xs kind group kind' group' body after body' after' e f =
    let p = pair_of-Ok (sym e ∙ f) in
    let len : length body + 4 ≡ length body' + 4 = cc in
    let parts = append-same body after body' after' (omega arith) p.1 in
    record { kinds = cc; groups = cc; bodies = parts.0; afters = parts.1 }
