-- The bytes of a tile header, as they are spelled and as they are written.
use Rattle.std.proofs.Common.{◌≡◌, ℕ, zero, suc, ◌+◌, ◌-◌, ◌*◌, ◌/◌, ◌%◌, ◌^◌, ◌<◌, ◌≤◌, List, [], ◌∷◌, ◌++◌, length, set, take, drop, refl, sym, ap, ap₂, ◌∙◌, subst, arith, Option, length-append, length-drop, append_assoc, div-one}
use Rattle.std.proofs.Math.Nat.{mod-eq_of_lt, pow-zero}
use Rattle.std.proofs.Math.Seq.{take-length}
use Rattle.std.proofs.lemmas.List.{take_at, take_more_set, length-set, length-take-le, append-nil}
use Rattle.std.proofs.lemmas.Grind.{flat_map-append}
use Rattle.std.proofs.lemmas.Slice.{take-put_mid}
use Rattle.std.specs.Int.{bytes_high_first}
use Rattle.std.specs.List.{flat_map}
use borrow.Rule.Slice.PartMut.{put_mid}
use Rattle.apv_base.specs.model.Bits.{be, digits, AreBytes}
use Rattle.apv_base.specs.model.Table.{Table, done, fields, spell}
use Rattle.apv_base.specs.model.Tile.{Layout, tile_header_size, tile_header_fields, tile_header_values}

-- ---- numbers in bytes

bytes-be : (n v : ℕ) → bytes_high_first n v ≡ be n v
unfolding digits
bytes-be zero v = refl
bytes-be (suc zero) v = rw (pow-zero 256, div-one v) refl
bytes-be (suc (suc n)) v = ap (λ (ds : List ℕ). v / 256 ^ suc n % 256 ∷ ds) (bytes-be (suc n) v)

pub bytes_2 : (v : ℕ) → bytes_high_first 2 v ≡ be 2 v
bytes_2 v = bytes-be 2 v

pub bytes_4 : (v : ℕ) → bytes_high_first 4 v ≡ be 4 v
bytes_4 v = bytes-be 4 v

pub length-be : (n v : ℕ) → length (be n v) ≡ n
unfolding digits
length-be zero v = refl
length-be (suc n) v = ap suc (length-be n v)

-- a byte is spelled by itself
be_1 : (v : ℕ) → v < 256 → be 1 v ≡ v ∷ []
unfolding digits
be_1 v lt = rw (pow-zero 256, div-one v, mod-eq_of_lt lt) refl

bytes_1 : (xs : List ℕ) → AreBytes xs → flat_map (be 1) xs ≡ xs
bytes_1 [] h = refl
bytes_1 (x ∷ xs) h = ap₂ (λ (a b : List ℕ). a ++ b) (be_1 x (h 0)) (bytes_1 xs (λ i. h (suc i)))

-- ---- fields that are spelled

spell-fields : {E : Type 0} (count n : ℕ) (short : E) (check : ℕ → ℕ → Option E) (next : List ℕ → Table E) (values rest : List ℕ) → length values ≡ count
    → spell 256 (fields count n short check next) (values ++ rest) ≡ flat_map (be n) values ++ spell 256 (next values) rest
unfolding spell fields
spell-fields zero n short check next [] rest e = refl
spell-fields zero n short check next (v ∷ values) rest e = absurd (omega (arith, e))
spell-fields (suc count) n short check next [] rest e = absurd (omega (arith, e))
spell-fields (suc count) n short check next (v ∷ values) rest e =
    ap (λ (xs : List ℕ). be n v ++ xs) (spell-fields count n short check (λ values. next (v ∷ values)) values rest (omega (arith, e)))
    ∙ sym (append_assoc (be n v) (flat_map (be n) values) (spell 256 (next (v ∷ values)) rest))

-- the last value after the others
split-last : (xs : List ℕ) → 0 < length xs → (prefix : List ℕ) × (last : ℕ) × (xs ≡ prefix ++ last ∷ [])
split-last [] lt = absurd (omega arith)
split-last (x ∷ []) lt = ([], x, refl)
split-last (x ∷ y ∷ xs) lt =
    let s = split-last (y ∷ xs) (omega arith) in
    (x ∷ s.0, s.1, ap (λ (ys : List ℕ). x ∷ ys) s.2)

-- the bytes of a tile header in the order of its fields
spell-rest : (comps depth count index size : ℕ) (sizes : Option (List ℕ)) (prefix qps : List ℕ) (last : ℕ) → length prefix ≡ comps - 1 → length qps ≡ comps
    → spell 256 (tile_header_fields (record { comps = comps; depth = depth; count = count; sizes = sizes }) index size done) (tile_header_size comps ∷ index ∷ (prefix ++ (last ∷ (qps ++ 0 ∷ []))))
    ≡ be 2 (tile_header_size comps) ++ (be 2 index ++ (flat_map (be 4) prefix ++ (be 4 last ++ (flat_map (be 1) qps ++ 0 ∷ []))))
unfolding spell digits
spell-rest comps depth count index size sizes prefix qps last e f =
    rw (spell-fields (comps - 1) 4 _ _ _ prefix (last ∷ (qps ++ 0 ∷ [])) e, spell-fields comps 1 _ _ _ qps (0 ∷ []) f) refl

spelled-at : (layout : Layout) (index size : ℕ) (lengths qps : List ℕ) → length lengths ≡ layout.comps → length qps ≡ layout.comps → 0 < layout.comps → AreBytes qps
    → spell 256 (tile_header_fields layout index size done) (tile_header_values layout.comps index lengths qps) ≡ be 2 (tile_header_size layout.comps) ++ (be 2 index ++ (flat_map (be 4) lengths ++ (qps ++ 0 ∷ [])))
spelled-at layout index size lengths qps e f lt h =
    let s = split-last lengths (omega arith) in
    let prefix : List ℕ = s.0 in
    let last : ℕ = s.1 in
    let rest : List ℕ = qps ++ 0 ∷ [] in
    let count : length s.0 ≡ layout.comps - 1 = omega (arith, ap length s.2, length-append s.0 (s.1 ∷ [])) in
    let order : (lengths ++ qps) ++ 0 ∷ [] ≡ prefix ++ (last ∷ rest) =
    append_assoc lengths qps (0 ∷ []) ∙ ap (λ (xs : List ℕ). xs ++ (qps ++ 0 ∷ [])) s.2 ∙ append_assoc prefix (last ∷ []) rest in
    let bytes : flat_map (be 4) prefix ++ (be 4 last ++ rest) ≡ flat_map (be 4) lengths ++ rest =
    sym (append_assoc (flat_map (be 4) prefix) (be 4 last) rest)
    ∙ ap (λ (xs : List ℕ). (flat_map (be 4) prefix ++ xs) ++ rest) (sym (append-nil (be 4 last)))
    ∙ ap (λ (xs : List ℕ). xs ++ rest) (sym (flat_map-append (be 4) prefix (last ∷ [])) ∙ ap (flat_map (be 4)) (sym s.2)) in
    ap (λ (xs : List ℕ). spell 256 (tile_header_fields layout index size done) (tile_header_size layout.comps ∷ index ∷ xs)) order
    ∙ spell-rest layout.comps layout.depth layout.count index size layout.sizes prefix qps last count f
    ∙ ap (λ (xs : List ℕ). be 2 (tile_header_size layout.comps) ++ (be 2 index ++ (flat_map (be 4) prefix ++ (be 4 last ++ (xs ++ 0 ∷ []))))) (bytes_1 qps h)
    ∙ ap (λ (xs : List ℕ). be 2 (tile_header_size layout.comps) ++ (be 2 index ++ xs)) bytes

-- ---- the bytes as they are written

length-put : (a k : ℕ) (xs ys : List ℕ) → a + k ≤ length xs → length ys ≡ k → length (put_mid a k xs ys) ≡ length xs
length-put a k xs ys le e =
    length-append (take a xs) (ys ++ drop k (drop a xs))
    ∙ ap₂ (λ (m n : ℕ). m + n) (length-take-le a xs (omega arith)) (length-append ys (drop k (drop a xs)))
    ∙ omega (arith, length-drop k (drop a xs), length-drop a xs)

-- the header's size, the tile's index, the lengths, the QPs and the reserved byte were written in turn
pub written : (out size index lengths qps : List ℕ) (comps : ℕ) → length out ≡ 5 * comps + 5 → length size ≡ 2 → length index ≡ 2 → length lengths ≡ 4 * comps → length qps ≡ comps
    → set (put_mid (4 + 4 * comps) (4 + 5 * comps - (4 + 4 * comps)) (put_mid 4 (4 + 4 * comps - 4) (put_mid 2 2 (size ++ drop 2 out) index) lengths) qps) (4 + 5 * comps) 0
    ≡ size ++ (index ++ (lengths ++ (qps ++ 0 ∷ [])))
written out size index lengths qps comps room ls li ll lq =
    let first : List ℕ = size ++ drop 2 out in
    let second : List ℕ = put_mid 2 2 (size ++ drop 2 out) index in
    let third : List ℕ = put_mid 4 (4 + 4 * comps - 4) (put_mid 2 2 (size ++ drop 2 out) index) lengths in
    let fourth : List ℕ = put_mid (4 + 4 * comps) (4 + 5 * comps - (4 + 4 * comps)) (put_mid 4 (4 + 4 * comps - 4) (put_mid 2 2 (size ++ drop 2 out) index) lengths) qps in
    let a : length first ≡ 5 * comps + 5 = length-append size (drop 2 out) ∙ omega (arith, length-drop 2 out, ls, room) in
    let b : length second ≡ 5 * comps + 5 = length-put 2 2 first index (omega (arith, a)) li ∙ a in
    let c : length third ≡ 5 * comps + 5 = length-put 4 (4 + 4 * comps - 4) second lengths (omega (arith, b)) (omega (arith, ll)) ∙ b in
    let d : length fourth ≡ 5 * comps + 5 = length-put (4 + 4 * comps) (4 + 5 * comps - (4 + 4 * comps)) third qps (omega (arith, c)) (omega (arith, lq)) ∙ c in
    let within : 4 + 5 * comps < length fourth = omega (arith, d) in
    let all : length (set fourth (4 + 5 * comps) 0) ≡ 4 + 5 * comps + 1 = length-set fourth (4 + 5 * comps) 0 ∙ omega (arith, d) in
    sym (take-length (set fourth (4 + 5 * comps) 0))
    ∙ ap (λ (n : ℕ). take n (set fourth (4 + 5 * comps) 0)) all
    ∙ take_more_set fourth (4 + 5 * comps) 0 within
    ∙ ap (λ (xs : List ℕ). xs ++ 0 ∷ [])
    (take-put_mid (4 + 4 * comps) (4 + 5 * comps - (4 + 4 * comps)) third qps (4 + 5 * comps) (omega (arith, lq)) (omega (arith, c))
    ∙ ap (λ (xs : List ℕ). xs ++ qps)
    (take-put_mid 4 (4 + 4 * comps - 4) second lengths (4 + 4 * comps) (omega (arith, ll)) (omega (arith, b))
    ∙ ap (λ (xs : List ℕ). xs ++ lengths)
    (take-put_mid 2 2 first index 4 (omega (arith, li)) (omega (arith, a)) ∙ ap (λ (xs : List ℕ). xs ++ index) (take_at size (drop 2 out) 2 ls))))
    ∙ simp append_assoc

length-flat : (xs : List ℕ) → length (flat_map (be 4) xs) ≡ 4 * length xs
length-flat [] = refl
length-flat (x ∷ xs) = length-append (be 4 x) (flat_map (be 4) xs) ∙ ap₂ (λ (m n : ℕ). m + n) (length-be 4 x) (length-flat xs) ∙ omega arith

pub header-written : (layout : Layout) (index size : ℕ) (lengths qps out first second third fourth : List ℕ) → length lengths ≡ length qps → 1 ≤ length qps → length out ≡ 5 * length qps + 5 → layout.comps ≡ length qps → AreBytes qps
    → first ≡ be 2 (length out) → second ≡ be 2 index → third ≡ flat_map (be 4) lengths → fourth ≡ qps
    → set (put_mid (4 + 4 * length qps) (4 + 5 * length qps - (4 + 4 * length qps)) (put_mid 4 (4 + 4 * length qps - 4) (put_mid 2 2 (first ++ drop 2 out) second) third) fourth) (4 + 5 * length qps) 0
    ≡ spell 256 (tile_header_fields layout index size done) (tile_header_values (length qps) index lengths qps)
header-written layout index size lengths qps out first second third fourth pairs some room e h p q r s =
    written out first second third fourth (length qps) room (ap length p ∙ length-be 2 (length out)) (ap length q ∙ length-be 2 index) (ap length r ∙ length-flat lengths ∙ ap (λ (n : ℕ). 4 * n) pairs) (ap length s)
    ∙ rw (p, q, r, s, room)
    (sym (subst (λ (comps : ℕ). spell 256 (tile_header_fields layout index size done) (tile_header_values comps index lengths qps) ≡ be 2 (tile_header_size comps) ++ (be 2 index ++ (flat_map (be 4) lengths ++ (qps ++ 0 ∷ []))))
    e (spelled-at layout index size lengths qps (pairs ∙ sym e) (sym e) (omega arith) h)))
