-- The bits that levels take at least.
use Rattle.std.proofs.Common.{◌≡◌, ◌≢◌, ℕ, zero, suc, ℤ, ◌+◌, ◌-◌, ◌*◌, ◌/◌, ◌^◌, ◌<◌, ◌≤◌, ◌++◌, min, List, [], ◌∷◌, length, drop, get_or, replicate, unsigned_abs, refl, ap, ◌∙◌, subst, ⊎_elim, arith}
use Rattle.std.proofs.Math.Nat.{pow-suc}
use Rattle.std.proofs.lemmas.Bool.{cases_eq, cases_lt, lt-ltb, le-ltb}
use Rattle.std.proofs.lemmas.List.{length-append, length-replicate}
use Rattle.std.specs.Prelude.{slice_index}
use Rattle.std.specs.Simd.{first_chunks}
use Rattle.apv_base.specs.model.Bits.{bin}
use Rattle.apv_base.specs.model.Block.{Context, Element, element_bits, bits_of, sign_of, places, level_elements, ac_elements, ac_from, dc_elements, block_bits, next_context, start}
use Rattle.apv_base.specs.model.CodeWord.{code_word}
use Rattle.apv_base.specs.model.Component.{component_bits}
use Rattle.apv_base.specs.model.Scan.{scan, scan_table, level_at}
use Rattle.apv_base.proofs.BitsLemmas.{length-bin}
use Rattle.apv_base.proofs.CodeWordLemmas.{Form, first, second, further, form, word_first, word_second, word_further, pow_le}
use Rattle.apv_scan.proofs.ElementLemmas.{places_zero, places_level, ac_elements-cons}
use Rattle.apv_quant.specs.Reaching.{level_sizes}
use Rattle.apv_tile.specs.Blocks.{block_at, blocks_of}
use Rattle.apv_tile.specs.Least.{AreReached, IsLeastLength, bits_from, least_block_bits, one_from, size_at, sum_below}
use Rattle.apv_tile.proofs.BlockLemmas.{block_is}
use Rattle.apv_tile.proofs.WriteLemmas.{length-component}

-- ---- sums

pub sum-none : (f : ℕ → ℕ) → sum_below f 0 ≡ 0
unfolding sum_below
sum-none f = refl

pub sum-more : (f : ℕ → ℕ) (n : ℕ) → sum_below f (n + 1) ≡ sum_below f n + f n
unfolding sum_below
sum-more f n = let next : n + 1 ≡ suc n = omega arith in rw next refl

-- the first one apart
pub sum-first : (f : ℕ → ℕ) (n : ℕ) → sum_below f (suc n) ≡ f 0 + sum_below (λ k. f (suc k)) n
unfolding sum_below
sum-first f zero = omega arith
sum-first f (suc n) = omega (arith, sum-first f n)

-- each at most another
pub sum-le : (f g : ℕ → ℕ) (n : ℕ) → ((k : ℕ) → k < n → f k ≤ g k) → sum_below f n ≤ sum_below g n
unfolding sum_below
sum-le f g zero le = omega arith
sum-le f g (suc n) le = omega (arith, sum-le f g n (λ k lt. le k (omega arith)), le n (omega arith))

-- ---- code words

next_power : (k : ℕ) → 2 ^ suc k ≡ 2 * 2 ^ k
next_power k = omega (arith, pow-suc 2 k)

below_power : (i k : ℕ) → 2 ^ i < 2 ^ k → i < k
below_power i k h = ⊎_elim (λ (lt : i < k). lt) (λ (ge : k ≤ i). absurd (omega (arith, pow_le k i ge))) (cases_lt i k)

-- the word of a number from 2 ^ i on has at least i + 2 bits
word_by : (k v i : ℕ) → 2 ^ i ≤ v → Form k v → i + 2 ≤ length (code_word k v)
word_by k v i low (first h) =
    let lt = below_power i k (omega arith) in
    rw (word_first k v h) (omega (arith, length-bin k v, lt))
word_by k v i low (second r h e) =
    let lt = below_power i (suc k) (omega (arith, next_power k)) in
    rw (word_second k v r h e) (omega (arith, length-bin k r, lt))
word_by k v i low (further j r h e) =
    let two : 2 ^ k ≤ 2 ^ (k + j) = pow_le k (k + j) (omega arith) in
    let lt = below_power i (suc (suc (k + j))) (omega (arith, two, next_power (k + j), next_power (suc (k + j)))) in
    rw (word_further k v j r h e)
    (omega (arith, lt, length-append (replicate j 0) (1 ∷ bin (k + j) r), length-replicate {A = ℕ} j 0, length-bin (k + j) r))

pub word_least : (k v i : ℕ) → 2 ^ i ≤ v → i + 2 ≤ length (code_word k v)
word_least k v i low = word_by k v i low (form k v)

-- and each word has some
some_by : (k v : ℕ) → Form k v → 1 ≤ length (code_word k v)
some_by k v (first h) = rw (word_first k v h) (omega arith)
some_by k v (second r h e) = rw (word_second k v r h e) (omega arith)
some_by k v (further j r h e) = rw (word_further k v j r h e) (omega arith)

pub word_some : (k v : ℕ) → 1 ≤ length (code_word k v)
word_some k v = some_by k v (form k v)

-- ---- levels

pub none-from : (n size : ℕ) → size < n → one_from n size ≡ 0
none-from n size lt = rw (lt-ltb size n lt) refl

pub is-from : (n size : ℕ) → n ≤ size → one_from n size ≡ 1
is-from n size le = rw (le-ltb size n le) refl

pub one-from : (n size : ℕ) → one_from n size ≤ 1
one-from n size = ⊎_elim (λ (lt : size < n). omega (arith, none-from n size lt)) (λ (ge : n ≤ size). omega (arith, is-from n size ge)) (cases_lt size n)

-- a size that is reached where another one is
from-le : (n m size other : ℕ) → (n ≤ size → m ≤ other) → one_from n size ≤ one_from m other
from-le n m size other reached = ⊎_elim
    (λ (lt : size < n). omega (arith, none-from n size lt))
    (λ (ge : n ≤ size). omega (arith, is-from n size ge, is-from m other (reached ge)))
    (cases_lt size n)

-- the bits of a level's size and of its sign
level_bits : (k v : ℕ) → bits_from level_sizes (v + 1) ≤ 2 + length (code_word k v)
level_bits k v =
    let some = word_some k v in
    ⊎_elim (λ (lt : v < 1). omega (arith, one-from 1 (v + 1), one-from 2 (v + 1), one-from 3 (v + 1), one-from 5 (v + 1), one-from 9 (v + 1), one-from 17 (v + 1), one-from 33 (v + 1), one-from 65 (v + 1), none-from 2 (v + 1) (omega (arith, lt)), none-from 3 (v + 1) (omega (arith, lt)), none-from 5 (v + 1) (omega (arith, lt)), none-from 9 (v + 1) (omega (arith, lt)), none-from 17 (v + 1) (omega (arith, lt)), none-from 33 (v + 1) (omega (arith, lt)), none-from 65 (v + 1) (omega (arith, lt)), some))
    (λ (from_1 : 1 ≤ v).
    ⊎_elim (λ (lt : v < 2). omega (arith, one-from 1 (v + 1), one-from 2 (v + 1), one-from 3 (v + 1), one-from 5 (v + 1), one-from 9 (v + 1), one-from 17 (v + 1), one-from 33 (v + 1), one-from 65 (v + 1), none-from 3 (v + 1) (omega (arith, lt)), none-from 5 (v + 1) (omega (arith, lt)), none-from 9 (v + 1) (omega (arith, lt)), none-from 17 (v + 1) (omega (arith, lt)), none-from 33 (v + 1) (omega (arith, lt)), none-from 65 (v + 1) (omega (arith, lt)), word_least k v 0 (omega arith)))
    (λ (from_2 : 2 ≤ v).
    ⊎_elim (λ (lt : v < 4). omega (arith, one-from 1 (v + 1), one-from 2 (v + 1), one-from 3 (v + 1), one-from 5 (v + 1), one-from 9 (v + 1), one-from 17 (v + 1), one-from 33 (v + 1), one-from 65 (v + 1), none-from 5 (v + 1) (omega (arith, lt)), none-from 9 (v + 1) (omega (arith, lt)), none-from 17 (v + 1) (omega (arith, lt)), none-from 33 (v + 1) (omega (arith, lt)), none-from 65 (v + 1) (omega (arith, lt)), word_least k v 1 (omega arith)))
    (λ (from_4 : 4 ≤ v).
    ⊎_elim (λ (lt : v < 8). omega (arith, one-from 1 (v + 1), one-from 2 (v + 1), one-from 3 (v + 1), one-from 5 (v + 1), one-from 9 (v + 1), one-from 17 (v + 1), one-from 33 (v + 1), one-from 65 (v + 1), none-from 9 (v + 1) (omega (arith, lt)), none-from 17 (v + 1) (omega (arith, lt)), none-from 33 (v + 1) (omega (arith, lt)), none-from 65 (v + 1) (omega (arith, lt)), word_least k v 2 (omega arith)))
    (λ (from_8 : 8 ≤ v).
    ⊎_elim (λ (lt : v < 16). omega (arith, one-from 1 (v + 1), one-from 2 (v + 1), one-from 3 (v + 1), one-from 5 (v + 1), one-from 9 (v + 1), one-from 17 (v + 1), one-from 33 (v + 1), one-from 65 (v + 1), none-from 17 (v + 1) (omega (arith, lt)), none-from 33 (v + 1) (omega (arith, lt)), none-from 65 (v + 1) (omega (arith, lt)), word_least k v 3 (omega arith)))
    (λ (from_16 : 16 ≤ v).
    ⊎_elim (λ (lt : v < 32). omega (arith, one-from 1 (v + 1), one-from 2 (v + 1), one-from 3 (v + 1), one-from 5 (v + 1), one-from 9 (v + 1), one-from 17 (v + 1), one-from 33 (v + 1), one-from 65 (v + 1), none-from 33 (v + 1) (omega (arith, lt)), none-from 65 (v + 1) (omega (arith, lt)), word_least k v 4 (omega arith)))
    (λ (from_32 : 32 ≤ v).
    ⊎_elim (λ (lt : v < 64). omega (arith, one-from 1 (v + 1), one-from 2 (v + 1), one-from 3 (v + 1), one-from 5 (v + 1), one-from 9 (v + 1), one-from 17 (v + 1), one-from 33 (v + 1), one-from 65 (v + 1), none-from 65 (v + 1) (omega (arith, lt)), word_least k v 5 (omega arith)))
    (λ (from_64 : 64 ≤ v).
    omega (arith, one-from 1 (v + 1), one-from 2 (v + 1), one-from 3 (v + 1), one-from 5 (v + 1), one-from 9 (v + 1), one-from 17 (v + 1), one-from 33 (v + 1), one-from 65 (v + 1), word_least k v 6 (omega arith)))
    (cases_lt v 64))
    (cases_lt v 32))
    (cases_lt v 16))
    (cases_lt v 8))
    (cases_lt v 4))
    (cases_lt v 2))
    (cases_lt v 1)

-- the sum of f at n places from p on
unfoldable pub sum_from : (ℕ → ℕ) → ℕ → ℕ → ℕ
sum_from f zero p = 0
sum_from f (suc n) p = f p + sum_from f n (suc p)

-- what the sizes of levels say of the bits of a level
abbrev level_least : (ℕ → ℤ) → ℕ → ℕ
level_least z p = bits_from level_sizes (unsigned_abs (z p))

no_level : (size : ℕ) → size ≡ 0 → bits_from level_sizes size ≡ 0
no_level size e = rw e refl

-- the bits of a run, a size and a sign
length-level : (a run_before run level_before size negative : ℕ) (more : List Element) → 0 < size
    → bits_from level_sizes size + length (bits_of more) ≤ length (bits_of (level_elements a run_before run level_before size negative ++ more))
length-level a run_before run level_before size negative more some =
    let run_word : List ℕ = code_word (min 2 (run_before / 4)) run in
    let size_word : List ℕ = code_word (min 4 (level_before / 4)) (size - 1) in
    let whole : size - 1 + 1 ≡ size = omega arith in
    let least : bits_from level_sizes size ≤ 2 + length size_word = subst (λ n. bits_from level_sizes n ≤ 2 + length size_word) whole (level_bits (min 4 (level_before / 4)) (size - 1)) in
    omega (
      arith,
      least,
      word_some (min 2 (run_before / 4)) run,
      length-append run_word (size_word ++ negative ∷ bits_of more),
      length-append size_word (negative ∷ bits_of more),
    )

ac_least : (z : ℕ → ℤ) (n p a run level : ℕ) → sum_from (level_least z) n p ≤ length (bits_of (ac_elements z a run level (places z n p)))
unfolding sum_from
ac_least z zero p a run level = omega arith
ac_least z (suc n) p a run level = ⊎_elim
    (λ (e : unsigned_abs (z p) ≡ 0). rw (places_zero z n p e) (omega (arith, no_level (unsigned_abs (z p)) e, ac_least z n (suc p) a run level)))
    (λ (ne : unsigned_abs (z p) ≢ 0).
    let some : 0 < unsigned_abs (z p) = omega (arith, ne) in
    rw (places_level z n p some, ac_elements-cons z a run level p (places z n (suc p)))
    (omega (
      arith,
      ac_least z n (suc p) p (p - a - 1) (unsigned_abs (z p)),
      length-level a run (p - a - 1) level (unsigned_abs (z p)) (sign_of (z p)) (ac_elements z p (p - a - 1) (unsigned_abs (z p)) (places z n (suc p))) some,
    )))
    (cases_eq (unsigned_abs (z p)) 0)

length-elements : (xs ys : List Element) → length (bits_of ys) ≤ length (bits_of (xs ++ ys))
length-elements [] ys = omega arith
length-elements (x ∷ xs) ys = omega (arith, length-append (element_bits x) (bits_of (xs ++ ys)), length-elements xs ys)

-- the bits of a block
block_least : (context : Context) (z : ℕ → ℤ) → sum_from (level_least z) 63 1 ≤ length (block_bits context z)
block_least context z = omega (arith, ac_least z 63 1 0 0 context.first, length-elements (dc_elements context (z 0)) (ac_from z 0 0 context.first 1))

-- the places of a block in the order of the scan are those row after row
pub by_rows : (f : ℕ → ℕ) → sum_from (λ p. f (scan p)) 63 1 ≡ sum_below (λ place. f (suc place)) 63
unfolding sum_from sum_below scan_table
by_rows f = omega arith

-- the bits of a block's levels, row after row
pub levels_least : (context : Context) (levels : List ℤ) → least_block_bits level_sizes levels ≤ length (block_bits context (level_at levels))
levels_least context levels = omega (arith, by_rows (λ place. bits_from level_sizes (size_at levels place)), block_least context (level_at levels))

-- ---- coefficients

reached : (sizes : List ℕ) (size other : ℕ) → ((index : ℕ) → index < 8 → slice_index sizes index ≤ size → slice_index level_sizes index ≤ other) → bits_from sizes size ≤ bits_from level_sizes other
reached sizes size other each =
    let one : (index : ℕ) → index < 8 → one_from (slice_index sizes index) size ≤ one_from (slice_index level_sizes index) other = λ index lt. from-le (slice_index sizes index) (slice_index level_sizes index) size other (each index lt) in
    omega (arith, one 0 (omega arith), one 1 (omega arith), one 2 (omega arith), one 3 (omega arith), one 4 (omega arith), one 5 (omega arith), one 6 (omega arith), one 7 (omega arith))

-- the bits that the sizes say of a block's coefficients are no more than those of its levels
coeffs_least : (sizes : List ℕ) (context : Context) (coeffs levels : List ℤ) → ((place : ℕ) → place < 64 → size_at coeffs place ≤ 2 ^ 15) → AreReached sizes coeffs levels
    → least_block_bits sizes coeffs ≤ length (block_bits context (level_at levels))
coeffs_least sizes context coeffs levels few reach =
    omega (
      arith,
      levels_least context levels,
      sum-le (λ place. bits_from sizes (size_at coeffs (suc place))) (λ place. bits_from level_sizes (size_at levels (suc place))) 63
          (λ place lt. reached sizes (size_at coeffs (suc place)) (size_at levels (suc place)) (λ index low is. reach index (suc place) low (omega (arith, lt)) (few (suc place) (omega (arith, lt))) is)),
    )

-- ---- components

length-chunks : (n : ℕ) (xs : List ℤ) → length (first_chunks 64 n xs) ≡ n
length-chunks zero xs = refl
length-chunks (suc n) xs = ap suc (length-chunks n (drop 64 xs))

length-blocks : (xs : List ℤ) → length (blocks_of xs) ≡ length xs / 64
length-blocks xs = length-chunks (length xs / 64) xs

-- the sum of numbers that are each at most the bits of a block
blocks_least : (f : ℕ → ℕ) (context : Context) (blocks : List (List ℤ)) → ((block : ℕ) (context : Context) → block < length blocks → f block ≤ length (block_bits context (level_at (get_or blocks block []))))
    → sum_below f (length blocks) ≤ length (component_bits context blocks)
blocks_least f context [] each = omega (arith, sum-none f)
blocks_least f context (block ∷ blocks) each =
    omega (
      arith,
      sum-first f (length blocks),
      each 0 context (omega arith),
      blocks_least (λ k. f (suc k)) (next_context context (level_at block)) blocks (λ k c lt. each (suc k) c (omega (arith, lt))),
      length-append (block_bits context (level_at block)) (component_bits (next_context context (level_at block)) blocks),
    )

-- counted from the coefficients of each block, in bytes
pub is_least : (sizes : List ℕ) (coeffs : List ℤ) (blocks : List (List ℤ)) (bits count : ℕ) → blocks ≡ blocks_of coeffs → length blocks ≡ length coeffs / 64
    → bits ≡ sum_below (λ block. least_block_bits sizes (get_or blocks block [])) (length blocks)
    → ((block place : ℕ) → block < length blocks → place < 64 → size_at (get_or blocks block []) place ≤ 2 ^ 15) → count ≡ (bits + 7) / 8 → IsLeastLength sizes coeffs count
is_least sizes coeffs blocks bits count e many sum few is levels same reach =
    let others : List (List ℤ) = blocks_of levels in
    let number : length others ≡ length coeffs / 64 = length-blocks levels ∙ ap (λ n. n / 64) same in
    let f : ℕ → ℕ = λ block. least_block_bits sizes (get_or blocks block []) in
    let each : (block : ℕ) (context : Context) → block < length others → f block ≤ length (block_bits context (level_at (get_or others block []))) =
    λ block context lt.
    let low : block < length coeffs / 64 = omega (arith, lt, number) in
    let here : get_or blocks block [] ≡ block_at coeffs block = block_is coeffs blocks block e many (omega (arith, low, many)) in
    let there : get_or others block [] ≡ block_at levels block = block_is levels others block refl (length-blocks levels) lt in
    coeffs_least sizes context (get_or blocks block []) (get_or others block []) (λ place. few block place (omega (arith, low, many)))
    (rw (here, there) (reach block low)) in
    let bound : sum_below f (length others) ≤ length (component_bits start others) = blocks_least f start others each in
    let n : length blocks ≡ length others = omega (arith, many, number) in
    omega (arith, is, sum, ap (λ (k : ℕ). sum_below f k) n, bound, length-component others)
