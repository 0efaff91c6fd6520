-- How many bytes blocks have at most, and the tiles that an encoder makes of them.
use Rattle.std.proofs.Common.{◌≡◌, ℕ, zero, suc, ℤ, pos, negsuc, ◌+◌, ◌-◌, ◌*◌, ◌/◌, ◌^◌, ◌<◌, ◌≤◌, min, List, [], ◌∷◌, ◌++◌, length, map, drop, replicate, ◌||◌, refl, sym, ap, ◌∙◌, subst, arith, lit<, lit≤, ⊎_elim, length-append, nat_lt, nat_eq}
use Rattle.std.specs.Prelude.{◌-ℤ◌, unsigned_abs}
use Rattle.std.specs.List.{concat, range_with_len, sum}
use Rattle.std.proofs.Math.Nat.{suc-mul}
use Rattle.std.proofs.lemmas.Bool.{cases_lt, cond_both}
use Rattle.std.proofs.lemmas.Int.{ints}
use Rattle.std.proofs.lemmas.List.{length-replicate}
use Rattle.std.proofs.lemmas.List.FromFn.{length-map-range_with_len, get_or-map-range_with_len}
use Rattle.std.proofs.lemmas.List.Sums.{sum_by-cons}
use Rattle.std.proofs.lemmas.Nat.{mul-le}
use Rattle.apv_base.specs.declared.format.Chroma.{Chroma}
use Rattle.apv_base.specs.declared.format.Chroma.TheVariants.{C400, C422, C444, C4444}
use Rattle.apv_base.specs.declared.header.FrameHeader.{FrameHeader}
use Rattle.apv_base.specs.model.Bits.{bin}
use Rattle.apv_base.specs.model.Block.{Context, start, IsContext, Element, bits_of, sign_of, dc_elements, places, ac_elements, ac_from, block_bits, next_context, AreLevels}
use Rattle.apv_base.specs.model.CodedFrame.{Levels, blocks_at, no_tile}
use Rattle.apv_base.specs.model.CodeWord.{code_word}
use Rattle.apv_base.specs.model.Component.{AreBlocks, component_bits, packed, component_bytes}
use Rattle.apv_base.specs.model.Encode.{Qps, tile_with, frame_with}
use Rattle.apv_base.specs.model.Format.{macroblock_columns, macroblock_rows}
use Rattle.apv_base.specs.model.Grid.{Grid, tile_count, tile_w, tile_h, block_count, macroblock_blocks}
use Rattle.apv_base.specs.model.Header.{header_comps, grid_of, IsSoundHeader}
use Rattle.apv_base.specs.model.Quant.{IsLevel, max_qp}
use Rattle.apv_base.specs.model.Scan.{level_at}
use Rattle.apv_base.specs.model.Tile.{Tile}
use Rattle.apv_base.proofs.BitsLemmas.{length-bin}
use Rattle.apv_base.proofs.CodeWordLemmas.{Form, first, second, further, form, word_first, word_second, word_further, pow_le}
use Rattle.apv_base.proofs.HeaderLemmas.{comps-few}
use Rattle.apv_scan.proofs.ComponentLemmas.{next_is_context}
use Rattle.apv_scan.proofs.LengthLemmas.{length-run_word}
use Rattle.apv_laws.specs.Fits.{FitsTile, Fits, AreLevelsFor, ArePermittedQps}
use Rattle.apv_laws.proofs.SpelledFieldLemmas.{all-from}

-- ---- words

-- the word of a number of m + 1 bits
length-by : (k v m : ℕ) → k ≤ m → v < 2 ^ suc m → Form k v → length (code_word k v) ≤ 3 + 2 * m
length-by k v m low small (first h) = rw (word_first k v h) (omega (arith, length-bin k v))
length-by k v m low small (second r h e) = rw (word_second k v r h e) (omega (arith, length-bin k r))
length-by k v m low small (further j r h e) =
    let few : k + j ≤ m = ⊎_elim (λ (lt : m < k + j). absurd (omega (arith, pow_le (suc m) (k + j) lt))) (λ (le : k + j ≤ m). le) (cases_lt m (k + j)) in
    rw (word_further k v j r h e)
    (omega (arith, length-append (replicate j 0) (1 ∷ bin (k + j) r), length-replicate {A = ℕ} j 0, length-bin (k + j) r))

-- that of a level's size less 1, and that of a difference of levels
level-word : (k v : ℕ) → k ≤ 4 → v ≤ 32767 → length (code_word k v) ≤ 31
level-word k v low small = length-by k v 14 (omega arith) (omega arith) (form k v)

difference-word : (k v : ℕ) → k ≤ 5 → v ≤ 65535 → length (code_word k v) ≤ 33
difference-word k v low small = length-by k v 15 (omega arith) (omega arith) (form k v)

-- ---- blocks

level-less : (level : ℤ) → IsLevel level → unsigned_abs level - 1 ≤ 32767
level-less (pos n) h = omega (arith, h)
level-less (negsuc n) h = omega (arith, h)

levels-apart : (a b : ℤ) → IsLevel a → IsLevel b → unsigned_abs (a -ℤ b) ≤ 65535
levels-apart (pos a) (pos b) h i = omega (arith, ints, h, i)
levels-apart (pos a) (negsuc b) h i = omega (arith, ints, h, i)
levels-apart (negsuc a) (pos b) h i = omega (arith, ints, h, i)
levels-apart (negsuc a) (negsuc b) h i = omega (arith, ints, h, i)

-- a run, a level and its sign have 45 bits at most, and a last run 13
last-run : (z : ℕ → ℤ) (a run level : ℕ) → length (bits_of (ac_elements z a run level [])) ≤ 13
unfolding ac_elements
last-run z a run level =
    cond_both (nat_lt a 63) _ _ (λ (xs : List Element). length (bits_of xs) ≤ 13)
    (λ e. omega (arith, length-run_word (min 2 (run / 4)) (63 - a) (omega arith) (omega arith), length-append (code_word (min 2 (run / 4)) (63 - a)) []))
    (λ e. lit≤ tt)

one-level : (z : ℕ → ℤ) (a run level p n : ℕ) (later : List ℕ) → AreLevels z → p < 64 → length (bits_of (ac_elements z p (p - a - 1) (unsigned_abs (z p)) later)) ≤ 45 * n + 13
    → length (bits_of (ac_elements z a run level (p ∷ later))) ≤ 45 * suc n + 13
unfolding ac_elements
one-level z a run level p n later sound lt le =
    let rest : List ℕ = bits_of (ac_elements z p (p - a - 1) (unsigned_abs (z p)) later) in
    let run_word : List ℕ = code_word (min 2 (run / 4)) (p - a - 1) in
    let level_word : List ℕ = code_word (min 4 (level / 4)) (unsigned_abs (z p) - 1) in
    omega (
      arith,
      le,
      length-run_word (min 2 (run / 4)) (p - a - 1) (omega arith) (omega arith),
      level-word (min 4 (level / 4)) (unsigned_abs (z p) - 1) (omega arith) (level-less (z p) (sound p)),
      length-append run_word (level_word ++ sign_of (z p) ∷ rest),
      length-append level_word (sign_of (z p) ∷ rest),
    )

ac-length : (z : ℕ → ℤ) (n a run level p : ℕ) → AreLevels z → p + n ≤ 64 → length (bits_of (ac_elements z a run level (places z n p))) ≤ 45 * n + 13
unfolding places
ac-length z zero a run level p sound few = last-run z a run level
ac-length z (suc n) a run level p sound few =
    cond_both (nat_eq (unsigned_abs (z p)) 0) (places z n (suc p)) (p ∷ places z n (suc p)) (λ (ps : List ℕ). length (bits_of (ac_elements z a run level ps)) ≤ 45 * suc n + 13)
    (λ e. omega (arith, ac-length z n a run level (suc p) sound (omega arith)))
    (λ e. one-level z a run level p n (places z n (suc p)) sound (omega arith) (ac-length z n p (p - a - 1) (unsigned_abs (z p)) (suc p) sound (omega arith)))

-- a difference and its sign have 34 bits at most, and what follows them
dc-length : (context : Context) (level : ℤ) (later : List Element) → IsLevel context.dc → IsLevel level → length (bits_of (dc_elements context level ++ later)) ≤ 34 + length (bits_of later)
dc-length context level later known sound =
    let size : ℕ = unsigned_abs (level -ℤ context.dc) in
    let word : List ℕ = code_word (min 5 (context.diff / 2)) size in
    let short : length word ≤ 33 = difference-word (min 5 (context.diff / 2)) size (omega arith) (levels-apart level context.dc sound known) in
    cond_both (nat_eq size 0) _ _ (λ (xs : List Element). length (word ++ bits_of (xs ++ later)) ≤ 34 + length (bits_of later))
    (λ e. omega (arith, short, length-append word (bits_of later)))
    (λ e. omega (arith, short, length-append word (sign_of (level -ℤ context.dc) ∷ bits_of later)))

-- a block has 2,882 bits at most
block-length : (context : Context) (z : ℕ → ℤ) → IsContext context → AreLevels z → length (block_bits context z) ≤ 2882
block-length context z known sound =
    omega (arith, dc-length context (z 0) (ac_from z 0 0 context.first 1) known.dc (sound 0), ac-length z 63 0 0 context.first 1 sound (omega arith))

component-length : (context : Context) (blocks : List (List ℤ)) → IsContext context → AreBlocks blocks → length (component_bits context blocks) ≤ 2882 * length blocks
component-length context [] known sound = omega arith
component-length context (block ∷ blocks) known sound =
    omega (
      arith,
      length-append (block_bits context (level_at block)) (component_bits (next_context context (level_at block)) blocks),
      block-length context (level_at block) known sound.0.levels,
      component-length (next_context context (level_at block)) blocks (next_is_context context (level_at block) known sound.0.levels) sound.1,
    )

length-packed : (n : ℕ) (b : List ℕ) → length (packed n b) ≡ n
unfolding packed
length-packed zero b = refl
length-packed (suc n) b = ap suc (length-packed n (drop 8 b))

start-is-context : IsContext start
start-is-context = record { dc = lit< tt; diff = lit≤ tt; first = lit≤ tt }

-- a block has 361 bytes at most
bytes-length : (blocks : List (List ℤ)) → AreBlocks blocks → length (component_bytes blocks) ≤ 361 * length blocks
bytes-length blocks sound =
    omega (arith, length-packed ((length (component_bits start blocks) + 7) / 8) (component_bits start blocks), component-length start blocks start-is-context sound)

-- ---- tiles

-- parts one after another have the sum of their lengths
joined-length : (part : ℕ → List ℕ) (a n : ℕ) → length (concat (map part (range_with_len a n))) ≡ sum (map (λ (i : ℕ). length (part i)) (range_with_len a n))
joined-length part a zero = refl
joined-length part a (suc n) =
    length-append (part a) (concat (map part (range_with_len (a + 1) n))) ∙ ap (λ (k : ℕ). length (part a) + k) (joined-length part (a + 1) n)
    ∙ sym (sum_by-cons (λ (x : ℕ). x) (length (part a)) (map (λ (i : ℕ). length (part i)) (range_with_len (a + 1) n)))

sum-few : (value : ℕ → ℕ) (m a n : ℕ) → ((i : ℕ) → a ≤ i → i < a + n → value i ≤ m) → sum (map value (range_with_len a n)) ≤ n * m
sum-few value m a zero few = omega arith
sum-few value m a (suc n) few =
    omega (arith, sum_by-cons (λ (x : ℕ). x) (value a) (map value (range_with_len (a + 1) n)), sum-few value m (a + 1) n (λ i from below. few i (omega arith) (omega arith)), few a (omega arith) (omega arith), suc-mul n m)

few-blocks : (chroma : Chroma) (comp : ℕ) → macroblock_blocks chroma comp ≤ 4
few-blocks C400 comp = lit≤ tt
few-blocks C422 comp = cond_both (nat_eq comp 1 || nat_eq comp 2) 1 2 (λ (n : ℕ). 2 * n ≤ 4) (λ e. lit≤ tt) (λ e. lit≤ tt)
few-blocks C444 comp = lit≤ tt
few-blocks C4444 comp = lit≤ tt

-- a component of a tile has four blocks of each macroblock of the frame at most
count-few : (grid : Grid) (tile comp : ℕ) → macroblock_columns grid.format * macroblock_rows grid.format ≤ 262144 → block_count grid tile comp ≤ 1048576
count-few grid tile comp few =
    let area : tile_w grid tile * tile_h grid tile ≤ macroblock_columns grid.format * macroblock_rows grid.format = mul-le (tile_w grid tile) (tile_h grid tile) (macroblock_columns grid.format) (macroblock_rows grid.format) (omega arith) (omega arith) in
    mul-le (tile_w grid tile * tile_h grid tile) (macroblock_blocks grid.format.chroma comp) 262144 4 (omega (arith, area, few)) (few-blocks grid.format.chroma comp)

-- the bytes of a component of a tile
part-few : (header : FrameHeader) (levels : Levels) (tile comp : ℕ) → IsSoundHeader header → AreLevelsFor header levels → tile < tile_count (grid_of header) → comp < header_comps header → length (component_bytes (blocks_at levels tile comp)) ≤ 378535936
part-few header levels tile comp sound are lt low =
    omega (arith, bytes-length (blocks_at levels tile comp) (are.blocks tile comp), are.count tile comp lt low, count-few (grid_of header) tile comp sound.info.format.few)

tile-fits : (header : FrameHeader) (qps : Qps) (levels : Levels) (tile : ℕ) → IsSoundHeader header → ArePermittedQps header qps → AreLevelsFor header levels → tile < tile_count (grid_of header) → FitsTile (header_comps header) header.info.depth (tile_with (header_comps header) qps levels tile)
tile-fits header qps levels tile sound permitted are lt =
    let comps : ℕ = header_comps header in
    let part : ℕ → List ℕ = λ comp. component_bytes (blocks_at levels tile comp) in
    let joined = joined-length part 0 comps in
    let few = sum-few (λ comp. length (part comp)) 378535936 0 comps (λ comp from below. part-few header levels tile comp sound are lt (omega arith)) in
    let bound : comps * 378535936 ≤ 4 * 378535936 = mul-le comps 378535936 4 378535936 (comps-few header.info.chroma) (omega arith) in
    record {
      is = record { lengths = length-map-range_with_len (λ comp. length (part comp)) 0 comps; qps = length-map-range_with_len (qps tile) 0 comps };
      lengths = omega (arith, joined);
      size = omega (arith, joined, few, bound, comps-few header.info.chroma);
      qps = all-from (λ (qp : ℕ). qp ≤ max_qp header.info.depth) 0 (map (qps tile) (range_with_len 0 comps)) (λ i below.
          (let in-them : i < comps = omega (arith, length-map-range_with_len (qps tile) 0 comps, below) in
          subst (λ (qp : ℕ). qp ≤ max_qp header.info.depth) (sym (get_or-map-range_with_len (qps tile) 0 comps i i 0 in-them (omega arith))) (permitted tile i lt in-them)));
    }

-- the frame that an encoder makes of levels fits
pub encoded-fits : (header : FrameHeader) (qps : Qps) (levels : Levels) → IsSoundHeader header → ArePermittedQps header qps → AreLevelsFor header levels → Fits (frame_with header qps levels)
encoded-fits header qps levels sound permitted are =
    let tile : ℕ → Tile = tile_with (header_comps header) qps levels in
    let count : ℕ = tile_count (grid_of header) in
    record {
      header = sound;
      count = length-map-range_with_len tile 0 count;
      tiles = all-from (FitsTile (header_comps header) header.info.depth) no_tile (map tile (range_with_len 0 count)) (λ i below.
          (let in-them : i < count = omega (arith, length-map-range_with_len tile 0 count, below) in
          subst (FitsTile (header_comps header) header.info.depth) (sym (get_or-map-range_with_len tile 0 count i i no_tile in-them (omega arith))) (tile-fits header qps levels i sound permitted are in-them)));
    }
