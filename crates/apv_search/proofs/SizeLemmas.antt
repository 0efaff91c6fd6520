-- Tracks have one size at each QP.
use Rattle.std.proofs.Common.{◌≡◌, ℕ, ℤ, zero, suc, pos, negsuc, ◌+◌, ◌*◌, ◌/◌, ◌%◌, ◌^◌, ◌<◌, ◌≤◌, inl, inr, List, [], ◌∷◌, length, get_or, map, take, drop, refl, sym, ap, ap₂, ◌∙◌, subst, arith}
use Rattle.std.specs.Prelude.{unsigned_abs, ◌*ℤ◌, ◌-ℤ◌}
use Rattle.std.specs.List.{sum, range_with_len}
use Rattle.std.proofs.Math.Nat.{le_antisymm}
use Rattle.std.proofs.lemmas.Bool.{cases_lt}
use Rattle.std.proofs.lemmas.List.{length-take, get_or-take, get_or-drop, ext_get_or}
use Rattle.apv_base.specs.declared.header.FrameHeader.{FrameHeader}
use Rattle.apv_base.specs.laws.Answer.{HasOneAnswer}
use Rattle.apv_base.specs.model.Encode.{Qps, each, frame_with}
use Rattle.apv_base.specs.model.CodedFrame.{Levels}
use Rattle.apv_base.specs.model.Grid.{Grid, tile_count, block_count}
use Rattle.apv_base.specs.model.Header.{grid_of, header_comps}
use Rattle.apv_base.specs.model.Nearest.{IsNearestBlock}
use Rattle.apv_base.specs.model.Quant.{IsNearest, step_number, shift_of}
use Rattle.apv_grid.specs.Buffer.{part_in, part_start}
use Rattle.apv_quant.specs.Laws.{HasOneNearest}
use Rattle.apv_search.specs.declared.choice.Chosen.{Chosen}
use Rattle.apv_search.specs.declared.choice.QpRange.{QpRange}
use Rattle.apv_search.specs.declared.choice.TooLarge.{TooLarge}
use Rattle.apv_search.specs.Choice.{IsAtQp, AreAtQp, frame_data, HasSizeAt, IsLeast, IsTooLarge}
use Rattle.apv_tile.specs.Blocks.{block_at, blocks_of}
use Rattle.apv_workers.specs.Encode.{AreNearestTo, block_in}
use Rattle.apv_workers.proofs.LeastLemmas.{last-there}
use Rattle.apv_workers.specs.Track.{TrackState, data_total, levels_in, offset_qps, qps_of}

-- ---- one block

-- at a step number of 0 only 0 is nearest
times-zero : (n : ℕ) → pos 0 *ℤ pos 0 ≡ pos n *ℤ pos 0
times-zero n = ap pos (omega arith)

times-zero-under : (n : ℕ) → pos 0 *ℤ pos 0 ≡ negsuc n *ℤ pos 0
times-zero-under n = grind arith

zero-level : (c : ℤ) (b : ℕ) (k : ℤ) → IsNearest c 0 b k → k ≡ pos 0
zero-level c b (pos n) near = ap pos (omega (arith, near.nearer (pos 0) (omega arith) (ap (λ (z : ℤ). unsigned_abs (z -ℤ c *ℤ pos (2 ^ b))) (times-zero n))))
zero-level c b (negsuc n) near = absurd (omega (arith, near.nearer (pos 0) (omega arith) (ap (λ (z : ℤ). unsigned_abs (z -ℤ c *ℤ pos (2 ^ b))) (times-zero-under n))))

one-level : HasOneNearest → (c : ℤ) (s b : ℕ) (k l : ℤ) → IsNearest c s b k → IsNearest c s b l → k ≡ l
one-level nearest c zero b k l p q = zero-level c b k p ∙ sym (zero-level c b l q)
one-level nearest c (suc s) b k l p q = nearest c (suc s) b k l (omega arith) p q

one-block : HasOneNearest → (matrix : List ℕ) (qp depth : ℕ) (coeff : ℕ → ℕ → ℤ) (a b : List ℤ) → IsNearestBlock matrix qp depth coeff a → IsNearestBlock matrix qp depth coeff b → a ≡ b
one-block nearest matrix qp depth coeff a b p q = ext_get_or (pos 0) a b (p.count ∙ sym q.count) (λ i lt.
    let whole : 8 * (i / 8) + i % 8 ≡ i = omega arith in
    let u : i / 8 < 8 = omega (arith, lt, p.count) in
    let v : i % 8 < 8 = omega arith in
    subst (λ (k : ℕ). get_or a k (pos 0) ≡ get_or b k (pos 0)) whole
    (one-level nearest (coeff (i / 8) (i % 8)) (step_number (get_or matrix (8 * (i / 8) + i % 8) 0) qp) (shift_of depth) (get_or a (8 * (i / 8) + i % 8) (pos 0)) (get_or b (8 * (i / 8) + i % 8) (pos 0))
    (p.each (i / 8) (i % 8) u v) (q.each (i / 8) (i % 8) u v)))

-- ---- lists of whole blocks

in-block : (xs : List ℤ) (i : ℕ) → get_or (block_at xs (i / 64)) (i % 64) (pos 0) ≡ get_or xs i (pos 0)
in-block xs i =
    let whole : 64 * (i / 64) + i % 64 ≡ i = omega arith in
    get_or-take 64 (drop (64 * (i / 64)) xs) (i % 64) (pos 0) (omega arith) ∙ get_or-drop (64 * (i / 64)) xs (i % 64) (pos 0) ∙ ap (λ (k : ℕ). get_or xs k (pos 0)) whole

by-blocks : (n : ℕ) (xs ys : List ℤ) → length xs ≤ 64 * n → length ys ≤ 64 * n → ((block : ℕ) → block < n → length (block_at xs block) ≡ 64) → ((block : ℕ) → block < n → block_at xs block ≡ block_at ys block) → xs ≡ ys
by-blocks n xs ys few few' long same =
    let all = last-there n xs few long in
    let others = last-there n ys few' (λ block lt. sym (ap length (same block lt)) ∙ long block lt) in
    ext_get_or (pos 0) xs ys (all ∙ sym others) (λ i lt.
    sym (in-block xs i) ∙ ap (λ (block : List ℤ). get_or block (i % 64) (pos 0)) (same (i / 64) (omega (arith, lt, all))) ∙ in-block ys i)

-- ---- lists with an item for each number

same-from : {A : Type 0} (first n : ℕ) (f g : ℕ → A) → ((i : ℕ) → i < first + n → f i ≡ g i) → map f (range_with_len first n) ≡ map g (range_with_len first n)
same-from first zero f g same = refl
same-from first (suc n) f g same = ap₂ (λ x xs. x ∷ xs) (same first (omega arith)) (same-from (first + 1) n f g (λ i lt. same i (omega (arith, lt))))

-- lists of equal items
pub each-same : {A : Type 0} (n : ℕ) (f g : ℕ → A) → ((i : ℕ) → i < n → f i ≡ g i) → each n f ≡ each n g
each-same n f g same = same-from 0 n f g (λ i lt. same i (omega (arith, lt)))

-- ---- the levels of a track

at-most : (n : ℕ) (xs : List ℤ) → length (take n xs) ≤ n
at-most n xs = omega (arith, length-take n xs)

one-levels : HasOneNearest → (header : FrameHeader) (qps : Qps) (coeffs a b : List ℤ) → AreNearestTo header qps coeffs a → AreNearestTo header qps coeffs b → levels_in (grid_of header) a ≡ levels_in (grid_of header) b
one-levels nearest header qps coeffs a b p q =
    let grid : Grid = grid_of header in
    each-same (tile_count grid) (λ tile. each (header_comps header) (λ comp. blocks_of (part_in grid a tile comp))) (λ tile. each (header_comps header) (λ comp. blocks_of (part_in grid b tile comp))) (λ tile lt.
    each-same (header_comps header) (λ comp. blocks_of (part_in grid a tile comp)) (λ comp. blocks_of (part_in grid b tile comp)) (λ comp less.
    ap (λ (xs : List ℤ). blocks_of xs) (by-blocks (block_count grid tile comp) (part_in grid a tile comp) (part_in grid b tile comp)
    (at-most (64 * block_count grid tile comp) (drop (part_start grid tile comp) a)) (at-most (64 * block_count grid tile comp) (drop (part_start grid tile comp) b))
    (λ block inside. (p tile comp block lt less inside).count)
    (λ block inside. one-block nearest _ _ _ _ (block_in grid a tile comp block) (block_in grid b tile comp block) (p tile comp block lt less inside) (q tile comp block lt less inside)))))

-- ---- sizes

abbrev at_qp : TrackState → ℕ → List ℤ → List ℕ → TrackState
at_qp old q levels lengths = record old { levels = levels; lengths = lengths; q = q }

state-is : (q : ℕ) (old new : TrackState) → IsAtQp q old new → new ≡ at_qp old q new.levels new.lengths
state-is q old new at = at.others ∙ ap (λ (n : ℕ). at_qp old n new.levels new.lengths) at.qp_is

abbrev qps_at : TrackState → ℕ → Qps
qps_at old q = offset_qps old.header old.offsets old.tile_offsets q

pub nearest-at : (q : ℕ) (old new : TrackState) → IsAtQp q old new → AreNearestTo old.header (qps_at old q) old.coeffs new.levels
nearest-at q old new at = subst (λ (s : TrackState). AreNearestTo s.header (qps_of s) s.coeffs new.levels) (state-is q old new at) at.nearest

pub data-at : (q : ℕ) (old new : TrackState) → IsAtQp q old new → frame_data new ≡ data_total (frame_with old.header (qps_at old q) (levels_in (grid_of old.header) new.levels))
data-at q old new at = ap frame_data (state-is q old new at)

one-data : HasOneNearest → (q : ℕ) (old a b : TrackState) → IsAtQp q old a → IsAtQp q old b → frame_data a ≡ frame_data b
one-data nearest q old a b p r =
    data-at q old a p
    ∙ ap (λ (levels : Levels). data_total (frame_with old.header (qps_at old q) levels)) (one-levels nearest old.header (qps_at old q) old.coeffs a.levels b.levels (nearest-at q old a p) (nearest-at q old b r))
    ∙ sym (data-at q old b r)

all-data : HasOneNearest → (q : ℕ) (olds xs ys : List TrackState) → AreAtQp q olds xs → AreAtQp q olds ys → map frame_data xs ≡ map frame_data ys
all-data nearest q [] xs ys p r = ap (map frame_data) (p ∙ sym r)
all-data nearest q (old ∷ olds) [] ys p r = absurd p
all-data nearest q (old ∷ olds) (x ∷ xs) [] p r = absurd r
all-data nearest q (old ∷ olds) (x ∷ xs) (y ∷ ys) p r = ap₂ (λ (n : ℕ) (ns : List ℕ). n ∷ ns) (one-data nearest q old x y p.0 r.0) (all-data nearest q olds xs ys p.1 r.1)

pub one-size : HasOneNearest → (fixed : ℕ) (tracks : List TrackState) (q a b : ℕ) → HasSizeAt fixed tracks q a → HasSizeAt fixed tracks q b → a ≡ b
one-size nearest fixed tracks q a b p r = p.2 ∙ ap (λ (ns : List ℕ). fixed + sum ns) (all-data nearest q tracks p.0 r.0 p.1 r.1) ∙ sym r.2

-- ---- the choice

-- of two that are chosen neither has the smaller QP
no-smaller : HasOneNearest → (fixed : ℕ) (tracks : List TrackState) (range : QpRange) (limit : ℕ) (a b : Chosen) → IsLeast fixed tracks range limit a → IsLeast fixed tracks range limit b → b.qp ≤ a.qp
no-smaller nearest fixed tracks range limit a b p r = elim (cases_lt a.qp b.qp) [
  | inr ge ↦ ge
  | inl lt ↦ (let large = r.before a.qp p.permitted.0 lt in absurd (omega (arith, large.2, p.fits, one-size nearest fixed tracks a.qp a.size large.0 p.size large.1)))
]

chosen-by : (a b : Chosen) → a.qp ≡ b.qp → a.size ≡ b.size → a ≡ b
chosen-by a b e f = ap₂ (λ (q n : ℕ). record { qp = q; size = n }) e f

one-chosen : HasOneNearest → (fixed : ℕ) (tracks : List TrackState) (range : QpRange) (limit : ℕ) (a b : Chosen) → IsLeast fixed tracks range limit a → IsLeast fixed tracks range limit b → a ≡ b
one-chosen nearest fixed tracks range limit a b p r =
    let same : a.qp ≡ b.qp = le_antisymm (no-smaller nearest fixed tracks range limit b a r p) (no-smaller nearest fixed tracks range limit a b p r) in
    chosen-by a b same (one-size nearest fixed tracks b.qp a.size b.size (subst (λ (q : ℕ). HasSizeAt fixed tracks q a.size) same p.size) r.size)

no-less : HasOneNearest → (fixed : ℕ) (tracks : List TrackState) (range : QpRange) (limit : ℕ) (a b : TooLarge) → IsTooLarge fixed tracks range limit a → IsTooLarge fixed tracks range limit b → a.smallest ≤ b.smallest
no-less nearest fixed tracks range limit a b p r =
    let other = p.least r.q r.permitted in
    omega (arith, other.2, one-size nearest fixed tracks r.q other.0 b.smallest other.1 r.size)

one-large : HasOneNearest → (fixed : ℕ) (tracks : List TrackState) (range : QpRange) (limit : ℕ) (a b : TooLarge) → IsTooLarge fixed tracks range limit a → IsTooLarge fixed tracks range limit b → a ≡ b
one-large nearest fixed tracks range limit a b p r =
    ap (λ (n : ℕ). record { smallest = n }) (le_antisymm (no-less nearest fixed tracks range limit a b p r) (no-less nearest fixed tracks range limit b a r p))

not-both : HasOneNearest → (fixed : ℕ) (tracks : List TrackState) (range : QpRange) (limit : ℕ) (a : Chosen) (b : TooLarge) → IsLeast fixed tracks range limit a → IsTooLarge fixed tracks range limit b → ⊥
not-both nearest fixed tracks range limit a b p r =
    let other = r.least a.qp p.permitted in
    omega (arith, other.2, r.above, p.fits, one-size nearest fixed tracks a.qp other.0 a.size other.1 p.size)

pub one-choice : HasOneNearest → (fixed : ℕ) (tracks : List TrackState) (range : QpRange) (limit : ℕ) → HasOneAnswer (IsLeast fixed tracks range limit) (IsTooLarge fixed tracks range limit)
one-choice nearest fixed tracks range limit = record {
  accepted = one-chosen nearest fixed tracks range limit;
  refused = one-large nearest fixed tracks range limit;
  not_both = not-both nearest fixed tracks range limit;
}
