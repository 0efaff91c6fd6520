-- Blocks of 64 values in one list.
use Rattle.std.proofs.Common.{◌≡◌, ℕ, zero, suc, ◌+◌, ◌*◌, ◌/◌, ◌<◌, ◌≤◌, ◌≢◌, ◌++◌, List, [], length, take, drop, get_or, refl, sym, ap, ◌∙◌, ⊎_elim, arith, below_more}
use Rattle.std.proofs.lemmas.Bool.{cases_lt}
use Rattle.std.proofs.lemmas.List.{take_at, drop_at, drop-take, drop-drop, length-take-le, get_or-take, get_or-drop}
use Rattle.std.proofs.lemmas.Slice.{take-put_mid_below, drop-put_mid}
use Rattle.std.specs.Simd.{first_chunks}
use borrow.Rule.Slice.PartMut.{put_mid}
use Rattle.apv_tile.specs.Blocks.{block_at, blocks_of}

-- ---- after 64 values were stored as a block

module _ {X : Type 0} (xs ys : List X) (block k : ℕ) (many : k ≡ 64) (len : length ys ≡ 64) (within : 64 * block + 64 ≤ length xs) where
  pub stored_here : block_at (put_mid (64 * block) k xs ys) block ≡ ys
  stored_here =
      ap (take 64) (drop_at (take (64 * block) xs) (ys ++ drop k (drop (64 * block) xs)) (64 * block) (length-take-le (64 * block) xs (omega arith)))
      ∙ take_at ys (drop k (drop (64 * block) xs)) 64 len

  stored_below : (other : ℕ) → other < block → block_at (put_mid (64 * block) k xs ys) other ≡ block_at xs other
  stored_below other lt =
      sym (drop-take (64 * other) 64 (put_mid (64 * block) k xs ys))
      ∙ ap (drop (64 * other)) (take-put_mid_below (64 * block) k xs ys (64 * other + 64) (omega arith) (omega arith))
      ∙ drop-take (64 * other) 64 xs

  stored_above : (other : ℕ) → block < other → block_at (put_mid (64 * block) k xs ys) other ≡ block_at xs other
  stored_above other lt = ap (take 64) (drop-put_mid (64 * block) k xs ys (64 * other) (omega arith) (omega arith) (omega arith))

  pub stored_others : (other : ℕ) → other ≢ block → block_at (put_mid (64 * block) k xs ys) other ≡ block_at xs other
  stored_others other ne =
      ⊎_elim
      (λ (lt : other < block). stored_below other lt)
      (λ (le : block ≤ other). stored_above other (omega (arith, ne, le)))
      (cases_lt other block)

-- ---- blocks by their numbers

chunk_at : {X : Type 0} (count : ℕ) (xs : List X) (block : ℕ) (d : List X) → block < count → get_or (first_chunks 64 count xs) block d ≡ block_at xs block
chunk_at zero xs block d lt = absurd (omega (arith, lt))
chunk_at (suc count) xs zero d lt = refl
chunk_at (suc count) xs (suc block) d lt =
    let e : 64 + 64 * block ≡ 64 * suc block = omega arith in
    chunk_at count (drop 64 xs) block d (omega (arith, lt)) ∙ ap (take 64) (drop-drop (64 * block) 64 xs ∙ ap (λ n. drop n xs) e)

-- one of the blocks
pub block_is : {X : Type 0} (xs : List X) (blocks : List (List X)) (block : ℕ) → blocks ≡ blocks_of xs → length blocks ≡ length xs / 64 → block < length blocks
    → get_or blocks block [] ≡ block_at xs block
block_is xs blocks block e count lt = ap (λ bs. get_or bs block []) e ∙ chunk_at (length xs / 64) xs block [] (omega (arith, lt, count))

-- the values of a block are below a bound
pub block_below : (bound : ℕ) (xs : List ℕ) (block : ℕ) (of_block : List ℕ) → ((place : ℕ) → place < length xs → get_or xs place 0 < bound) → block < length xs / 64 → of_block ≡ block_at xs block
    → (place : ℕ) → place < 64 → get_or of_block place 0 < bound
block_below bound xs block of_block below lt is place h =
    let e : get_or of_block place 0 ≡ get_or xs (64 * block + place) 0 =
    ap (λ bs. get_or bs place 0) is ∙ get_or-take 64 (drop (64 * block) xs) place 0 h ∙ get_or-drop (64 * block) xs place 0 in
    rw e (below (64 * block + place) (omega (arith, lt, h)))

-- what holds of each block stored so far holds of one more
pub one_more_block : {X Y : Type 0} (P : List X → List Y → Type 0) (xs : List X) (old new : List Y) (count : ℕ) (of_block : List X) (made : List Y)
    → ((block : ℕ) → block < count → P (block_at xs block) (block_at old block)) → of_block ≡ block_at xs count
    → block_at new count ≡ made → ((other : ℕ) → other ≢ count → block_at new other ≡ block_at old other) → P of_block made
    → (block : ℕ) → block < count + 1 → P (block_at xs block) (block_at new block)
one_more_block P xs old new count of_block made each is here others holds =
    below_more (λ (block : ℕ). P (block_at xs block) (block_at new block)) count
    (λ block lt. let ne : block ≢ count = omega (arith, lt) in rw (others block ne) (each block lt))
    (rw (← is, here) holds)
