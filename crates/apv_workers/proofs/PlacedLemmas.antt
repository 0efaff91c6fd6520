-- Values put one after another in coding order.
use Rattle.std.proofs.Common.{◌≡◌, ℕ, zero, suc, ◌+◌, ◌*◌, ◌<◌, ◌≤◌, ◌++◌, List, [], length, take, drop, refl, sym, ap, ◌∙◌, arith, length-append, length-drop, inl, inr}
use Rattle.std.proofs.lemmas.Bool.{cases_lt}
use Rattle.std.proofs.lemmas.List.{take-append-le, drop-append-le, drop-drop, take-append-drop}
use Rattle.std.proofs.Math.Seq.{drop-append-add, take-length}
use Rattle.apv_base.specs.model.Format.{comps_of}
use Rattle.apv_base.specs.model.Grid.{Grid, tile_count, block_count}
use Rattle.apv_grid.specs.Buffer.{part_in, tile_start, tile_value_count, values_before, value_count}

-- ---- lists one after another

-- the first n of the items
unfoldable pub joined : {A : Type 0} → (ℕ → List A) → ℕ → List A
joined item zero = []
joined item (suc n) = joined item n ++ item n

-- where each begins
pub record AreItemStarts {A : Type 0} (item : ℕ → List A) (start : ℕ → ℕ) (count : ℕ) : Type 0 where
  pub first : start 0 ≡ 0
  pub next : (n : ℕ) → n < count → start (suc n) ≡ start n + length (item n)

pub length-joined : {A : Type 0} (item : ℕ → List A) (start : ℕ → ℕ) (count n : ℕ) → AreItemStarts item start count → n ≤ count → length (joined item n) ≡ start n
unfolding joined
length-joined item start count zero s le = sym s.first
length-joined item start count (suc n) s le =
    length-append (joined item n) (item n) ∙ ap (λ (k : ℕ). k + length (item n)) (length-joined item start count n s (omega (arith, le))) ∙ sym (s.next n (omega (arith, le)))

starts-rise : {A : Type 0} (item : ℕ → List A) (start : ℕ → ℕ) (count i j : ℕ) → AreItemStarts item start count → i ≤ j → j ≤ count → start i ≤ start j
starts-rise item start count i zero s le below = let same : i ≡ 0 = omega (arith, le) in omega (arith, ap start same)
starts-rise item start count i (suc j) s le below = elim (cases_lt i (suc j)) [
  | inl lt ↦ omega (arith, starts-rise item start count i j s (omega (arith, lt)) (omega (arith, below)), s.next j (omega (arith, below)))
  | inr ge ↦ (let same : i ≡ suc j = omega (arith, le, ge) in omega (arith, ap start same))
]

take_within : {A : Type 0} (k d : ℕ) (a b : List A) → d + k ≤ length a → take k (drop d (a ++ b)) ≡ take k (drop d a)
take_within k d a b le =
    let p : d ≤ length a = omega (arith, le) in
    let q : k ≤ length (drop d a) = omega (arith, le, length-drop d a) in
    ap (λ xs. take k xs) (drop-append-le d a b p) ∙ take-append-le k (drop d a) b q

-- each is where it begins
pub joined-at : {A : Type 0} (item : ℕ → List A) (start : ℕ → ℕ) (count n k : ℕ) → AreItemStarts item start count → n ≤ count → k < n → take (length (item k)) (drop (start k) (joined item n)) ≡ item k
unfolding joined
joined-at item start count zero k s le lt = absurd (omega (arith, lt))
joined-at item start count (suc n) k s le lt =
    let long = length-joined item start count n s (omega (arith, le)) in
    elim (cases_lt k n) [
      | inl before ↦ (
          let rise = starts-rise item start count (suc k) n s (omega (arith, before)) (omega (arith, le)) in
          take_within (length (item k)) (start k) (joined item n) (item n) (omega (arith, long, rise, s.next k (omega (arith, before, le))))
          ∙ joined-at item start count n k s (omega (arith, le)) before)
      | inr last ↦ (
          let same : k ≡ n = omega (arith, lt, last) in
          let at : start k ≡ length (joined item n) + 0 = omega (arith, long, ap start same) in
          ap (λ (d : ℕ). take (length (item k)) (drop d (joined item n ++ item n))) at
          ∙ ap (take (length (item k))) (drop-append-add (joined item n) (item n) 0)
          ∙ ap (λ (m : ℕ). take (length (item k)) (item m)) (sym same) ∙ take-length (item k))
    ]

-- ---- in the order of coding

module _ {A : Type 0} (grid : Grid) (piece : ℕ → ℕ → List A) (many : (tile comp : ℕ) → length (piece tile comp) ≡ 64 * block_count grid tile comp) where
  comps-start : (tile : ℕ) → AreItemStarts (piece tile) (values_before grid tile) (comps_of grid.format.chroma)
  unfolding values_before
  comps-start tile = record { first = refl; next = λ n lt. ap (λ (k : ℕ). values_before grid tile n + k) (sym (many tile n)) }

  -- the values of a tile
  abbrev of_tile : ℕ → List A
  of_tile tile = joined (piece tile) (comps_of grid.format.chroma)

  long-tile : (tile : ℕ) → length (of_tile tile) ≡ tile_value_count grid tile
  long-tile tile = length-joined (piece tile) (values_before grid tile) (comps_of grid.format.chroma) (comps_of grid.format.chroma) (comps-start tile) (omega arith)

  tiles-start : AreItemStarts of_tile (tile_start grid) (tile_count grid)
  unfolding tile_start
  tiles-start = record { first = refl; next = λ n lt. ap (λ (k : ℕ). tile_start grid n + k) (sym (long-tile n)) }

  -- all values
  abbrev pub all_values : List A
  all_values = joined of_tile (tile_count grid)

  pub length-all : length all_values ≡ value_count grid
  length-all = length-joined of_tile (tile_start grid) (tile_count grid) (tile_count grid) tiles-start (omega arith)

  -- those of a component are the ones that were put there
  pub part-given : (tile comp : ℕ) → tile < tile_count grid → comp < comps_of grid.format.chroma → part_in grid all_values tile comp ≡ piece tile comp
  part-given tile comp lt less =
      let before : ℕ = values_before grid tile comp in
      let size : ℕ = 64 * block_count grid tile comp in
      let in_tile : take size (drop before (of_tile tile)) ≡ piece tile comp =
      ap (λ (k : ℕ). take k (drop before (of_tile tile))) (sym (many tile comp)) ∙ joined-at (piece tile) (values_before grid tile) (comps_of grid.format.chroma) (comps_of grid.format.chroma) comp (comps-start tile) (omega arith) less in
      let here : take (length (of_tile tile)) (drop (tile_start grid tile) all_values) ≡ of_tile tile = joined-at of_tile (tile_start grid) (tile_count grid) (tile_count grid) tile tiles-start (omega arith) lt in
      let rise = starts-rise (piece tile) (values_before grid tile) (comps_of grid.format.chroma) (suc comp) (comps_of grid.format.chroma) (comps-start tile) (omega (arith, less)) (omega arith) in
      let room : before + size ≤ length (of_tile tile) = omega (arith, rise, (comps-start tile).next comp less, many tile comp, long-tile tile) in
      let xs : List A = drop (tile_start grid tile) all_values in
      let n : ℕ = length (of_tile tile) in
      let tail : part_in grid all_values tile comp ≡ take size (drop before xs) = ap (take size) (sym (drop-drop before (tile_start grid tile) all_values)) in
      tail
      ∙ ap (λ (ys : List A). take size (drop before ys)) (sym (take-append-drop n xs))
      ∙ take_within size before (take n xs) (drop n xs) (omega (arith, room, ap length here))
      ∙ ap (λ (ys : List A). take size (drop before ys)) here ∙ in_tile
