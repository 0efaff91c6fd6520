-- Several rows of a component at once.
use Rattle.std.proofs.Common.{◌≡◌, ℕ, suc, ◌+◌, ◌-◌, ◌*◌, ◌/◌, ◌%◌, ◌<◌, ◌≤◌, Bool, true, false, List, length, get_or, set, refl, sym, ◌∙◌, ap, arith, ⊎_elim}
use Rattle.std.proofs.lemmas.Bool.{cases_lt}
use Rattle.std.proofs.lemmas.List.{get_or-set_same, get_or-set_other}
use Rattle.std.proofs.lemmas.Nat.{mul-le}
use Rattle.apv_base.specs.model.Grid.{Grid, IsSoundGrid}
use Rattle.apv_grid.specs.Buffer.{sample_place, value_count, samples_in, filled_height, IsFilled}
use Rattle.apv_grid.specs.Strip.{row_place, IsSegment, Copies, TakesBlock, TakesBlocks}
use Rattle.apv_grid.proofs.PlaceLemmas.{sample-within}

-- a row ends where a later one begins, or before
pub row-before : (q r stride : ℕ) → q < r → q * stride + stride ≤ r * stride
row-before q r stride h = omega (arith, mul-le (suc q) stride r stride h (omega arith))

-- ---- values side by side

pub copies-none : (from : List ℕ) (a : ℕ) (to : List ℕ) (b : ℕ) → Copies from a to to b 0
copies-none from a to b = record { copied = λ i h. absurd (omega arith); before = λ i h. refl; after = λ i h. refl }

pub copies-one : (from : List ℕ) (a : ℕ) (old mid : List ℕ) (b i v : ℕ) → b + i < length mid → v ≡ get_or from (a + i) 0 → Copies from a old mid b i
    → Copies from a old (set mid (b + i) v) b (i + 1)
copies-one from a old mid b i v less same so = record {
  copied = λ j h.
      ⊎_elim (λ (low : j < i). get_or-set_other mid (b + i) (b + j) v 0 (λ e. omega arith) ∙ so.copied j low)
      (λ (high : i ≤ j).
      let here : j ≡ i = omega arith in
      rw here (get_or-set_same mid (b + i) v 0 less ∙ same)) (cases_lt j i);
  before = λ j h. get_or-set_other mid (b + i) j v 0 (λ e. omega arith) ∙ so.before j h;
  after = λ j h. get_or-set_other mid (b + i) j v 0 (λ e. omega arith) ∙ so.after j (omega arith);
}

-- ---- a block

-- the first rows of a block became items, and those before them stayed in all rows
pub record TakesSome (values : List ℕ) (place done rows stride at n : ℕ) (old new : List ℕ) : Type 0 where
  pub taken : (row i : ℕ) → row < done → i < n → get_or new (row * stride + (at + i)) 0 ≡ get_or values (place + 8 * row + i) 0
  pub left : (row i : ℕ) → row < rows → i < at → get_or new (row * stride + i) 0 ≡ get_or old (row * stride + i) 0

pub some-none : (values : List ℕ) (place rows stride at n : ℕ) (old : List ℕ) → TakesSome values place 0 rows stride at n old old
some-none values place rows stride at n old = record { taken = λ row i h k. absurd (omega arith); left = λ row i h k. refl }

pub block-more : (values : List ℕ) (place r rows stride at n : ℕ) (old mid new : List ℕ) → at + n ≤ stride → TakesSome values place r rows stride at n old mid
    → Copies values (place + 8 * r) mid new (r * stride + at) n → TakesSome values place (r + 1) rows stride at n old new
block-more values place r rows stride at n old mid new fits so copies = record {
  taken = λ row i h k.
      ⊎_elim (λ (low : row < r). copies.before (row * stride + (at + i)) (omega (arith, row-before row r stride low)) ∙ so.taken row i low k)
      (λ (high : r ≤ row).
      let same : row ≡ r = omega arith in
      let e : r * stride + (at + i) ≡ r * stride + at + i = omega arith in
      rw (same, e) (copies.copied i k)) (cases_lt row r);
  left = λ row i h k.
      ⊎_elim (λ (low : row < r). copies.before (row * stride + i) (omega (arith, row-before row r stride low)) ∙ so.left row i h k)
      (λ (high : r ≤ row).
      ⊎_elim (λ (above : r < row). copies.after (row * stride + i) (omega (arith, row-before r row stride above)) ∙ so.left row i h k)
      (λ (below : row ≤ r).
      let same : row ≡ r = omega arith in
      copies.before (row * stride + i) (rw same (omega arith)) ∙ so.left row i h k) (cases_lt r row)) (cases_lt row r);
}

pub block-all : (values : List ℕ) (place done rows stride at n : ℕ) (old new : List ℕ) → done ≡ rows → TakesSome values place done rows stride at n old new → TakesBlock values place rows stride at n old new
block-all values place done rows stride at n old new all so = record { taken = λ row i h k. so.taken row i (omega arith) k; left = so.left }

-- ---- blocks side by side

-- the values of a run are side by side
pub place-in-block : (half : Bool) (x i : ℕ) → x % 8 + i < 8 → row_place half (x + i) ≡ row_place half x + i
unfolding row_place
place-in-block true x i h = omega arith
place-in-block false x i h = omega arith

pub blocks-none : (half : Bool) (values : List ℕ) (start first rows stride at : ℕ) (old : List ℕ) → TakesBlocks half values start first rows stride at 0 old old
blocks-none half values start first rows stride at old = record { taken = λ row i h k. absurd (omega arith); left = λ row i h k. refl }

pub blocks-more : (half : Bool) (values : List ℕ) (start first rows stride at done n place : ℕ) (old mid new : List ℕ) → (first + done) % 8 + n ≤ 8 → place ≡ start + row_place half (first + done)
    → TakesBlocks half values start first rows stride at done old mid → TakesBlock values place rows stride (at + done) n mid new
    → TakesBlocks half values start first rows stride at (done + n) old new
blocks-more half values start first rows stride at done n place old mid new inside is so block = record {
  taken = λ row i h k.
      ⊎_elim (λ (low : i < done). block.left row (at + i) h (omega arith) ∙ so.taken row i h low)
      (λ (high : done ≤ i).
      let j : ℕ = i - done in
      let e : row * stride + (at + i) ≡ row * stride + (at + done + j) = omega arith in
      let f : first + done + j ≡ first + i = omega arith in
      let p : place + 8 * row + j ≡ start + row_place half (first + i) + 8 * row =
      omega (arith, is, rw f at (place-in-block half (first + done) j (omega arith))) in
      ap (λ (m : ℕ). get_or new m 0) e ∙ block.taken row j h (omega arith) ∙ ap (λ (m : ℕ). get_or values m 0) p) (cases_lt i done);
  left = λ row i h k. block.left row i h (omega arith) ∙ so.left row i h k;
}

-- a block's values are among the values
pub block-within : (half : Bool) (start first done count n place row size : ℕ) → ((i : ℕ) → i < count → start + row_place half (first + i) + 8 * row < size)
    → (first + done) % 8 + n ≤ 8 → 0 < n → done + n ≤ count → place ≡ row_place half (first + done) → start + place + 8 * row + n ≤ size
block-within half start first done count n place row size within inside some few is =
    let f : first + done + (n - 1) ≡ first + (done + n - 1) = omega arith in
    omega (arith, is, rw f at (place-in-block half (first + done) (n - 1) (omega arith)), within (done + n - 1) (omega arith))

-- ---- rows of a component

-- the rows of a block are side by side
pub row-below : (grid : Grid) (comp x y r : ℕ) → y % 8 + r < 8 → sample_place grid comp x (y + r) ≡ sample_place grid comp x y + 8 * r
row-below grid comp x y r h =
    let a : (y + r) / 16 ≡ y / 16 = omega arith in
    let b : (y + r) / 8 ≡ y / 8 = omega arith in
    let c : (y + r) % 8 ≡ y % 8 + r = omega arith in
    rw (a, b, c) (omega arith)

pub band-within : (grid : Grid) (comp x y start first : ℕ) (half : Bool) (n rows row i size : ℕ) → IsSoundGrid grid → IsSegment grid comp x y start first half n → y % 8 + rows ≤ 8 → y + rows ≤ filled_height grid
    → row < rows → i < n → size ≡ value_count grid → start + row_place half (first + i) + 8 * row < size
band-within grid comp x y start first half n rows row i size sound segment inside below h k all =
    let filled = segment.filled i k in
    omega (
      arith,
      segment.places i k,
      all,
      row-below grid comp (x + i) y row (omega arith),
      sample-within grid comp (x + i) (y + row) sound (record { known = filled.known; column = filled.column; line = omega arith }),
    )

pub band-more : (grid : Grid) (comp y start first : ℕ) (half : Bool) (values mid new : List ℕ) (rows width done n : ℕ) → IsSegment grid comp done y start first half n → y % 8 + rows ≤ 8
    → ((row x : ℕ) → row < rows → x < done → get_or mid (row * width + x) 0 ≡ samples_in grid values comp x (y + row)) → TakesBlocks half values start first rows width done n mid new
    → (row x : ℕ) → row < rows → x < done + n → get_or new (row * width + x) 0 ≡ samples_in grid values comp x (y + row)
band-more grid comp y start first half values mid new rows width done n segment inside so takes row x h k =
    ⊎_elim (λ (low : x < done). takes.left row x h low ∙ so row x h low)
    (λ (high : done ≤ x).
    let j : ℕ = x - done in
    let e : done + j ≡ x = omega arith in
    let p : start + row_place half (first + j) + 8 * row ≡ sample_place grid comp x (y + row) =
    omega (arith, rw e at (segment.places j (omega arith)), row-below grid comp x y row (omega arith)) in
    ap (λ (m : ℕ). get_or new (row * width + m) 0) (sym e) ∙ takes.taken row j h (omega arith) ∙ ap (λ (m : ℕ). get_or values m 0) p) (cases_lt x done)
