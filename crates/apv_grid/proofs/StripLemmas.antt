-- Samples of a row of macroblocks, one run after another.
use Rattle.std.proofs.Common.{◌≡◌, ℕ, ◌+◌, ◌-◌, ◌*◌, ◌%◌, ◌<◌, ◌≤◌, Bool, true, false, List, ◌++◌, take, drop, length, get_or, set, refl, sym, ◌∙◌, ap, arith, ⊎_elim}
use Rattle.std.proofs.lemmas.Bool.{cases_lt}
use Rattle.std.proofs.lemmas.List.{get_or-set_same, get_or-set_other, length-take-le, take_all, get_or_append_left, get_or-append_right, get_or-take, get_or-drop, length-drop}
use Rattle.std.proofs.lemmas.Simd.{put_chunk_whole}
use lib.Lanes.{put_chunk, chunk}
use borrow.Rule.Slice.PartMut.{put_mid}
use Rattle.apv_grid.specs.Strip.{row_place, Copies, ReadsSamples, WritesSamples, SamplesAreWithin}

-- the values of a run are side by side
pub place-in-run : (half : Bool) (x i : ℕ) → x % 8 ≡ 0 → i < 8 → row_place half (x + i) ≡ row_place half x + i
unfolding row_place
place-in-run true x i e h = omega arith
place-in-run false x i e h = omega arith

-- those of a row rise
pub place-rises : (half : Bool) (x y : ℕ) → x < y → row_place half x < row_place half y
unfolding row_place
place-rises true x y h = omega arith
place-rises false x y h = omega arith

pub place-small : (half : Bool) (x : ℕ) → row_place half x ≤ 16 * x
unfolding row_place
place-small true x = omega arith
place-small false x = omega arith

-- ---- copying

-- a list with a part of it replaced by a part of another
splice-copies : (from to part : List ℕ) (a b n : ℕ) → a + n ≤ length from → b + n ≤ length to → part ≡ take n (drop a from)
    → Copies from a to (take b to ++ (part ++ drop n (drop b to))) b n
splice-copies from to part a b n hf ht e =
    let prefix : length (take b to) ≡ b = length-take-le b to (omega arith) in
    let size : length part ≡ n = rw e (length-take-le n (drop a from) (omega (arith, length-drop a from))) in
    record {
      copied = λ i h.
          get_or-append_right (take b to) (part ++ drop n (drop b to)) b (b + i) 0 prefix (omega arith)
          ∙ ap (λ (m : ℕ). get_or (part ++ drop n (drop b to)) m 0) (let k : b + i - b ≡ i = omega arith in k)
          ∙ get_or_append_left part (drop n (drop b to)) 0 i (omega arith)
          ∙ ap (λ (xs : List ℕ). get_or xs i 0) e ∙ get_or-take n (drop a from) i 0 h ∙ get_or-drop a from i 0;
      before = λ i h. get_or_append_left (take b to) (part ++ drop n (drop b to)) 0 i (omega arith) ∙ get_or-take b to i 0 h;
      after = λ i h.
          get_or-append_right (take b to) (part ++ drop n (drop b to)) b i 0 prefix (omega arith)
          ∙ get_or-append_right part (drop n (drop b to)) n (i - b) 0 size (omega arith)
          ∙ get_or-drop n (drop b to) (i - b - n) 0 ∙ get_or-drop b to (n + (i - b - n)) 0
          ∙ ap (λ (m : ℕ). get_or to m 0) (let k : b + (n + (i - b - n)) ≡ i = omega arith in k);
    }

-- what a vector of 8 values leaves
pub run-copies : (from to : List ℕ) (a b m n : ℕ) → a + 8 ≤ length from → b + 8 ≤ length to → m ≡ 8 → n ≡ 8
    → Copies from a to (put_mid b n to (put_chunk 0 (take n (drop b to)) (chunk 0 8 (take m (drop a from))))) b 8
run-copies from to a b m n hf ht em en =
    rw (em, en)
    (let eight : length (take 8 (drop a from)) ≡ 8 = length-take-le 8 (drop a from) (omega (arith, length-drop a from)) in
    let room : length (take 8 (drop b to)) ≡ 8 = length-take-le 8 (drop b to) (omega (arith, length-drop b to)) in
    let all : chunk 0 8 (take 8 (drop a from)) ≡ take 8 (drop a from) = take_all 8 (take 8 (drop a from)) (omega arith) in
    let e : put_chunk 0 (take 8 (drop b to)) (chunk 0 8 (take 8 (drop a from))) ≡ take 8 (drop a from) =
    rw all (put_chunk_whole (take 8 (drop b to)) (take 8 (drop a from)) (room ∙ sym eight)) in
    splice-copies from to (put_chunk 0 (take 8 (drop b to)) (chunk 0 8 (take 8 (drop a from)))) a b 8 hf ht e)

-- ---- reading

pub reads-none : (half : Bool) (values : List ℕ) (start x : ℕ) (row : List ℕ) (a : ℕ) → ReadsSamples half values start x row row a a
reads-none half values start x row a = record { taken = λ i from to. absurd (omega arith); before = λ i h. refl; after = λ i h. refl }

pub reads-join : (half : Bool) (values : List ℕ) (start x : ℕ) (old mid new : List ℕ) (a b c : ℕ) → a ≤ b → b ≤ c
    → ReadsSamples half values start x old mid a b → ReadsSamples half values start x mid new b c → ReadsSamples half values start x old new a c
reads-join half values start x old mid new a b c low high first second = record {
  taken = λ i from to. ⊎_elim (λ h. second.before i h ∙ first.taken i from h) (λ h. second.taken i h to) (cases_lt i b);
  before = λ i h. second.before i (omega arith) ∙ first.before i h;
  after = λ i h. second.after i h ∙ first.after i (omega arith);
}

pub reads-one : (half : Bool) (values : List ℕ) (start x : ℕ) (row : List ℕ) (i v : ℕ) → i < length row → v ≡ get_or values (start + row_place half (x + i)) 0
    → ReadsSamples half values start x row (set row i v) i (i + 1)
reads-one half values start x row i v less e = record {
  taken = λ j from to.
      let same : j ≡ i = omega arith in
      rw same (get_or-set_same row i v 0 less ∙ e);
  before = λ j h. get_or-set_other row i j v 0 (λ (same : j ≡ i). omega arith);
  after = λ j h. get_or-set_other row i j v 0 (λ (same : j ≡ i). omega arith);
}

pub reads-run : (half : Bool) (values : List ℕ) (start x : ℕ) (old new : List ℕ) (i place : ℕ) → (x + i) % 8 ≡ 0 → place ≡ start + row_place half (x + i)
    → Copies values place old new i 8 → ReadsSamples half values start x old new i (i + 8)
reads-run half values start x old new i place whole e copies = record {
  taken = λ j from to.
      let k : j ≡ i + (j - i) = omega arith in
      let p : x + i + (j - i) ≡ x + j = omega arith in
      let q : place + (j - i) ≡ start + row_place half (x + j) =
      rw e (omega (arith, rw p at (place-in-run half (x + i) (j - i) whole (omega arith)))) in
      ap (λ (m : ℕ). get_or new m 0) k ∙ copies.copied (j - i) (omega arith) ∙ ap (λ (m : ℕ). get_or values m 0) q;
  before = copies.before;
  after = copies.after;
}

-- ---- writing

pub writes-none : (half : Bool) (row : List ℕ) (start x : ℕ) (values : List ℕ) (a : ℕ) → WritesSamples half row start x values values a a
writes-none half row start x values a = record { put = λ i from to. absurd (omega arith); others = λ k h. refl }

pub writes-join : (half : Bool) (row : List ℕ) (start x : ℕ) (old mid new : List ℕ) (a b c : ℕ) → a ≤ b → b ≤ c
    → WritesSamples half row start x old mid a b → WritesSamples half row start x mid new b c → WritesSamples half row start x old new a c
writes-join half row start x old mid new a b c low high first second = record {
  put = λ i from to.
      ⊎_elim (λ h. second.others (start + row_place half (x + i)) (λ j above below e. absurd (omega (arith, place-rises half (x + i) (x + j) (omega arith)))) ∙ first.put i from h)
      (λ h. second.put i h to) (cases_lt i b);
  others = λ k apart. second.others k (λ i from to. apart i (omega arith) to) ∙ first.others k (λ i from to. apart i from (omega arith));
}

pub writes-one : (half : Bool) (row : List ℕ) (start x : ℕ) (values : List ℕ) (i place v : ℕ) → place ≡ start + row_place half (x + i) → place < length values
    → v ≡ get_or row i 0 → WritesSamples half row start x values (set values place v) i (i + 1)
writes-one half row start x values i place v e less same = record {
  put = λ j from to.
      let here : j ≡ i = omega arith in
      rw (here, ← e) (get_or-set_same values place v 0 less ∙ same);
  others = λ k apart. get_or-set_other values place k v 0 (λ (here : k ≡ place). apart i (omega arith) (omega arith) (here ∙ e));
}

pub writes-run : (half : Bool) (row : List ℕ) (start x : ℕ) (old new : List ℕ) (i place : ℕ) → (x + i) % 8 ≡ 0 → place ≡ start + row_place half (x + i)
    → Copies row i old new place 8 → WritesSamples half row start x old new i (i + 8)
writes-run half row start x old new i place whole e copies = record {
  put = λ j from to.
      let k : i + (j - i) ≡ j = omega arith in
      let p : x + i + (j - i) ≡ x + j = omega arith in
      let q : start + row_place half (x + j) ≡ place + (j - i) =
      rw e (omega (arith, rw p at (place-in-run half (x + i) (j - i) whole (omega arith)))) in
      ap (λ (m : ℕ). get_or new m 0) q ∙ copies.copied (j - i) (omega arith) ∙ ap (λ (m : ℕ). get_or row m 0) k;
  others = λ k apart.
      ⊎_elim (λ h. copies.before k h)
      (λ h. ⊎_elim
      (λ near.
      let p : x + i + (k - place) ≡ x + (i + (k - place)) = omega arith in
      let q : k ≡ start + row_place half (x + (i + (k - place))) =
      omega (arith, e, rw p at (place-in-run half (x + i) (k - place) whole (omega arith))) in
      absurd (apart (i + (k - place)) (omega arith) (omega arith) q))
      (λ far. copies.after k far) (cases_lt k (place + 8))) (cases_lt k place);
}

-- ---- whole runs

-- a whole run is among the values
pub run-within : (half : Bool) (start x a b n i place : ℕ) → SamplesAreWithin half start x a b n → (x + i) % 8 ≡ 0 → a ≤ i → i + 8 ≤ b
    → place ≡ row_place half (x + i) → start + place + 8 ≤ n
run-within half start x a b n i place within whole from to e =
    let p : x + i + 7 ≡ x + (i + 7) = omega arith in
    omega (arith, e, rw p at (place-in-run half (x + i) 7 whole (omega arith)), within (i + 7) (omega arith) (omega arith))

-- one run more
pub reads-more : (half : Bool) (values : List ℕ) (start x : ℕ) (old mid new : List ℕ) (a i j place : ℕ) → a ≤ i → (x + i) % 8 ≡ 0 → j ≡ i + 8
    → place ≡ start + row_place half (x + i) → ReadsSamples half values start x old mid a i → Copies values place mid new i 8 → ReadsSamples half values start x old new a j
reads-more half values start x old mid new a i j place from whole next e so copies =
    rw next (reads-join half values start x old mid new a i (i + 8) from (omega arith) so (reads-run half values start x mid new i place whole e copies))

pub writes-more : (half : Bool) (row : List ℕ) (start x : ℕ) (old mid new : List ℕ) (a i j place : ℕ) → a ≤ i → (x + i) % 8 ≡ 0 → j ≡ i + 8
    → place ≡ start + row_place half (x + i) → WritesSamples half row start x old mid a i → Copies row i mid new place 8 → WritesSamples half row start x old new a j
writes-more half row start x old mid new a i j place from whole next e so copies =
    rw next (writes-join half row start x old mid new a i (i + 8) from (omega arith) so (writes-run half row start x mid new i place whole e copies))
