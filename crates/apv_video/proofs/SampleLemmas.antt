-- Samples and their bytes.
use Rattle.std.proofs.Common.{◌≡◌, ℕ, zero, suc, ◌+◌, ◌-◌, ◌*◌, ◌/◌, ◌%◌, ◌<◌, ◌≤◌, List, ◌++◌, length, take, drop, get_or, map, refl, ap, sym, subst, ◌∙◌, arith, ⊎_elim}
use Rattle.std.specs.List.{range_with_len}
use Rattle.std.proofs.lemmas.Bool.{cases_lt}
use Rattle.std.proofs.lemmas.List.{length-take-le, get_or_append_left, get_or-append_right, get_or-take, same_lists, get_or_default}
use Rattle.std.proofs.lemmas.List.FromFn.{length-map-range_with_len, get_or-map-range_with_len}
use Rattle.std.proofs.lemmas.Nat.{mul-le, div_below, mod_below, div-mul-add, mod-mul-add, div-add-mod'}
use borrow.Rule.Slice.PartMut.{put_mid}

-- the first items of a list are the values of a function
abbrev pub AreValues : (ℕ → ℕ) → List ℕ → ℕ → Type 0
AreValues f xs n = (i : ℕ) → i < n → get_or xs i 0 ≡ f i

-- a list of the values of a function from a number on
pub values-all : (f : ℕ → ℕ) (first : ℕ) (xs : List ℕ) (n m : ℕ) → AreValues (λ i. f (first + i)) xs n → n ≡ length xs → m ≡ length xs → xs ≡ map f (range_with_len first m)
values-all f first xs n m so all size =
    same_lists xs (map f (range_with_len first m)) (sym size ∙ sym (length-map-range_with_len f first m))
    (λ i d less.
    get_or_default xs i d 0 less ∙ so i (omega arith)
    ∙ sym (get_or-map-range_with_len f first m i (first + i) d (omega arith) refl))

-- the part of a row after the samples so far
pub values-more : (f : ℕ → ℕ) (xs piece : List ℕ) (done count e : ℕ) → AreValues f xs done → e ≡ done + count → done + count ≤ length xs → length piece ≡ count → AreValues (λ i. f (done + i)) piece count
    → AreValues f (put_mid done (e - done) xs piece) e
values-more f xs piece done count e so end room size row i less =
    let after : List ℕ = drop (e - done) (drop done xs) in
    let before : length (take done xs) ≡ done = length-take-le done xs (omega arith) in
    ⊎_elim (λ (low : i < done). get_or_append_left (take done xs) (piece ++ after) 0 i (omega arith) ∙ get_or-take done xs i 0 low ∙ so i low)
    (λ (high : done ≤ i).
    let j : ℕ = i - done in
    let e' : done + j ≡ i = omega arith in
    get_or-append_right (take done xs) (piece ++ after) done i 0 before high ∙ get_or_append_left piece after 0 j (omega arith) ∙ row j (omega arith) ∙ ap f e') (cases_lt i done)

-- the column and the row of the samples after one on its row
pub place-mod : (n w i : ℕ) → n % w + i < w → (n + i) % w ≡ n % w + i
place-mod n w i less =
    let e : n + i ≡ n / w * w + (n % w + i) = omega (arith, div-add-mod' n w) in
    rw e (mod-mul-add (n / w) w (n % w + i) less)

pub place-div : (n w i : ℕ) → n % w + i < w → (n + i) / w ≡ n / w
place-div n w i less =
    let e : n + i ≡ n / w * w + (n % w + i) = omega (arith, div-add-mod' n w) in
    rw e (div-mul-add (n / w) w (n % w + i) less)

-- the samples of a part of a row are those of their numbers
pub row-values : (s : ℕ → ℕ → ℕ) (w v place first done n : ℕ) (piece : List ℕ) → v ≡ w → place ≡ first + done → place % v + n ≤ v → ((i : ℕ) → i < n → get_or piece i 0 ≡ s (place % v + i) (place / v))
    → AreValues (λ i. s ((first + (done + i)) % w) ((first + (done + i)) / w)) piece n
row-values s w v place first done n piece same at room row i less =
    let e : first + (done + i) ≡ place + i = omega arith in
    let here : get_or piece i 0 ≡ s ((first + (done + i)) % v) ((first + (done + i)) / v) =
    rw (e, place-mod place v i (omega arith), place-div place v i (omega arith)) (row i less) in
    subst (λ (m : ℕ). get_or piece i 0 ≡ s ((first + (done + i)) % m) ((first + (done + i)) / m)) same here

-- a row has a sample where there is any
pub wide-enough : (h w n : ℕ) → n < h * w → 0 < w
wide-enough h zero n less = let e : h * zero ≡ zero = omega arith in absurd (omega arith)
wide-enough h (suc w) n less = omega arith

-- ---- whole rows

-- the part of a list after the samples so far, of which some are known
pub values-then : (f : ℕ → ℕ) (xs piece : List ℕ) (done count m : ℕ) → AreValues f xs done → done + count ≤ length xs → count ≤ length piece → AreValues (λ i. f (done + i)) piece count
    → AreValues f (put_mid done m xs piece) (done + count)
values-then f xs piece done count m so room size row i less =
    let after : List ℕ = drop m (drop done xs) in
    let before : length (take done xs) ≡ done = length-take-le done xs (omega arith) in
    ⊎_elim (λ (low : i < done). get_or_append_left (take done xs) (piece ++ after) 0 i (omega arith) ∙ get_or-take done xs i 0 low ∙ so i low)
    (λ (high : done ≤ i).
    let j : ℕ = i - done in
    let e' : done + j ≡ i = omega arith in
    get_or-append_right (take done xs) (piece ++ after) done i 0 before high ∙ get_or_append_left piece after 0 j (omega arith) ∙ row j (omega arith) ∙ ap f e') (cases_lt i done)

-- rows have no more samples than there is room for
pub rows-fit : (rows len w : ℕ) → rows ≤ len / w → rows * w ≤ len
rows-fit rows len w h = omega (arith, mul-le rows w (len / w) w h (omega arith), div-add-mod' len w)

-- rows of which all samples are visible are visible
pub rows-inside : (h w first len rows : ℕ) → 0 < w → first % w ≡ 0 → first + len ≤ h * w → rows * w ≤ len → first / w + rows ≤ h
rows-inside h w first len rows wide start inside fits =
    ⊎_elim (λ (over : h < first / w + rows).
    absurd (omega (arith, mul-le (suc h) w (first / w + rows) w over (omega arith), div-add-mod' first w)))
    (λ (inner : first / w + rows ≤ h). inner) (cases_lt h (first / w + rows))

-- the samples of whole rows are those of their numbers
pub band-values : (s : ℕ → ℕ → ℕ) (w v first rows n : ℕ) (piece : List ℕ) → v ≡ w → 0 < w → first % v ≡ 0 → n ≡ rows * v
    → ((row x : ℕ) → row < rows → x < w → get_or piece (row * w + x) 0 ≡ s x (first / v + row)) → AreValues (λ i. s ((first + i) % w) ((first + i) / w)) piece n
band-values s w v first rows n piece same wide start size is i less =
    let column : i % w < w = mod_below i w wide in
    let row : i / w < rows = div_below i w rows wide (let all : n ≡ rows * w = rw (← same) size in omega arith) in
    let at : i / w * w + i % w ≡ i = omega (arith, div-add-mod' i w) in
    let head : first % w ≡ 0 = rw (← same) start in
    let e : first + i ≡ (first / w + i / w) * w + i % w = omega (arith, div-add-mod' i w, div-add-mod' first w) in
    let there : get_or piece (i / w * w + i % w) 0 ≡ s (i % w) (first / w + i / w) = rw same at (is (i / w) (i % w) row column) in
    ap (λ (m : ℕ). get_or piece m 0) (sym at) ∙ there ∙ rw (e, mod-mul-add (first / w + i / w) w (i % w) column, div-mul-add (first / w + i / w) w (i % w) column) refl

-- the samples of a part of a row, before the rest of a list
pub row-then : (s : ℕ → ℕ → ℕ) (w v first n : ℕ) (piece rest : List ℕ) → v ≡ w → first % v + n ≤ v → n ≤ length piece → ((i : ℕ) → i < n → get_or piece i 0 ≡ s (first % v + i) (first / v))
    → AreValues (λ i. s ((first + i) % w) ((first + i) / w)) (piece ++ rest) n
row-then s w v first n piece rest same room size row i less =
    let here : get_or piece i 0 ≡ s ((first + i) % v) ((first + i) / v) = rw (place-mod first v i (omega arith), place-div first v i (omega arith)) (row i less) in
    get_or_append_left piece rest 0 i (omega arith) ∙ subst (λ (m : ℕ). get_or piece i 0 ≡ s ((first + i) % m) ((first + i) / m)) same here

-- those of whole rows
pub band-then : (s : ℕ → ℕ → ℕ) (w v first rows n : ℕ) (piece rest : List ℕ) → v ≡ w → 0 < w → first % v ≡ 0 → n ≡ rows * v → n ≤ length piece
    → ((row x : ℕ) → row < rows → x < w → get_or piece (row * w + x) 0 ≡ s x (first / v + row)) → AreValues (λ i. s ((first + i) % w) ((first + i) / w)) (piece ++ rest) n
band-then s w v first rows n piece rest same wide start size fits is i less =
    get_or_append_left piece rest 0 i (omega arith) ∙ band-values s w v first rows n piece same wide start size is i less
