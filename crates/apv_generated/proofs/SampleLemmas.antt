-- Samples that become those of a picture, part by part.
use Rattle.std.proofs.Common.{◌≡◌, ℕ, ◌+◌, ◌-◌, ◌*◌, ◌/◌, ◌<◌, ◌≤◌, Bool, true, false, cond, List, get_or, ap, sym, subst, ◌∙◌, arith, ⊎_elim, zero-add}
use Rattle.std.proofs.lemmas.Bool.{cases_lt}
use Rattle.std.proofs.lemmas.Nat.{div-add-mod', mod_below}
use Rattle.apv_base.specs.declared.format.Format.{Format}
use Rattle.apv_base.specs.model.Format.{comps_of, component_width, macroblock_columns, parts}
use Rattle.apv_base.specs.model.Grid.{Grid, is_half}
use Rattle.apv_base.specs.model.Picture.{Samples, joined, low_first, picture}
use Rattle.apv_generated.proofs.ListLemmas.{pieces-same}
use Rattle.apv_generated.specs.Samples.{IsRowOf, AreRowsOf, AreComponentsOf, HaveSameSamples, Keeps}
use Rattle.apv_grid.specs.Buffer.{Buffer, samples_in, samples_of, IsFilled, IsOnRow, HasRow}

-- ---- a part of a row

fits-parts : (n : ℕ) → n ≤ 16 * parts n 16
fits-parts n = omega (arith, div-add-mod' (n + 15) 16, mod_below (n + 15) 16 (omega arith))

wide-columns : (half : Bool) (w n : ℕ) → w ≤ 16 * n → cond half (w / 2) w ≤ 8 * cond half 1 2 * n
wide-columns true w n h = omega (arith, div-add-mod' w 2)
wide-columns false w n h = omega arith

-- a visible sample is in the filled area
visible-filled : (grid : Grid) (comp x y : ℕ) → comp < comps_of grid.format.chroma → x < component_width grid.format comp → y < grid.format.height → IsFilled grid comp x y
visible-filled grid comp x y known column line = record {
  known = known;
  column = omega (arith, column, wide-columns (is_half grid.format.chroma comp) grid.format.width (macroblock_columns grid.format) (fits-parts grid.format.width));
  line = omega (arith, line, fits-parts grid.format.height);
}

-- the written samples are those of the picture
pub row-is : (grid : Grid) (f : Samples) (comp x y n k : ℕ) (row old new : List ℕ) → k ≡ n → ((i : ℕ) → i < n → get_or row i 0 ≡ f comp (x + i) y) → HasRow grid comp x y row k old new
    → IsRowOf f comp y x (x + n) (samples_in grid new)
row-is grid f comp x y n k row old new same is has p from to =
    let i : ℕ = p - x in
    let e : x + i ≡ p = omega arith in
    subst (λ (q : ℕ). samples_in grid new comp q y ≡ f comp q y) e (sym (has.written i (omega arith)) ∙ is i (omega arith))

-- what was that of the picture still is
pub row-keeps : (grid : Grid) (f : Samples) (comp x y n k : ℕ) (row old new : List ℕ) → k ≡ n → ((i : ℕ) → i < n → get_or row i 0 ≡ f comp (x + i) y) → HasRow grid comp x y row k old new
    → Keeps grid.format f (samples_in grid old) (samples_in grid new)
row-keeps grid f comp x y n k row old new same is has c p q known column line was =
    let there : IsFilled grid c p q = visible-filled grid c p q known column line in
    let Goal : Type 0 = samples_in grid new c p q ≡ f c p q in
    let stays : (¬ IsOnRow comp x y k c p q) → Goal = λ off. has.others c p q there off ∙ was in
    ⊎_elim (λ (other : c < comp). stays (λ on. absurd (omega (arith, on.same_comp))))
    (λ (from : comp ≤ c). ⊎_elim (λ (other : comp < c). stays (λ on. absurd (omega (arith, on.same_comp))))
    (λ (to : c ≤ comp). ⊎_elim (λ (other : q < y). stays (λ on. absurd (omega (arith, on.line))))
    (λ (below : y ≤ q). ⊎_elim (λ (other : y < q). stays (λ on. absurd (omega (arith, on.line))))
    (λ (above : q ≤ y). ⊎_elim (λ (other : p < x). stays (λ on. absurd (omega (arith, on.from))))
    (λ (right : x ≤ p). ⊎_elim (λ (inside : p < x + n).
    let this : comp ≡ c = omega arith in
    let row' : y ≡ q = omega arith in
    subst (λ (k : ℕ). samples_in grid new k p q ≡ f k p q) this
    (subst (λ (k : ℕ). samples_in grid new comp p k ≡ f comp p k) row' (row-is grid f comp x y n k row old new same is has p right inside)))
    (λ (other : x + n ≤ p). stays (λ on. absurd (omega (arith, on.to)))) (cases_lt p (x + n))) (cases_lt p x)) (cases_lt y q)) (cases_lt q y)) (cases_lt comp c)) (cases_lt c comp)

-- ---- more of a frame

-- the frame of the format that it had
pub keeps-as : (f : Samples) (old mid new : Buffer ℕ) → mid.grid ≡ old.grid → Keeps mid.grid.format f (samples_of mid) (samples_of new) → Keeps old.grid.format f (samples_of mid) (samples_of new)
keeps-as f old mid new same h = subst (λ (g : Grid). Keeps g.format f (samples_of mid) (samples_of new)) same h

pub keeps-keeps : (format : Format) (f old mid new : Samples) → Keeps format f old mid → Keeps format f mid new → Keeps format f old new
keeps-keeps format f old mid new first second comp x y known column line was = second comp x y known column line (first comp x y known column line was)

-- one more part of a row
pub columns-more : (format : Format) (f mid new : Samples) (comp y x n : ℕ) → comp < comps_of format.chroma → y < format.height → x ≤ component_width format comp
    → IsRowOf f comp y 0 x mid → IsRowOf f comp y x (x + n) new → Keeps format f mid new → IsRowOf f comp y 0 (x + n) new
columns-more format f mid new comp y x n known line fits so here kept p from to =
    ⊎_elim (λ (low : p < x). kept comp p y known (omega arith) line (so p from low)) (λ (high : x ≤ p). here p high to) (cases_lt p x)

-- one more row
pub rows-more : (format : Format) (f mid new : Samples) (comp y : ℕ) → comp < comps_of format.chroma → y < format.height
    → AreRowsOf format f comp y mid → IsRowOf f comp y 0 (component_width format comp) new → Keeps format f mid new → AreRowsOf format f comp (y + 1) new
rows-more format f mid new comp y known line so here kept p q column above =
    ⊎_elim (λ (low : q < y). kept comp p q known column (omega arith) (so p q column low))
    (λ (high : y ≤ q).
    let this : y ≡ q = omega arith in
    subst (λ (k : ℕ). new comp p k ≡ f comp p k) this (here p (omega arith) column)) (cases_lt q y)

-- one more component
pub components-more : (format : Format) (f mid new : Samples) (comp : ℕ) → comp < comps_of format.chroma
    → AreComponentsOf format f comp mid → AreRowsOf format f comp format.height new → Keeps format f mid new → AreComponentsOf format f (comp + 1) new
components-more format f mid new comp known so here kept c p q less column line =
    ⊎_elim (λ (low : c < comp). kept c p q (omega arith) column line (so c p q low column line))
    (λ (high : comp ≤ c).
    let this : comp ≡ c = omega arith in
    let thin : p < component_width format comp = subst (λ (k : ℕ). p < component_width format k) (sym this) column in
    subst (λ (k : ℕ). new k p q ≡ f k p q) this (here p q thin line)) (cases_lt c comp)

-- a picture is that of its visible samples
pub picture-same : (format : Format) (a b : Samples) → HaveSameSamples format a b → picture format a ≡ picture format b
unfolding picture
picture-same format a b same =
    pieces-same (comps_of format.chroma) 0 0 (λ (c : ℕ). joined format.height (λ y. joined (component_width format c) (λ x. low_first (a c x y)))) (λ (c : ℕ). joined format.height (λ y. joined (component_width format c) (λ x. low_first (b c x y)))) (λ c known.
    rw (zero-add c)
    (pieces-same format.height 0 0 (λ (y : ℕ). joined (component_width format c) (λ x. low_first (a c x y))) (λ (y : ℕ). joined (component_width format c) (λ x. low_first (b c x y))) (λ y line.
    rw (zero-add y)
    (pieces-same (component_width format c) 0 0 (λ (x : ℕ). low_first (a c x y)) (λ (x : ℕ). low_first (b c x y)) (λ x column. rw (zero-add x) (ap low_first (same c x y known column line)))))))
