-- Padding, one row and one component after another.
use Rattle.std.proofs.Common.{◌≡◌, ◌≢◌, ℕ, ◌+◌, ◌-◌, ◌<◌, ◌≤◌, min, List, take, replicate, get_or, refl, sym, ◌∙◌, ap, subst, arith, ⊎_elim}
use Rattle.std.proofs.lemmas.Bool.{cases_lt}
use Rattle.std.proofs.lemmas.List.{get_or-take, get_or-replicate}
use Rattle.apv_base.specs.model.Encode.{nearest_sample}
use Rattle.apv_base.specs.model.Format.{comps_of, component_width}
use Rattle.apv_base.specs.model.Grid.{Grid}
use Rattle.apv_grid.specs.Buffer.{samples_in, filled_width, filled_height, IsFilled, IsRow, HasRow}
use Rattle.apv_grid.specs.Pad.{nearest_in_row, last_in_row, row_samples, last_row, SetsRow, SetsRows, Pads}

-- ---- one row

-- the edge of a row
pub edge-set : (grid : Grid) (comp y w k one after : ℕ) (piece last old new : List ℕ) → w ≡ component_width grid.format comp → w + after ≡ filled_width grid comp
    → 0 < one → k ≡ after → piece ≡ take after (replicate 16 (get_or last 0 0)) → after ≤ 16 → IsRow grid comp (w - 1) y old one last → HasRow grid comp w y piece k old new
    → SetsRow grid comp y (component_width grid.format comp) (filled_width grid comp) (last_in_row grid old comp y) old new
edge-set grid comp y w k one after piece last old new ew whole some ek same few read has = record {
  set = λ x from to filled.
      let i : ℕ = x - w in
      let e : w + i ≡ x = omega arith in
      let z : w - 1 + 0 ≡ w - 1 = omega arith in
      ap (λ (p : ℕ). samples_in grid new comp p y) (sym e) ∙ sym (has.written i (omega arith)) ∙ ap (λ (xs : List ℕ). get_or xs i 0) same
      ∙ get_or-take after (replicate 16 (get_or last 0 0)) i 0 (omega arith) ∙ get_or-replicate 16 i (get_or last 0 0) 0 (omega arith) ∙ read 0 some
      ∙ ap (λ (p : ℕ). samples_in grid old comp p y) z ∙ ap (λ (v : ℕ). samples_in grid old comp (v - 1) y) ew;
  others = λ c p q filled apart.
      has.others c p q filled (λ on. apart (record { same_comp = on.same_comp; line = on.line; from = omega (arith, on.from, ew); to = omega (arith, on.to) }));
}

-- a piece of a row
pub piece-set : (grid : Grid) (comp source target x n m k : ℕ) (piece old new : List ℕ) → m ≡ n → k ≡ n → IsRow grid comp x source old m piece
    → HasRow grid comp x target piece k old new → SetsRow grid comp target x (x + n) (row_samples grid old comp source) old new
piece-set grid comp source target x n m k piece old new em ek read has = record {
  set = λ p from to filled.
      let i : ℕ = p - x in
      let e : x + i ≡ p = omega arith in
      ap (λ (k : ℕ). samples_in grid new comp k target) (sym e) ∙ sym (has.written i (omega arith)) ∙ read i (omega arith) ∙ ap (λ (k : ℕ). samples_in grid old comp k source) e;
  others = λ c p q filled apart.
      has.others c p q filled (λ on. apart (record { same_comp = on.same_comp; line = on.line; from = on.from; to = omega (arith, on.to) }));
}

pub no-columns : (grid : Grid) (comp y a : ℕ) (f : ℕ → ℕ) (values : List ℕ) → SetsRow grid comp y a a f values values
no-columns grid comp y a f values = record { set = λ x from to filled. absurd (omega arith); others = λ c p q filled apart. refl }

-- one piece more
pub piece-more : (grid : Grid) (comp source target x n : ℕ) (old mid new : List ℕ) → comp < comps_of grid.format.chroma → source < filled_height grid → source ≢ target
    → SetsRow grid comp target 0 x (row_samples grid old comp source) old mid → SetsRow grid comp target x (x + n) (row_samples grid mid comp source) mid new
    → SetsRow grid comp target 0 (x + n) (row_samples grid old comp source) old new
piece-more grid comp source target x n old mid new known line other first second = record {
  set = λ p from to filled.
      ⊎_elim (λ (low : p < x). second.others comp p target filled (λ on. absurd (omega (arith, on.from))) ∙ first.set p from low filled)
      (λ (high : x ≤ p).
      let there : IsFilled grid comp p source = record { known = known; column = filled.column; line = line } in
      second.set p high to filled ∙ first.others comp p source there (λ on. absurd (other on.line))) (cases_lt p x);
  others = λ c p q filled apart.
      second.others c p q filled (λ on. apart (record { same_comp = on.same_comp; line = on.line; from = omega arith; to = on.to }))
      ∙ first.others c p q filled (λ on. apart (record { same_comp = on.same_comp; line = on.line; from = on.from; to = omega (arith, on.to) }));
}

-- ---- rows

pub no-rows : (grid : Grid) (comp a : ℕ) (f : ℕ → ℕ → ℕ) (values : List ℕ) → SetsRows grid comp a a f values values
no-rows grid comp a f values = record { set = λ x y from to filled. absurd (omega arith); others = λ c p q filled apart. refl }

-- the edge of one row more
pub edge-more : (grid : Grid) (comp y : ℕ) (old mid new : List ℕ) → comp < comps_of grid.format.chroma → 1 ≤ component_width grid.format comp
    → component_width grid.format comp ≤ filled_width grid comp → y < filled_height grid → SetsRows grid comp 0 y (nearest_in_row grid old comp) old mid
    → SetsRow grid comp y (component_width grid.format comp) (filled_width grid comp) (last_in_row grid mid comp y) mid new
    → SetsRows grid comp 0 (y + 1) (nearest_in_row grid old comp) old new
edge-more grid comp y old mid new known some wide line first second = record {
  set = λ x q from to filled.
      let w : ℕ = component_width grid.format comp in
      ⊎_elim (λ (low : q < y). second.others comp x q filled (λ on. absurd (omega (arith, on.line))) ∙ first.set x q from low filled)
      (λ (high : y ≤ q).
      let here : q ≡ y = omega arith in
      ⊎_elim (λ (left : x < w).
      let e : min x (w - 1) ≡ x = omega arith in
      second.others comp x q filled (λ on. absurd (omega (arith, on.from))) ∙ first.others comp x q filled (λ on. absurd (omega (arith, on.to)))
      ∙ ap (λ (p : ℕ). samples_in grid old comp p q) (sym e))
      (λ (right : w ≤ x).
      let e : min x (w - 1) ≡ w - 1 = omega arith in
      let there : IsFilled grid comp (w - 1) y = record { known = known; column = omega arith; line = line } in
      let filled' : IsFilled grid comp x y = record { known = known; column = filled.column; line = line } in
      ap (λ (k : ℕ). samples_in grid new comp x k) here ∙ second.set x right filled.column filled' ∙ first.others comp (w - 1) y there (λ on. absurd (omega (arith, on.to)))
      ∙ ap (λ (p : ℕ). samples_in grid old comp p y) (sym e) ∙ ap (λ (k : ℕ). samples_in grid old comp (min x (w - 1)) k) (sym here)) (cases_lt x w)) (cases_lt q y);
  others = λ c p q filled apart.
      second.others c p q filled (λ on. apart (record { same_comp = on.same_comp; from = omega arith; to = omega (arith, on.line) }))
      ∙ first.others c p q filled (λ on. apart (record { same_comp = on.same_comp; from = on.from; to = omega (arith, on.to) }));
}

-- one row more below the visible ones
pub row-more : (grid : Grid) (comp y : ℕ) (old mid new : List ℕ) → comp < comps_of grid.format.chroma → 1 ≤ grid.format.height → grid.format.height ≤ y → y < filled_height grid
    → SetsRows grid comp grid.format.height y (last_row grid old comp) old mid
    → SetsRow grid comp y 0 (filled_width grid comp) (row_samples grid mid comp (grid.format.height - 1)) mid new
    → SetsRows grid comp grid.format.height (y + 1) (last_row grid old comp) old new
row-more grid comp y old mid new known some below line first second = record {
  set = λ x q from to filled.
      ⊎_elim (λ (low : q < y). second.others comp x q filled (λ on. absurd (omega (arith, on.line))) ∙ first.set x q from low filled)
      (λ (high : y ≤ q).
      let here : q ≡ y = omega arith in
      let there : IsFilled grid comp x (grid.format.height - 1) = record { known = known; column = filled.column; line = omega arith } in
      let filled' : IsFilled grid comp x y = record { known = known; column = filled.column; line = line } in
      ap (λ (k : ℕ). samples_in grid new comp x k) here ∙ second.set x (omega arith) filled.column filled' ∙ first.others comp x (grid.format.height - 1) there (λ on. absurd (omega (arith, on.from)))) (cases_lt q y);
  others = λ c p q filled apart.
      second.others c p q filled (λ on. apart (record { same_comp = on.same_comp; from = omega (arith, on.line); to = omega (arith, on.line) }))
      ∙ first.others c p q filled (λ on. apart (record { same_comp = on.same_comp; from = on.from; to = omega (arith, on.to) }));
}

-- ---- components

pub component-padded : (grid : Grid) (comp : ℕ) (old mid new : List ℕ) → 1 ≤ grid.format.height → grid.format.height ≤ filled_height grid
    → SetsRows grid comp 0 grid.format.height (nearest_in_row grid old comp) old mid
    → SetsRows grid comp grid.format.height (filled_height grid) (last_row grid mid comp) mid new → Pads grid comp (comp + 1) old new
component-padded grid comp old mid new some high first second = record {
  padded = λ c p q from to filled.
      let h : ℕ = grid.format.height in
      let here : c ≡ comp = omega arith in
      let filled' : IsFilled grid comp p q = subst (λ (k : ℕ). IsFilled grid k p q) here filled in
      subst (λ (k : ℕ). samples_in grid new k p q ≡ nearest_sample grid (samples_in grid old) k p q) (sym here)
      (⊎_elim (λ (above : q < h).
      let e : min q (h - 1) ≡ q = omega arith in
      second.others comp p q filled' (λ on. absurd (omega (arith, on.from))) ∙ first.set p q (omega arith) above filled'
      ∙ ap (λ (k : ℕ). samples_in grid old comp (min p (component_width grid.format comp - 1)) k) (sym e))
      (λ (below : h ≤ q).
      let e : min q (h - 1) ≡ h - 1 = omega arith in
      let there : IsFilled grid comp p (h - 1) = record { known = filled'.known; column = filled'.column; line = omega arith } in
      second.set p q below filled'.line filled' ∙ first.set p (h - 1) (omega arith) (omega arith) there
      ∙ ap (λ (k : ℕ). samples_in grid old comp (min p (component_width grid.format comp - 1)) k) (sym e)) (cases_lt q h));
  before = λ c p q less filled.
      second.others c p q filled (λ on. absurd (omega (arith, on.same_comp))) ∙ first.others c p q filled (λ on. absurd (omega (arith, on.same_comp)));
  after = λ c p q more filled.
      second.others c p q filled (λ on. absurd (omega (arith, on.same_comp))) ∙ first.others c p q filled (λ on. absurd (omega (arith, on.same_comp)));
}

pub no-components : (grid : Grid) (values : List ℕ) → Pads grid 0 0 values values
no-components grid values = record { padded = λ c p q from to filled. absurd (omega arith); before = λ c p q less filled. refl; after = λ c p q more filled. refl }

pub component-more : (grid : Grid) (comp : ℕ) (old mid new : List ℕ)
    → Pads grid 0 comp old mid → Pads grid comp (comp + 1) mid new → Pads grid 0 (comp + 1) old new
component-more grid comp old mid new first second = record {
  padded = λ c p q from to filled.
      ⊎_elim (λ (low : c < comp). second.before c p q low filled ∙ first.padded c p q from low filled)
      (λ (same : comp ≤ c).
      let w : ℕ = component_width grid.format c in
      let there : IsFilled grid c (min p (w - 1)) (min q (grid.format.height - 1)) = record { known = filled.known; column = omega (arith, filled.column); line = omega (arith, filled.line) } in
      second.padded c p q same to filled ∙ first.after c (min p (w - 1)) (min q (grid.format.height - 1)) same there) (cases_lt c comp);
  before = λ c p q less filled. absurd (omega arith);
  after = λ c p q more filled. second.after c p q more filled ∙ first.after c p q (omega arith) filled;
}

-- a visible row is in the filled area
pub row-filled : (grid : Grid) (y : ℕ) → y < grid.format.height → y < filled_height grid
row-filled grid y h = omega arith
