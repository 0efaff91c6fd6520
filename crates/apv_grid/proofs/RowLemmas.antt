-- Rows of samples, one strip after another.
use Rattle.std.proofs.Common.{◌≡◌, ℕ, ◌+◌, ◌-◌, ◌*◌, ◌^◌, ◌<◌, ◌≤◌, Bool, true, false, List, ◌++◌, length, take, drop, get_or, sym, ◌∙◌, ap, arith, ⊎_elim}
use Rattle.std.proofs.lemmas.Bool.{cases_lt}
use Rattle.std.proofs.lemmas.List.{length-take-le, length-drop, get_or_append_left, get_or-append_right, get_or-take, get_or-drop}
use borrow.Rule.Slice.PartMut.{put_mid}
use Rattle.apv_base.specs.model.Format.{comps_of, macroblock_columns}
use Rattle.apv_base.specs.model.Grid.{Grid, IsSoundGrid, is_half}
use Rattle.apv_grid.specs.Buffer.{sample_place, value_count, samples_in, filled_width, filled_height, IsFilled, IsRow, HasRow}
use Rattle.apv_grid.specs.Strip.{row_place, IsStrip, IsSegment, ReadsSamples, WritesSamples, SamplesAreWithin}
use Rattle.apv_grid.proofs.LayoutLemmas.{columns}
use Rattle.apv_grid.proofs.PlaceLemmas.{sample-within, sample-apart, SameSample}

columns-few : (half : Bool) (n : ℕ) → 8 * columns half * n ≤ 16 * n
columns-few true n = omega arith
columns-few false n = omega arith

pub filled-small : (grid : Grid) (comp : ℕ) → IsSoundGrid grid → filled_width grid comp ≤ 2 ^ 24
filled-small grid comp sound = omega (arith, sound.format.width, columns-few (is_half grid.format.chroma comp) (macroblock_columns grid.format))

pub piece-length : (row : List ℕ) (done n : ℕ) → done + n ≤ length row → length (take (done + n - done) (drop done row)) ≡ n
piece-length row done n h = omega (arith, length-take-le (done + n - done) (drop done row) (omega (arith, length-drop done row)))

-- ---- a segment

-- samples of a strip are a segment
pub strip-segment : (grid : Grid) (comp x y first end start : ℕ) (half : Bool) (n : ℕ) → comp < comps_of grid.format.chroma → y < filled_height grid → half ≡ is_half grid.format.chroma comp
    → first ≤ x → x + n ≤ end → end ≤ filled_width grid comp → IsStrip grid comp y first end start → IsSegment grid comp x y start (x - first) half n
strip-segment grid comp x y first end start half n known line is from to within strip = record {
  filled = λ i h. record { known = known; column = omega arith; line = line };
  places = λ i h.
      let e : x - first + i ≡ x + i - first = omega arith in
      rw (e, is) (strip.places (x + i) (omega arith) (omega arith));
}

pub segment-within : (grid : Grid) (comp x y start first : ℕ) (half : Bool) (n m size : ℕ) → IsSoundGrid grid → IsSegment grid comp x y start first half n → m ≡ n → size ≡ value_count grid
    → SamplesAreWithin half start first 0 m size
segment-within grid comp x y start first half n m size sound segment same all i zero h =
    omega (arith, segment.places i (omega arith), all, sample-within grid comp (x + i) y sound (segment.filled i (omega arith)))

-- ---- reading

pub read-more : (grid : Grid) (comp x y start first : ℕ) (half : Bool) (values row old piece : List ℕ) (done n : ℕ) → IsSegment grid comp (x + done) y start first half n
    → done + n ≤ length row → length piece ≡ n → length old ≡ n → IsRow grid comp x y values done row → ReadsSamples half values start first old piece 0 (length old)
    → IsRow grid comp x y values (done + n) (put_mid done (done + n - done) row piece)
read-more grid comp x y start first half values row old piece done n segment room size size' so reads i h =
    let after : List ℕ = drop (done + n - done) (drop done row) in
    let prefix : length (take done row) ≡ done = length-take-le done row (omega arith) in
    ⊎_elim (λ (low : i < done). get_or_append_left (take done row) (piece ++ after) 0 i (omega arith) ∙ get_or-take done row i 0 low ∙ so i low)
    (λ (high : done ≤ i).
    let j : ℕ = i - done in
    let e : x + done + j ≡ x + i = omega arith in
    get_or-append_right (take done row) (piece ++ after) done i 0 prefix high ∙ get_or_append_left piece after 0 j (omega arith)
    ∙ reads.taken j (omega arith) (omega arith) ∙ ap (λ (p : ℕ). get_or values p 0) (sym (segment.places j (omega arith)))
    ∙ ap (λ (p : ℕ). samples_in grid values comp p y) e) (cases_lt i done)

-- ---- writing

-- a place of the segment is that of its sample alone
segment-only : (grid : Grid) (comp x y start first : ℕ) (half : Bool) (n i c p q : ℕ) → IsSoundGrid grid → IsSegment grid comp x y start first half n → i < n → IsFilled grid c p q
    → sample_place grid c p q ≡ start + row_place half (first + i) → SameSample c p q comp (x + i) y
segment-only grid comp x y start first half n i c p q sound segment h filled e =
    sample-apart grid c p q comp (x + i) y sound filled (segment.filled i h) (e ∙ sym (segment.places i h))

pub write-more : (grid : Grid) (comp x y start first : ℕ) (half : Bool) (row old mid new : List ℕ) (done n m : ℕ) → IsSoundGrid grid → IsSegment grid comp (x + done) y start first half n
    → 0 < n → m ≡ n → HasRow grid comp x y row done old mid → WritesSamples half (take (done + n - done) (drop done row)) start first mid new 0 m
    → HasRow grid comp x y row (done + n) old new
write-more grid comp x y start first half row old mid new done n m sound segment some same so writes = record {
  written = λ i h.
      ⊎_elim (λ (low : i < done).
      so.written i low
      ∙ sym (writes.others (sample_place grid comp (x + i) y) (λ j zero less e.
      let now = segment.filled 0 some in
      let filled : IsFilled grid comp (x + i) y = record { known = now.known; column = omega (arith, now.column); line = now.line } in
      absurd (omega (arith, (segment-only grid comp (x + done) y start first half n j comp (x + i) y sound segment (omega arith) filled e).column)))))
      (λ (high : done ≤ i).
      let j : ℕ = i - done in
      let e : x + done + j ≡ x + i = omega arith in
      let f : done + j ≡ i = omega arith in
      ap (λ (p : ℕ). get_or row p 0) (sym f) ∙ sym (get_or-drop done row j 0) ∙ sym (get_or-take (done + n - done) (drop done row) j 0 (omega arith))
      ∙ sym (writes.put j (omega arith) (omega arith)) ∙ ap (λ (p : ℕ). get_or new p 0) (sym (segment.places j (omega arith)))
      ∙ ap (λ (p : ℕ). samples_in grid new comp p y) e) (cases_lt i done);
  others = λ c p q filled apart.
      writes.others (sample_place grid c p q) (λ j zero less e.
      let s : SameSample c p q comp (x + done + j) y = segment-only grid comp (x + done) y start first half n j c p q sound segment (omega arith) filled e in
      apart (record { same_comp = s.comp; line = s.line; from = omega (arith, s.column); to = omega (arith, s.column) }))
      ∙ so.others c p q filled (λ on. apart (record { same_comp = on.same_comp; line = on.line; from = on.from; to = omega (arith, on.to) }));
}
