-- Samples and bytes that are read part by part.
use Rattle.std.proofs.Common.{◌≡◌, ◌≢◌, ℕ, zero, suc, ◌+◌, ◌-◌, ◌*◌, ◌/◌, ◌%◌, ◌<◌, ◌≤◌, max, Bool, true, false, cond, eqb, ◌&&◌, ◌||◌, List, [], ◌++◌, length, take, drop, get_or, refl, ap, sym, subst, ◌∙◌, arith, ⊎_elim, Result, Ok, Err, length-append, zero-add, append_assoc, append-nil, map}
use Rattle.std.specs.List.{flat_map, range_with_len, sum}
use Rattle.std.specs.Result.{IsErrAnd}
use Rattle.std.proofs.Math.Nat.{mul-pos}
use Rattle.std.proofs.lemmas.Bool.{cases_lt, true≢false, eqb-false}
use Rattle.std.proofs.lemmas.List.Sums.{sum_by-cons}
use Rattle.std.proofs.lemmas.List.{get_or-take, get_or-drop, take-take}
use Rattle.std.proofs.lemmas.Nat.{div-mul-add, mod-mul-add, div-add-mod', mod_below, div_below, mul-add-lt}
use Rattle.apv_base.specs.declared.format.Format.{Format}
use Rattle.apv_base.specs.model.Format.{comps_of, component_width, macroblock_columns, parts, is_halved, IsSoundFormat}
use Rattle.apv_base.specs.model.Grid.{Grid, is_half}
use Rattle.apv_base.specs.model.Picture.{Samples, joined, low_first, picture, picture_len}
use Rattle.apv_base.specs.declared.format.Chroma.{Chroma}
use Rattle.apv_base.specs.declared.format.Chroma.TheVariants.{C400, C422, C444, C4444}
use Rattle.apv_files.specs.SlotView.{SlotView}
use Rattle.apv_files.specs.Loops.{TookAll}
use Rattle.apv_files.proofs.Many.{took-took, took-failed}
use Rattle.apv_grid.specs.Buffer.{Buffer, samples_in, samples_of, IsFilled, IsOnRow, HasRow}
use Rattle.apv_video.specs.Samples.{sample_count, sample_at, bytes_at, component_text}
use Rattle.apv_video.specs.Reads.{IsHighest, AreBelow, AreValuesBelow, AreItemsBelow, PutsSamples, KeepsBefore, Stops, TookText, TookSamples, ReadsSamples}
use Rattle.apv_video.specs.declared.read.Stop.{Stop}
use Rattle.apv_video.specs.declared.read.Stop.TheVariants.{Cut, Device, Memory}
use Rattle.apv_video.proofs.SampleLemmas.{place-mod, place-div, values-all}
use Rattle.apv_video.proofs.TextLemmas.{joined-add, joined-split, joined-more, pieces-same, flat_map-map}
use Rattle.apv_video.proofs.WriteLemmas.{component-all, picture-all}

-- ---- the highest

-- no value
pub highest-none : (f : ℕ → ℕ) → IsHighest (AreValuesBelow f 0) 0
highest-none f = record { above = λ bound h i less. absurd (omega arith); least = λ bound some h. some }

-- one more value
pub highest-more : (f : ℕ → ℕ) (n high value now : ℕ) → IsHighest (AreValuesBelow f n) high → value ≡ f n → now ≡ max high value → IsHighest (AreValuesBelow f (n + 1)) now
highest-more f n high value now h is top = record {
  above = λ bound less i small.
      ⊎_elim (λ (low : i < n). h.above bound (omega arith) i low)
      (λ (at : n ≤ i). let e : n ≡ i = omega arith in subst (λ (k : ℕ). f k < bound) e (omega arith)) (cases_lt i n);
  least = λ bound some all.
      let before : high < bound = h.least bound some (λ i less. all i (omega arith)) in
      let last : f n < bound = all n (omega arith) in
      omega arith;
}

-- ---- samples of a frame

fits-parts : (n : ℕ) → n ≤ 16 * parts n 16
fits-parts n = omega (arith, div-add-mod' (n + 15) 16, mod_below (n + 15) 16 (omega arith))

wide-columns : (half : Bool) (w n : ℕ) → w ≤ 16 * n → cond half (w / 2) w ≤ 8 * cond half 1 2 * n
wide-columns true w n h = omega (arith, div-add-mod' w 2)
wide-columns false w n h = omega arith

-- a visible sample is in the filled area
pub visible-filled : (grid : Grid) (comp x y : ℕ) → comp < comps_of grid.format.chroma → x < component_width grid.format comp → y < grid.format.height → IsFilled grid comp x y
visible-filled grid comp x y known column line = record {
  known = known;
  column = omega (arith, column, wide-columns (is_half grid.format.chroma comp) grid.format.width (macroblock_columns grid.format) (fits-parts grid.format.width));
  line = omega (arith, line, fits-parts grid.format.height);
}

-- the row of a number
pub number-row : (h w m : ℕ) → m < h * w → m / w < h
number-row h zero m less = let e : h * zero ≡ zero = omega arith in absurd (omega arith)
number-row h (suc w) m less = div_below m (suc w) h (omega arith) less

pub number-column : (h w m : ℕ) → m < h * w → m % w < w
number-column h zero m less = let e : h * zero ≡ zero = omega arith in absurd (omega arith)
number-column h (suc w) m less = mod_below m (suc w) (omega arith)

-- a sample before one isn't on its row after it
before-row : (w m place n comp : ℕ) → m < place → IsOnRow comp (place % w) (place / w) n comp (m % w) (m / w) → ⊥
before-row w m place n comp less on =
    let e : m / w * w ≡ place / w * w = ap (λ (k : ℕ). k * w) on.line in
    omega (arith, div-add-mod' m w, div-add-mod' place w, on.from)

-- one more part of a row
pub puts-more : (grid : Grid) (comp first done n place w : ℕ) (row old mid new : List ℕ) → comp < comps_of grid.format.chroma → w ≡ component_width grid.format comp → place ≡ first + done
    → place % w + n ≤ w → first + (done + n) ≤ sample_count grid.format comp → done + n ≤ length row
    → PutsSamples grid.format comp first row done (samples_in grid old) (samples_in grid mid)
    → HasRow grid comp (place % w) (place / w) (take (done + n - done) (drop done row)) n mid new
    → PutsSamples grid.format comp first row (done + n) (samples_in grid old) (samples_in grid new)
puts-more grid comp first done n place w row old mid new known same at room inside fits so has =
    let format : Format = grid.format in
    let stays : (m : ℕ) → m < place → sample_at format (samples_in grid new) comp m ≡ sample_at format (samples_in grid mid) comp m =
    λ m less.
    let small : m < format.height * component_width format comp = omega arith in
    has.others comp (m % component_width format comp) (m / component_width format comp)
    (visible-filled grid comp (m % component_width format comp) (m / component_width format comp) known (number-column format.height (component_width format comp) m small) (number-row format.height (component_width format comp) m small))
    (λ on. before-row w m place n comp less (subst (λ (k : ℕ). IsOnRow comp (place % w) (place / w) n comp (m % k) (m / k)) (sym same) on)) in
    record {
      put = λ i less.
          ⊎_elim (λ (low : i < done). stays (first + i) (omega arith) ∙ so.put i low)
          (λ (high : done ≤ i).
          let j : ℕ = i - done in
          let e : first + i ≡ place + j = omega arith in
          let f : done + j ≡ i = omega arith in
          let column : (first + i) % w ≡ place % w + j = rw e (place-mod place w j (omega arith)) in
          let line : (first + i) / w ≡ place / w = rw e (place-div place w j (omega arith)) in
          let here : samples_in grid new comp ((first + i) % w) ((first + i) / w) ≡ get_or row i 0 =
          ap (λ (k : ℕ). samples_in grid new comp k ((first + i) / w)) column
          ∙ ap (λ (k : ℕ). samples_in grid new comp (place % w + j) k) line
          ∙ sym (has.written j (omega arith))
          ∙ get_or-take (done + n - done) (drop done row) j 0 (omega arith)
          ∙ get_or-drop done row j 0 ∙ ap (λ (k : ℕ). get_or row k 0) f in
          subst (λ (k : ℕ). samples_in grid new comp ((first + i) % k) ((first + i) / k) ≡ get_or row i 0) same here) (cases_lt i done);
      before = λ i less. stays i (omega arith) ∙ so.before i less;
      others = λ c x y less column line.
          has.others c x y (visible-filled grid c x y (omega arith) column line) (λ on. absurd (omega (arith, on.same_comp))) ∙ so.others c x y less column line;
    }

-- the same of frames
pub frame-more : (comp first done n place w : ℕ) (row : List ℕ) (old mid new : Buffer ℕ) → mid.grid ≡ old.grid → new.grid ≡ mid.grid → comp < comps_of old.grid.format.chroma → w ≡ component_width old.grid.format comp
    → place ≡ first + done → place % w + n ≤ w → first + (done + n) ≤ sample_count old.grid.format comp → done + n ≤ length row
    → PutsSamples old.grid.format comp first row done (samples_of old) (samples_of mid)
    → HasRow mid.grid comp (place % w) (place / w) (take (done + n - done) (drop done row)) n mid.values new.values
    → PutsSamples old.grid.format comp first row (done + n) (samples_of old) (samples_of new)
frame-more comp first done n place w row old mid new one two known same at room inside fits so has =
    let e : old.grid ≡ new.grid = sym (two ∙ one) in
    subst (λ (g : Grid). PutsSamples old.grid.format comp first row (done + n) (samples_of old) (samples_in g new.values)) e
    (puts-more old.grid comp first done n place w row old.values mid.values new.values known same at room inside fits
    (subst (λ (g : Grid). PutsSamples old.grid.format comp first row done (samples_of old) (samples_in g mid.values)) one so)
    (subst (λ (g : Grid). HasRow g comp (place % w) (place / w) (take (done + n - done) (drop done row)) n mid.values new.values) one has))

-- ---- bytes

-- reads, and then a stop
pub stops-more : (old mid new : SlotView) (done : List ℕ) (n size : ℕ) (stop : Stop) → TookAll old done mid → Stops mid n stop new → length done + n ≤ size → Stops old size stop new
stops-more old mid new done n size Cut so h room = record {
  taken = done ++ h.taken;
  took = took-took old mid new done h.taken so h.took;
  short = omega (arith, h.short, length-append done h.taken);
  end = h.end;
}
stops-more old mid new done n size Device so h room = record {
  taken = done ++ h.taken;
  short = omega (arith, h.short, length-append done h.taken);
  failed = took-failed old mid new done h.taken so h.failed;
}
stops-more old mid new done n size Memory so h room = record {
  taken = done ++ h.taken;
  most = omega (arith, h.most, length-append done h.taken);
  took = took-took old mid new done h.taken so h.took;
}

-- a stop that is handed on
pub stops-err : (old new : SlotView) (head text : List ℕ) (size m n : ℕ) (Below : ℕ → Type 0) (r : Result ℕ Stop) (stop : Stop) → IsErrAnd r (λ given. given ≡ stop) → Stops old m stop new → n ≡ length head → m ≡ size - n
    → ReadsSamples old head size text Below r new
stops-err old new head text size m n Below (Ok high) stop is h e f = elim is [ ]
stops-err old new head text size m n Below (Err given) stop is h e f =
    let here : m ≡ size - length head = omega arith in
    subst (λ (k : ℕ). Stops old k given new) here (subst (λ (s : Stop). Stops old m s new) (sym is) h)

-- a text, of which some was at hand, and then another
pub text-more : (old mid new : SlotView) (head held text more : List ℕ) → TookText old head (text ++ held) mid → TookText mid held more new → TookText old head (text ++ more) new
text-more old mid new head held text more so h = record {
  taken = so.taken ++ h.taken;
  took = took-took old mid new so.taken h.taken so.took h.took;
  is = sym (append_assoc head so.taken h.taken) ∙ ap (λ (xs : List ℕ). xs ++ h.taken) so.is ∙ append_assoc text held h.taken ∙ ap (λ (xs : List ℕ). text ++ xs) h.is;
}

-- a stop in a part of a text, of which some was at hand
pub stops-in : (old mid new : SlotView) (head held text : List ℕ) (m n size : ℕ) (stop : Stop) → TookText old head (text ++ held) mid → Stops mid m stop new → m ≡ n - length held → length held ≤ n → length text + n ≤ size
    → Stops old (size - length head) stop new
stops-in old mid new head held text m n size stop so h e fits room =
    let all : length head + length so.taken ≡ length text + length held = sym (length-append head so.taken) ∙ ap length so.is ∙ length-append text held in
    stops-more old mid new so.taken m (size - length head) stop so.took h (omega arith)

-- ---- components

-- two bytes for each sample
pub bytes-length : (format : Format) (samples : Samples) (comp n a : ℕ) → length (flat_map (bytes_at format samples comp) (range_with_len a n)) ≡ 2 * n
bytes-length format samples comp zero a = refl
bytes-length format samples comp (suc n) a = omega (arith, bytes-length format samples comp n (a + 1))

-- the text of more samples of a component
pub text-of-more : (format : Format) (comp first n : ℕ) (piece : List ℕ) (before now : Samples) → PutsSamples format comp first piece n before now → n ≡ length piece
    → joined (first + n) (bytes_at format now comp) ≡ joined first (bytes_at format before comp) ++ flat_map low_first piece
text-of-more format comp first n piece before now puts size =
    let f : ℕ → ℕ = sample_at format now comp in
    let same : joined first (bytes_at format now comp) ≡ joined first (bytes_at format before comp) =
    pieces-same first 0 0 (bytes_at format now comp) (bytes_at format before comp) (λ x less. rw (zero-add x) (ap low_first (puts.before x less))) in
    let is : piece ≡ map f (range_with_len first n) = values-all f first piece n n (λ i less. sym (puts.put i less)) size size in
    let later : flat_map low_first piece ≡ flat_map (bytes_at format now comp) (range_with_len first n) = ap (flat_map low_first) is ∙ flat_map-map low_first f (range_with_len first n) in
    joined-add first n (bytes_at format now comp) ∙ ap (λ (xs : List ℕ). xs ++ flat_map (bytes_at format now comp) (range_with_len first n)) same
    ∙ ap (λ (xs : List ℕ). joined first (bytes_at format before comp) ++ xs) (sym later)

-- more bytes of a component
pub component-read : (old mid new : SlotView) (head held : List ℕ) (format : Format) (comp first n : ℕ) (piece : List ℕ) (before now : Samples) → TookText old head (joined first (bytes_at format before comp) ++ held) mid
    → TookText mid held (flat_map low_first piece) new → PutsSamples format comp first piece n before now → n ≡ length piece → TookText old head (joined (first + n) (bytes_at format now comp)) new
component-read old mid new head held format comp first n piece before now so h puts size =
    subst (λ (xs : List ℕ). TookText old head xs new) (sym (text-of-more format comp first n piece before now puts size))
    (text-more old mid new head held (joined first (bytes_at format before comp)) (flat_map low_first piece) so h)

-- nothing more is at hand
pub text-none : (old new : SlotView) (head text : List ℕ) (rest : List ℕ) → rest ≡ [] → TookText old head text new → TookText old head (text ++ rest) new
text-none old new head text rest none h = rw none (subst (λ (xs : List ℕ). TookText old head xs new) (sym (append-nil text)) h)

-- the highest of more samples of a component
pub highest-of-more : (format : Format) (comp first n high piece-high top : ℕ) (piece : List ℕ) (before now : Samples) → PutsSamples format comp first piece n before now → n ≡ length piece
    → IsHighest (AreValuesBelow (sample_at format before comp) first) high → IsHighest (AreItemsBelow piece) piece-high → top ≡ max high piece-high
    → IsHighest (AreValuesBelow (sample_at format now comp) (first + n)) top
highest-of-more format comp first n high piece-high top piece before now puts size a b is = record {
  above = λ bound less i small.
      ⊎_elim (λ (low : i < first). subst (λ (v : ℕ). v < bound) (sym (puts.before i low)) (a.above bound (omega arith) i low))
      (λ (at : first ≤ i).
      let j : ℕ = i - first in
      let e : first + j ≡ i = omega arith in
      subst (λ (k : ℕ). sample_at format now comp k < bound) e (subst (λ (v : ℕ). v < bound) (sym (puts.put j (omega arith))) (b.above bound (omega arith) j (omega arith)))) (cases_lt i first);
  least = λ bound some all.
      let one : high < bound = a.least bound some (λ i less. subst (λ (v : ℕ). v < bound) (puts.before i less) (all i (omega arith))) in
      let two : piece-high < bound = b.least bound some (λ i less. subst (λ (v : ℕ). v < bound) (puts.put i (omega arith)) (all (first + i) (omega arith))) in
      omega arith;
}

-- what stayed twice
pub keeps-keeps : (format : Format) (comp first n : ℕ) (piece : List ℕ) (old before now : Samples) → KeepsBefore format comp old before → PutsSamples format comp first piece n before now → KeepsBefore format comp old now
keeps-keeps format comp first n piece old before now kept puts c x y less column line = puts.others c x y less column line ∙ kept c x y less column line

-- what is at hand, in a part of the buffer
pub held-same : (k m : ℕ) (part bytes : List ℕ) → part ≡ take m bytes → k ≤ m → take k part ≡ take k bytes
held-same k m part bytes is fits = ap (take k) is ∙ take-take k m bytes fits

-- the same samples, by the frame's format and their number
pub puts-same : (f format : Format) (comp first m n : ℕ) (piece : List ℕ) (before now : Samples) → f ≡ format → m ≡ n → PutsSamples f comp first piece m before now → PutsSamples format comp first piece n before now
puts-same f format comp first m n piece before now e same h = subst (λ (k : ℕ). PutsSamples format comp first piece k before now) same (subst (λ (g : Format). PutsSamples g comp first piece m before now) e h)

-- the whole text of a component
pub component-end : (old new : SlotView) (head : List ℕ) (format : Format) (samples : Samples) (comp first k : ℕ) (bytes : List ℕ) → first ≡ sample_count format comp → k ≡ 0
    → TookText old head (joined first (bytes_at format samples comp) ++ take k bytes) new → TookText old head (component_text format samples comp) new
component-end old new head format samples comp first k bytes end none h =
    let rest : take k bytes ≡ [] = ap (λ (n : ℕ). take n bytes) none in
    let is : joined first (bytes_at format samples comp) ++ take k bytes ≡ component_text format samples comp =
    ap (λ (xs : List ℕ). joined first (bytes_at format samples comp) ++ xs) rest ∙ append-nil (joined first (bytes_at format samples comp)) ∙ ap (λ (n : ℕ). joined n (bytes_at format samples comp)) end ∙ sym (component-all format samples comp) in
    subst (λ (xs : List ℕ). TookText old head xs new) is h

-- ---- pictures

-- a format has components, and each has visible samples
pub some-components : (format : Format) → 0 < comps_of format.chroma
some-components format = chroma-some format.chroma
  where
    chroma-some : (chroma : Chroma) → 0 < comps_of chroma
    chroma-some C400 = omega arith
    chroma-some C422 = omega arith
    chroma-some C444 = omega arith
    chroma-some C4444 = omega arith

or-first : (a b : Bool) → (a || b) ≡ false → a ≡ false
or-first true b e = absurd (true≢false e)
or-first false b e = refl

or-second : (a b : Bool) → (a || b) ≡ false → b ≡ false
or-second true b e = absurd (true≢false e)
or-second false b e = e

some-width : (halved second : Bool) (w : ℕ) → w ≢ 0 → (halved && eqb (w % 2) 1) ≡ false → 0 < cond (halved && second) (w / 2) w
some-width true true w some e =
    let even : w % 2 ≢ 1 = eqb-false (w % 2) 1 e in
    let one : w ≢ 1 = λ is. even (ap (λ (k : ℕ). k % 2) is) in
    omega (arith, div-add-mod' w 2, mod_below w 2 (omega arith))
some-width true false w some e = omega arith
some-width false second w some e = omega arith

pub some-samples : (format : Format) (comp : ℕ) → IsSoundFormat format → 0 < sample_count format comp
some-samples format comp sound =
    let w : ℕ = format.width in
    let h : ℕ = format.height in
    let odd : Bool = is_halved format.chroma && eqb (w % 2) 1 in
    let both : (eqb w 0 || eqb h 0) ≡ false = or-first (eqb w 0 || eqb h 0) odd sound.size in
    let wide : w ≢ 0 = eqb-false w 0 (or-first (eqb w 0) (eqb h 0) both) in
    let high : h ≢ 0 = eqb-false h 0 (or-second (eqb w 0) (eqb h 0) both) in
    mul-pos (omega arith) (some-width (is_halved format.chroma) (eqb comp 1 || eqb comp 2) w wide (or-second (eqb w 0 || eqb h 0) odd sound.size))

-- the components before one are as they were
kept-text : (format : Format) (comp : ℕ) (before now : Samples) → KeepsBefore format comp before now → joined comp (component_text format now) ≡ joined comp (component_text format before)
kept-text format comp before now kept =
    pieces-same comp 0 0 (component_text format now) (component_text format before) (λ c less.
    rw (zero-add c)
    (pieces-same format.height 0 0 (λ (y : ℕ). joined (component_width format c) (λ x. low_first (now c x y))) (λ (y : ℕ). joined (component_width format c) (λ x. low_first (before c x y))) (λ y line.
    rw (zero-add y)
    (pieces-same (component_width format c) 0 0 (λ (x : ℕ). low_first (now c x y)) (λ (x : ℕ). low_first (before c x y)) (λ x column. rw (zero-add x) (ap low_first (kept c x y less column line)))))))

-- one more component
pub picture-read : (old mid new : SlotView) (head held : List ℕ) (format : Format) (comp : ℕ) (before now : Samples) → TookText old head (joined comp (component_text format before) ++ held) mid
    → TookText mid held (component_text format now comp) new → KeepsBefore format comp before now → TookText old head (joined (comp + 1) (component_text format now)) new
picture-read old mid new head held format comp before now so h kept =
    let is : joined comp (component_text format before) ++ component_text format now comp ≡ joined (comp + 1) (component_text format now) =
    ap (λ (xs : List ℕ). xs ++ component_text format now comp) (sym (kept-text format comp before now kept)) ∙ sym (joined-more comp (component_text format now)) in
    subst (λ (xs : List ℕ). TookText old head xs new) is (text-more old mid new head held (joined comp (component_text format before)) (component_text format now comp) so h)

-- the highest of one more component
pub highest-of-component : (format : Format) (comp high here top : ℕ) (before now : Samples) → KeepsBefore format comp before now → IsHighest (AreBelow format before comp) high
    → IsHighest (AreValuesBelow (λ (n : ℕ). sample_at format now comp n) (sample_count format comp)) here → top ≡ max high here → IsHighest (AreBelow format now (comp + 1)) top
highest-of-component format comp high here top before now kept a b is = record {
  above = λ bound less c x y small column line.
      ⊎_elim (λ (low : c < comp). subst (λ (v : ℕ). v < bound) (sym (kept c x y low column line)) (a.above bound (omega arith) c x y low column line))
      (λ (at : comp ≤ c).
      let e : comp ≡ c = omega arith in
      let w : ℕ = component_width format comp in
      let thin : x < w = subst (λ (k : ℕ). x < component_width format k) (sym e) column in
      let place : y * w + x < format.height * w = omega (arith, mul-add-lt y w x format.height line thin) in
      let there : now comp ((y * w + x) % w) ((y * w + x) / w) < bound = b.above bound (omega arith) (y * w + x) place in
      let this : now comp x y < bound = subst (λ (k : ℕ). now comp x k < bound) (div-mul-add y w x thin) (subst (λ (k : ℕ). now comp k ((y * w + x) / w) < bound) (mod-mul-add y w x thin) there) in
      subst (λ (k : ℕ). now k x y < bound) e this) (cases_lt c comp);
  least = λ bound some all.
      let one : high < bound = a.least bound some (λ c x y less column line. subst (λ (v : ℕ). v < bound) (kept c x y less column line) (all c x y (omega arith) column line)) in
      let two : here < bound = b.least bound some (λ i less. all comp (i % component_width format comp) (i / component_width format comp) (omega arith) (number-column format.height (component_width format comp) i less) (number-row format.height (component_width format comp) i less)) in
      omega arith;
}

-- no component
pub highest-start : (format : Format) (samples : Samples) → IsHighest (AreBelow format samples 0) 0
highest-start format samples = record { above = λ bound h c x y less. absurd (omega arith); least = λ bound some h. some }

-- ---- lengths

-- the length of a component
pub component-length : (format : Format) (samples : Samples) (comp : ℕ) → length (component_text format samples comp) ≡ 2 * sample_count format comp
component-length format samples comp = ap length (component-all format samples comp) ∙ bytes-length format samples comp (sample_count format comp) 0

lengths : (format : Format) (samples : Samples) (a n : ℕ) → length (flat_map (component_text format samples) (range_with_len a n)) ≡ sum (map (λ comp. 2 * (format.height * component_width format comp)) (range_with_len a n))
lengths format samples a zero = refl
lengths format samples a (suc n) =
    length-append (component_text format samples a) (flat_map (component_text format samples) (range_with_len (a + 1) n))
    ∙ ap (λ (k : ℕ). k + length (flat_map (component_text format samples) (range_with_len (a + 1) n))) (component-length format samples a)
    ∙ ap (λ (k : ℕ). 2 * sample_count format a + k) (lengths format samples (a + 1) n)
    ∙ sym (sum_by-cons (λ x. x) (2 * sample_count format a) (map (λ comp. 2 * (format.height * component_width format comp)) (range_with_len (a + 1) n)))

-- the length of a picture
pub picture-length : (format : Format) (samples : Samples) → length (picture format samples) ≡ picture_len format
picture-length format samples = ap length (picture-all format samples (comps_of format.chroma) refl) ∙ lengths format samples 0 (comps_of format.chroma)

-- the components before one, and that one, are within the picture
pub components-within : (format : Format) (samples : Samples) (comp : ℕ) → comp < comps_of format.chroma → length (joined comp (component_text format samples)) + 2 * sample_count format comp ≤ picture_len format
components-within format samples comp less =
    let f : ℕ → List ℕ = component_text format samples in
    let n : ℕ = comps_of format.chroma in
    let rest : List ℕ = flat_map f (range_with_len (comp + 1) (n - comp - 1)) in
    let all : picture_len format ≡ length (joined comp f ++ (f comp ++ rest)) = sym (lengths format samples 0 n) ∙ ap length (joined-split comp n f less) in
    omega (arith, length-append (joined comp f) (f comp ++ rest), length-append (f comp) rest, component-length format samples comp)

-- the whole text of a picture
pub picture-end : (old new : SlotView) (head : List ℕ) (format : Format) (samples : Samples) (comp k : ℕ) (bytes : List ℕ) → comp ≡ comps_of format.chroma → k ≡ 0
    → TookText old head (joined comp (component_text format samples) ++ take k bytes) new → TookText old head (picture format samples) new
picture-end old new head format samples comp k bytes end none h =
    let rest : take k bytes ≡ [] = ap (λ (n : ℕ). take n bytes) none in
    let is : joined comp (component_text format samples) ++ take k bytes ≡ picture format samples =
    ap (λ (xs : List ℕ). joined comp (component_text format samples) ++ xs) rest ∙ append-nil (joined comp (component_text format samples)) ∙ sym (picture-all format samples comp end) in
    subst (λ (xs : List ℕ). TookText old head xs new) is h

-- ---- the format of a frame whose grid stayed

pub keeps-as : (f format : Format) (comp : ℕ) (before now : Samples) → f ≡ format → KeepsBefore f comp before now → KeepsBefore format comp before now
keeps-as f format comp before now e h = subst (λ (g : Format). KeepsBefore g comp before now) e h

pub component-as : (mid new : SlotView) (held : List ℕ) (f format : Format) (comp : ℕ) (now : Samples) (high : ℕ) → f ≡ format
    → TookSamples mid held (component_text f now comp) (AreValuesBelow (λ (n : ℕ). sample_at f now comp n) (sample_count f comp)) high new
    → TookSamples mid held (component_text format now comp) (AreValuesBelow (λ (n : ℕ). sample_at format now comp n) (sample_count format comp)) high new
component-as mid new held f format comp now high e h =
    subst (λ (g : Format). TookSamples mid held (component_text g now comp) (AreValuesBelow (λ (n : ℕ). sample_at g now comp n) (sample_count g comp)) high new) e h
