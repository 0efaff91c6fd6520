-- What is at the start of what is left of a slot: a picture, or a fault.
use Rattle.std.proofs.Common.{◌≡◌, ◌≢◌, ℕ, zero, suc, ◌+◌, ◌-◌, ◌*◌, ◌/◌, ◌%◌, ◌^◌, ◌<◌, ◌≤◌, ◌⊎◌, inl, inr, List, [], ◌∷◌, ◌++◌, length, get_or, map, take, drop, refl, sym, ap, ap₂, ◌∙◌, subst, arith, false, length-append}
use Rattle.std.specs.Prelude.{codes, not, ◌==◌}
use Rattle.std.specs.List.{range_with_len, sum, list_all}
use Rattle.std.proofs.Math.Nat.{suc-mul, mul-le-mul_right}
use Rattle.std.proofs.lemmas.Bool.{and_from, and_parts, cases_eq, cases_lt, ne_eqb}
use Rattle.std.proofs.lemmas.List.{drop-drop, get_or-drop, length-drop, take-append-drop, take_at}
use Rattle.std.proofs.lemmas.List.Sums.{sum_by-cons}
use Rattle.apv_base.specs.declared.format.Format.{Format}
use Rattle.apv_base.specs.declared.exits.VideoRule.TheVariants.{FrameLine, Truncated, Range}
use Rattle.apv_base.specs.declared.options.Form.{Form}
use Rattle.apv_base.specs.declared.options.Form.TheVariants.{Planar, Y4m}
use Rattle.apv_base.specs.model.Bits.{AreBytes}
use Rattle.apv_base.specs.model.Format.{comps_of, component_width}
use Rattle.apv_base.specs.model.Picture.{Samples, low_first, joined, picture, picture_len}
use Rattle.apv_base.specs.model.Run.{MAX_UNITS}
use Rattle.apv_base.specs.model.Video.{VideoFault, bad, LineAt, AreInRange, AreSamples, FrameLineAt, planar, named, spaced, PictureAt, PictureBreaks, no_prefix, truncated, out_of_range}
use Rattle.apv_base.proofs.PayloadLemmas.{bytes-after, bytes-along}
use Rattle.apv_encoding.proofs.PictureLemmas.{pieces, HasLine, one-prefix, one-line, HasSamples, length-picture, picture-some}

-- ---- lines

data LineOr (xs : List ℕ) : Type 0 where
  has_line : (line after : List ℕ) → HasLine xs line after → LineOr xs
  has_none : ((line after : List ℕ) → HasLine xs line after → ⊥) → LineOr xs

no-line-in : (x : ℕ) (xs : List ℕ) → (x ≡ 10 → ⊥) → ((line after : List ℕ) → HasLine xs line after → ⊥) → (line after : List ℕ) → HasLine (x ∷ xs) line after → ⊥
no-line-in x xs ne none [] after has = let heads : x ≡ 10 = let e = has.0 in cc in ne heads
no-line-in x xs ne none (y ∷ line) after has = let tails : xs ≡ line ++ 10 ∷ after = let e = has.0 in cc in none line after (tails, (and_parts (not (y == 10)) (list_all (λ byte. not (byte == 10)) line) has.1).1)

line-more : (x : ℕ) (xs line after : List ℕ) → (x ≡ 10 → ⊥) → HasLine xs line after → HasLine (x ∷ xs) (x ∷ line) after
line-more x xs line after ne has = (ap (λ (ys : List ℕ). x ∷ ys) has.0, and_from (not (x == 10)) (list_all (λ byte. not (byte == 10)) line) (let no : (x == 10) ≡ false = ne_eqb x 10 ne in rw no refl) has.1)

line-or : (xs : List ℕ) → LineOr xs
line-or [] = has_none (λ line after has. absurd (omega (arith, ap (length {A = ℕ}) has.0, length-append line (10 ∷ after))))
line-or (x ∷ xs) = elim (cases_eq x 10) [
  | inl e ↦ has_line [] xs (ap (λ (y : ℕ). y ∷ xs) e, refl)
  | inr ne ↦ elim (line-or xs) [
    | has_line line after has ↦ has_line (x ∷ line) after (line-more x xs line after ne has)
    | has_none none ↦ has_none (no-line-in x xs ne none)
  ]
]

short-line : (xs line after : List ℕ) → HasLine xs line after → ((l a : List ℕ) × LineAt xs l a) ⊎ ((l a : List ℕ) → LineAt xs l a → ⊥)
short-line xs line after has = elim (cases_lt (length line) 1024) [
  | inl lt ↦ inl (line, after, record { bytes = has.0; first = has.1; short = lt })
  | inr ge ↦ inr (λ l a at. (let one = one-prefix xs line l after a has (at.bytes, at.first) in absurd (omega (arith, at.short, ge, ap (length {A = ℕ}) one.0))))
]

pub line-at-or : (xs : List ℕ) → ((l a : List ℕ) × LineAt xs l a) ⊎ ((l a : List ℕ) → LineAt xs l a → ⊥)
line-at-or xs = elim (line-or xs) [
  | has_line line after has ↦ short-line xs line after has
  | has_none none ↦ inr (λ l a at. none l a (at.bytes, at.first))
]

pub cases_list : (xs ys : List ℕ) → (xs ≡ ys) ⊎ (xs ≢ ys)
cases_list [] [] = inl refl
cases_list [] (y ∷ ys) = inr (λ e. absurd (omega (arith, ap (length {A = ℕ}) e)))
cases_list (x ∷ xs) [] = inr (λ e. absurd (omega (arith, ap (length {A = ℕ}) e)))
cases_list (x ∷ xs) (y ∷ ys) = elim (cases_eq x y) [
  | inr ne ↦ inr (λ e. let heads : x ≡ y = cc in ne heads)
  | inl e ↦ elim (cases_list xs ys) [
    | inr ne ↦ inr (λ f. let tails : xs ≡ ys = cc in ne tails)
    | inl f ↦ inl (ap₂ (λ (a : ℕ) (b : List ℕ). a ∷ b) e f)
  ]
]

-- a line before a picture, or none
StartOr-none : (xs line after : List ℕ) → LineAt xs line after → line ≢ codes "FRAME" → take 6 line ≢ codes "FRAME " → (start : List ℕ) → FrameLineAt xs Y4m start → ⊥
StartOr-none xs line after at ne ne' start (named other rest at' e) = ne ((one-line xs line other after start at at').0 ∙ e)
StartOr-none xs line after at ne ne' start (spaced other rest more at' e) = ne' (ap (take 6) ((one-line xs line other after start at at').0 ∙ e) ∙ take_at (codes "FRAME ") more 6 refl)

start-of-line : (xs line after : List ℕ) → LineAt xs line after → ((start : List ℕ) × FrameLineAt xs Y4m start) ⊎ ((start : List ℕ) → FrameLineAt xs Y4m start → ⊥)
start-of-line xs line after at = elim (cases_list line (codes "FRAME")) [
  | inl e ↦ inl (after, named line after at e)
  | inr ne ↦ elim (cases_list (take 6 line) (codes "FRAME ")) [
    | inl e ↦ inl (after, spaced line after (drop 6 line) at (sym (take-append-drop 6 line) ∙ ap (λ (l : List ℕ). l ++ drop 6 line) e))
    | inr ne' ↦ inr (StartOr-none xs line after at ne ne')
  ]
]

no-start : (xs : List ℕ) → ((l a : List ℕ) → LineAt xs l a → ⊥) → (start : List ℕ) → FrameLineAt xs Y4m start → ⊥
no-start xs none start (named line after at e) = none line start at
no-start xs none start (spaced line after more at e) = none line start at

start-or : (xs : List ℕ) (form : Form) → ((start : List ℕ) × FrameLineAt xs form start) ⊎ ((start : List ℕ) → FrameLineAt xs form start → ⊥)
start-or xs Planar = inl (xs, planar)
start-or xs Y4m = elim (line-at-or xs) [
  | inl line ↦ start-of-line xs line.0 line.1 line.2
  | inr none ↦ inr (no-start xs none)
]

pub bytes-tail : (x : ℕ) (xs : List ℕ) → AreBytes (x ∷ xs) → AreBytes xs
bytes-tail x xs h i = h (suc i)

pub line-bytes : (xs line after : List ℕ) → LineAt xs line after → AreBytes xs → AreBytes after
line-bytes xs line after at h = bytes-tail 10 after (bytes-after line (10 ∷ after) (bytes-along xs (line ++ 10 ∷ after) at.bytes h))

start-bytes : (xs : List ℕ) (form : Form) (start : List ℕ) → FrameLineAt xs form start → AreBytes xs → AreBytes start
start-bytes xs Planar start planar h = h
start-bytes xs Y4m start (named line after at e) h = line-bytes xs line start at h
start-bytes xs Y4m start (spaced line after more at e) h = line-bytes xs line start at h

-- ---- samples

-- the samples of 16 bits in bytes, the low byte first
abbrev value_at : List ℕ → ℕ → ℕ
value_at xs place = get_or xs (2 * place) 0 + 256 * get_or xs (2 * place + 1) 0

low-back : (low high : ℕ) → low < 256 → low_first (low + 256 * high) ≡ low ∷ high ∷ []
low-back low high lt =
    let a : (low + 256 * high) % 256 ≡ low = omega (arith, lt) in
    let b : (low + 256 * high) / 256 ≡ high = omega (arith, lt) in
    ap₂ (λ (x y : ℕ). x ∷ y ∷ []) a b

two-of : (ys : List ℕ) → 2 ≤ length ys → take 2 ys ≡ get_or ys 0 0 ∷ get_or ys 1 0 ∷ []
two-of [] le = absurd (omega (arith, le))
two-of (x ∷ []) le = absurd (omega (arith, le))
two-of (x ∷ y ∷ ys) le = refl

two-at : (xs : List ℕ) (j : ℕ) → j + 2 ≤ length xs → take 2 (drop j xs) ≡ get_or xs j 0 ∷ get_or xs (j + 1) 0 ∷ []
two-at xs j le =
    let zero_on : j + 0 ≡ j = omega arith in
    two-of (drop j xs) (omega (arith, length-drop j xs, le))
    ∙ ap₂ (λ (x y : ℕ). x ∷ y ∷ []) (get_or-drop j xs 0 0 ∙ ap (λ (i : ℕ). get_or xs i 0) zero_on) (get_or-drop j xs 1 0)

sample-taken : (xs : List ℕ) (place : ℕ) → AreBytes xs → 2 * place + 2 ≤ length xs → low_first (value_at xs place) ≡ take 2 (drop (2 * place) xs)
sample-taken xs place bytes le = low-back (get_or xs (2 * place) 0) (get_or xs (2 * place + 1) 0) (bytes (2 * place)) ∙ sym (two-at xs (2 * place) le)

take-none : (k : ℕ) → ◌≡◌ {A = List ℕ} (take k []) []
take-none zero = refl
take-none (suc k) = refl

take-split : (m k j : ℕ) (ys : List ℕ) → m + k ≡ j → take m ys ++ take k (drop m ys) ≡ take j ys
take-split zero k j ys e = let same : k ≡ j = omega (arith, e) in ap (λ (i : ℕ). take i ys) same
take-split (suc m) k zero ys e = absurd (omega (arith, e))
take-split (suc m) k (suc j) [] e = take-none k
take-split (suc m) k (suc j) (y ∷ ys) e = ap (λ (zs : List ℕ). y ∷ zs) (take-split m k j ys (omega (arith, e)))

-- places that never go back
at-up : (at : ℕ → ℕ) → ((i : ℕ) → at i ≤ at (suc i)) → (a n b : ℕ) → a + n ≡ b → at a ≤ at b
at-up at up a zero b e = let same : a ≡ b = omega (arith, e) in subst (λ (i : ℕ). at a ≤ at i) same (omega arith)
at-up at up a (suc n) b e = omega (arith, up a, at-up at up (suc a) n b (omega (arith, e)))

-- pieces that are taken one after another are taken together
taken-pieces : (xs : List ℕ) (piece : ℕ → List ℕ) (at : ℕ → ℕ) (a n b whole : ℕ) → ((i : ℕ) → at i ≤ at (suc i)) → ((i : ℕ) → i < b → piece i ≡ take (at (suc i) - at i) (drop (at i) xs)) → a + n ≡ b → at a + whole ≡ at b
    → pieces a n piece ≡ take whole (drop (at a) xs)
taken-pieces xs piece at a zero b whole up each e f =
    let end : b ≡ a = omega (arith, e) in
    let none : whole ≡ 0 = omega (arith, f, ap at end) in
    sym (ap (λ (k : ℕ). take k (drop (at a) xs)) none)
taken-pieces xs piece at a (suc n) b whole up each e f =
    let next : a + 1 ≡ suc a = omega arith in
    let step : ℕ = at (suc a) - at a in
    let from : at a + step ≡ at (suc a) = omega (arith, up a) in
    let low = at-up at up (suc a) n b (omega (arith, e)) in
    let rest : ℕ = whole - step in
    let later : pieces (a + 1) n piece ≡ take rest (drop (at (suc a)) xs) =
    ap (λ (i : ℕ). pieces i n piece) next ∙ taken-pieces xs piece at (suc a) n b rest up each (omega (arith, e)) (omega (arith, f, low, up a)) in
    ap₂ (λ (x y : List ℕ). x ++ y) (each a (omega (arith, e))) (later ∙ ap (take rest) (sym (drop-drop step (at a) xs ∙ ap (λ (i : ℕ). drop i xs) from)))
    ∙ take-split step rest whole (drop (at a) xs) (omega (arith, f, low, up a))

-- where the samples of a component begin, and those of a frame end
offset_of : (ℕ → ℕ) → ℕ → ℕ → ℕ
offset_of width height zero = 0
offset_of width height (suc comp) = offset_of width height comp + height * width comp

offset-more : (width : ℕ → ℕ) (height comp : ℕ) → offset_of width height (suc comp) ≡ offset_of width height comp + height * width comp
unfolding offset_of
offset-more width height comp = refl

offset-none : (width : ℕ → ℕ) (height : ℕ) → offset_of width height 0 ≡ 0
unfolding offset_of
offset-none width height = refl

-- a row of samples
row-taken : (xs : List ℕ) (width start : ℕ) → AreBytes xs → 2 * (start + width) ≤ length xs → joined width (λ x. low_first (value_at xs (start + x))) ≡ take (2 * width) (drop (2 * start) xs)
row-taken xs width start bytes le =
    let here : 2 * (start + 0) ≡ 2 * start = omega arith in
    taken-pieces xs (λ x. low_first (value_at xs (start + x))) (λ x. 2 * (start + x)) 0 width width (2 * width) (λ i. omega arith)
    (λ i lt. (let two : 2 * (start + suc i) - 2 * (start + i) ≡ 2 = omega arith in
    sample-taken xs (start + i) bytes (omega (arith, le, lt)) ∙ sym (ap (λ (k : ℕ). take k (drop (2 * (start + i)) xs)) two)))
    (omega arith) (omega arith)
    ∙ ap (λ (k : ℕ). take (2 * width) (drop k xs)) here

-- the rows of a component
plane-taken : (xs : List ℕ) (width height start : ℕ) → AreBytes xs → 2 * (start + height * width) ≤ length xs
    → joined height (λ y. joined width (λ x. low_first (value_at xs (start + y * width + x)))) ≡ take (2 * (height * width)) (drop (2 * start) xs)
plane-taken xs width height start bytes le =
    let here : 2 * (start + 0 * width) ≡ 2 * start = omega arith in
    taken-pieces xs (λ y. joined width (λ x. low_first (value_at xs (start + y * width + x)))) (λ y. 2 * (start + y * width)) 0 height height (2 * (height * width)) (λ i. omega (arith, suc-mul i width))
    (λ i lt. (let row : 2 * (start + suc i * width) - 2 * (start + i * width) ≡ 2 * width = omega (arith, suc-mul i width) in
    let within : suc i * width ≤ height * width = mul-le-mul_right width lt in
    row-taken xs width (start + i * width) bytes (omega (arith, le, within, suc-mul i width)) ∙ sym (ap (λ (k : ℕ). take k (drop (2 * (start + i * width)) xs)) row)))
    (omega arith) (omega arith)
    ∙ ap (λ (k : ℕ). take (2 * (height * width)) (drop k xs)) here

-- the bytes of components
offset-sum : (width : ℕ → ℕ) (height a n b : ℕ) → a + n ≡ b → 2 * offset_of width height a + sum (map (λ (comp : ℕ). 2 * (height * width comp)) (range_with_len a n)) ≡ 2 * offset_of width height b
offset-sum width height a zero b e =
    let same : a ≡ b = omega (arith, e) in omega (arith, ap (offset_of width height) same)
offset-sum width height a (suc n) b e =
    let next : a + 1 ≡ suc a = omega arith in
    let later : 2 * offset_of width height (a + 1) + sum (map (λ (comp : ℕ). 2 * (height * width comp)) (range_with_len (a + 1) n)) ≡ 2 * offset_of width height b = offset-sum width height (a + 1) n b (omega (arith, e)) in
    omega (arith, later, ap (offset_of width height) next, offset-more width height a, sum_by-cons (λ (x : ℕ). x) (2 * (height * width a)) (map (λ (comp : ℕ). 2 * (height * width comp)) (range_with_len (a + 1) n)))

-- the samples that bytes are
abbrev samples_in : Format → List ℕ → Samples
samples_in format xs comp x y = value_at xs (offset_of (component_width format) format.height comp + y * component_width format comp + x)

-- where a component ends is no later than where the frame does
offset-up : (width : ℕ → ℕ) (height i : ℕ) → 2 * offset_of width height i ≤ 2 * offset_of width height (suc i)
offset-up width height i = omega (arith, offset-more width height i)

picture-taken : (format : Format) (xs : List ℕ) → AreBytes xs → picture_len format ≤ length xs → picture format (samples_in format xs) ≡ take (picture_len format) xs
unfolding picture
picture-taken format xs bytes le =
    let width : ℕ → ℕ = component_width format in
    let height : ℕ = format.height in
    let comps : ℕ = comps_of format.chroma in
    let place : ℕ → ℕ = λ comp. 2 * offset_of width height comp in
    let none : place 0 ≡ 0 = omega (arith, offset-none width height) in
    let whole : place 0 + picture_len format ≡ place comps = offset-sum width height 0 comps comps (omega arith) in
    taken-pieces xs (λ comp. joined height (λ y. joined (width comp) (λ x. low_first (samples_in format xs comp x y)))) place 0 comps comps (picture_len format) (offset-up width height)
    (λ i lt. (let part : place (suc i) - place i ≡ 2 * (height * width i) = omega (arith, offset-more width height i) in
    let within : place (suc i) ≤ place comps = at-up place (offset-up width height) (suc i) (comps - suc i) comps (omega (arith, lt)) in
    plane-taken xs (width i) height (offset_of width height i) bytes (omega (arith, le, within, whole, none, offset-more width height i)) ∙ sym (ap (λ (k : ℕ). take k (drop (place i) xs)) part)))
    (omega arith) whole
    ∙ ap (λ (k : ℕ). take (picture_len format) (drop k xs)) none

samples-wide : (format : Format) (xs : List ℕ) → AreBytes xs → AreSamples format (samples_in format xs)
samples-wide format xs bytes comp x y is-comp is-x is-y =
    let place : ℕ = offset_of (component_width format) format.height comp + y * component_width format comp + x in
    omega (arith, bytes (2 * place), bytes (2 * place + 1))

-- ---- the range

bounded-or : (P : ℕ → Type 0) → ((i : ℕ) → P i ⊎ (P i → ⊥)) → (n : ℕ) → ((i : ℕ) → i < n → P i) ⊎ (((i : ℕ) → i < n → P i) → ⊥)
bounded-or P each zero = inl (λ i lt. absurd (omega arith))
bounded-or P each (suc n) = elim (bounded-or P each n) [
  | inr out ↦ inr (λ all. out (λ i lt. all i (omega arith)))
  | inl within ↦ elim (each n) [
    | inr out ↦ inr (λ all. out (all n (omega arith)))
    | inl here ↦ inl (λ i lt. elim (cases_lt i n) [
      | inl below ↦ within i below
      | inr ge ↦ (let last : n ≡ i = omega arith in subst P last here)
    ])
  ]
]

below-or : (a b : ℕ) → (a < b) ⊎ (a < b → ⊥)
below-or a b = elim (cases_lt a b) [
  | inl lt ↦ inl lt
  | inr ge ↦ inr (λ lt. absurd (omega arith))
]

range-or : (format : Format) (samples : Samples) → AreInRange format samples ⊎ (AreInRange format samples → ⊥)
range-or format samples = elim (bounded-or (λ comp. (x : ℕ) → x < component_width format comp → (y : ℕ) → y < format.height → samples comp x y < 2 ^ format.depth)
    (λ comp. bounded-or (λ x. (y : ℕ) → y < format.height → samples comp x y < 2 ^ format.depth) (λ x. bounded-or (λ y. samples comp x y < 2 ^ format.depth) (λ y. below-or (samples comp x y) (2 ^ format.depth)) format.height) (component_width format comp))
    (comps_of format.chroma)) [
      | inl within ↦ inl (λ comp x y lt lt_x lt_y. within comp lt x lt_x y lt_y)
      | inr out ↦ inr (λ all. out (λ comp lt x lt_x y lt_y. all comp x y lt lt_x lt_y))
    ]

-- ---- a picture or a fault

abbrev PictureOr : Format → Form → ℕ → List ℕ → Type 0
PictureOr format form n xs = ((samples : Samples) × (after : List ℕ) × PictureAt format form xs samples after) ⊎ ((fault : VideoFault) × PictureBreaks format form n xs fault)

whole-or : (format : Format) (form : Form) (n : ℕ) (xs start : List ℕ) → xs ≢ [] → n < MAX_UNITS → AreBytes start → FrameLineAt xs form start → picture_len format ≤ length start → PictureOr format form n xs
whole-or format form n xs start some few bytes at le =
    let samples : Samples = samples_in format start in
    let after : List ℕ = drop (picture_len format) start in
    let is : start ≡ picture format samples ++ after = sym (take-append-drop (picture_len format) start) ∙ ap (λ (ys : List ℕ). ys ++ after) (sym (picture-taken format start bytes le)) in
    elim (range-or format samples) [
      | inl range ↦ inl (samples, after, record { start = start; prefix = at; bytes = is; wide = samples-wide format start bytes; range = range })
      | inr out ↦ inr (bad Range, out_of_range start after samples some few at (samples-wide format start bytes) is out)
    ]

start-whole-or : (format : Format) (form : Form) (n : ℕ) (xs start : List ℕ) → xs ≢ [] → n < MAX_UNITS → AreBytes start → FrameLineAt xs form start → PictureOr format form n xs
start-whole-or format form n xs start some few bytes at = elim (cases_lt (length start) (picture_len format)) [
  | inl short ↦ inr (bad Truncated, truncated start some few at short)
  | inr le ↦ whole-or format form n xs start some few bytes at le
]

pub picture-or : (format : Format) (form : Form) (n : ℕ) (xs : List ℕ) → xs ≢ [] → n < MAX_UNITS → AreBytes xs → PictureOr format form n xs
picture-or format form n xs some few bytes = elim (start-or xs form) [
  | inl start ↦ start-whole-or format form n xs start.0 some few (start-bytes xs form start.0 start.1 bytes) start.1
  | inr none ↦ inr (bad FrameLine, no_prefix some few none)
]

-- what follows a picture is bytes, and fewer
pub after-bytes : (format : Format) (form : Form) (xs : List ℕ) (samples : Samples) (after : List ℕ) → PictureAt format form xs samples after → AreBytes xs → AreBytes after
after-bytes format form xs samples after at bytes = bytes-after (picture format samples) after (bytes-along at.start (picture format samples ++ after) at.bytes (start-bytes xs form at.start at.prefix bytes))

start-fewer : (xs : List ℕ) (form : Form) (start : List ℕ) → FrameLineAt xs form start → length start ≤ length xs
start-fewer xs Planar start planar = omega arith
start-fewer xs Y4m start (named line after at e) = omega (arith, ap (length {A = ℕ}) at.bytes, length-append line (10 ∷ start))
start-fewer xs Y4m start (spaced line after more at e) = omega (arith, ap (length {A = ℕ}) at.bytes, length-append line (10 ∷ start))

pub after-fewer : (format : Format) (form : Form) (xs : List ℕ) (samples : Samples) (after : List ℕ) → HasSamples format → PictureAt format form xs samples after → length after < length xs
after-fewer format form xs samples after sound at =
    omega (arith, start-fewer xs form at.start at.prefix, ap (length {A = ℕ}) at.bytes, length-append (picture format samples) after, length-picture format samples, picture-some format sound)
