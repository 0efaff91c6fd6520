-- What is at the start of what is left of a slot: one picture at most, or one fault, and not both.
use Rattle.std.proofs.Common.{◌≡◌, ◌≢◌, ℕ, zero, suc, ◌+◌, ◌*◌, ◌/◌, ◌%◌, ◌^◌, ◌<◌, ◌≤◌, ◌⊎◌, inl, inr, List, [], ◌∷◌, ◌++◌, length, map, refl, sym, ap, ap₂, ◌∙◌, subst, arith, true, false, ◌&&◌, append_assoc, length-append}
use Rattle.std.specs.Prelude.{codes, not, ◌==◌, ◌||◌}
use Rattle.std.specs.List.{flat_map, range_with_len, sum, list_all}
use Rattle.std.proofs.lemmas.Bool.{and_parts, or_parts, cases_lt}
use Rattle.std.proofs.lemmas.List.{append_cancel_left}
use Rattle.std.proofs.Math.Nat.{mul-suc}
use Rattle.std.proofs.lemmas.List.Sums.{sum_by-cons}
use Rattle.apv_base.specs.declared.format.Chroma.{Chroma}
use Rattle.apv_base.specs.declared.format.Chroma.TheVariants.{C400, C422, C444, C4444}
use Rattle.apv_base.specs.declared.format.Format.{Format}
use Rattle.apv_base.specs.declared.options.Form.{Form}
use Rattle.apv_base.specs.declared.options.Form.TheVariants.{Planar, Y4m}
use Rattle.apv_base.specs.declared.rules.Limit.TheVariants.{L3}
use Rattle.apv_base.specs.model.Format.{comps_of, component_width, is_bad_size, is_halved}
use Rattle.apv_base.specs.model.Picture.{Samples, low_first, joined, picture, picture_len}
use Rattle.apv_base.specs.model.Run.{MAX_UNITS}
use Rattle.apv_base.specs.model.Video.{VideoFault, over, LineAt, AreInRange, FrameLineAt, planar, named, spaced, PictureAt, PictureBreaks, full, no_prefix, truncated, out_of_range}
use Rattle.apv_base.proofs.SplitLemmas.{splits, same, first, second}

-- ---- pieces one after another

-- n pieces from a number on
abbrev pub pieces : ℕ → ℕ → (ℕ → List ℕ) → List ℕ
pieces a n piece = flat_map piece (range_with_len a n)

pub length-pieces : (piece : ℕ → List ℕ) (size : ℕ → ℕ) (a n : ℕ) → ((i : ℕ) → length (piece i) ≡ size i) → length (pieces a n piece) ≡ sum (map size (range_with_len a n))
length-pieces piece size a zero each = refl
length-pieces piece size a (suc n) each =
    length-append (piece a) (pieces (a + 1) n piece) ∙ ap₂ (λ (x y : ℕ). x + y) (each a) (length-pieces piece size (a + 1) n each) ∙ sym (sum_by-cons (λ (x : ℕ). x) (size a) (map size (range_with_len (a + 1) n)))

mul-more : (m n : ℕ) → m + m * n ≡ m * suc n
mul-more m n = omega (arith, mul-suc m n)

plane-size : (height width : ℕ) → 2 * width * height ≡ 2 * (height * width)
plane-size height width = omega arith

sum-same : (m a n : ℕ) → sum (map (λ (i : ℕ). m) (range_with_len a n)) ≡ m * n
sum-same m a zero = omega arith
sum-same m a (suc n) = sum_by-cons (λ (x : ℕ). x) m (map (λ (i : ℕ). m) (range_with_len (a + 1) n)) ∙ ap (λ (x : ℕ). m + x) (sum-same m (a + 1) n) ∙ mul-more m n

pub length-equal : (piece : ℕ → List ℕ) (m a n : ℕ) → ((i : ℕ) → length (piece i) ≡ m) → length (pieces a n piece) ≡ m * n
length-equal piece m a n each = length-pieces piece (λ i. m) a n each ∙ sum-same m a n

-- where each piece is cut off in one way, so are all of them
pub same-pieces : (f g : ℕ → List ℕ) (Same : ℕ → Type 0) (a n : ℕ) (u v : List ℕ) → ((i : ℕ) (x y : List ℕ) → f i ++ x ≡ g i ++ y → Same i × (x ≡ y)) → pieces a n f ++ u ≡ pieces a n g ++ v
    → ((i : ℕ) → a ≤ i → i < a + n → Same i) × (u ≡ v)
same-pieces f g Same a zero u v each e = (λ i from below. absurd (omega arith), e)
same-pieces f g Same a (suc n) u v each e =
    let here = each a (pieces (a + 1) n f ++ u) (pieces (a + 1) n g ++ v) (sym (append_assoc (f a) (pieces (a + 1) n f) u) ∙ e ∙ append_assoc (g a) (pieces (a + 1) n g) v) in
    let later = same-pieces f g Same (a + 1) n u v each here.1 in (
      λ i from below. elim (cases_lt a i) [
        | inl lt ↦ later.0 i (omega arith) (omega arith)
        | inr ge ↦ (let at : a ≡ i = omega arith in subst Same at here.0)
      ],
      later.1,
    )

-- ---- pictures

same-sample : (x y : ℕ) (u v : List ℕ) → low_first x ++ u ≡ low_first y ++ v → (x ≡ y) × (u ≡ v)
same-sample x y u v e =
    let low : x % 256 ≡ y % 256 = cc in
    let high : x / 256 ≡ y / 256 = cc in
    let rest : u ≡ v = cc in
    (omega (arith, low, high), rest)

-- the samples of a component, which has this width, are the same
abbrev pub AreSamePlanes : Samples → Samples → ℕ → ℕ → ℕ → Type 0
AreSamePlanes s t width height comp = (y : ℕ) → y < height → (x : ℕ) → x < width → s comp x y ≡ t comp x y

same-plane : (s t : Samples) (width height comp : ℕ) (u v : List ℕ)
    → joined height (λ y. joined width (λ x. low_first (s comp x y))) ++ u ≡ joined height (λ y. joined width (λ x. low_first (t comp x y))) ++ v → AreSamePlanes s t width height comp × (u ≡ v)
same-plane s t width height comp u v e =
    let rows = same-pieces (λ y. joined width (λ x. low_first (s comp x y))) (λ y. joined width (λ x. low_first (t comp x y))) (λ y. (x : ℕ) → 0 ≤ x → x < 0 + width → s comp x y ≡ t comp x y) 0 height u v
    (λ y p q f. same-pieces (λ x. low_first (s comp x y)) (λ x. low_first (t comp x y)) (λ x. s comp x y ≡ t comp x y) 0 width p q (λ x a b g. same-sample (s comp x y) (t comp x y) a b g) f) e in
    (λ y lt x low. rows.0 y (omega arith) (omega arith) x (omega arith) (omega arith), rows.1)

-- the visible samples are the same
abbrev pub AreSameSamples : Format → Samples → Samples → Type 0
AreSameSamples format s t = (comp : ℕ) → comp < comps_of format.chroma → AreSamePlanes s t (component_width format comp) format.height comp

-- a picture is one of one visible samples, and what follows it is one
pub same-picture : (format : Format) (s t : Samples) (u v : List ℕ) → picture format s ++ u ≡ picture format t ++ v → AreSameSamples format s t × (u ≡ v)
unfolding picture
same-picture format s t u v e =
    let planes = same-pieces (λ comp. joined format.height (λ y. joined (component_width format comp) (λ x. low_first (s comp x y)))) (λ comp. joined format.height (λ y. joined (component_width format comp) (λ x. low_first (t comp x y))))
    (λ comp. AreSamePlanes s t (component_width format comp) format.height comp) 0 (comps_of format.chroma) u v (λ comp p q f. same-plane s t (component_width format comp) format.height comp p q f) e in
    (λ comp lt. planes.0 comp (omega arith) (omega arith), planes.1)

length-plane : (format : Format) (samples : Samples) (comp : ℕ) → length (joined format.height (λ y. joined (component_width format comp) (λ x. low_first (samples comp x y)))) ≡ 2 * (format.height * component_width format comp)
length-plane format samples comp =
    length-equal (λ y. joined (component_width format comp) (λ x. low_first (samples comp x y))) (2 * component_width format comp) 0 format.height (λ y. length-equal (λ x. low_first (samples comp x y)) 2 0 (component_width format comp) (λ x. refl))
    ∙ plane-size format.height (component_width format comp)

pub length-picture : (format : Format) (samples : Samples) → length (picture format samples) ≡ picture_len format
unfolding picture
length-picture format samples =
    length-pieces (λ comp. joined format.height (λ y. joined (component_width format comp) (λ x. low_first (samples comp x y)))) (λ comp. 2 * (format.height * component_width format comp)) 0 (comps_of format.chroma) (length-plane format samples)

-- ---- lines

no-line-feed : (line more : List ℕ) → list_all (λ byte. not (byte == 10)) (line ++ 10 ∷ more) ≡ true → ⊥
no-line-feed [] more e = let no : ⊥ = cc in no
no-line-feed (x ∷ line) more e = no-line-feed line more (and_parts (not (x == 10)) (list_all (λ byte. not (byte == 10)) (line ++ 10 ∷ more)) e).1

after-line : (line after rest : List ℕ) → line ++ 10 ∷ after ≡ line ++ 10 ∷ rest → after ≡ rest
after-line line after rest e = let tails : 10 ∷ after ≡ 10 ∷ rest = append_cancel_left line (10 ∷ after) (10 ∷ rest) e in let is : after ≡ rest = cc in is

-- a line without a line feed, which one follows
abbrev pub HasLine : List ℕ → List ℕ → List ℕ → Type 0
HasLine xs line after = (xs ≡ line ++ 10 ∷ after) × (list_all (λ byte. not (byte == 10)) line ≡ true)

pub one-prefix : (xs line other after rest : List ℕ) → HasLine xs line after → HasLine xs other rest → (line ≡ other) × (after ≡ rest)
one-prefix xs line other after rest a b = elim (splits line 10 after other 10 rest (sym a.0 ∙ b.0)) [
  | same e f ↦ (let tails : line ++ 10 ∷ after ≡ line ++ 10 ∷ rest = sym a.0 ∙ b.0 ∙ ap (λ (l : List ℕ). l ++ 10 ∷ rest) (sym e) in (e, after-line line after rest tails))
  | first more e ↦ absurd (no-line-feed line more (subst (λ (l : List ℕ). list_all (λ byte. not (byte == 10)) l ≡ true) e b.1))
  | second more e ↦ absurd (no-line-feed other more (subst (λ (l : List ℕ). list_all (λ byte. not (byte == 10)) l ≡ true) e a.1))
]

pub one-line : (xs line other after rest : List ℕ) → LineAt xs line after → LineAt xs other rest → (line ≡ other) × (after ≡ rest)
one-line xs line other after rest a b = one-prefix xs line other after rest (a.bytes, a.first) (b.bytes, b.first)

name-or-more : {A : Type 0} (line more : List ℕ) → line ≡ codes "FRAME" → line ≡ codes "FRAME " ++ more → A
name-or-more line more e f = absurd (omega (arith, ap (length {A = ℕ}) e, ap (length {A = ℕ}) f, length-append (codes "FRAME ") more))

-- what follows the line before a picture is one
pub one-start : (xs : List ℕ) (form : Form) (a b : List ℕ) → FrameLineAt xs form a → FrameLineAt xs form b → a ≡ b
one-start xs Planar a b planar planar = refl
one-start xs Y4m a b (named line after at e) (named other rest at' f) = (one-line xs line other a b at at').1
one-start xs Y4m a b (spaced line after more at e) (spaced other rest more' at' f) = (one-line xs line other a b at at').1
one-start xs Y4m a b (named line after at e) (spaced other rest more at' f) = name-or-more line more e ((one-line xs line other a b at at').0 ∙ f)
one-start xs Y4m a b (spaced line after more at e) (named other rest at' f) = name-or-more other more f (sym (one-line xs line other a b at at').0 ∙ e)

-- nothing is taken of nothing
line-some : {A : Type 0} (xs line after : List ℕ) → LineAt xs line after → xs ≡ [] → A
line-some xs line after at e = absurd (omega (arith, ap (length {A = ℕ}) at.bytes, ap (length {A = ℕ}) e, length-append line (10 ∷ after)))

start-of-none : (xs : List ℕ) (form : Form) (start : List ℕ) → FrameLineAt xs form start → xs ≡ [] → start ≡ []
start-of-none xs Planar start planar e = e
start-of-none xs Y4m start (named line after at f) e = line-some xs line start at e
start-of-none xs Y4m start (spaced line after more at f) e = line-some xs line start at e

-- ---- one picture or one fault

-- the width and the height are above 0
abbrev pub HasSamples : Format → Type 0
HasSamples format = is_bad_size format ≡ false

above-zero : (n : ℕ) → (n == 0) ≡ false → 0 < n
above-zero zero e = absurd (let no : ⊥ = cc in no)
above-zero (suc n) e = omega arith

plane-some : (m n : ℕ) → 0 < m → 0 < n → 0 < m * n
plane-some zero n p q = absurd (omega (arith, p))
plane-some (suc m) zero p q = absurd (omega (arith, q))
plane-some (suc m) (suc n) p q = omega arith

-- the first plane has the whole width
picture-above : (width height : ℕ) (chroma : Chroma) (depth : ℕ) → 0 < width → 0 < height → 0 < picture_len (record { width = width; height = height; chroma = chroma; depth = depth })
picture-above width height C400 depth p q = omega (arith, plane-some height width q p)
picture-above width height C422 depth p q = omega (arith, plane-some height width q p)
picture-above width height C444 depth p q = omega (arith, plane-some height width q p)
picture-above width height C4444 depth p q = omega (arith, plane-some height width q p)

pub picture-some : (format : Format) → HasSamples format → 0 < picture_len format
picture-some format sound =
    let outer = or_parts (format.width == 0 || format.height == 0) (is_halved format.chroma && (format.width % 2 == 1)) sound in
    let sizes = or_parts (format.width == 0) (format.height == 0) outer.0 in
    picture-above format.width format.height format.chroma format.depth (above-zero format.width sizes.0) (above-zero format.height sizes.1)

-- a picture needs something to be left
pub picture-left : {A : Type 0} (format : Format) (form : Form) (xs : List ℕ) (samples : Samples) (after : List ℕ) → HasSamples format → PictureAt format form xs samples after → xs ≡ [] → A
picture-left format form xs samples after sound at e =
    let none : at.start ≡ [] = start-of-none xs form at.start at.prefix e in
    absurd (omega (arith, ap (length {A = ℕ}) at.bytes, ap (length {A = ℕ}) none, length-append (picture format samples) after, length-picture format samples, picture-some format sound))

-- a fault below the maximum number of frames, or that number
pub fault-cases : (format : Format) (form : Form) (n : ℕ) (xs : List ℕ) (fault : VideoFault) → PictureBreaks format form n xs fault → (n < MAX_UNITS) ⊎ ((n ≡ MAX_UNITS) × (fault ≡ over L3 (MAX_UNITS + 1)))
fault-cases format form n xs fault (full some e) = inr (e, refl)
fault-cases format form n xs fault (no_prefix some lt none) = inl lt
fault-cases format form n xs fault (truncated start some lt at short) = inl lt
fault-cases format form n xs fault (out_of_range start after samples some lt at wide bytes out) = inl lt

pub fault-left : (format : Format) (form : Form) (n : ℕ) (xs : List ℕ) (fault : VideoFault) → PictureBreaks format form n xs fault → xs ≢ []
fault-left format form n xs fault (full some e) = some
fault-left format form n xs fault (no_prefix some lt none) = some
fault-left format form n xs fault (truncated start some lt at short) = some
fault-left format form n xs fault (out_of_range start after samples some lt at wide bytes out) = some

-- a whole picture isn't cut
whole-or-cut : {A : Type 0} (format : Format) (form : Form) (xs start after cut : List ℕ) (samples : Samples) → FrameLineAt xs form start → start ≡ picture format samples ++ after → FrameLineAt xs form cut → length cut < picture_len format → A
whole-or-cut format form xs start after cut samples at bytes at' short =
    let one : start ≡ cut = one-start xs form start cut at at' in
    absurd (omega (arith, short, ap (length {A = ℕ}) one, ap (length {A = ℕ}) bytes, length-append (picture format samples) after, length-picture format samples))

-- samples that are the same are in range together
range-along : (format : Format) (s t : Samples) → AreSameSamples format s t → AreInRange format s → AreInRange format t
range-along format s t one range comp x y low lt_x lt_y = subst (λ (value : ℕ). value < 2 ^ format.depth) (one comp low y lt_y x lt_x) (range comp x y low lt_x lt_y)

pub picture-or-fault : {A : Type 0} (format : Format) (form : Form) (n : ℕ) (xs : List ℕ) (samples : Samples) (after : List ℕ) (fault : VideoFault) → n < MAX_UNITS → PictureAt format form xs samples after → PictureBreaks format form n xs fault → A
picture-or-fault format form n xs samples after fault few at (full some e) = absurd (omega (arith, few, e))
picture-or-fault format form n xs samples after fault few at (no_prefix some lt none) = absurd (none at.start at.prefix)
picture-or-fault format form n xs samples after fault few at (truncated start some lt prefix short) = whole-or-cut format form xs at.start after start samples at.prefix at.bytes prefix short
picture-or-fault format form n xs samples after fault few at (out_of_range start rest others some lt prefix wide bytes out) =
    let one : at.start ≡ start = one-start xs form at.start start at.prefix prefix in
    let alike = same-picture format samples others after rest (sym at.bytes ∙ one ∙ bytes) in
    absurd (out (range-along format samples others alike.0 at.range))

pub one-fault : (format : Format) (form : Form) (n : ℕ) (xs : List ℕ) (e f : VideoFault) → PictureBreaks format form n xs e → PictureBreaks format form n xs f → e ≡ f
one-fault format form n xs e f (full some p) (full some' q) = refl
one-fault format form n xs e f (full some p) (no_prefix some' lt none) = absurd (omega (arith, p, lt))
one-fault format form n xs e f (full some p) (truncated start some' lt at short) = absurd (omega (arith, p, lt))
one-fault format form n xs e f (full some p) (out_of_range start after samples some' lt at wide bytes out) = absurd (omega (arith, p, lt))
one-fault format form n xs e f (no_prefix some lt none) (full some' p) = absurd (omega (arith, p, lt))
one-fault format form n xs e f (no_prefix some lt none) (no_prefix some' lt' none') = refl
one-fault format form n xs e f (no_prefix some lt none) (truncated start some' lt' at short) = absurd (none start at)
one-fault format form n xs e f (no_prefix some lt none) (out_of_range start after samples some' lt' at wide bytes out) = absurd (none start at)
one-fault format form n xs e f (truncated start some lt at short) (full some' p) = absurd (omega (arith, p, lt))
one-fault format form n xs e f (truncated start some lt at short) (no_prefix some' lt' none) = absurd (none start at)
one-fault format form n xs e f (truncated start some lt at short) (truncated start' some' lt' at' short') = refl
one-fault format form n xs e f (truncated start some lt at short) (out_of_range start' after samples some' lt' at' wide bytes out) = whole-or-cut format form xs start' after start samples at' bytes at short
one-fault format form n xs e f (out_of_range start after samples some lt at wide bytes out) (full some' p) = absurd (omega (arith, p, lt))
one-fault format form n xs e f (out_of_range start after samples some lt at wide bytes out) (no_prefix some' lt' none) = absurd (none start at)
one-fault format form n xs e f (out_of_range start after samples some lt at wide bytes out) (truncated start' some' lt' at' short) = whole-or-cut format form xs start after start' samples at bytes at' short
one-fault format form n xs e f (out_of_range start after samples some lt at wide bytes out) (out_of_range start' after' samples' some' lt' at' wide' bytes' out') = refl

-- what follows a picture is one
pub one-after : (format : Format) (form : Form) (xs : List ℕ) (s t : Samples) (a b : List ℕ) → PictureAt format form xs s a → PictureAt format form xs t b → a ≡ b
one-after format form xs s t a b p q = (same-picture format s t a b (sym p.bytes ∙ one-start xs form p.start q.start p.prefix q.prefix ∙ q.bytes)).1
