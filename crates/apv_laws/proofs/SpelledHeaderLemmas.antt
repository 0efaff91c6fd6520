-- The values of a sound header pass the fields of a header, and its bits fill whole bytes.
use Rattle.std.proofs.Common.{◌≡◌, ℕ, zero, suc, ◌+◌, ◌-◌, ◌*◌, ◌^◌, ◌<◌, ◌≤◌, List, [], ◌∷◌, ◌++◌, length, get_or, take, refl, sym, ap, ◌∙◌, subst, arith, lit<, Option, Some, None, Bool, true, false, cond, ◌||◌, ◌&&◌, nat_lt, nat_eq, ◌⊎◌, inl, inr, IfSome, length-append}
use Rattle.std.specs.List.{AllByRecursion, list_any, concat}
use Rattle.std.proofs.lemmas.Bool.{le-ltb, ne_eqb, eqb-true}
use Rattle.apv_base.specs.declared.rules.Rule.TheVariants.{V8, V14}
use Rattle.apv_base.specs.declared.rules.HeadEnd.{HeadEnd}
use Rattle.apv_base.specs.declared.rules.HeadEnd.TheVariants.{Rule as breaks}
use Rattle.apv_base.specs.declared.format.Chroma.{Chroma}
use Rattle.apv_base.specs.declared.format.Chroma.TheVariants.{C400, C422, C444, C4444}
use Rattle.apv_base.specs.declared.format.Colour.{Colour}
use Rattle.apv_base.specs.declared.format.Format.{Format}
use Rattle.apv_base.specs.declared.format.FrameInfo.{FrameInfo}
use Rattle.apv_base.specs.declared.header.FrameHeader.{FrameHeader}
use Rattle.apv_base.specs.model.Bits.{padding, bin, AreDigits}
use Rattle.apv_base.specs.model.Format.{idc_of, chroma_of, or_grey, comps_of, is_bad_size, macroblocks, MAX_MACROBLOCKS}
use Rattle.apv_base.specs.model.Grid.{grid_with, tile_rule, tile_count}
use Rattle.apv_base.specs.model.Header.{check_profile, check_size, check_chroma_of, check_chroma, check_depth, check_matrix_value, check_tiles, head_end, free, reserved, info_fields, colour_fields, matrix_fields, size_fields, alignment_fields, header_table, flag, info_values, colour_values, matrix_values, size_values, format_of, grid_of, header_comps, header_values, IsSoundInfo, IsSoundColour, IsSoundHeader}
use Rattle.apv_base.specs.model.Profile.{Profile, profiles, is_known, is_readable, is_writable, has_depth, same_chroma}
use Rattle.apv_base.specs.model.Quant.{IsMatrix}
use Rattle.apv_base.specs.model.Table.{Table, done, field, fields, spell, no_check, must_be_zero}
use Rattle.apv_base.specs.laws.Table.{Passes}
use Rattle.apv_base.proofs.BitsLemmas.{length-bin}
use Rattle.apv_base.proofs.DigitsLemmas.{length-digits, power_above}
use Rattle.apv_base.proofs.HeaderPartsLemmas.{all-append}
use Rattle.apv_base.proofs.HeaderLemmas.{chroma-idc, comps-few, length-matrices, nested}
use Rattle.apv_laws.proofs.SpelledFieldLemmas.{FitsField, length-field, pass-fields, length-fields, all-from, all-more, HasNumbersAlone, numbers-in-fields, digits-spelled}

-- ---- the checks

if-false : {X : Type 0} (b : Bool) (x y : X) → b ≡ false → cond b x y ≡ y
if-false b x y e = rw e refl

if-true : {X : Type 0} (b : Bool) (x y : X) → b ≡ true → cond b x y ≡ x
if-true b x y e = rw e refl

first-of : (a b c : Bool) → (a && b && c) ≡ true → a ≡ true
first-of true b c e = refl
first-of false b c e = absurd (let no : ⊥ = cc in no)

either-of : (a b : Bool) → (a || b) ≡ true → (a ≡ true) ⊎ (b ≡ true)
either-of true b e = inl refl
either-of false b e = inr e

or-left : (a b : Bool) → a ≡ true → (a || b) ≡ true
or-left a b e = rw e refl

or-right : (a b : Bool) → b ≡ true → (a || b) ≡ true
or-right true b e = refl
or-right false b e = e

or-neither : (a b : Bool) → a ≡ false → b ≡ false → (a || b) ≡ false
or-neither a b e f = rw (e, f) refl

any-more : {X : Type 0} (f g : X → Bool) (xs : List X) → ((x : X) → f x ≡ true → g x ≡ true) → list_any f xs ≡ true → list_any g xs ≡ true
any-more f g [] more e = e
any-more f g (x ∷ xs) more e = elim (either-of (f x) (list_any f xs) e) [
  | inl here ↦ or-left (g x) (list_any g xs) (more x here)
  | inr later ↦ or-right (g x) (list_any g xs) (any-more f g xs more later)
]

-- a profile that reads a format is known
readable-known : (profile : ℕ) (chroma : Chroma) (depth : ℕ) → is_readable profile chroma depth ≡ true → is_known profile ≡ true
readable-known profile chroma depth e = elim (either-of (is_writable profile chroma depth) _ e) [
  | inl w ↦ any-more (λ (p : Profile). nat_eq p.idc profile && has_depth p depth && list_any (same_chroma chroma) p.chroma) (λ (p : Profile). nat_eq p.idc profile) profiles
      (λ p f. first-of (nat_eq p.idc profile) (has_depth p depth) (list_any (same_chroma chroma) p.chroma) f) w
  | inr g ↦ any-more (λ (p : Profile). nat_eq p.idc profile && has_depth p depth && same_chroma chroma C400) (λ (p : Profile). nat_eq p.idc profile) profiles
      (λ p f. first-of (nat_eq p.idc profile) (has_depth p depth) (same_chroma chroma C400) f) g
]

known-below : (profile : ℕ) (ps : List Profile) → AllByRecursion (λ (p : Profile). p.idc < 256) ps → list_any (λ (p : Profile). nat_eq p.idc profile) ps ≡ true → profile < 256
known-below profile [] all e = absurd (let no : ⊥ = cc in no)
known-below profile (p ∷ ps) all e = elim (either-of (nat_eq p.idc profile) (list_any (λ (q : Profile). nat_eq q.idc profile) ps) e) [
  | inl here ↦ omega (arith, eqb-true p.idc profile here, all.0)
  | inr later ↦ known-below profile ps all.1 later
]

known-small : (profile : ℕ) → is_known profile ≡ true → profile < 256
known-small profile e = known-below profile profiles (lit< tt, (lit< tt, (lit< tt, (lit< tt, (lit< tt, (lit< tt, (lit< tt, tt))))))) e

size-fits : (format : Format) → is_bad_size format ≡ false → macroblocks format ≤ MAX_MACROBLOCKS → check_size format ≡ None
size-fits format e few = if-false (is_bad_size format) _ _ e ∙ if-false (nat_lt MAX_MACROBLOCKS (macroblocks format)) _ _ (le-ltb MAX_MACROBLOCKS (macroblocks format) few)

idc-small : (chroma : Chroma) → idc_of chroma < 2 ^ 4
idc-small C400 = lit< tt
idc-small C422 = lit< tt
idc-small C444 = lit< tt
idc-small C4444 = lit< tt

profile-fits : (info : FrameInfo) → IsSoundInfo info → FitsField 2 8 check_profile info.profile
profile-fits info sound =
    let known = readable-known info.profile info.chroma info.depth sound.readable in
    record { below = known-small info.profile known; checked = λ left. if-true (is_known info.profile) _ _ known }

chroma-fits : (info : FrameInfo) → IsSoundInfo info → FitsField 2 4 (check_chroma info.width info.height) (idc_of info.chroma)
chroma-fits info sound = record {
  below = idc-small info.chroma;
  checked = λ left. ap (check_chroma_of info.width info.height) (chroma-idc info.chroma)
      ∙ size-fits (record { width = info.width; height = info.height; chroma = info.chroma; depth = 0 }) sound.format.size sound.format.few;
}

depth-along : (profile depth value : ℕ) (chroma found : Chroma) → found ≡ chroma → value ≡ depth → is_readable profile chroma depth ≡ true → is_readable profile found value ≡ true
depth-along profile depth value chroma found e f r = rw (e, f) r

depth-fits : (info : FrameInfo) → IsSoundInfo info → FitsField 2 4 (check_depth info.profile (idc_of info.chroma)) (info.depth - 8)
depth-fits info sound =
    let value : ℕ = info.depth - 8 in
    let low : nat_lt value 2 ≡ false = le-ltb value 2 (omega (arith, sound.format.low)) in
    let high : nat_lt 4 value ≡ false = le-ltb 4 value (omega (arith, sound.format.high)) in
    let readable = depth-along info.profile info.depth (value + 8) info.chroma (or_grey (chroma_of (idc_of info.chroma))) (ap or_grey (chroma-idc info.chroma)) (omega (arith, sound.format.low)) sound.readable in
    record {
      below = omega (arith, sound.format.high);
      checked = λ left. if-false (nat_lt value 2 || nat_lt 4 value) _ _ (or-neither (nat_lt value 2) (nat_lt 4 value) low high) ∙ if-true (is_readable info.profile (or_grey (chroma_of (idc_of info.chroma))) (value + 8)) _ _ readable;
    }

-- ---- frame_info()

same-format : (width height : ℕ) (chroma found : Chroma) (depth value : ℕ) → found ≡ chroma → value ≡ depth
    → ◌≡◌ {A = Format} (record { width = width; height = height; chroma = found; depth = value }) (record { width = width; height = height; chroma = chroma; depth = depth })
same-format width height chroma found depth value e f = rw (e, f) refl

-- the format that the values of frame_info() give
abbrev read_format : FrameInfo → Format
read_format info = record { width = info.width; height = info.height; chroma = or_grey (chroma_of (idc_of info.chroma)); depth = info.depth - 8 + 8 }

read-format : (info : FrameInfo) → IsSoundInfo info → read_format info ≡ format_of info
read-format info sound = same-format info.width info.height info.chroma (or_grey (chroma_of (idc_of info.chroma))) info.depth (info.depth - 8 + 8) (ap or_grey (chroma-idc info.chroma)) (omega (arith, sound.format.low))

pub pass-info : (next : Format → Table HeadEnd) (info : FrameInfo) (later : List ℕ) (left : ℕ) → IsSoundInfo info → Passes 2 (next (format_of info)) later left → Passes 2 (info_fields true next) (info_values info ++ later) left
pass-info next info later left sound p =
    let profile = profile-fits info sound in
    let chroma = chroma-fits info sound in
    let depth = depth-fits info sound in
    let last : Passes 2 (next (read_format info)) later left = subst (λ (f : Format). Passes 2 (next f) later left) (sym (read-format info sound)) p in (
      refl,
      profile.below,
      profile.checked 0,
      (
        refl,
        sound.level,
        refl,
        (
          refl,
          omega (arith, sound.band),
          refl,
          (
            refl,
            lit< tt,
            refl,
            (
              refl,
              sound.format.width,
              refl,
              (
                refl,
                sound.format.height,
                refl,
                (refl, chroma.below, chroma.checked 0, (refl, depth.below, depth.checked 0, (refl, sound.capture, refl, (refl, lit< tt, refl, last)))),
              ),
            ),
          ),
        ),
      ),
    )

ten-lengths : (a b c d e f g h i j rest : List ℕ) → length a ≡ 8 → length b ≡ 8 → length c ≡ 3 → length d ≡ 5 → length e ≡ 24 → length f ≡ 24 → length g ≡ 4 → length h ≡ 4 → length i ≡ 8 → length j ≡ 8
    → length (a ++ (b ++ (c ++ (d ++ (e ++ (f ++ (g ++ (h ++ (i ++ (j ++ rest)))))))))) ≡ 96 + length rest
ten-lengths a b c d e f g h i j rest e0 e1 e2 e3 e4 e5 e6 e7 e8 e9 =
    omega (
      arith,
      length-append a (b ++ (c ++ (d ++ (e ++ (f ++ (g ++ (h ++ (i ++ (j ++ rest))))))))),
      length-append b (c ++ (d ++ (e ++ (f ++ (g ++ (h ++ (i ++ (j ++ rest)))))))),
      length-append c (d ++ (e ++ (f ++ (g ++ (h ++ (i ++ (j ++ rest))))))),
      length-append d (e ++ (f ++ (g ++ (h ++ (i ++ (j ++ rest)))))),
      length-append e (f ++ (g ++ (h ++ (i ++ (j ++ rest))))),
      length-append f (g ++ (h ++ (i ++ (j ++ rest)))),
      length-append g (h ++ (i ++ (j ++ rest))),
      length-append h (i ++ (j ++ rest)),
      length-append i (j ++ rest),
      length-append j rest,
      e0,
      e1,
      e2,
      e3,
      e4,
      e5,
      e6,
      e7,
      e8,
      e9,
    )

length-read : (next : Format → Table HeadEnd) (info : FrameInfo) (later : List ℕ) → length (spell 2 (info_fields true next) (info_values info ++ later)) ≡ 96 + length (spell 2 (next (read_format info)) later)
unfolding spell
length-read next info later =
    ten-lengths (bin 8 info.profile) (bin 8 info.level) (bin 3 info.band) (bin 5 0) (bin 24 info.width) (bin 24 info.height) (bin 4 (idc_of info.chroma)) (bin 4 (info.depth - 8)) (bin 8 info.capture) (bin 8 0) (spell 2 (next (read_format info)) later)
    (length-digits 2 8 info.profile) (length-digits 2 8 info.level) (length-digits 2 3 info.band) (length-digits 2 5 0) (length-digits 2 24 info.width) (length-digits 2 24 info.height) (length-digits 2 4 (idc_of info.chroma)) (length-digits 2 4 (info.depth - 8))
    (length-digits 2 8 info.capture) (length-digits 2 8 0)

pub length-info : (next : Format → Table HeadEnd) (info : FrameInfo) (later : List ℕ) → IsSoundInfo info → length (spell 2 (info_fields true next) (info_values info ++ later)) ≡ 96 + length (spell 2 (next (format_of info)) later)
length-info next info later sound = length-read next info later ∙ ap (λ (f : Format). 96 + length (spell 2 (next f) later)) (read-format info sound)

-- ---- the colour description

-- color_description_present_flag
abbrev pub colour_bit : Option Colour → ℕ
colour_bit None = 0
colour_bit (Some colour) = 1

flag-small : (present : Bool) → flag present < 2 ^ 1
flag-small true = lit< tt
flag-small false = lit< tt

pub pass-colour : (next : ℕ → Table HeadEnd) (colour : Option Colour) (later : List ℕ) (left : ℕ) → IfSome colour IsSoundColour → Passes 2 (next (colour_bit colour)) later left
    → Passes 2 (colour_fields next) (colour_values colour ++ later) left
pass-colour next None later left sound p = (refl, lit< tt, refl, p)
pass-colour next (Some colour) later left sound p =
    (refl, lit< tt, refl, (refl, sound.primaries, refl, (refl, sound.transfer, refl, (refl, sound.matrix, refl, (refl, flag-small colour.full_range, refl, p)))))

five-lengths : (a b c d e rest : List ℕ) → length a ≡ 1 → length b ≡ 8 → length c ≡ 8 → length d ≡ 8 → length e ≡ 1 → length (a ++ (b ++ (c ++ (d ++ (e ++ rest))))) ≡ 26 + length rest
five-lengths a b c d e rest e0 e1 e2 e3 e4 =
    omega (arith, length-append a (b ++ (c ++ (d ++ (e ++ rest)))), length-append b (c ++ (d ++ (e ++ rest))), length-append c (d ++ (e ++ rest)), length-append d (e ++ rest), length-append e rest, e0, e1, e2, e3, e4)

pub length-colour : (next : ℕ → Table HeadEnd) (colour : Option Colour) (later : List ℕ) → length (spell 2 (colour_fields next) (colour_values colour ++ later)) ≡ 1 + 25 * colour_bit colour + length (spell 2 (next (colour_bit colour)) later)
unfolding spell
length-colour next None later = length-append (bin 1 0) (spell 2 (next 0) later) ∙ ap (λ (k : ℕ). k + length (spell 2 (next 0) later)) (length-digits 2 1 0)
length-colour next (Some colour) later =
    five-lengths (bin 1 1) (bin 8 colour.primaries) (bin 8 colour.transfer) (bin 8 colour.matrix) (bin 1 (flag colour.full_range)) (spell 2 (next 1) later) (length-digits 2 1 1) (length-digits 2 8 colour.primaries) (length-digits 2 8 colour.transfer)
    (length-digits 2 8 colour.matrix) (length-digits 2 1 (flag colour.full_range))

-- ---- the matrices

value-fits : (value : ℕ) → 0 < value → value < 256 → FitsField 2 8 check_matrix_value value
value-fits value low high = record { below = high; checked = λ left. if-false (nat_eq value 0) _ _ (ne_eqb value 0 (λ e. omega arith)) }

matrix-fits : (matrix : List ℕ) → IsMatrix matrix → AllByRecursion (FitsField 2 8 check_matrix_value) matrix
matrix-fits matrix is =
    all-from (FitsField 2 8 check_matrix_value) 0 matrix
    (λ i lt. let e = is.each i (omega (arith, lt, is.count)) in value-fits (get_or matrix i 0) e.0 e.1)

pub matrices-fit : (n : ℕ) (matrices : List (List ℕ)) → AllByRecursion IsMatrix matrices → AllByRecursion (FitsField 2 8 check_matrix_value) (concat (take n matrices))
matrices-fit zero matrices all = tt
matrices-fit (suc n) [] all = tt
matrices-fit (suc n) (matrix ∷ matrices) all = all-append (FitsField 2 8 check_matrix_value) matrix (concat (take n matrices)) (matrix-fits matrix all.0) (matrices-fit n matrices all.1)

pub pass-matrices : (comps : ℕ) (next : Table HeadEnd) (used : Bool) (matrices : List (List ℕ)) (later : List ℕ) (left : ℕ) → length (concat (take comps matrices)) ≡ 64 * comps → AllByRecursion IsMatrix matrices → Passes 2 next later left
    → Passes 2 (matrix_fields comps next) (matrix_values used comps matrices ++ later) left
pass-matrices comps next false matrices later left len all p = (refl, lit< tt, refl, p)
pass-matrices comps next true matrices later left len all p =
    (refl, lit< tt, refl, pass-fields 2 (64 * comps) 8 (breaks V8) check_matrix_value (λ values. next) (concat (take comps matrices)) later left len (matrices-fit comps matrices all) p)

-- the bytes of the matrices that are stated
abbrev pub matrix_bytes : Bool → ℕ → ℕ
matrix_bytes false comps = 0
matrix_bytes true comps = 64 * comps

-- a bit, and values of a byte or four
nothing-more : (m : ℕ) → m ≡ 0 + m
nothing-more m = omega arith

bit-first : (bit k m : ℕ) (rest : List ℕ) → length rest ≡ k + m → length (bin 1 bit ++ rest) ≡ 1 + k + m
bit-first bit k m rest e = omega (arith, length-append (bin 1 bit) rest, length-bin 1 bit, e)

pub length-stated : (comps : ℕ) (next : Table HeadEnd) (used : Bool) (matrices : List (List ℕ)) (later : List ℕ) → length (concat (take comps matrices)) ≡ 64 * comps
    → length (spell 2 (matrix_fields comps next) (matrix_values used comps matrices ++ later)) ≡ 1 + 8 * matrix_bytes used comps + length (spell 2 next later)
unfolding spell
length-stated comps next false matrices later len = bit-first 0 0 (length (spell 2 next later)) (spell 2 next later) (nothing-more (length (spell 2 next later)))
length-stated comps next true matrices later len =
    bit-first 1 (8 * (64 * comps)) (length (spell 2 next later)) (spell 2 (fields (64 * comps) 8 (breaks V8) check_matrix_value (λ values. next)) (concat (take comps matrices) ++ later))
    (length-fields 2 (64 * comps) 8 (breaks V8) check_matrix_value (λ values. next) (concat (take comps matrices)) later len)

-- ---- the sizes of the tiles

pub pass-sizes : (count : ℕ) (next : Table HeadEnd) (present : Bool) (sizes later : List ℕ) (left : ℕ) → (present ≡ true → length sizes ≡ count) → AllByRecursion (λ (size : ℕ). size < 2 ^ 32) sizes → Passes 2 next later left
    → Passes 2 (size_fields count next) (size_values present sizes ++ later) left
pass-sizes count next false sizes later left len all p = (refl, lit< tt, refl, p)
pass-sizes count next true sizes later left len all p = (
  refl,
  lit< tt,
  refl,
  pass-fields 2 count 32 (breaks V8) no_check (λ values. next) sizes later left (len refl)
      (all-more (λ (size : ℕ). size < 2 ^ 32) (FitsField 2 32 no_check) sizes (λ size lt. record { below = lt; checked = λ rest. refl }) all) p,
)

abbrev pub size_words : Bool → ℕ → ℕ
size_words false count = 0
size_words true count = count

pub length-sizes : (count : ℕ) (next : Table HeadEnd) (present : Bool) (sizes later : List ℕ) → (present ≡ true → length sizes ≡ count)
    → length (spell 2 (size_fields count next) (size_values present sizes ++ later)) ≡ 1 + 32 * size_words present count + length (spell 2 next later)
unfolding spell
length-sizes count next false sizes later len = bit-first 0 0 (length (spell 2 next later)) (spell 2 next later) (nothing-more (length (spell 2 next later)))
length-sizes count next true sizes later len =
    bit-first 1 (32 * count) (length (spell 2 next later)) (spell 2 (fields count 32 (breaks V8) no_check (λ values. next)) (sizes ++ later)) (length-fields 2 count 32 (breaks V8) no_check (λ values. next) sizes later (len refl))

-- ---- the whole header

-- what follows each part of the header
abbrev end_table : ℕ → Table HeadEnd
end_table colour = reserved 8 (alignment_fields colour done)

abbrev height_next : Format → ℕ → ℕ → ℕ → Table HeadEnd
height_next format colour tile_width tile_height = size_fields (tile_count (grid_with format tile_width tile_height)) (end_table colour)

abbrev width_next : Format → ℕ → ℕ → Table HeadEnd
width_next format colour tile_width = field 20 (breaks V8) (check_tiles format tile_width) (height_next format colour tile_width)

abbrev colour_next : Format → ℕ → Table HeadEnd
colour_next format colour = matrix_fields (comps_of format.chroma) (free 20 (width_next format colour))

abbrev format_next : Format → Table HeadEnd
format_next format = reserved 8 (colour_fields (colour_next format))

-- the values of a header from a part on
abbrev end_values : List ℕ
end_values = 0 ∷ 0 ∷ []

abbrev tile_part : FrameHeader → List ℕ → List ℕ
tile_part h sizes = h.tile_width ∷ h.tile_height ∷ (size_values h.sizes_present sizes ++ end_values)

abbrev matrix_part : FrameHeader → List ℕ → List ℕ
matrix_part h sizes = matrix_values h.use_matrix (header_comps h) h.matrices ++ tile_part h sizes

abbrev colour_part : FrameHeader → List ℕ → List ℕ
colour_part h sizes = colour_values h.colour ++ matrix_part h sizes

values-nested : (h : FrameHeader) (sizes : List ℕ) → header_values h sizes ≡ info_values h.info ++ (0 ∷ colour_part h sizes)
values-nested h sizes =
    nested (info_values h.info) (0 ∷ []) (colour_values h.colour) (matrix_values h.use_matrix (header_comps h) h.matrices) (h.tile_width ∷ h.tile_height ∷ []) (size_values h.sizes_present sizes) (0 ∷ 0 ∷ [])

-- matrices that are sound have 64 values each
stated-long : (h : FrameHeader) → IsSoundHeader h → length (concat (take (header_comps h) h.matrices)) ≡ 64 * header_comps h
stated-long h sound = length-matrices (header_comps h) h.matrices (omega (arith, sound.four, comps-few h.info.chroma)) sound.each

pass-parts : (h : FrameHeader) (sizes : List ℕ) (left : ℕ) → IsSoundHeader h → (h.sizes_present ≡ true → length sizes ≡ tile_count (grid_of h)) → AllByRecursion (λ (size : ℕ). size < 2 ^ 32) sizes
    → Passes 2 header_table (info_values h.info ++ (0 ∷ colour_part h sizes)) left
pass-parts h sizes left sound len all =
    let format : Format = format_of h.info in
    let colour : ℕ = colour_bit h.colour in
    let tiles : head_end (tile_rule (grid_with format h.tile_width h.tile_height)) ≡ None = ap head_end sound.tiles in
    let last : Passes 2 (end_table colour) end_values left = (refl, lit< tt, refl, (refl, power_above 2 (padding (155 + 25 * colour)) (lit< tt), refl, refl)) in
    let from_sizes = pass-sizes (tile_count (grid_of h)) (end_table colour) h.sizes_present sizes end_values left len all last in
    let from_tiles : Passes 2 (free 20 (width_next format colour)) (tile_part h sizes) left = (refl, sound.width, refl, (refl, sound.height, tiles, from_sizes)) in
    let from_matrices = pass-matrices (header_comps h) (free 20 (width_next format colour)) h.use_matrix h.matrices (tile_part h sizes) left (stated-long h sound) sound.each from_tiles in
    let from_colour = pass-colour (colour_next format) h.colour (matrix_part h sizes) left sound.colour from_matrices in
    let from_reserved : Passes 2 (format_next format) (0 ∷ colour_part h sizes) left = (refl, lit< tt, refl, from_colour) in
    pass-info format_next h.info (0 ∷ colour_part h sizes) left sound.info from_reserved

-- the values of a sound header pass its fields
pub pass-header : (h : FrameHeader) (sizes : List ℕ) (left : ℕ) → IsSoundHeader h → (h.sizes_present ≡ true → length sizes ≡ tile_count (grid_of h)) → AllByRecursion (λ (size : ℕ). size < 2 ^ 32) sizes
    → Passes 2 header_table (header_values h sizes) left
pass-header h sizes left sound len all = subst (λ (vs : List ℕ). Passes 2 header_table vs left) (sym (values-nested h sizes)) (pass-parts h sizes left sound len all)

-- ---- its bits

end-long : (blank pad : List ℕ) (n : ℕ) → length blank ≡ 8 → length pad ≡ n → length (blank ++ (pad ++ [])) ≡ 8 + n
end-long blank pad n e f = omega (arith, length-append blank (pad ++ []), length-append pad [], e, f)

length-end : (colour : ℕ) → length (spell 2 (end_table colour) end_values) ≡ 8 + padding (155 + 25 * colour)
unfolding spell
length-end colour = end-long (bin 8 0) (bin (padding (155 + 25 * colour)) 0) (padding (155 + 25 * colour)) (length-bin 8 0) (length-bin (padding (155 + 25 * colour)) 0)

twice-twenty : (n m k : ℕ) → n ≡ 20 + m → m ≡ 20 + k → n ≡ 40 + k
twice-twenty n m k e f = omega arith

length-tiles : (format : Format) (colour w h : ℕ) (later : List ℕ) → length (spell 2 (free 20 (width_next format colour)) (w ∷ h ∷ later)) ≡ 40 + length (spell 2 (height_next format colour w h) later)
length-tiles format colour w h later =
    twice-twenty _ _ _ (length-field 2 20 (breaks V8) no_check (width_next format colour) w (h ∷ later)) (length-field 2 20 (breaks V8) (check_tiles format w) (height_next format colour w) h later)

length-reserved : (format : Format) (later : List ℕ) → length (spell 2 (format_next format) (0 ∷ later)) ≡ 8 + length (spell 2 (colour_fields (colour_next format)) later)
length-reserved format later = length-field 2 8 (breaks V8) (must_be_zero (breaks V14)) (λ blank. colour_fields (colour_next format)) 0 later

length-parts : (h : FrameHeader) (sizes : List ℕ) → IsSoundHeader h → (h.sizes_present ≡ true → length sizes ≡ tile_count (grid_of h))
    → length (spell 2 header_table (info_values h.info ++ (0 ∷ colour_part h sizes)))
    ≡ 96 + (8 + (1 + 25 * colour_bit h.colour + (1 + 8 * matrix_bytes h.use_matrix (header_comps h) + (40 + (1 + 32 * size_words h.sizes_present (tile_count (grid_of h)) + (8 + padding (155 + 25 * colour_bit h.colour)))))))
length-parts h sizes sound len =
    let format : Format = format_of h.info in
    let colour : ℕ = colour_bit h.colour in
    length-info format_next h.info (0 ∷ colour_part h sizes) sound.info
    ∙ ap (λ (k : ℕ). 96 + k)
    (length-reserved format (colour_part h sizes)
    ∙ ap (λ (k : ℕ). 8 + k)
    (length-colour (colour_next format) h.colour (matrix_part h sizes)
    ∙ ap (λ (k : ℕ). 1 + 25 * colour + k)
    (length-stated (header_comps h) (free 20 (width_next format colour)) h.use_matrix h.matrices (tile_part h sizes) (stated-long h sound)
    ∙ ap (λ (k : ℕ). 1 + 8 * matrix_bytes h.use_matrix (header_comps h) + k)
    (length-tiles format colour h.tile_width h.tile_height (size_values h.sizes_present sizes ++ end_values)
    ∙ ap (λ (k : ℕ). 40 + k)
    (length-sizes (tile_count (grid_of h)) (end_table colour) h.sizes_present sizes end_values len
    ∙ ap (λ (k : ℕ). 1 + 32 * size_words h.sizes_present (tile_count (grid_of h)) + k) (length-end colour))))))

whole-sum : (n colour matrices sizes : ℕ) → n ≡ 96 + (8 + (1 + 25 * colour + (1 + 8 * matrices + (40 + (1 + 32 * sizes + (8 + padding (155 + 25 * colour))))))) → padding n ≡ 0
whole-sum n colour matrices sizes e = omega (arith, e)

-- the bits of a header fill whole bytes
pub whole-header : (h : FrameHeader) (sizes : List ℕ) → IsSoundHeader h → (h.sizes_present ≡ true → length sizes ≡ tile_count (grid_of h)) → padding (length (spell 2 header_table (header_values h sizes))) ≡ 0
whole-header h sizes sound len =
    whole-sum (length (spell 2 header_table (header_values h sizes))) (colour_bit h.colour) (matrix_bytes h.use_matrix (header_comps h)) (size_words h.sizes_present (tile_count (grid_of h)))
    (ap (λ (vs : List ℕ). length (spell 2 header_table vs)) (values-nested h sizes) ∙ length-parts h sizes sound len)

-- ---- a header has numbers alone

numbers-colour : (next : ℕ → Table HeadEnd) (colour : Option Colour) (later : List ℕ) → HasNumbersAlone (next (colour_bit colour)) later → HasNumbersAlone (colour_fields next) (colour_values colour ++ later)
numbers-colour next None later p = p
numbers-colour next (Some colour) later p = p

numbers-matrices : (comps : ℕ) (next : Table HeadEnd) (used : Bool) (matrices : List (List ℕ)) (later : List ℕ) → length (concat (take comps matrices)) ≡ 64 * comps → HasNumbersAlone next later
    → HasNumbersAlone (matrix_fields comps next) (matrix_values used comps matrices ++ later)
numbers-matrices comps next false matrices later len p = p
numbers-matrices comps next true matrices later len p = numbers-in-fields (64 * comps) 8 (breaks V8) check_matrix_value (λ values. next) (concat (take comps matrices)) later len p

numbers-sizes : (count : ℕ) (next : Table HeadEnd) (present : Bool) (sizes later : List ℕ) → (present ≡ true → length sizes ≡ count) → HasNumbersAlone next later → HasNumbersAlone (size_fields count next) (size_values present sizes ++ later)
numbers-sizes count next false sizes later len p = p
numbers-sizes count next true sizes later len p = numbers-in-fields count 32 (breaks V8) no_check (λ values. next) sizes later (len refl) p

numbers-info : (next : Format → Table HeadEnd) (info : FrameInfo) (later : List ℕ) → IsSoundInfo info → HasNumbersAlone (next (format_of info)) later → HasNumbersAlone (info_fields true next) (info_values info ++ later)
numbers-info next info later sound p = subst (λ (f : Format). HasNumbersAlone (next f) later) (sym (read-format info sound)) p

numbers-parts : (h : FrameHeader) (sizes : List ℕ) → IsSoundHeader h → (h.sizes_present ≡ true → length sizes ≡ tile_count (grid_of h)) → HasNumbersAlone header_table (info_values h.info ++ (0 ∷ colour_part h sizes))
numbers-parts h sizes sound len =
    let format : Format = format_of h.info in
    let colour : ℕ = colour_bit h.colour in
    let from_sizes = numbers-sizes (tile_count (grid_of h)) (end_table colour) h.sizes_present sizes end_values len tt in
    let from_matrices = numbers-matrices (header_comps h) (free 20 (width_next format colour)) h.use_matrix h.matrices (tile_part h sizes) (stated-long h sound) from_sizes in
    let from_colour = numbers-colour (colour_next format) h.colour (matrix_part h sizes) from_matrices in
    numbers-info format_next h.info (0 ∷ colour_part h sizes) sound.info from_colour

-- the bits of a header are bits
pub digits-header : (h : FrameHeader) (sizes : List ℕ) → IsSoundHeader h → (h.sizes_present ≡ true → length sizes ≡ tile_count (grid_of h)) → AreDigits 2 (spell 2 header_table (header_values h sizes))
digits-header h sizes sound len =
    digits-spelled 2 header_table (header_values h sizes) (lit< tt) (subst (λ (vs : List ℕ). HasNumbersAlone header_table vs) (sym (values-nested h sizes)) (numbers-parts h sizes sound len))
