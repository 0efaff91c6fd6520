-- A Y4M file has a header, or a fault.
use Rattle.std.proofs.Common.{◌≡◌, ◌≢◌, ℕ, ◌⊎◌, inl, inr, List, [], ◌∷◌, ◌++◌, length, take, drop, refl, sym, ap, ◌∙◌, subst, arith, Option, Some, None, true, false, cond, nat_eq}
use Rattle.std.specs.Prelude.{codes, slice_index}
use Rattle.std.specs.List.{list_all}
use Rattle.std.specs.Str.Parse.{digits_value}
use Rattle.std.proofs.lemmas.Bool.{cases_Bool, cases_eq, cases_lt}
use Rattle.std.proofs.lemmas.List.{append_cancel_left, take-append-drop, take_at}
use Rattle.apv_base.specs.declared.exits.VideoRule.TheVariants.{Header, Tag, Size}
use Rattle.apv_base.specs.declared.format.Chroma.{Chroma}
use Rattle.apv_base.specs.declared.format.Chroma.TheVariants.{C400, C422, C444, C4444}
use Rattle.apv_base.specs.declared.format.Format.{Format}
use Rattle.apv_base.specs.declared.rules.Limit.TheVariants.{L2}
use Rattle.apv_base.specs.model.Format.{macroblocks, MAX_MACROBLOCKS}
use Rattle.apv_base.specs.model.Video.{VideoFault, bad, over, tag_for, LineAt, tokens, with_letter, letter_w, letter_h, letter_c, is_digit, IsSize, IsHeaderLine, is_bad_video_size, NamesFormat, VideoHeaderAt, VideoHeaderBreaks, no_line, other_form, no_tag, bad_size, wide}
use Rattle.apv_base.proofs.TableLemmas.{chosen}
use Rattle.apv_encoding.proofs.OneHeaderLemmas.{one-header-line, same-first}
use Rattle.apv_encoding.proofs.SomePictureLemmas.{line-at-or, cases_list}

-- ---- sizes

-- a proposition holds or doesn't
abbrev Either : Type 0 → Type 0
Either P = P ⊎ (P → ⊥)

size-or : (token : List ℕ) → Either ((number : ℕ) × IsSize token number)
size-or token = elim (cases_lt (length token) 2) [
  | inl lt ↦ inr (λ size. absurd (omega (arith, lt, size.1.some)))
  | inr some ↦ elim (cases_lt 9 (length token)) [
    | inl lt ↦ inr (λ size. absurd (omega (arith, lt, size.1.few)))
    | inr few ↦ elim (cases_Bool (list_all is_digit (drop 1 token))) [
      | inl digits ↦ inl (digits_value 10 (drop 1 token), record { some = some; few = few; digits = digits; is = refl })
      | inr none ↦ inr (λ size. let both : true ≡ false = sym size.1.digits ∙ none in let no : ⊥ = cc (both) in no)
    ]
  ]
]

-- a list is one item
one-item-or : (tokens : List (List ℕ)) → Either ((token : List ℕ) × (tokens ≡ token ∷ []))
one-item-or [] = inr (λ one. absurd (omega (arith, ap (length {A = List ℕ}) one.1)))
one-item-or (token ∷ []) = inl (token, refl)
one-item-or (token ∷ other ∷ tokens) = inr (λ one. absurd (omega (arith, ap (length {A = List ℕ}) one.1)))

-- one token of a letter with a size
record HasSizeOf (letter : ℕ) (rest : List ℕ) : Type 0 where
  token : List ℕ
  number : ℕ
  one : with_letter letter (tokens rest) ≡ token ∷ []
  is : IsSize token number

size-of-token : (letter : ℕ) (rest token : List ℕ) → with_letter letter (tokens rest) ≡ token ∷ [] → Either (HasSizeOf letter rest)
size-of-token letter rest token e = elim (size-or token) [
  | inl size ↦ inl (record { token = token; number = size.0; one = e; is = size.1 })
  | inr none ↦ inr (λ has. none (has.number, subst (λ (t : List ℕ). IsSize t has.number) (same-first has.token token (sym has.one ∙ e)) has.is))
]

size-of-or : (letter : ℕ) (rest : List ℕ) → Either (HasSizeOf letter rest)
size-of-or letter rest = elim (one-item-or (with_letter letter (tokens rest))) [
  | inl one ↦ size-of-token letter rest one.0 one.1
  | inr none ↦ inr (λ has. none (has.token, has.one))
]

-- ---- header lines

-- a header line with its numbers
record SomeLine (line : List ℕ) : Type 0 where
  width : ℕ
  height : ℕ
  tags : List (List ℕ)
  is : IsHeaderLine line width height tags

abbrev LineIs : List ℕ → Type 0
LineIs line = SomeLine line ⊎ ((width height : ℕ) (tags : List (List ℕ)) → IsHeaderLine line width height tags → ⊥)

-- what follows the name is one
rest-is : (line rest : List ℕ) (width height : ℕ) (tags : List (List ℕ)) → line ≡ codes "YUV4MPEG2" ++ rest → (is : IsHeaderLine line width height tags) → is.rest ≡ rest
rest-is line rest width height tags e is = append_cancel_left (codes "YUV4MPEG2") is.rest rest (sym is.named ∙ e)

size-there : (letter : ℕ) (rest other token : List ℕ) (number : ℕ) → other ≡ rest → with_letter letter (tokens other) ≡ token ∷ [] → IsSize token number → HasSizeOf letter rest
size-there letter rest other token number e one is = record { token = token; number = number; one = ap (λ (r : List ℕ). with_letter letter (tokens r)) (sym e) ∙ one; is = is }

line-of-sizes : (line rest : List ℕ) → line ≡ codes "YUV4MPEG2" ++ rest → (rest ≢ [] → slice_index rest 0 ≡ 32) → HasSizeOf letter_w rest → HasSizeOf letter_h rest → LineIs line
line-of-sizes line rest e divided w h = elim (cases_lt 1 (length (with_letter letter_c (tokens rest)))) [
  | inl many ↦ inr (λ width height tags is. absurd (omega (arith, many, is.few, ap (length {A = List ℕ}) (sym is.all_tags ∙ ap (λ (r : List ℕ). with_letter letter_c (tokens r)) (rest-is line rest width height tags e is)))))
  | inr few ↦ inl (record {
    width = w.number;
    height = h.number;
    tags = with_letter letter_c (tokens rest);
    is = record { rest = rest; named = e; divided = divided; w = w.token; h = h.token; one_w = w.one; one_h = h.one; w_is = w.is; h_is = h.is; all_tags = refl; few = few };
  })
]

line-of-divided : (line rest : List ℕ) → line ≡ codes "YUV4MPEG2" ++ rest → (rest ≢ [] → slice_index rest 0 ≡ 32) → LineIs line
line-of-divided line rest e divided = elim (size-of-or letter_w rest) [
  | inr none ↦ inr (λ width height tags is. none (size-there letter_w rest is.rest is.w width (rest-is line rest width height tags e is) is.one_w is.w_is))
  | inl w ↦ elim (size-of-or letter_h rest) [
    | inr none ↦ inr (λ width height tags is. none (size-there letter_h rest is.rest is.h height (rest-is line rest width height tags e is) is.one_h is.h_is))
    | inl h ↦ line-of-sizes line rest e divided w h
  ]
]

divided-or : (rest : List ℕ) → Either (rest ≢ [] → slice_index rest 0 ≡ 32)
divided-or [] = inl (λ some. absurd (some refl))
divided-or (x ∷ rest) = elim (cases_eq x 32) [
  | inl e ↦ inl (λ some. e)
  | inr ne ↦ inr (λ divided. ne (divided (λ none. absurd (omega (arith, ap (length {A = ℕ}) none)))))
]

line-of-rest : (line rest : List ℕ) → line ≡ codes "YUV4MPEG2" ++ rest → LineIs line
line-of-rest line rest e = elim (divided-or rest) [
  | inl divided ↦ line-of-divided line rest e divided
  | inr none ↦ inr (λ width height tags is. none (subst (λ (r : List ℕ). r ≢ [] → slice_index r 0 ≡ 32) (rest-is line rest width height tags e is) is.divided))
]

line-or : (line : List ℕ) → LineIs line
line-or line = elim (cases_list (take 9 line) (codes "YUV4MPEG2")) [
  | inl e ↦ line-of-rest line (drop 9 line) (sym (take-append-drop 9 line) ∙ ap (λ (l : List ℕ). l ++ drop 9 line) e)
  | inr ne ↦ inr (λ width height tags is. ne (ap (take 9) is.named ∙ take_at (codes "YUV4MPEG2") is.rest 9 refl))
]

-- ---- tags

tag-at : (chroma : Chroma) (depth : ℕ) (made tag : List ℕ) → tag_for chroma depth ≡ Some made → made ≡ tag → tag_for chroma depth ≡ Some tag
tag-at chroma depth made tag e f = subst (λ (t : List ℕ). tag_for chroma depth ≡ Some t) f e

-- a chroma format and a bit depth of a tag
abbrev TagOf : List ℕ → Type 0
TagOf tag = (chroma : Chroma) × (depth : ℕ) × (tag_for chroma depth ≡ Some tag)

-- a tag is one of these
record IsOther (tag : List ℕ) : Type 0 where
  grey : codes "Cmono10" ≢ tag
  c422_10 : codes "C422p10" ≢ tag
  c422_12 : codes "C422p12" ≢ tag
  c444_10 : codes "C444p10" ≢ tag
  c444_12 : codes "C444p12" ≢ tag

some-tag : (x y : List ℕ) → ◌≡◌ {A = Option (List ℕ)} (Some x) (Some y) → x ≡ y
some-tag x y e = cc

none-tag : {A : Type 0} (tag : List ℕ) → ◌≡◌ {A = Option (List ℕ)} None (Some tag) → A
none-tag tag e = absurd (let no : ⊥ = cc in no)

other-two : (depth : ℕ) (ten twelve tag : List ℕ) → ten ≢ tag → twelve ≢ tag → cond (nat_eq depth 10) (Some ten) (cond (nat_eq depth 12) (Some twelve) None) ≡ Some tag → ⊥
other-two depth ten twelve tag a b e = elim (chosen (nat_eq depth 10) _ _ _ e) [
  | inl t ↦ a (some-tag ten tag t.1)
  | inr t ↦ elim (chosen (nat_eq depth 12) _ _ _ t.1) [
    | inl u ↦ b (some-tag twelve tag u.1)
    | inr u ↦ none-tag tag u.1
  ]
]

other-one : (depth : ℕ) (ten tag : List ℕ) → ten ≢ tag → cond (nat_eq depth 10) (Some ten) None ≡ Some tag → ⊥
other-one depth ten tag a e = elim (chosen (nat_eq depth 10) _ _ _ e) [
  | inl t ↦ a (some-tag ten tag t.1)
  | inr t ↦ none-tag tag t.1
]

other-tag : (tag : List ℕ) → IsOther tag → (chroma : Chroma) (depth : ℕ) → tag_for chroma depth ≡ Some tag → ⊥
other-tag tag other C400 depth e = other-one depth (codes "Cmono10") tag other.grey e
other-tag tag other C422 depth e = other-two depth (codes "C422p10") (codes "C422p12") tag other.c422_10 other.c422_12 e
other-tag tag other C444 depth e = other-two depth (codes "C444p10") (codes "C444p12") tag other.c444_10 other.c444_12 e
other-tag tag other C4444 depth e = none-tag tag e

tag-or : (tag : List ℕ) → TagOf tag ⊎ ((chroma : Chroma) (depth : ℕ) → tag_for chroma depth ≡ Some tag → ⊥)
tag-or tag = elim (cases_list (codes "Cmono10") tag) [
  | inl e ↦ inl (C400, 10, tag-at C400 10 (codes "Cmono10") tag refl e)
  | inr a ↦ elim (cases_list (codes "C422p10") tag) [
    | inl e ↦ inl (C422, 10, tag-at C422 10 (codes "C422p10") tag refl e)
    | inr b ↦ elim (cases_list (codes "C422p12") tag) [
      | inl e ↦ inl (C422, 12, tag-at C422 12 (codes "C422p12") tag refl e)
      | inr c ↦ elim (cases_list (codes "C444p10") tag) [
        | inl e ↦ inl (C444, 10, tag-at C444 10 (codes "C444p10") tag refl e)
        | inr d ↦ elim (cases_list (codes "C444p12") tag) [
          | inl e ↦ inl (C444, 12, tag-at C444 12 (codes "C444p12") tag refl e)
          | inr f ↦ inr (other-tag tag (record { grey = a; c422_10 = b; c422_12 = c; c444_10 = d; c444_12 = f }))
        ]
      ]
    ]
  ]
]

-- ---- formats

abbrev NamesOr : List ℕ → Type 0
NamesOr line = ((format : Format) × NamesFormat line format) ⊎ ((format : Format) → NamesFormat line format → ⊥)

tags-are : (line : List ℕ) (width height : ℕ) (tags : List (List ℕ)) (format : Format) → IsHeaderLine line width height tags → (names : NamesFormat line format) → tags ≡ names.tag ∷ []
tags-are line width height tags format is names = (one-header-line line width height tags format.width format.height (names.tag ∷ []) is names.is).all_tags

names-of : (line : List ℕ) (width height : ℕ) (tags : List (List ℕ)) → IsHeaderLine line width height tags → NamesOr line
names-of line width height [] is = inr (λ format names. absurd (omega (arith, ap (length {A = List ℕ}) (tags-are line width height [] format is names))))
names-of line width height (tag ∷ other ∷ tags) is = absurd (omega (arith, is.few))
names-of line width height (tag ∷ []) is = elim (tag-or tag) [
  | inl of_tag ↦ inl (record { width = width; height = height; chroma = of_tag.0; depth = of_tag.1 }, record { tag = tag; is = is; known = of_tag.2 })
  | inr none ↦ inr (λ format names. none format.chroma format.depth (names.known ∙ ap (λ (t : List ℕ). Some t) (sym (same-first tag names.tag (tags-are line width height (tag ∷ []) format is names)))))
]

abbrev HeaderOr : List ℕ → Type 0
HeaderOr xs = ((format : Format) × (after : List ℕ) × VideoHeaderAt xs format after) ⊎ ((fault : VideoFault) × VideoHeaderBreaks xs fault)

header-of-format : (xs line after : List ℕ) (format : Format) → LineAt xs line after → NamesFormat line format → HeaderOr xs
header-of-format xs line after format at names = elim (cases_Bool (is_bad_video_size format)) [
  | inl wrong ↦ inr (bad Size, bad_size line after format at names wrong)
  | inr good ↦ elim (cases_lt MAX_MACROBLOCKS (macroblocks format)) [
    | inl many ↦ inr (over L2 (macroblocks format), wide line after format at names good many)
    | inr few ↦ inl (format, after, record { line = line; line_at = at; names = names; size = good; few = few })
  ]
]

header-of-line : (xs line after : List ℕ) → LineAt xs line after → SomeLine line → HeaderOr xs
header-of-line xs line after at has = elim (names-of line has.width has.height has.tags has.is) [
  | inl names ↦ header-of-format xs line after names.0 at names.1
  | inr none ↦ inr (bad Tag, no_tag line after has.width has.height has.tags at has.is none)
]

header-at-line : (xs line after : List ℕ) → LineAt xs line after → HeaderOr xs
header-at-line xs line after at = elim (line-or line) [
  | inl has ↦ header-of-line xs line after at has
  | inr none ↦ inr (bad Header, other_form line after at none)
]

pub header-or : (xs : List ℕ) → HeaderOr xs
header-or xs = elim (line-at-or xs) [
  | inl line ↦ header-at-line xs line.0 line.1 line.2
  | inr none ↦ inr (bad Header, no_line none)
]
