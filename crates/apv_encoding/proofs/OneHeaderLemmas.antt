-- A Y4M file has one header, or one fault, and not both.
use Rattle.std.proofs.Common.{◌≡◌, ℕ, ◌-◌, inl, inr, List, [], ◌∷◌, refl, sym, ap, ap₂, ◌∙◌, subst, arith, Option, Some, None, true, false, cond, nat_eq, drop}
use Rattle.std.specs.Prelude.{codes, slice_index, if◌then◌else◌}
use Rattle.std.specs.Str.Parse.{digits_value}
use Rattle.std.proofs.lemmas.Bool.{eqb-true}
use Rattle.std.proofs.lemmas.List.{append_cancel_left}
use Rattle.apv_base.specs.declared.format.Chroma.{Chroma}
use Rattle.apv_base.specs.declared.format.Chroma.TheVariants.{C400, C422, C444, C4444}
use Rattle.apv_base.specs.declared.format.Format.{Format}
use Rattle.apv_base.specs.declared.rules.Limit.TheVariants.{L2}
use Rattle.apv_base.specs.model.Format.{macroblocks}
use Rattle.apv_base.specs.model.Video.{VideoFault, over, tag_for, LineAt, tokens, with_letter, letter_w, letter_h, letter_c, IsSize, IsHeaderLine, is_bad_video_size, NamesFormat, VideoHeaderAt, VideoHeaderBreaks, no_line, other_form, no_tag, bad_size, wide}
use Rattle.apv_base.proofs.TableLemmas.{chosen}
use Rattle.apv_encoding.proofs.PictureLemmas.{one-line}

-- ---- tags

-- the chroma format and the bit depth of a tag, by its third and its seventh byte
abbrev chroma_in_tag : List ℕ → Chroma
chroma_in_tag tag = if nat_eq (slice_index tag 2) 111 then C400 else (if nat_eq (slice_index tag 2) 50 then C422 else C444)

abbrev depth_in_tag : List ℕ → ℕ
depth_in_tag tag = slice_index tag 6 - 38

-- a tag says what it was made of
record Says (tag : List ℕ) (chroma : Chroma) (depth : ℕ) : Type 0 where
  chroma_is : chroma ≡ chroma_in_tag tag
  depth_is : depth ≡ depth_in_tag tag

says-by : (made tag : List ℕ) (chroma : Chroma) (depth : ℕ) → Says made chroma depth → ◌≡◌ {A = Option (List ℕ)} (Some made) (Some tag) → Says tag chroma depth
says-by made tag chroma depth says e = let same : made ≡ tag = cc in subst (λ (t : List ℕ). Says t chroma depth) same says

none-says : {A : Type 0} (tag : List ℕ) → ◌≡◌ {A = Option (List ℕ)} None (Some tag) → A
none-says tag e = absurd (let no : ⊥ = cc in no)

-- of a tag for two depths
by-depth : (chroma : Chroma) (depth : ℕ) (ten twelve tag : List ℕ) → Says ten chroma 10 → Says twelve chroma 12 → cond (nat_eq depth 10) (Some ten) (cond (nat_eq depth 12) (Some twelve) None) ≡ Some tag → Says tag chroma depth
by-depth chroma depth ten twelve tag a b e = elim (chosen (nat_eq depth 10) _ _ _ e) [
  | inl t ↦ subst (λ (d : ℕ). Says tag chroma d) (sym (eqb-true depth 10 t.0)) (says-by ten tag chroma 10 a t.1)
  | inr t ↦ elim (chosen (nat_eq depth 12) _ _ _ t.1) [
    | inl u ↦ subst (λ (d : ℕ). Says tag chroma d) (sym (eqb-true depth 12 u.0)) (says-by twelve tag chroma 12 b u.1)
    | inr u ↦ none-says tag u.1
  ]
]

by-ten : (depth : ℕ) (tag : List ℕ) → cond (nat_eq depth 10) (Some (codes "Cmono10")) None ≡ Some tag → Says tag C400 depth
by-ten depth tag e = elim (chosen (nat_eq depth 10) _ _ _ e) [
  | inl t ↦ subst (λ (d : ℕ). Says tag C400 d) (sym (eqb-true depth 10 t.0)) (says-by (codes "Cmono10") tag C400 10 (record { chroma_is = refl; depth_is = refl }) t.1)
  | inr t ↦ none-says tag t.1
]

tag-says : (chroma : Chroma) (depth : ℕ) (tag : List ℕ) → tag_for chroma depth ≡ Some tag → Says tag chroma depth
tag-says C400 depth tag e = by-ten depth tag e
tag-says C422 depth tag e = by-depth C422 depth (codes "C422p10") (codes "C422p12") tag (record { chroma_is = refl; depth_is = refl }) (record { chroma_is = refl; depth_is = refl }) e
tag-says C444 depth tag e = by-depth C444 depth (codes "C444p10") (codes "C444p12") tag (record { chroma_is = refl; depth_is = refl }) (record { chroma_is = refl; depth_is = refl }) e
tag-says C4444 depth tag e = none-says tag e

-- ---- header lines

same-size : (w x : List ℕ) (m n : ℕ) → w ≡ x → IsSize w m → IsSize x n → m ≡ n
same-size w x m n e a b = a.is ∙ ap (λ (t : List ℕ). digits_value 10 (drop 1 t)) e ∙ sym b.is

pub same-first : (w x : List ℕ) → ◌≡◌ {A = List (List ℕ)} (w ∷ []) (x ∷ []) → w ≡ x
same-first w x e = cc

pub record SameLine (width height : ℕ) (tags : List (List ℕ)) (width' height' : ℕ) (tags' : List (List ℕ)) : Type 0 where
  pub widths : width ≡ width'
  pub heights : height ≡ height'
  pub all_tags : tags ≡ tags'

pub one-header-line : (line : List ℕ) (width height : ℕ) (tags : List (List ℕ)) (width' height' : ℕ) (tags' : List (List ℕ)) → IsHeaderLine line width height tags → IsHeaderLine line width' height' tags' → SameLine width height tags width' height' tags'
one-header-line line width height tags width' height' tags' a b =
    let rest : a.rest ≡ b.rest = append_cancel_left (codes "YUV4MPEG2") a.rest b.rest (sym a.named ∙ b.named) in
    let w : a.w ≡ b.w = same-first a.w b.w (sym a.one_w ∙ ap (λ (r : List ℕ). with_letter letter_w (tokens r)) rest ∙ b.one_w) in
    let h : a.h ≡ b.h = same-first a.h b.h (sym a.one_h ∙ ap (λ (r : List ℕ). with_letter letter_h (tokens r)) rest ∙ b.one_h) in
    record {
      widths = same-size a.w b.w width width' w a.w_is b.w_is;
      heights = same-size a.h b.h height height' h a.h_is b.h_is;
      all_tags = sym a.all_tags ∙ ap (λ (r : List ℕ). with_letter letter_c (tokens r)) rest ∙ b.all_tags;
    }

one-by-parts : (f g : Format) → f.width ≡ g.width → f.height ≡ g.height → f.chroma ≡ g.chroma → f.depth ≡ g.depth → f ≡ g
one-by-parts f g w h c d =
    let one : ◌≡◌ {A = Format} f (record { width = g.width; height = g.height; chroma = f.chroma; depth = f.depth }) = ap₂ {C = Format} (λ (x y : ℕ). record { width = x; height = y; chroma = f.chroma; depth = f.depth }) w h in
    let two : ◌≡◌ {A = Format} (record { width = g.width; height = g.height; chroma = f.chroma; depth = f.depth }) g = ap₂ {C = Format} (λ (x : Chroma) (y : ℕ). record { width = g.width; height = g.height; chroma = x; depth = y }) c d in
    one ∙ two

one-named : (line : List ℕ) (f g : Format) → NamesFormat line f → NamesFormat line g → f ≡ g
one-named line f g a b =
    let same = one-header-line line f.width f.height (a.tag ∷ []) g.width g.height (b.tag ∷ []) a.is b.is in
    let tag : a.tag ≡ b.tag = same-first a.tag b.tag same.all_tags in
    let p = tag-says f.chroma f.depth a.tag a.known in
    let q = tag-says g.chroma g.depth b.tag b.known in
    one-by-parts f g same.widths same.heights (p.chroma_is ∙ ap chroma_in_tag tag ∙ sym q.chroma_is) (p.depth_is ∙ ap depth_in_tag tag ∙ sym q.depth_is)

-- ---- headers

pub named-along : (line other : List ℕ) (format : Format) → line ≡ other → NamesFormat line format → NamesFormat other format
named-along line other format e names = subst (λ (l : List ℕ). NamesFormat l format) e names

pub one-video-header : (xs : List ℕ) (f g : Format) (a b : List ℕ) → VideoHeaderAt xs f a → VideoHeaderAt xs g b → (f ≡ g) × (a ≡ b)
one-video-header xs f g a b p q =
    let one = one-line xs p.line q.line a b p.line_at q.line_at in
    (one-named q.line f g (named-along p.line q.line f one.0 p.names) q.names, one.1)

-- two lines at one place are one
same-line : (xs line other after rest : List ℕ) → LineAt xs line after → LineAt xs other rest → line ≡ other
same-line xs line other after rest a b = (one-line xs line other after rest a b).0

pub header-or-fault : {A : Type 0} (xs : List ℕ) (format : Format) (after : List ℕ) (fault : VideoFault) → VideoHeaderAt xs format after → VideoHeaderBreaks xs fault → A
header-or-fault xs format after fault p (no_line none) = absurd (none p.line after p.line_at)
header-or-fault xs format after fault p (other_form line rest at none) =
    let names = named-along p.line line format (same-line xs p.line line after rest p.line_at at) p.names in absurd (none format.width format.height (names.tag ∷ []) names.is)
header-or-fault xs format after fault p (no_tag line rest width height tags at is none) = absurd (none format (named-along p.line line format (same-line xs p.line line after rest p.line_at at) p.names))
header-or-fault xs format after fault p (bad_size line rest other at names is_bad) =
    let one : format ≡ other = one-named line format other (named-along p.line line format (same-line xs p.line line after rest p.line_at at) p.names) names in
    let both : false ≡ true = sym p.size ∙ ap is_bad_video_size one ∙ is_bad in absurd (let no : ⊥ = cc (both) in no)
header-or-fault xs format after fault p (wide line rest other at names good many) =
    let one : format ≡ other = one-named line format other (named-along p.line line format (same-line xs p.line line after rest p.line_at at) p.names) names in
    absurd (omega (arith, p.few, many, ap macroblocks one))

line-at-all : {A : Type 0} (xs line after : List ℕ) → ((l a : List ℕ) → LineAt xs l a → ⊥) → LineAt xs line after → A
line-at-all xs line after none at = absurd (none line after at)

form-or-names : {A : Type 0} (xs line other after rest : List ℕ) (format : Format) → LineAt xs line after → ((width height : ℕ) (tags : List (List ℕ)) → IsHeaderLine line width height tags → ⊥) → LineAt xs other rest → NamesFormat other format → A
form-or-names xs line other after rest format at none at' names =
    let here = named-along other line format (same-line xs other line rest after at' at) names in absurd (none format.width format.height (here.tag ∷ []) here.is)

form-or-line : {A : Type 0} (xs line other after rest : List ℕ) (width height : ℕ) (tags : List (List ℕ)) → LineAt xs line after → ((width height : ℕ) (tags : List (List ℕ)) → IsHeaderLine line width height tags → ⊥) → LineAt xs other rest → IsHeaderLine other width height tags → A
form-or-line xs line other after rest width height tags at none at' is = absurd (none width height tags (subst (λ (l : List ℕ). IsHeaderLine l width height tags) (same-line xs other line rest after at' at) is))

tag-or-names : {A : Type 0} (xs line other after rest : List ℕ) (format : Format) → LineAt xs line after → ((f : Format) → NamesFormat line f → ⊥) → LineAt xs other rest → NamesFormat other format → A
tag-or-names xs line other after rest format at none at' names = absurd (none format (named-along other line format (same-line xs other line rest after at' at) names))

same-named : (xs line other after rest : List ℕ) (f g : Format) → LineAt xs line after → NamesFormat line f → LineAt xs other rest → NamesFormat other g → f ≡ g
same-named xs line other after rest f g at names at' names' = one-named other f g (named-along line other f (same-line xs line other after rest at at') names) names'

size-or-good : {A : Type 0} (f g : Format) → f ≡ g → is_bad_video_size f ≡ true → is_bad_video_size g ≡ false → A
size-or-good f g e p q = let both : true ≡ false = sym p ∙ ap is_bad_video_size e ∙ q in absurd (let no : ⊥ = cc (both) in no)

pub one-header-fault : (xs : List ℕ) (e f : VideoFault) → VideoHeaderBreaks xs e → VideoHeaderBreaks xs f → e ≡ f
one-header-fault xs e f (no_line none) (no_line none') = refl
one-header-fault xs e f (no_line none) (other_form line after at form) = refl
one-header-fault xs e f (no_line none) (no_tag line after width height tags at is tag) = line-at-all xs line after none at
one-header-fault xs e f (no_line none) (bad_size line after format at names size) = line-at-all xs line after none at
one-header-fault xs e f (no_line none) (wide line after format at names size many) = line-at-all xs line after none at
one-header-fault xs e f (other_form l a at form) (no_line none) = refl
one-header-fault xs e f (other_form l a at form) (other_form line after at' form') = refl
one-header-fault xs e f (other_form l a at form) (no_tag line after width height tags at' is tag) = form-or-line xs l line a after width height tags at form at' is
one-header-fault xs e f (other_form l a at form) (bad_size line after format at' names size) = form-or-names xs l line a after format at form at' names
one-header-fault xs e f (other_form l a at form) (wide line after format at' names size many) = form-or-names xs l line a after format at form at' names
one-header-fault xs e f (no_tag l a width height tags at is tag) (no_line none) = line-at-all xs l a none at
one-header-fault xs e f (no_tag l a width height tags at is tag) (other_form line after at' form) = form-or-line xs line l after a width height tags at' form at is
one-header-fault xs e f (no_tag l a width height tags at is tag) (no_tag line after width' height' tags' at' is' tag') = refl
one-header-fault xs e f (no_tag l a width height tags at is tag) (bad_size line after format at' names size) = tag-or-names xs l line a after format at tag at' names
one-header-fault xs e f (no_tag l a width height tags at is tag) (wide line after format at' names size many) = tag-or-names xs l line a after format at tag at' names
one-header-fault xs e f (bad_size l a format at names size) (no_line none) = line-at-all xs l a none at
one-header-fault xs e f (bad_size l a format at names size) (other_form line after at' form) = form-or-names xs line l after a format at' form at names
one-header-fault xs e f (bad_size l a format at names size) (no_tag line after width height tags at' is tag) = tag-or-names xs line l after a format at' tag at names
one-header-fault xs e f (bad_size l a format at names size) (bad_size line after format' at' names' size') = refl
one-header-fault xs e f (bad_size l a format at names size) (wide line after format' at' names' size' many) = size-or-good format format' (same-named xs l line a after format format' at names at' names') size size'
one-header-fault xs e f (wide l a format at names size many) (no_line none) = line-at-all xs l a none at
one-header-fault xs e f (wide l a format at names size many) (other_form line after at' form) = form-or-names xs line l after a format at' form at names
one-header-fault xs e f (wide l a format at names size many) (no_tag line after width height tags at' is tag) = tag-or-names xs line l after a format at' tag at names
one-header-fault xs e f (wide l a format at names size many) (bad_size line after format' at' names' size') = size-or-good format' format (sym (same-named xs l line a after format format' at names at' names')) size' size
one-header-fault xs e f (wide l a format at names size many) (wide line after format' at' names' size' many') = ap (λ (g : Format). over L2 (macroblocks g)) (same-named xs l line a after format format' at names at' names')
