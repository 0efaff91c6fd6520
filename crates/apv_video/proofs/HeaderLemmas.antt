-- Header lines, and why a line is none.
use Rattle.std.proofs.Common.{◌≡◌, ◌≢◌, ℕ, ◌<◌, ◌≤◌, Bool, true, false, cond, eqb, not, List, [], ◌∷◌, ◌++◌, length, get_or, codes, refl, sym, ap, ◌∙◌, arith, inl, inr, ◌⊎◌, ⊎_elim, Option, Some, None, Err, length-append}
use Rattle.std.proofs.lemmas.Bool.{cases_lt, false≢true}
use Rattle.std.proofs.lemmas.List.{append_cancel_left, get_or_at, get_or_append_left, append_assoc, append-nil}
use Rattle.apv_base.specs.declared.exits.VideoRule.TheVariants.{Header}
use Rattle.apv_base.specs.declared.format.Chroma.{Chroma}
use Rattle.apv_base.specs.declared.format.Chroma.TheVariants.{C400, C422, C444, C4444}
use Rattle.apv_base.specs.declared.format.Format.{Format}
use Rattle.apv_base.specs.model.Video.{LineAt, IsHeaderLine, NamesFormat, VideoHeaderAt, VideoHeaderBreaks, VideoFault, bad, over, no_line, tag_for, tag_of, letter_w, letter_h, letter_c}
use Rattle.apv_files.specs.SlotView.{SlotView}
use Rattle.apv_files.specs.Loops.{TookAll}
use Rattle.apv_video.specs.Line.{HasNoFeed, TookNoLine}
use Rattle.apv_video.specs.Tag.{tag_text, HasNoTag}
use Rattle.apv_video.specs.Tokens.{letter_tokens}
use Rattle.apv_video.specs.Header.{HasName, HasNoName, HasSize, HasNoForm, LacksTag, LineBreaks, IsJudged}
use Rattle.apv_video.specs.OpenVideo.{TookHeader, HeaderStops, OpensVideo}
use Rattle.apv_video.specs.declared.tag.Tag.{Tag}
use Rattle.apv_video.specs.declared.tag.Tag.TheVariants.{Mono10, P422D10, P444D10, P422D12, P444D12}
use Rattle.apv_video.specs.declared.end.VideoEnd.{VideoEnd}
use Rattle.apv_video.specs.declared.end.VideoEnd.TheVariants.{Bad, Limit, Read, Memory}
use Rattle.apv_video.specs.declared.open.Shape.{Shape}
use Rattle.apv_video.proofs.TokenLemmas.{all-at}

-- ---- tags

known-if : (b : Bool) (x t : List ℕ) (o : Option (List ℕ)) → cond b (Some x) o ≡ Some t → (x ≡ t) ⊎ (o ≡ Some t)
known-if true x t o e = inl (let same : x ≡ t = cc in same)
known-if false x t o e = inr e

none-known : {P : Type 0} (t : List ℕ) → None ≡ Some t → P
none-known t e = absurd (let no : ⊥ = cc in no)

-- a tag of a format is one of those that are known
known-tag : (chroma : Chroma) (depth : ℕ) (t : List ℕ) → tag_for chroma depth ≡ Some t → (tag : Tag) × (tag_text tag ≡ t)
known-tag C400 depth t e =
    ⊎_elim (λ (is : codes "Cmono10" ≡ t). (Mono10, is)) (λ (no : None ≡ Some t). none-known t no) (known-if (eqb depth 10) (codes "Cmono10") t None e)
known-tag C422 depth t e =
    ⊎_elim (λ (is : codes "C422p10" ≡ t). (P422D10, is))
    (λ (no : cond (eqb depth 12) (Some (codes "C422p12")) None ≡ Some t).
    ⊎_elim (λ (is : codes "C422p12" ≡ t). (P422D12, is)) (λ (none : None ≡ Some t). none-known t none) (known-if (eqb depth 12) (codes "C422p12") t None no))
    (known-if (eqb depth 10) (codes "C422p10") t (cond (eqb depth 12) (Some (codes "C422p12")) None) e)
known-tag C444 depth t e =
    ⊎_elim (λ (is : codes "C444p10" ≡ t). (P444D10, is))
    (λ (no : cond (eqb depth 12) (Some (codes "C444p12")) None ≡ Some t).
    ⊎_elim (λ (is : codes "C444p12" ≡ t). (P444D12, is)) (λ (none : None ≡ Some t). none-known t none) (known-if (eqb depth 12) (codes "C444p12") t None no))
    (known-if (eqb depth 10) (codes "C444p10") t (cond (eqb depth 12) (Some (codes "C444p12")) None) e)
known-tag C4444 depth t e = none-known t e

-- none of the five
pub no-tag : (text : List ℕ) → codes "Cmono10" ≢ text → codes "C422p10" ≢ text → codes "C444p10" ≢ text → codes "C422p12" ≢ text → codes "C444p12" ≢ text → HasNoTag text
no-tag text a b c d e Mono10 = a
no-tag text a b c d e P422D10 = b
no-tag text a b c d e P444D10 = c
no-tag text a b c d e P422D12 = d
no-tag text a b c d e P444D12 = e

-- ---- lines

same-rest : (line rest other : List ℕ) → HasName line rest → line ≡ codes "YUV4MPEG2" ++ other → other ≡ rest
same-rest line rest other name named = append_cancel_left (codes "YUV4MPEG2") other rest (sym named ∙ name.named)

pub no-form-name : (line : List ℕ) → HasNoName line → HasNoForm line
no-form-name line none width height tags h = none h.rest (record { named = h.named; divided = h.divided })

pub no-form-width : (line rest : List ℕ) → HasName line rest → ((size : ℕ) → HasSize letter_w rest size → ⊥) → HasNoForm line
no-form-width line rest name none width height tags h =
    none width (record { token = h.w; one = ap (letter_tokens letter_w) (sym (same-rest line rest h.rest name h.named)) ∙ h.one_w; is = h.w_is })

pub no-form-height : (line rest : List ℕ) → HasName line rest → ((size : ℕ) → HasSize letter_h rest size → ⊥) → HasNoForm line
no-form-height line rest name none width height tags h =
    none height (record { token = h.h; one = ap (letter_tokens letter_h) (sym (same-rest line rest h.rest name h.named)) ∙ h.one_h; is = h.h_is })

same-tags : (line rest : List ℕ) (width height : ℕ) (tags : List (List ℕ)) → HasName line rest → IsHeaderLine line width height tags → letter_tokens letter_c rest ≡ tags
same-tags line rest width height tags name h = ap (letter_tokens letter_c) (sym (same-rest line rest h.rest name h.named)) ∙ h.all_tags

pub no-form-twice : (line rest : List ℕ) → HasName line rest → 2 ≤ length (letter_tokens letter_c rest) → HasNoForm line
no-form-twice line rest name twice width height tags h =
    let e : length (letter_tokens letter_c rest) ≡ length tags = ap length (same-tags line rest width height tags name h) in
    omega (arith, h.few)

header-line : (line rest : List ℕ) (width height : ℕ) (tags : List (List ℕ)) → HasName line rest → HasSize letter_w rest width → HasSize letter_h rest height → letter_tokens letter_c rest ≡ tags → length tags ≤ 1 → IsHeaderLine line width height tags
header-line line rest width height tags name w h all few = record {
  rest = rest;
  named = name.named;
  divided = name.divided;
  w = w.token;
  h = h.token;
  one_w = w.one;
  one_h = h.one;
  w_is = w.is;
  h_is = h.is;
  all_tags = all;
  few = few;
}

pub tag-missing : (line rest : List ℕ) (width height : ℕ) → HasName line rest → HasSize letter_w rest width → HasSize letter_h rest height → letter_tokens letter_c rest ≡ [] → LacksTag line
tag-missing line rest width height name w h none = record {
  width = width;
  height = height;
  tags = [];
  is = header-line line rest width height [] name w h none (omega arith);
  none = λ format k.
      let e : letter_tokens letter_c rest ≡ k.tag ∷ [] = same-tags line rest format.width format.height (k.tag ∷ []) name k.is in
      let no : ⊥ = cc in no;
}

pub tag-unknown : (line rest text : List ℕ) (width height : ℕ) → HasName line rest → HasSize letter_w rest width → HasSize letter_h rest height → letter_tokens letter_c rest ≡ text ∷ [] → HasNoTag text → LacksTag line
tag-unknown line rest text width height name w h one none = record {
  width = width;
  height = height;
  tags = text ∷ [];
  is = header-line line rest width height (text ∷ []) name w h one (omega arith);
  none = λ format k.
      let e : letter_tokens letter_c rest ≡ k.tag ∷ [] = same-tags line rest format.width format.height (k.tag ∷ []) name k.is in
      let same : k.tag ≡ text = cc in
      let known = known-tag format.chroma format.depth k.tag k.known in
      none known.0 (known.1 ∙ same);
}

pub names-format : (line rest text : List ℕ) (format : Format) (width height : ℕ) (tag : Tag) → HasName line rest → HasSize letter_w rest width → HasSize letter_h rest height → letter_tokens letter_c rest ≡ text ∷ [] → tag_text tag ≡ text
    → tag_of format ≡ Some (tag_text tag) → format.width ≡ width → format.height ≡ height → NamesFormat line format
names-format line rest text format width height tag name w h one is known wide high = record {
  tag = text;
  is = rw (wide, high) (header-line line rest width height (text ∷ []) name w h one (omega arith));
  known = known ∙ ap Some is;
}

-- ---- no line

pub no-line-in : (taken more : List ℕ) → HasNoFeed taken → (line after : List ℕ) → LineAt (taken ++ more) line after → length line < length taken → ⊥
no-line-in taken more free line after at less =
    let here : get_or (taken ++ more) (length line) 0 ≡ get_or taken (length line) 0 = get_or_append_left taken more 0 (length line) less in
    let feed : get_or (taken ++ more) (length line) 0 ≡ 10 = ap (λ (xs : List ℕ). get_or xs (length line) 0) at.bytes ∙ get_or_at line 10 after 0 (length line) refl in
    let ten : get_or taken (length line) 0 ≡ 10 = sym here ∙ feed in
    let not-ten : not (eqb (get_or taken (length line) 0) 10) ≡ true = all-at (λ byte. not (eqb byte 10)) taken (length line) free less in
    let no : false ≡ true = rw ten at not-ten in
    false≢true no

-- no line feed among as many bytes as a line has
pub stops-long : (taken : List ℕ) → HasNoFeed taken → 1024 ≤ length taken → (more : List ℕ) → VideoHeaderBreaks (taken ++ more) (bad Header)
stops-long taken free long more = no_line (λ line after at. no-line-in taken more free line after at (omega (arith, at.short)))

-- no line feed up to the end
pub stops-end : (taken : List ℕ) → HasNoFeed taken → VideoHeaderBreaks taken (bad Header)
stops-end taken free =
    no_line (λ line after at.
    let same : taken ++ [] ≡ line ++ 10 ∷ after = append-nil taken ∙ at.bytes in
    let at' : LineAt (taken ++ []) line after = record { bytes = same; first = at.first; short = at.short } in
    no-line-in taken [] free line after at' (omega (arith, ap length at.bytes, length-append line (10 ∷ after))))

pub header-no-line : (old new : SlotView) (size : ℕ) → size ≡ 1024 → TookNoLine old size new → HeaderStops old (bad Header) new
header-no-line old new size is h = record {
  taken = h.taken;
  within = inl h.line;
  took = h.took;
  stops =
      ⊎_elim (λ (short : length h.taken < size). inr (h.end short, stops-end h.taken h.line))
      (λ (long : size ≤ length h.taken). inl (stops-long h.taken h.line (omega arith))) (cases_lt (length h.taken) size);
}

-- ---- a line

line-at : (line more : List ℕ) → HasNoFeed line → length line < 1024 → LineAt ((line ++ 10 ∷ []) ++ more) line more
line-at line more free short = record { bytes = append_assoc line (10 ∷ []) more; first = free; short = short }

line-breaks : (old new : SlotView) (line : List ℕ) (fault : VideoFault) → HasNoFeed line → length line < 1024 → TookAll old (line ++ 10 ∷ []) new → LineBreaks line fault → HeaderStops old fault new
line-breaks old new line fault free short took breaks = record {
  taken = line ++ 10 ∷ [];
  within = inr (line, free, refl);
  took = took;
  stops = inl (λ more. breaks ((line ++ 10 ∷ []) ++ more) more (line-at line more free short));
}

pub line-refused : (old new : SlotView) (line : List ℕ) (end : VideoEnd) → HasNoFeed line → length line < 1024 → TookAll old (line ++ 10 ∷ []) new → IsJudged line (Err end) → OpensVideo old (Err end) new
line-refused old new line (Bad break) free short took h = (line-breaks old new line (bad break.rule) free short took h.0, h.1, h.2)
line-refused old new line (Limit limit count) free short took h = line-breaks old new line (over limit count) free short took h
line-refused old new line (Read slot) free short took h = absurd h
line-refused old new line Memory free short took h = absurd h

pub line-taken : (old new : SlotView) (line : List ℕ) (shape : Shape) → HasNoFeed line → length line < 1024 → TookAll old (line ++ 10 ∷ []) new → shape.y4m ≡ true
    → ((xs after : List ℕ) → LineAt xs line after → VideoHeaderAt xs shape.format after) → TookHeader old shape new
line-taken old new line shape free short took y4m h = record {
  taken = line ++ 10 ∷ [];
  within = inr (line, free, refl);
  took = took;
  header = λ more. h ((line ++ 10 ∷ []) ++ more) more (line-at line more free short);
  y4m = y4m;
}
