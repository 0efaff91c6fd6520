-- The lines before pictures: where they end, and why one is none.
use Rattle.std.proofs.Common.{◌≡◌, ◌≢◌, ℕ, ◌<◌, ◌≤◌, Bool, true, false, eqb, not, List, [], ◌∷◌, ◌++◌, length, codes, refl, ap, sym, subst, ◌∙◌, arith, ⊎_elim, inl, inr, take, length-take, Ok, Err, length-append, append_assoc, append-nil}
use Rattle.std.proofs.lemmas.Bool.{false≢true, cases_lt, and_parts, and_from}
use Rattle.std.specs.Bool.{OnTrue, OnFalse}
use Rattle.std.specs.List.{list_all}
use Rattle.apv_files.specs.declared.files.Failed.{Failed}
use Rattle.apv_files.specs.declared.files.Failed.TheVariants.{Device, Memory}
use Rattle.apv_base.specs.declared.options.Form.{Form}
use Rattle.apv_base.specs.declared.options.Form.TheVariants.{Planar, Y4m}
use Rattle.apv_base.specs.model.Video.{LineAt, FrameLineAt, planar, named, spaced}
use Rattle.apv_files.specs.SlotView.{SlotView}
use Rattle.apv_files.specs.Loops.{TookAll}
use Rattle.apv_files.proofs.Many.{took-none}
use Rattle.apv_video.specs.Line.{HasNoFeed, TookLine, TookNoLine, ReadsLine}
use Rattle.apv_video.specs.FrameLine.{IsFrameLine, HasNoFrameLine, IsWithinFrameLine, LacksFrameLine, ReadsFrameLine}
use Rattle.apv_video.proofs.HeaderLemmas.{no-line-in}

-- ---- one line is at the start

free-head : (x : ℕ) (xs : List ℕ) → HasNoFeed (x ∷ xs) → x ≡ 10 → ⊥
free-head x xs free is =
    let parts : (not (eqb x 10) ≡ true) × HasNoFeed xs = and_parts _ _ free in
    let no : false ≡ true = rw is at parts.0 in
    false≢true no

free-tail : (x : ℕ) (xs : List ℕ) → HasNoFeed (x ∷ xs) → HasNoFeed xs
free-tail x xs free = let parts : (not (eqb x 10) ≡ true) × HasNoFeed xs = and_parts _ _ free in parts.1

pub line-same : (xs ys a b : List ℕ) → HasNoFeed xs → HasNoFeed ys → xs ++ 10 ∷ a ≡ ys ++ 10 ∷ b → (xs ≡ ys) × (a ≡ b)
line-same [] [] a b f g e = (refl, let same : a ≡ b = cc in same)
line-same [] (y ∷ ys) a b f g e = absurd (free-head y ys g (let is : y ≡ 10 = cc in is))
line-same (x ∷ xs) [] a b f g e = absurd (free-head x xs f (let is : x ≡ 10 = cc in is))
line-same (x ∷ xs) (y ∷ ys) a b f g e =
    let head : x ≡ y = cc in
    let tail : xs ++ 10 ∷ a ≡ ys ++ 10 ∷ b = cc in
    let rest : (xs ≡ ys) × (a ≡ b) = line-same xs ys a b (free-tail x xs f) (free-tail y ys g) tail in
    let one : xs ≡ ys = rest.0 in
    (let all : x ∷ xs ≡ y ∷ ys = cc in all, rest.1)

-- the line of a frame line
record FrameLine (xs start : List ℕ) : Type 0 where
  line : List ℕ
  at : LineAt xs line start
  is : IsFrameLine line

frame-line : (xs start : List ℕ) → FrameLineAt xs Y4m start → FrameLine xs start
frame-line xs start (named line after at is) = record { line = line; at = at; is = inl is }
frame-line xs start (spaced line after more at is) = record { line = line; at = at; is = inr (more, is) }

at-frame-line : (xs line start : List ℕ) → LineAt xs line start → IsFrameLine line → FrameLineAt xs Y4m start
at-frame-line xs line start at (inl is) = named line start at is
at-frame-line xs line start at (inr some) = spaced line start some.0 at some.1

-- ---- what is before a picture

-- these bytes are a frame line, and none is another prefix of what follows
pub record IsPrefix (form : Form) (prefix : List ℕ) : Type 0 where
  pub line : (more : List ℕ) → FrameLineAt (prefix ++ more) form more
  pub only : (more start : List ℕ) → FrameLineAt (prefix ++ more) form start → start ≡ more

planar-start : (xs start : List ℕ) → FrameLineAt xs Planar start → start ≡ xs
planar-start xs start planar = refl

pub planar-prefix : IsPrefix Planar []
planar-prefix = record { line = λ more. planar; only = λ more start h. planar-start more start h }

pub y4m-prefix : (line : List ℕ) → HasNoFeed line → length line < 1024 → IsFrameLine line → IsPrefix Y4m (line ++ 10 ∷ [])
y4m-prefix line free short is = record {
  line = λ more. at-frame-line ((line ++ 10 ∷ []) ++ more) line more (record { bytes = append_assoc line (10 ∷ []) more; first = free; short = short }) is;
  only = λ more start h.
      let there : FrameLine ((line ++ 10 ∷ []) ++ more) start = frame-line ((line ++ 10 ∷ []) ++ more) start h in
      let same : there.line ++ 10 ∷ start ≡ line ++ 10 ∷ more = sym there.at.bytes ∙ append_assoc line (10 ∷ []) more in
      (line-same there.line line start more there.at.first free same).1;
}

-- ---- no frame line

-- another first byte
pub other-first : (first : ℕ) → first ≢ 70 → (more : List ℕ) → HasNoFrameLine ((first ∷ []) ++ more)
other-first first other more start h =
    let there : FrameLine (first ∷ more) start = frame-line (first ∷ more) start h in
    let bytes : first ∷ more ≡ there.line ++ 10 ∷ start = there.at.bytes in
    ⊎_elim (λ (is : there.line ≡ codes "FRAME").
    let e : first ∷ more ≡ 70 ∷ (codes "RAME" ++ 10 ∷ start) = bytes ∙ ap (λ (xs : List ℕ). xs ++ 10 ∷ start) is in
    other (let f : first ≡ 70 = cc in f))
    (λ (some : (rest : List ℕ) × (there.line ≡ codes "FRAME " ++ rest)).
    let e : first ∷ more ≡ 70 ∷ ((codes "RAME " ++ some.0) ++ 10 ∷ start) = bytes ∙ ap (λ (xs : List ℕ). xs ++ 10 ∷ start) some.1 in
    other (let f : first ≡ 70 = cc in f)) there.is

pub lacks-first : (view : SlotView) (first : ℕ) → first ≢ 70 → LacksFrameLine view first view
lacks-first view first other = record {
  taken = [];
  took = took-none view;
  within = λ more start h. absurd (other-first first other more start h);
  stops = inl (other-first first other);
}

-- a line that isn't right
pub lacks-line : (old new : SlotView) (first : ℕ) (rest : List ℕ) → HasNoFeed (first ∷ rest) → TookAll old (rest ++ 10 ∷ []) new → (IsFrameLine (first ∷ rest) → ⊥) → LacksFrameLine old first new
lacks-line old new first rest free took wrong =
    let none : (more : List ℕ) → HasNoFrameLine ((first ∷ (rest ++ 10 ∷ [])) ++ more) = λ more start h.
    let there : FrameLine ((first ∷ (rest ++ 10 ∷ [])) ++ more) start = frame-line ((first ∷ (rest ++ 10 ∷ [])) ++ more) start h in
    let same : there.line ++ 10 ∷ start ≡ (first ∷ rest) ++ 10 ∷ more = sym there.at.bytes ∙ append_assoc (first ∷ rest) (10 ∷ []) more in
    let is : there.line ≡ first ∷ rest = (line-same there.line (first ∷ rest) start more there.at.first free same).0 in
    wrong (subst IsFrameLine is there.is) in
    record { taken = rest ++ 10 ∷ []; took = took; within = λ more start h. absurd (none more start h); stops = inl none }

-- bytes of a line
pub within-line : (taken : List ℕ) → HasNoFeed taken → IsWithinFrameLine taken
within-line taken free more start h =
    let there : FrameLine (taken ++ more) start = frame-line (taken ++ more) start h in
    ⊎_elim (λ (less : length there.line < length taken). absurd (no-line-in taken more free there.line start there.at less))
    (λ (long : length taken ≤ length there.line). omega (arith, ap length there.at.bytes, length-append taken more, length-append there.line (10 ∷ start))) (cases_lt (length there.line) (length taken))

-- a line feed is no F
pub with-first : (first : ℕ) (xs : List ℕ) → first ≡ 70 → HasNoFeed xs → HasNoFeed (first ∷ xs)
with-first first xs e line = and_from (not (eqb first 10)) (list_all (λ byte. not (eqb byte 10)) xs) (rw e refl) line

-- no line feed
pub lacks-feed : (old new : SlotView) (first size : ℕ) → first ≡ 70 → size ≡ 1023 → TookNoLine old size new → LacksFrameLine old first new
lacks-feed old new first size is room h =
    let free : HasNoFeed (first ∷ h.taken) = with-first first h.taken is h.line in
    record {
      taken = h.taken;
      took = h.took;
      within = within-line (first ∷ h.taken) free;
      stops =
          ⊎_elim (λ (short : length h.taken < size).
          inr (
            h.end short,
            λ start at.
                let there : FrameLine (first ∷ h.taken) start = frame-line (first ∷ h.taken) start at in
                let same : (first ∷ h.taken) ++ [] ≡ there.line ++ 10 ∷ start = append-nil (first ∷ h.taken) ∙ there.at.bytes in
                no-line-in (first ∷ h.taken) [] free there.line start (record { bytes = same; first = there.at.first; short = there.at.short }) (omega (arith, ap length there.at.bytes, length-append there.line (10 ∷ start))),
          ))
          (λ (long : size ≤ length h.taken).
          inl (λ more start at.
          let there : FrameLine ((first ∷ h.taken) ++ more) start = frame-line ((first ∷ h.taken) ++ more) start at in
          no-line-in (first ∷ h.taken) more free there.line start there.at (omega (arith, there.at.short)))) (cases_lt (length h.taken) size);
    }

-- a line that was read
pub line-judged : (old new : SlotView) (first : ℕ) (rest : List ℕ) (right : Bool) → first ≡ 70 → HasNoFeed rest → length rest < 1023 → TookAll old (rest ++ 10 ∷ []) new
    → OnTrue right (IsFrameLine (70 ∷ rest)) → OnFalse right (IsFrameLine (70 ∷ rest) → ⊥) → ReadsFrameLine old first (Ok right) new
line-judged old new first rest true is free short took good wrong = record {
  rest = rest;
  line = with-first first rest is free;
  short = short;
  named = subst (λ (x : ℕ). IsFrameLine (x ∷ rest)) (sym is) good;
  took = took;
}
line-judged old new first rest false is free short took good wrong =
    lacks-line old new first rest (with-first first rest is free) took (λ h. wrong (subst (λ (x : ℕ). IsFrameLine (x ∷ rest)) is h))

pub line-taken : (old new : SlotView) (first n : ℕ) (rest buf : List ℕ) (right : Bool) → first ≡ 70 → rest ≡ take n buf → length buf ≡ 1023 → TookLine old n buf new
    → OnTrue right (IsFrameLine (70 ∷ rest)) → OnFalse right (IsFrameLine (70 ∷ rest) → ⊥) → ReadsFrameLine old first (Ok right) new
line-taken old new first n rest buf right is front size h good wrong =
    line-judged old new first rest right is (subst HasNoFeed (sym front) h.line) (omega (arith, ap length front, length-take n buf, h.fits)) (subst (λ (xs : List ℕ). TookAll old (xs ++ 10 ∷ []) new) (sym front) h.took) good wrong

-- no line was read
pub line-failed : (old new : SlotView) (first : ℕ) (buf : List ℕ) (failed : Failed) → first ≡ 70 → ReadsLine old (Err failed) buf new → ReadsFrameLine old first (Err failed) new
line-failed old new first buf Device is h = record { taken = h.taken; within = within-line (first ∷ h.taken) (with-first first h.taken is h.line); failed = h.failed }
line-failed old new first buf Memory is h = record { taken = h.taken; within = within-line (first ∷ h.taken) (with-first first h.taken is h.line); took = h.took }
