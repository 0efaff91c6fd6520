-- Pictures with what is before them.
use Rattle.std.proofs.Common.{◌≡◌, ◌≢◌, ℕ, ◌+◌, ◌<◌, ◌≤◌, Bool, true, false, List, [], ◌∷◌, ◌++◌, length, refl, ap, sym, subst, ◌∙◌, arith, ⊎_elim, inl, inr, Result, Ok, Err, length-append, append_assoc, append-nil}
use Rattle.std.proofs.lemmas.Bool.{cases_eq}
use Rattle.apv_base.specs.declared.exits.VideoRule.{VideoRule}
use Rattle.apv_base.specs.declared.exits.VideoRule.TheVariants.{Header, Tag, Size, Profile, Grid, Qp, FrameLine, Truncated, Range, Missing, Extra}
use Rattle.apv_base.specs.declared.format.Format.{Format}
use Rattle.apv_base.specs.declared.options.Form.{Form}
use Rattle.apv_base.specs.declared.options.Form.TheVariants.{Planar, Y4m}
use Rattle.apv_base.specs.declared.rules.Limit.TheVariants.{L3}
use Rattle.apv_base.specs.declared.slot.Slot.{Slot}
use Rattle.apv_base.specs.model.Format.{IsSoundFormat}
use Rattle.apv_base.specs.model.Picture.{Samples, picture, picture_len}
use Rattle.apv_base.specs.model.Run.{MAX_UNITS}
use Rattle.apv_base.specs.model.Video.{bad, over, FrameLineAt, PictureBreaks, full, no_prefix, truncated, out_of_range}
use Rattle.apv_files.specs.SlotView.{SlotView}
use Rattle.apv_files.specs.Loops.{TookAll, TookFailed}
use Rattle.apv_files.proofs.Many.{took-took, took-failed, took-none}
use Rattle.apv_video.specs.declared.end.VideoEnd.{VideoEnd}
use Rattle.apv_video.specs.declared.end.VideoEnd.TheVariants.{Bad, Limit, Read, Memory}
use Rattle.apv_video.specs.declared.open.Shape.{Shape}
use Rattle.apv_video.specs.FrameLine.{IsWithinFrameLine, TookFrameLine, LacksFrameLine, FrameLineFails, FrameLineStops}
use Rattle.apv_video.specs.Reads.{RestBreaks, ReadsRest}
use Rattle.apv_video.specs.ReadFrame.{form_of, IsWithinPicture, PictureStops, PictureFails, PictureLacksMemory, ReadsFrame}
use Rattle.apv_video.proofs.FrameLineLemmas.{IsPrefix, planar-prefix, y4m-prefix, within-line, other-first, with-first}
use Rattle.apv_video.proofs.ReadLemmas.{picture-length, components-within, some-components, some-samples}

-- ---- what is taken

some-bytes : (xs ys : List ℕ) → 0 < length xs → xs ++ ys ≢ []
some-bytes xs ys some e = omega (arith, ap length e, length-append xs ys)

-- part of a picture after its prefix
within-rest : (shape : Shape) (prefix head taken : List ℕ) → IsPrefix (form_of shape) prefix → length head + length taken ≤ picture_len shape.format → IsWithinPicture shape ((prefix ++ head) ++ taken)
within-rest shape prefix head taken is room more start h long =
    let e : ((prefix ++ head) ++ taken) ++ more ≡ prefix ++ (head ++ (taken ++ more)) = append_assoc (prefix ++ head) taken more ∙ append_assoc prefix head (taken ++ more) in
    let same : start ≡ head ++ (taken ++ more) = is.only (head ++ (taken ++ more)) start (subst (λ (xs : List ℕ). FrameLineAt xs (form_of shape) start) e h) in
    omega (arith, ap length same, length-append head (taken ++ more), length-append taken more)

-- what follows the prefix
prefix-at : (shape : Shape) (prefix head taken more text : List ℕ) → IsPrefix (form_of shape) prefix → head ++ taken ≡ text → FrameLineAt (((prefix ++ head) ++ taken) ++ more) (form_of shape) (text ++ more)
prefix-at shape prefix head taken more text is same =
    let e : prefix ++ (text ++ more) ≡ ((prefix ++ head) ++ taken) ++ more =
    ap (λ (xs : List ℕ). prefix ++ (xs ++ more)) (sym same) ∙ ap (λ (xs : List ℕ). prefix ++ xs) (append_assoc head taken more)
    ∙ sym (append_assoc prefix head (taken ++ more)) ∙ sym (append_assoc (prefix ++ head) taken more) in
    subst (λ (xs : List ℕ). FrameLineAt xs (form_of shape) (text ++ more)) e (is.line (text ++ more))

-- ---- the rest of a picture

-- a rule is broken
rest-breaks : (shape : Shape) (number : ℕ) (rule : VideoRule) (start old new : SlotView) (prefix head : List ℕ) (samples : Samples) → TookAll start (prefix ++ head) old → 0 < length (prefix ++ head) → number < MAX_UNITS
    → length head ≤ picture_len shape.format → IsPrefix (form_of shape) prefix → RestBreaks shape.format head rule old samples new → PictureStops shape number start (bad rule) new
rest-breaks shape number Truncated start old new prefix head samples so some few fits is h = record {
  taken = (prefix ++ head) ++ h.taken;
  within = within-rest shape prefix head h.taken is (omega (arith, h.short));
  took = took-took start old new (prefix ++ head) h.taken so h.took;
  stops =
      let at : FrameLineAt (((prefix ++ head) ++ h.taken) ++ []) (form_of shape) ((head ++ h.taken) ++ []) = prefix-at shape prefix head h.taken [] (head ++ h.taken) is refl in
      let there : FrameLineAt ((prefix ++ head) ++ h.taken) (form_of shape) (head ++ h.taken) = rw (append-nil ((prefix ++ head) ++ h.taken), append-nil (head ++ h.taken)) at at in
      inr (h.end, truncated (head ++ h.taken) (some-bytes (prefix ++ head) h.taken some) few there (omega (arith, length-append head h.taken, h.short)));
}
rest-breaks shape number Range start old new prefix head samples so some few fits is h = record {
  taken = (prefix ++ head) ++ h.read.taken;
  within = within-rest shape prefix head h.read.taken is (omega (arith, ap length h.read.is, length-append head h.read.taken, picture-length shape.format samples));
  took = took-took start old new (prefix ++ head) h.read.taken so h.read.took;
  stops =
      inl (λ more. out_of_range (picture shape.format samples ++ more) more samples
      (some-bytes ((prefix ++ head) ++ h.read.taken) more (omega (arith, length-append (prefix ++ head) h.read.taken))) few (prefix-at shape prefix head h.read.taken more (picture shape.format samples) is h.read.is) h.wide refl h.range);
}
rest-breaks shape number Header start old new prefix head samples so some few fits is h = absurd h
rest-breaks shape number Tag start old new prefix head samples so some few fits is h = absurd h
rest-breaks shape number Size start old new prefix head samples so some few fits is h = absurd h
rest-breaks shape number Profile start old new prefix head samples so some few fits is h = absurd h
rest-breaks shape number Grid start old new prefix head samples so some few fits is h = absurd h
rest-breaks shape number Qp start old new prefix head samples so some few fits is h = absurd h
rest-breaks shape number FrameLine start old new prefix head samples so some few fits is h = absurd h
rest-breaks shape number Missing start old new prefix head samples so some few fits is h = absurd h
rest-breaks shape number Extra start old new prefix head samples so some few fits is h = absurd h

-- after a prefix, and bytes at hand, the rest of a picture
pub rest-after : (slot : Slot) (shape : Shape) (number : ℕ) (start old new : SlotView) (prefix head : List ℕ) (r : Result Bool VideoEnd) (samples : Samples) → TookAll start (prefix ++ head) old → 0 < length (prefix ++ head)
    → number < MAX_UNITS → length head ≤ picture_len shape.format → IsPrefix (form_of shape) prefix → ReadsRest slot number shape.format head old r samples new → ReadsFrame slot shape number start r samples new
rest-after slot shape number start old new prefix head (Ok true) samples so some few fits is h = record {
  taken = (prefix ++ head) ++ h.read.taken;
  took = took-took start old new (prefix ++ head) h.read.taken so h.read.took;
  few = few;
  picture = λ after. record {
    start = picture shape.format samples ++ after;
    prefix = prefix-at shape prefix head h.read.taken after (picture shape.format samples) is h.read.is;
    bytes = refl;
    wide = h.wide;
    range = h.range;
  };
}
rest-after slot shape number start old new prefix head (Ok false) samples so some few fits is h = absurd h
rest-after slot shape number start old new prefix head (Err (Bad break)) samples so some few fits is h =
    (rest-breaks shape number break.rule start old new prefix head samples so some few fits is h.0, h.1, h.2)
rest-after slot shape number start old new prefix head (Err (Limit limit count)) samples so some few fits is h = absurd h
rest-after slot shape number start old new prefix head (Err (Read failed)) samples so some few fits is h = (
  record {
    taken = (prefix ++ head) ++ h.0.taken;
    within = within-rest shape prefix head h.0.taken is (omega (arith, h.0.short));
    failed = took-failed start old new (prefix ++ head) h.0.taken so h.0.failed;
  },
  h.1,
)
rest-after slot shape number start old new prefix head (Err Memory) samples so some few fits is h = record {
  taken = (prefix ++ head) ++ h.taken;
  within = within-rest shape prefix head h.taken is (omega (arith, h.most));
  took = took-took start old new (prefix ++ head) h.taken so h.took;
}

-- a picture has bytes
pub some-picture : (format : Format) (samples : Samples) → IsSoundFormat format → 1 ≤ picture_len format
some-picture format samples sound = omega (arith, components-within format samples 0 (some-components format), some-samples format 0 sound)

-- the forms of files
planar-form : (shape : Shape) → shape.y4m ≡ false → form_of shape ≡ Planar
planar-form shape e = rw e refl

y4m-form : (shape : Shape) → shape.y4m ≡ true → form_of shape ≡ Y4m
y4m-form shape e = rw e refl

-- a picture of a planar file, of which the first byte is at hand
pub planar-read : (slot : Slot) (shape : Shape) (number first : ℕ) (start old new : SlotView) (head : List ℕ) (format : Format) (r : Result Bool VideoEnd) (samples : Samples) → shape.y4m ≡ false → IsSoundFormat shape.format → number < MAX_UNITS
    → TookAll start (first ∷ []) old → head ≡ first ∷ [] → format ≡ shape.format → ReadsRest slot number format head old r samples new → ReadsFrame slot shape number start r samples new
planar-read slot shape number first start old new head format r samples plain sound few so e same h =
    let is : IsPrefix (form_of shape) [] = subst (λ (form : Form). IsPrefix form []) (sym (planar-form shape plain)) planar-prefix in
    let here : ReadsRest slot number shape.format (first ∷ []) old r samples new =
    subst (λ (f : Format). ReadsRest slot number f (first ∷ []) old r samples new) same (subst (λ (xs : List ℕ). ReadsRest slot number format xs old r samples new) e h) in
    rest-after slot shape number start old new [] (first ∷ []) r samples so (omega arith) few (some-picture shape.format samples sound) is here

-- a picture of a Y4M file after its frame line
pub y4m-read : (slot : Slot) (shape : Shape) (number first : ℕ) (start old mid new : SlotView) (format : Format) (r : Result Bool VideoEnd) (samples : Samples) → shape.y4m ≡ true → number < MAX_UNITS → TookAll start (first ∷ []) old
    → TookFrameLine old first mid → format ≡ shape.format → ReadsRest slot number format [] mid r samples new → ReadsFrame slot shape number start r samples new
y4m-read slot shape number first start old mid new format r samples y4m few so line same h =
    let prefix : List ℕ = (first ∷ line.rest) ++ 10 ∷ [] in
    let is : IsPrefix (form_of shape) prefix = subst (λ (form : Form). IsPrefix form prefix) (sym (y4m-form shape y4m)) (y4m-prefix (first ∷ line.rest) line.line (omega (arith, line.short)) line.named) in
    let took : TookAll start (prefix ++ []) mid = subst (λ (xs : List ℕ). TookAll start xs mid) (sym (append-nil prefix)) (took-took start old mid (first ∷ []) (line.rest ++ 10 ∷ []) so line.took) in
    rest-after slot shape number start mid new prefix [] r samples took (omega (arith, length-append prefix [])) few (omega arith) is (subst (λ (f : Format). ReadsRest slot number f [] mid r samples new) same h)

-- ---- the line before a picture

within-y4m : (shape : Shape) (taken : List ℕ) → shape.y4m ≡ true → IsWithinFrameLine taken → IsWithinPicture shape taken
within-y4m shape taken y4m h more start at long = omega (arith, h more start (subst (λ (form : Form). FrameLineAt (taken ++ more) form start) (y4m-form shape y4m) at))

-- it isn't right
pub line-wrong : (shape : Shape) (number first : ℕ) (start old new : SlotView) → shape.y4m ≡ true → number < MAX_UNITS → TookAll start (first ∷ []) old → LacksFrameLine old first new → PictureStops shape number start (bad FrameLine) new
line-wrong shape number first start old new y4m few so h =
    let form : form_of shape ≡ Y4m = y4m-form shape y4m in
    let breaks : (xs : List ℕ) → xs ≢ [] → ((line : List ℕ) → FrameLineAt xs Y4m line → ⊥) → PictureBreaks shape.format (form_of shape) number xs (bad FrameLine) =
    λ xs some none. no_prefix some few (λ line at. none line (subst (λ (f : Form). FrameLineAt xs f line) form at)) in
    record {
      taken = first ∷ h.taken;
      within = within-y4m shape (first ∷ h.taken) y4m h.within;
      took = took-took start old new (first ∷ []) h.taken so h.took;
      stops =
          ⊎_elim (λ always. inl (λ more. breaks ((first ∷ h.taken) ++ more) (some-bytes (first ∷ h.taken) more (omega arith)) (always more)))
          (λ end. inr (end.0, breaks (first ∷ h.taken) (λ e. omega (arith, ap length e)) end.1)) h.stops;
    }

-- a read failed in it
pub line-fails : (shape : Shape) (first : ℕ) (start old new : SlotView) → shape.y4m ≡ true → TookAll start (first ∷ []) old → FrameLineFails old first new → PictureFails shape start new
line-fails shape first start old new y4m so h = record {
  taken = first ∷ h.taken;
  within = within-y4m shape (first ∷ h.taken) y4m h.within;
  failed = took-failed start old new (first ∷ []) h.taken so h.failed;
}

-- memory ran out in it
pub line-stops : (shape : Shape) (first : ℕ) (start old new : SlotView) → shape.y4m ≡ true → TookAll start (first ∷ []) old → FrameLineStops old first new → PictureLacksMemory shape start new
line-stops shape first start old new y4m so h = record {
  taken = first ∷ h.taken;
  within = within-y4m shape (first ∷ h.taken) y4m h.within;
  took = took-took start old new (first ∷ []) h.taken so h.took;
}

-- ---- the first byte

-- no byte was taken
pub within-none : (shape : Shape) → IsWithinPicture shape []
within-none shape = by-form shape shape.y4m refl
  where
    by-form : (shape : Shape) (y4m : Bool) → shape.y4m ≡ y4m → IsWithinPicture shape []
    by-form shape true e = within-y4m shape [] e (within-line [] refl)
    by-form shape false e = within-rest shape [] [] [] (subst (λ (form : Form). IsPrefix form []) (sym (planar-form shape e)) planar-prefix) (omega arith)

-- one byte was taken
within-first : (shape : Shape) (first : ℕ) (y4m : Bool) → shape.y4m ≡ y4m → 1 ≤ picture_len shape.format → IsWithinPicture shape (first ∷ [])
within-first shape first true e some =
    within-y4m shape (first ∷ []) e
    (⊎_elim (λ (is : first ≡ 70). within-line (first ∷ []) (with-first first [] is refl)) (λ (other : first ≢ 70). λ more start h. absurd (other-first first other more start h)) (cases_eq first 70))
within-first shape first false e some = within-rest shape [] (first ∷ []) [] (subst (λ (form : Form). IsPrefix form []) (sym (planar-form shape e)) planar-prefix) (omega arith)

-- one picture too many
pub one-too-many : (shape : Shape) (number first : ℕ) (samples : Samples) (start new : SlotView) → IsSoundFormat shape.format → number ≡ MAX_UNITS → TookAll start (first ∷ []) new → PictureStops shape number start (over L3 (MAX_UNITS + 1)) new
one-too-many shape number first samples start new sound last so = record {
  taken = first ∷ [];
  within = within-first shape first shape.y4m refl (some-picture shape.format samples sound);
  took = so;
  stops = inl (λ more. full (some-bytes (first ∷ []) more (omega arith)) last);
}

-- no byte was taken, and a read failed
pub first-fails : (shape : Shape) (old new : SlotView) → TookFailed old [] new → PictureFails shape old new
first-fails shape old new h = record { taken = []; within = within-none shape; failed = h }

-- no byte was taken, and memory ran out
pub first-stops : (shape : Shape) (old new : SlotView) → new ≡ old → PictureLacksMemory shape old new
first-stops shape old new e = record { taken = []; within = within-none shape; took = subst (λ (view : SlotView). TookAll old [] view) (sym e) (took-none old) }
