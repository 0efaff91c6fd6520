-- The formats of the selected frames of units, judged one after another.
use Rattle.std.proofs.Common.{◌≡◌, ◌≢◌, ℕ, ◌+◌, List, [], ◌∷◌, ◌++◌, map, refl, sym, ap, subst, ◌∙◌, Bool, true, false, Option, Some, None, Result, Ok, Err, MatchResult, IfSome, append_assoc, append-nil}
use Rattle.std.specs.Prelude.{if◌then◌else◌}
use Rattle.std.specs.List.{filter}
use Rattle.std.proofs.lemmas.List.Elements.{filter-append}
use Rattle.apv_base.specs.declared.exits.Exit.{Exit}
use Rattle.apv_base.specs.declared.exits.Exit.TheVariants.{NoTag, FormatChange}
use Rattle.apv_base.specs.declared.format.Format.{Format}
use Rattle.apv_base.specs.model.Grid.{Grid}
use Rattle.apv_base.specs.model.Judge.{DecodedFrame, DecodedUnit, AreDecodedFrames}
use Rattle.apv_base.specs.model.Output.{OutputSettings, AreOne, FormatsAgree, FormatsDiffer, no_tag, other_format, decoded_format, formats, is_selected, wants_format}
use Rattle.apv_base.specs.model.Pbu.{is_frame}
use Rattle.apv_base.specs.model.Video.{tag_of}
use Rattle.apv_frame.specs.Unit.{AreBuffersOf}
use Rattle.apv_grid.specs.Buffer.{Buffer}
use Rattle.apv_unit.proofs.PbusWalk.{Midway}
use Rattle.apv_unit.specs.GivesPbu.{GivesNext}
use Rattle.apv_unit.specs.Pbus.{PbusLeft}
use Rattle.apv_unit.specs.declared.pbus.SoundPbu.{SoundPbu}
use Rattle.apv_dec.specs.Outputs.{first_format, IsFirstFormat, new_format}
use Rattle.apv_dec.proofs.FrameLemmas.{FramesSoFar, frames-start, frames-other, frames-next, frames-end}
use Rattle.apv_dec.proofs.OutputLemmas.{formats-append, formats-push, formats-one}
use Rattle.apv_dec.proofs.PictureLemmas.{Chosen, chosen-frame, IsAtIndex}

-- ---- one more format

-- the first format has no tag
pub first-refused : (before : List Format) (first : Option Format) (format : Format) → first ≡ None → first ≡ first_format before → tag_of format ≡ None → FormatsDiffer (before ++ format ∷ []) (NoTag format)
first-refused [] first format e f none = no_tag format [] refl none
first-refused (one ∷ more) first format e f none = absurd (let no : ⊥ = cc in no)

-- a format isn't the first one
pub other-refused : (before : List Format) (first : Option Format) (one format : Format) → first ≡ Some one → AreOne before → first ≡ first_format before → format ≢ one → FormatsDiffer (before ++ format ∷ []) (FormatChange one format)
other-refused [] first one format e are f ne = absurd (let no : ⊥ = cc in no)
other-refused (head ∷ same) first one format e are f ne =
    let is : head ≡ one = cc in
    subst (λ (x : Format). FormatsDiffer (head ∷ (same ++ format ∷ [])) (FormatChange x format)) is
    (other_format head same format [] refl are (λ (g : format ≡ head). ne (g ∙ is)))

-- formats that differ do so whatever follows them
differ-more : (all more : List Format) (exit : Exit) → FormatsDiffer all exit → FormatsDiffer (all ++ more) exit
differ-more all more exit (no_tag first rest e none) = no_tag first (rest ++ more) (ap (λ (fs : List Format). fs ++ more) e) none
differ-more all more exit (other_format first same other rest e one ne) =
    other_format first same other (rest ++ more) (ap (λ (fs : List Format). fs ++ more) e ∙ ap (λ (fs : List Format). first ∷ fs) (append_assoc same (other ∷ rest) more)) one ne

-- ---- the formats of selected frames

-- those of frames
abbrev pub formats_of : OutputSettings → List DecodedFrame → List Format
formats_of settings frames = map decoded_format (filter (is_selected settings) frames)

of-append : (settings : OutputSettings) (frames more : List DecodedFrame) → formats_of settings (frames ++ more) ≡ formats_of settings frames ++ formats_of settings more
of-append settings frames more = ap (map decoded_format) (filter-append (is_selected settings) frames more) ∙ formats-append (filter (is_selected settings) frames) (filter (is_selected settings) more)

of-selected : (settings : OutputSettings) (frame : DecodedFrame) (more : List DecodedFrame) → is_selected settings frame ≡ true → formats_of settings (frame ∷ more) ≡ decoded_format frame ∷ formats_of settings more
of-selected settings frame more e = ap (λ (b : Bool). map decoded_format (if b then frame ∷ filter (is_selected settings) more else filter (is_selected settings) more)) e

of-other : (settings : OutputSettings) (frame : DecodedFrame) (more : List DecodedFrame) → is_selected settings frame ≡ false → formats_of settings (frame ∷ more) ≡ formats_of settings more
of-other settings frame more e = ap (λ (b : Bool). map decoded_format (if b then frame ∷ filter (is_selected settings) more else filter (is_selected settings) more)) e

-- ---- along the PBUs

-- what is known of the formats of units and of these frames after them: they agree, and this is the first of them
abbrev pub OneAfter : OutputSettings → Option Format → List DecodedFrame → Option Format → Type 0
OneAfter settings initial before now =
    (all : List Format) → AreOne all → initial ≡ first_format all
    → AreOne (all ++ formats_of settings before) × (now ≡ first_format (all ++ formats_of settings before))

-- the formats of the selected frames of the PBUs that were passed agree
pub record AgreeSoFar (settings : OutputSettings) (unit : DecodedUnit) (buffers : List (Buffer ℕ)) (now : PbusLeft) (index : ℕ) (initial first : Option Format) : Type 0 where
  pub before : List DecodedFrame
  pub at : FramesSoFar unit buffers now index before
  pub one : OneAfter settings initial before first

pub start-agrees : (settings : OutputSettings) (unit : DecodedUnit) (buffers : List (Buffer ℕ)) (now : PbusLeft) (first : Option Format) → Midway unit.pbus [] now → AreDecodedFrames unit.pbus unit.frames → AreBuffersOf unit.frames buffers
    → AgreeSoFar settings unit buffers now 0 first first
start-agrees settings unit buffers now first at content held =
    record { before = []; at = frames-start unit buffers now at content held; one = λ all are e. rw (append-nil all) (are, e) }

pub other-agrees : (settings : OutputSettings) (unit : DecodedUnit) (buffers : List (Buffer ℕ)) (now next : PbusLeft) (index : ℕ) (initial first : Option Format) (given : SoundPbu) → AgreeSoFar settings unit buffers now index initial first
    → GivesNext now given next → is_frame given.kind ≡ false → AgreeSoFar settings unit buffers next index initial first
other-agrees settings unit buffers now next index initial first given so steps not = record { before = so.before; at = frames-other unit buffers now next index given so.before so.at steps not; one = so.one }

one-after : (settings : OutputSettings) (initial now : Option Format) (before after : List DecodedFrame) (new : List Format) → formats_of settings after ≡ formats_of settings before ++ new
    → ((all : List Format) → AreOne all → initial ≡ first_format all → AreOne ((all ++ formats_of settings before) ++ new) × (now ≡ first_format ((all ++ formats_of settings before) ++ new)))
    → OneAfter settings initial after now
one-after settings initial now before after new e so all are first =
    let same : (all ++ formats_of settings before) ++ new ≡ all ++ formats_of settings after = append_assoc all (formats_of settings before) new ∙ ap (λ (fs : List Format). all ++ fs) (sym e) in
    subst (λ (fs : List Format). AreOne fs × (now ≡ first_format fs)) same (so all are first)

-- the next frame isn't selected
pub frame-skipped : (settings : OutputSettings) (unit : DecodedUnit) (buffers : List (Buffer ℕ)) (now next : PbusLeft) (index after : ℕ) (initial first : Option Format) (given : SoundPbu) → AgreeSoFar settings unit buffers now index initial first
    → GivesNext now given next → is_frame given.kind ≡ true → Chosen settings false given → after ≡ index + 1 → AgreeSoFar settings unit buffers next after initial first
frame-skipped settings unit buffers now next index after initial first given so steps is chosen e =
    let f = frames-next unit buffers now next index given so.before so.at steps is in
    record {
      before = so.before ++ f.frame ∷ [];
      at = f.after after e;
      one = one-after settings initial first so.before (so.before ++ f.frame ∷ []) [] (of-append settings so.before (f.frame ∷ []) ∙ ap (λ (fs : List Format). formats_of settings so.before ++ fs) (of-other settings f.frame [] (sym (chosen-frame settings false given f.frame f.kind f.group chosen))))
          (λ all are first. rw (append-nil (all ++ formats_of settings so.before)) (so.one all are first));
    }

-- the next frame is selected, and its format agrees with those before it
pub frame-agrees : (settings : OutputSettings) (unit : DecodedUnit) (buffers : List (Buffer ℕ)) (now next : PbusLeft) (index after : ℕ) (initial first new : Option Format) (given : SoundPbu) → AgreeSoFar settings unit buffers now index initial first
    → GivesNext now given next → is_frame given.kind ≡ true → Chosen settings true given → (buffer : Buffer ℕ) (format : Format) → IsAtIndex buffers index buffer → format ≡ buffer.grid.format → after ≡ index + 1
    → ((before : List Format) → AreOne before → first ≡ first_format before → AreOne (before ++ format ∷ []) × (new ≡ first_format (before ++ format ∷ [])))
    → AgreeSoFar settings unit buffers next after initial new
frame-agrees settings unit buffers now next index after initial first new given so steps is chosen buffer format same held e agrees =
    let f = frames-next unit buffers now next index given so.before so.at steps is in
    let has : format ≡ decoded_format f.frame = held ∙ ap (λ (b : Buffer ℕ). b.grid.format) (same f.buffer f.item) ∙ ap (λ (x : Grid). x.format) f.is.grid in
    record {
      before = so.before ++ f.frame ∷ [];
      at = f.after after e;
      one = one-after settings initial new so.before (so.before ++ f.frame ∷ []) (format ∷ [])
          (of-append settings so.before (f.frame ∷ []) ∙ ap (λ (fs : List Format). formats_of settings so.before ++ fs) (of-selected settings f.frame [] (sym (chosen-frame settings true given f.frame f.kind f.group chosen)) ∙ ap (λ (x : Format). x ∷ []) (sym has)))
          (λ all are first. (let one = so.one all are first in agrees (all ++ formats_of settings so.before) one.0 one.1));
    }

-- its format differs from those before it
pub frame-differs : (settings : OutputSettings) (unit : DecodedUnit) (buffers : List (Buffer ℕ)) (now next : PbusLeft) (index : ℕ) (initial first : Option Format) (given : SoundPbu) → AgreeSoFar settings unit buffers now index initial first
    → GivesNext now given next → is_frame given.kind ≡ true → Chosen settings true given → (buffer : Buffer ℕ) (format : Format) (exit : Exit) → IsAtIndex buffers index buffer → format ≡ buffer.grid.format
    → ((before : List Format) → AreOne before → first ≡ first_format before → FormatsDiffer (before ++ format ∷ []) exit)
    → (all : List Format) → AreOne all → initial ≡ first_format all → FormatsDiffer (all ++ formats settings (unit ∷ [])) exit
frame-differs settings unit buffers now next index initial first given so steps is chosen buffer format exit same held differs all are e =
    let f = frames-next unit buffers now next index given so.before so.at steps is in
    let has : format ≡ decoded_format f.frame = held ∙ ap (λ (b : Buffer ℕ). b.grid.format) (same f.buffer f.item) ∙ ap (λ (x : Grid). x.format) f.is.grid in
    let one = so.one all are e in
    let done : List Format = formats_of settings so.before in
    let parts : formats settings (unit ∷ []) ≡ done ++ (format ∷ formats_of settings f.later) =
    formats-one settings unit ∙ ap (formats_of settings) f.parts ∙ of-append settings so.before (f.frame ∷ f.later)
    ∙ ap (λ (fs : List Format). done ++ fs) (of-selected settings f.frame f.later (sym (chosen-frame settings true given f.frame f.kind f.group chosen)) ∙ ap (λ (x : Format). x ∷ formats_of settings f.later) (sym has)) in
    let whole : ((all ++ done) ++ format ∷ []) ++ formats_of settings f.later ≡ all ++ formats settings (unit ∷ []) =
    append_assoc (all ++ done) (format ∷ []) (formats_of settings f.later) ∙ append_assoc all done (format ∷ formats_of settings f.later) ∙ ap (λ (fs : List Format). all ++ fs) (sym parts) in
    subst (λ (fs : List Format). FormatsDiffer fs exit) whole (differ-more ((all ++ done) ++ format ∷ []) (formats_of settings f.later) exit (differs (all ++ done) one.0 one.1))

-- all PBUs were passed
pub all-agree : (settings : OutputSettings) (unit : DecodedUnit) (buffers : List (Buffer ℕ)) (now : PbusLeft) (index : ℕ) (initial first : Option Format) → now.bytes ≡ [] → AgreeSoFar settings unit buffers now index initial first
    → (all : List Format) → AreOne all → initial ≡ first_format all → AreOne (all ++ formats settings (unit ∷ [])) × (first ≡ first_format (all ++ formats settings (unit ∷ [])))
all-agree settings unit buffers now index initial first end so all are e =
    let same : formats_of settings so.before ≡ formats settings (unit ∷ []) = sym (formats-one settings unit ∙ ap (formats_of settings) (frames-end unit buffers now index so.before end so.at)) in
    subst (λ (fs : List Format). AreOne (all ++ fs) × (first ≡ first_format (all ++ fs))) same (so.one all are e)

-- ---- units

-- the formats of units and of one more
one-more : (settings : OutputSettings) (units : List DecodedUnit) (unit : DecodedUnit) → formats settings units ++ formats settings (unit ∷ []) ≡ formats settings (units ++ unit ∷ [])
one-more settings units unit = ap (λ (fs : List Format). formats settings units ++ fs) (formats-one settings unit) ∙ sym (formats-push settings units unit)

if-wanted : (wanted : Bool) (first : Option Format) → wanted ≡ true → (if wanted then first else None) ≡ first
if-wanted true first e = refl
if-wanted false first e = let no : ⊥ = cc in absurd no

-- the first format is wanted
wanted-first : (settings : OutputSettings) (units : List DecodedUnit) (first : Option Format) → wants_format settings ≡ true → IsFirstFormat settings units first → first ≡ first_format (formats settings units)
wanted-first settings units first wants is = is ∙ if-wanted (wants_format settings) (first_format (formats settings units)) wants

units-agree : (settings : OutputSettings) (units : List DecodedUnit) (unit : DecodedUnit) (next : Option Format) → wants_format settings ≡ true
    → AreOne (formats settings units ++ formats settings (unit ∷ [])) × (next ≡ first_format (formats settings units ++ formats settings (unit ∷ [])))
    → FormatsAgree settings (formats settings (units ++ unit ∷ [])) × IsFirstFormat settings (units ++ unit ∷ []) next
units-agree settings units unit next wants so =
    let all = subst (λ (fs : List Format). AreOne fs × (next ≡ first_format fs)) (one-more settings units unit) so in
    (λ _. all.0, all.1 ∙ sym (if-wanted (wants_format settings) (first_format (formats settings (units ++ unit ∷ []))) wants))

units-differ : (settings : OutputSettings) (units : List DecodedUnit) (unit : DecodedUnit) (exit : Exit) → FormatsDiffer (formats settings units ++ formats settings (unit ∷ [])) exit → FormatsDiffer (formats settings (units ++ unit ∷ [])) exit
units-differ settings units unit exit so = subst (λ (fs : List Format). FormatsDiffer fs exit) (one-more settings units unit) so

-- the formats of a unit after those of others, where they have to agree
pub units-judged : (settings : OutputSettings) (units : List DecodedUnit) (unit : DecodedUnit) (first : Option Format) (result : Result (Option Format) Exit) → wants_format settings ≡ true → FormatsAgree settings (formats settings units)
    → IsFirstFormat settings units first
    → ((all : List Format) → AreOne all → first ≡ first_format all → MatchResult result
    (λ next. AreOne (all ++ formats settings (unit ∷ [])) × (next ≡ first_format (all ++ formats settings (unit ∷ [])))) (λ exit. FormatsDiffer (all ++ formats settings (unit ∷ [])) exit))
    → MatchResult result (λ next. FormatsAgree settings (formats settings (units ++ unit ∷ [])) × IsFirstFormat settings (units ++ unit ∷ []) next)
    (λ exit. (wants_format settings ≡ true) × FormatsDiffer (formats settings (units ++ unit ∷ [])) exit)
units-judged settings units unit first (Ok next) wants agree is so = units-agree settings units unit next wants (so (formats settings units) (agree wants) (wanted-first settings units first wants is))
units-judged settings units unit first (Err exit) wants agree is so = (wants, units-differ settings units unit exit (so (formats settings units) (agree wants) (wanted-first settings units first wants is)))

-- ---- the header line

first-tag : (all : List Format) → AreOne all → IfSome (first_format all) (λ format. tag_of format ≢ None)
first-tag [] one = tt
first-tag (first ∷ more) one = one.0

if-first-tag : (wanted : Bool) (all : List Format) (now : Option Format) → (wanted ≡ true → AreOne all) → now ≡ (if wanted then first_format all else None) → IfSome now (λ format. tag_of format ≢ None)
if-first-tag true all now one e = rw e (first-tag all (one refl))
if-first-tag false all now one e = rw e tt

new-tag : (before now : Option Format) → IfSome now (λ format. tag_of format ≢ None) → IfSome (new_format before now) (λ format. tag_of format ≢ None)
new-tag None now so = so
new-tag (Some first) now so = tt

-- the format whose header line is written has a tag
pub header-tag : (settings : OutputSettings) (units : List DecodedUnit) (before now header : Option Format) → FormatsAgree settings (formats settings units) → IsFirstFormat settings units now → header ≡ new_format before now
    → IfSome header (λ format. tag_of format ≢ None)
header-tag settings units before now header agree first e = rw e (new-tag before now (if-first-tag (wants_format settings) (formats settings units) now agree first))
