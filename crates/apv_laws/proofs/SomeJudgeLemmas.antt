-- An access unit of bytes is valid, or breaks a rule, and a file of bytes has a run where content is judged.
use Rattle.std.proofs.Common.{◌≡◌, ℕ, suc, ◌+◌, List, [], ◌∷◌, ◌++◌, length, drop, refl, ap, ◌∙◌, subst, lit<, lit≤, Bool, true, false, ◌⊎◌, inl, inr}
use Rattle.std.specs.List.{AllByRecursion}
use Rattle.std.proofs.lemmas.Bool.{cases_Bool}
use Rattle.std.proofs.lemmas.List.{take_at, drop_at}
use Rattle.apv_base.specs.declared.rules.UnitEnd.TheVariants.{Broken}
use Rattle.apv_base.specs.declared.exits.Exit.{Exit}
use Rattle.apv_base.specs.laws.Answer.{HasSomeAnswer}
use Rattle.apv_base.specs.laws.Judge.{ComponentsHaveOne, ComponentsHaveSome, AreValidUnitBytes}
use Rattle.apv_base.specs.laws.Run.{JudgesAll, GivesRuns}
use Rattle.apv_base.specs.model.Answer.{place_of}
use Rattle.apv_base.specs.model.Bits.{AreBytes}
use Rattle.apv_base.specs.model.Body.{with_bodies, IsSoundBody, body_kind_of}
use Rattle.apv_base.specs.model.CodedFrame.{CodedFrame, HasFrame, Levels}
use Rattle.apv_base.specs.model.Judge.{ContentBreak, DecodedFrame, IsDecodedFrame, AreDecodedFrames, none, other, decoded, FramesBreak, DecodedUnit, UnitBreaks, in_structure, strictly, in_content, ContentBreaks}
use Rattle.apv_base.specs.model.Output.{OutputSettings, wants_format, formats, FormatsAgree, FormatsDiffer, broken, differs, by_content}
use Rattle.apv_base.specs.model.Payload.{Payload}
use Rattle.apv_base.specs.model.Pbu.{Pbu, pbu_table, is_frame}
use Rattle.apv_base.specs.model.Run.{exit_of}
use Rattle.apv_base.specs.model.Sequence.{Sequence}
use Rattle.apv_base.specs.model.Strict.{IsStrict}
use Rattle.apv_base.specs.model.Table.{spell}
use Rattle.apv_base.specs.model.Unit.{HasPbuHeader, PbuAt, Structure}
use Rattle.apv_base.proofs.DigitsLemmas.{digits-drop, digits-take}
use Rattle.apv_base.proofs.FormatLemmas.{formats-some}
use Rattle.apv_base.proofs.FoundFrameLemmas.{some-frame}
use Rattle.apv_base.proofs.JudgeLemmas.{by_content-once}
use Rattle.apv_base.proofs.SomeRunLemmas.{gives-runs}
use Rattle.apv_base.proofs.SomeUnitLemmas.{unit-or}
use Rattle.apv_base.proofs.StrictLemmas.{strict-some}
use Rattle.apv_base.proofs.TableLemmas.{walked-spelled}
use Rattle.apv_base.proofs.UnitLemmas.{frame-sound}
use Rattle.apv_laws.proofs.SomeContentLemmas.{content-some}

-- ---- the frames of a unit

-- a body of a frame's type is a coded frame
abbrev pub IsFramePbu : Pbu → Type 0
IsFramePbu pbu = is_frame pbu.kind ≡ true → (frame : CodedFrame) × HasFrame pbu.body frame

-- a sound body of a frame's type is a coded frame
sound-frame : (kind : ℕ) (body : List ℕ) (payloads : List Payload) → AreBytes body → IsSoundBody (body_kind_of with_bodies kind) body payloads → is_frame kind ≡ true → (frame : CodedFrame) × HasFrame body frame
sound-frame kind body payloads bytes sound is =
    let here = frame-sound kind body payloads is sound in
    some-frame body here.0 here.1 bytes here.2

-- the bytes of a body, and those after it
body-bytes : (xs : List ℕ) (kind group : ℕ) (body after : List ℕ) → AreBytes xs → HasPbuHeader xs kind group body after → AreBytes body × AreBytes after
body-bytes xs kind group body after bytes header =
    let values : List ℕ = (length body + 4) ∷ kind ∷ group ∷ 0 ∷ [] in
    let spelled = walked-spelled 256 pbu_table xs values (body ++ after) (lit< tt) (lit≤ tt) bytes header in
    let prefix : List ℕ = spell 256 pbu_table values in
    let both : AreBytes (body ++ after) = subst AreBytes (ap (drop (length prefix)) spelled ∙ drop_at prefix (body ++ after) (length prefix) refl) (digits-drop 256 (length prefix) xs bytes) in (
      subst AreBytes (take_at body after (length body) refl) (digits-take 256 (length body) (body ++ after) (lit< tt) both),
      subst AreBytes (drop_at body after (length body) refl) (digits-drop 256 (length body) (body ++ after) both),
    )

-- the PBUs of a frame's type among sound ones are coded frames
frame-pbus : (xs : List ℕ) (pbus : List Pbu) (rest : List ℕ) → AreBytes xs → Sequence (PbuAt with_bodies) xs pbus rest → AllByRecursion IsFramePbu pbus
frame-pbus xs [] rest bytes row = tt
frame-pbus xs (pbu ∷ pbus) rest bytes (after, at, row) =
    let both = body-bytes xs pbu.kind pbu.group pbu.body after bytes at.header in
    (sound-frame pbu.kind pbu.body pbu.payloads both.0 at.sound, frame-pbus after pbus rest both.1 row)

-- frames are valid, or the content of one is the first that breaks a rule
abbrev FramesOr : List Pbu → Type 0
FramesOr pbus = ((frames : List DecodedFrame) × AreDecodedFrames pbus frames) ⊎ ((n : ℕ) × (at : ContentBreak) × FramesBreak pbus n at)

break-later : (pbu : Pbu) (pbus : List Pbu) (n : ℕ) (at : ContentBreak) (frames : List DecodedFrame) (b : FramesBreak pbus n at) → AreDecodedFrames (pbu ∷ b.prefix) frames → FramesBreak (pbu ∷ pbus) (suc n) at
break-later pbu pbus n at frames b all = record {
  prefix = pbu ∷ b.prefix;
  pbu = b.pbu;
  later = b.later;
  frames = frames;
  frame = b.frame;
  parts = ap (λ (ps : List Pbu). pbu ∷ ps) b.parts;
  count = ap suc b.count;
  decoded = all;
  is_frame = b.is_frame;
  has_frame = b.has_frame;
  breaks = b.breaks;
}

break-here : (pbu : Pbu) (pbus : List Pbu) (coded : CodedFrame) (at : ContentBreak) → is_frame pbu.kind ≡ true → HasFrame pbu.body coded → ContentBreaks coded at → FramesBreak (pbu ∷ pbus) 0 at
break-here pbu pbus coded at is has b = record {
  prefix = [];
  pbu = pbu;
  later = pbus;
  frames = [];
  frame = coded;
  parts = refl;
  count = refl;
  decoded = none;
  is_frame = is;
  has_frame = has;
  breaks = b;
}

-- another PBU, or a frame, before
other-before : (pbu : Pbu) (pbus : List Pbu) → is_frame pbu.kind ≡ false → FramesOr pbus → FramesOr (pbu ∷ pbus)
other-before pbu pbus e (inl (frames, all)) = inl (frames, other pbu pbus frames e all)
other-before pbu pbus e (inr (n, at, b)) = inr (suc n, at, break-later pbu pbus n at b.frames b (other pbu b.prefix b.frames e b.decoded))

frame-before : (pbu : Pbu) (pbus : List Pbu) (coded : CodedFrame) (levels : Levels) → is_frame pbu.kind ≡ true → IsDecodedFrame pbu (record { kind = pbu.kind; group = pbu.group; frame = coded; levels = levels }) → FramesOr pbus → FramesOr (pbu ∷ pbus)
frame-before pbu pbus coded levels e is (inl (frames, all)) =
    let first : DecodedFrame = record { kind = pbu.kind; group = pbu.group; frame = coded; levels = levels } in inl (first ∷ frames, decoded pbu pbus first frames e is all)
frame-before pbu pbus coded levels e is (inr (n, at, b)) =
    let first : DecodedFrame = record { kind = pbu.kind; group = pbu.group; frame = coded; levels = levels } in
    inr (suc n, at, break-later pbu pbus n at (first ∷ b.frames) b (decoded pbu b.prefix first b.frames e is b.decoded))

frame-content : ComponentsHaveSome → (pbu : Pbu) (pbus : List Pbu) (coded : CodedFrame) → is_frame pbu.kind ≡ true → HasFrame pbu.body coded → FramesOr pbus → FramesOr (pbu ∷ pbus)
frame-content some pbu pbus coded e has more = elim (content-some some coded) [
  | inl l ↦ frame-before pbu pbus coded l.0 e (record { kind = refl; group = refl; frame = has; levels = l.1 }) more
  | inr b ↦ inr (0, b.0, break-here pbu pbus coded b.0 e has b.1)
]

frames-or : ComponentsHaveSome → (pbus : List Pbu) → AllByRecursion IsFramePbu pbus → FramesOr pbus
frames-or some [] all = inl ([], none)
frames-or some (pbu ∷ pbus) all = elim (cases_Bool (is_frame pbu.kind)) [
  | inl e ↦ (let coded = all.0 e in frame-content some pbu pbus coded.0 e coded.1 (frames-or some pbus all.1))
  | inr e ↦ other-before pbu pbus e (frames-or some pbus all.1)
]

-- ---- an access unit

abbrev UnitOr : Bool → ℕ → List ℕ → Type 0
UnitOr strict n bytes = HasSomeAnswer (AreValidUnitBytes strict bytes) (UnitBreaks strict n bytes)

unit-content : ComponentsHaveSome → (strict : Bool) (n : ℕ) (bytes : List ℕ) (pbus : List Pbu) → AreBytes bytes → Structure with_bodies bytes pbus → (strict ≡ true → IsStrict pbus) → UnitOr strict n bytes
unit-content some strict n bytes pbus are s on = elim (frames-or some pbus (frame-pbus (drop 4 bytes) pbus [] (digits-drop 256 4 bytes are) s.sequence)) [
  | inl f ↦ inl (record { bytes = bytes; pbus = pbus; frames = f.0 }, (refl, record { structure = s; strictly = on; content = f.1 }))
  | inr b ↦ inr (Broken (record { rule = b.1.rule; place = record { unit = n; pbu = b.0; tile = b.1.tile; comp = b.1.comp } }), in_content pbus b.0 b.1 s on b.2)
]

unit-strict : ComponentsHaveSome → (strict : Bool) (n : ℕ) (bytes : List ℕ) (pbus : List Pbu) → AreBytes bytes → Structure with_bodies bytes pbus → UnitOr strict n bytes
unit-strict some false n bytes pbus are s = unit-content some false n bytes pbus are s (λ on. absurd (let no : ⊥ = cc (on) in no))
unit-strict some true n bytes pbus are s = elim (strict-some pbus) [
  | inl is ↦ unit-content some true n bytes pbus are s (λ on. is.1)
  | inr b ↦ inr (Broken (record { rule = b.0.0; place = place_of n b.0.1 }), strictly pbus b.0.0 b.0.1 s refl b.1)
]

-- an access unit of bytes is valid, or breaks a rule
pub unit-some : ComponentsHaveSome → (strict : Bool) (n : ℕ) (bytes : List ℕ) → AreBytes bytes → HasSomeAnswer (AreValidUnitBytes strict bytes) (UnitBreaks strict n bytes)
unit-some some strict n bytes are = elim (unit-or with_bodies n bytes) [
  | inl s ↦ unit-strict some strict n bytes s.0 are s.1
  | inr b ↦ inr (b.0, in_structure b.0 b.1)
]

-- ---- a file

agree-or : (settings : OutputSettings) (before : List DecodedUnit) (unit : DecodedUnit) → FormatsAgree settings (formats settings (before ++ unit ∷ []))
    ⊎ ((wants_format settings ≡ true) × ((exit : Exit) × FormatsDiffer (formats settings (before ++ unit ∷ [])) exit))
agree-or settings before unit = elim (cases_Bool (wants_format settings)) [
  | inr off ↦ inl (λ on. absurd (let no : ⊥ = cc (on, off) in no))
  | inl on ↦ elim (formats-some (formats settings (before ++ unit ∷ []))) [
    | inl are ↦ inl (λ wants. are.1)
    | inr d ↦ inr (on, d)
  ]
]

pub by_content-all : ComponentsHaveSome → (settings : OutputSettings) → JudgesAll (by_content settings)
by_content-all some settings before bytes all are small = elim (unit-some some settings.strict (length before) bytes are) [
  | inr b ↦ inr (exit_of b.0, broken b.0 b.1)
  | inl u ↦ elim (agree-or settings before u.0) [
    | inl agree ↦ inl (u.0, (u.1.0, (u.1.1, agree)))
    | inr d ↦ inr (d.1.0, differs u.0 d.1.0 u.1.0 u.1.1 d.0 d.1.1)
  ]
]

-- where the bytes of components have one answer, a file of bytes has one run
pub by_content-runs : ComponentsHaveOne → ComponentsHaveSome → (settings : OutputSettings) → GivesRuns (by_content settings)
by_content-runs once some settings = gives-runs (by_content settings) (by_content-once once settings) (by_content-all some settings)
