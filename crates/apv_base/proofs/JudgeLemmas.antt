-- Where the bytes of components have one answer, the content of a frame, an access unit and a file have one.
use Rattle.std.proofs.Common.{◌≡◌, ℕ, zero, suc, ℤ, ◌<◌, List, [], ◌∷◌, ◌++◌, length, get_or, refl, sym, ap, ap₂, ◌∙◌, subst, arith, Bool, true, false, ◌⊎◌, inl, inr}
use Rattle.std.specs.List.{AllByRecursion}
use Rattle.std.proofs.lemmas.Bool.{cases_lt}
use Rattle.std.proofs.lemmas.List.{ext_get_or}
use Rattle.apv_base.specs.declared.rules.Rule.{Rule}
use Rattle.apv_base.specs.declared.rules.UnitEnd.{UnitEnd}
use Rattle.apv_base.specs.declared.rules.UnitEnd.TheVariants.{Broken}
use Rattle.apv_base.specs.declared.exits.Exit.{Exit}
use Rattle.apv_base.specs.laws.Answer.{HasOneAnswer}
use Rattle.apv_base.specs.laws.Judge.{ComponentsHaveOne, AreValidUnitBytes}
use Rattle.apv_base.specs.laws.Run.{JudgesOnce}
use Rattle.apv_base.specs.model.Answer.{place_of}
use Rattle.apv_base.specs.model.CodedFrame.{CodedFrame, HasFrame, Levels, blocks_at, Exists, HasBlocks, HasLevels, tile_at, component_data}
use Rattle.apv_base.specs.model.Component.{ComponentBreaks}
use Rattle.apv_base.specs.model.Grid.{block_count}
use Rattle.apv_base.specs.model.Header.{header_comps, grid_of}
use Rattle.apv_base.specs.model.Judge.{ContentBreak, Before, ContentBreaks, DecodedFrame, IsDecodedFrame, AreDecodedFrames, none, other, decoded, FramesBreak, DecodedUnit, IsValidUnit, UnitBreaks, in_structure, strictly, in_content}
use Rattle.apv_base.specs.model.Output.{OutputSettings, formats, AreOne, FormatsDiffer, IsUndecoded, broken, differs, by_content}
use Rattle.apv_base.specs.model.Pbu.{Pbu, is_frame}
use Rattle.apv_base.specs.model.Run.{exit_of}
use Rattle.apv_base.specs.model.Strict.{IsStrict, StrictBreaks}
use Rattle.apv_base.specs.model.Body.{with_bodies}
use Rattle.apv_base.specs.model.Unit.{Structure}
use Rattle.apv_base.proofs.CodedFrameLemmas.{one-frame}
use Rattle.apv_base.proofs.FormatLemmas.{agree-or-differ, one-difference}
use Rattle.apv_base.proofs.OneUnitLemmas.{one-structure, valid-or-broken, one-break}
use Rattle.apv_base.proofs.SplitLemmas.{splits, same, first, second}
use Rattle.apv_base.proofs.StrictLemmas.{strict-once}

-- ---- the content of a frame

all-at : {A : Type 0} (P : A → Type 0) (d : A) (xs : List A) (i : ℕ) → AllByRecursion P xs → i < length xs → P (get_or xs i d)
all-at P d [] i all lt = absurd (omega arith)
all-at P d (x ∷ xs) zero all lt = all.0
all-at P d (x ∷ xs) (suc i) all lt = all-at P d xs i all.1 (omega arith)

-- the levels of a frame are determined
levels-same : ComponentsHaveOne → (frame : CodedFrame) (ls ms : Levels) → HasLevels frame ls → HasLevels frame ms → ls ≡ ms
levels-same once frame ls ms p q =
    ext_get_or [] ls ms (p.tiles ∙ sym q.tiles)
    (λ tile lt.
    let a : length (get_or ls tile []) ≡ header_comps frame.header = all-at (λ (t : List (List (List ℤ))). length t ≡ header_comps frame.header) [] ls tile p.comps lt in
    let b : length (get_or ms tile []) ≡ header_comps frame.header = all-at (λ (t : List (List (List ℤ))). length t ≡ header_comps frame.header) [] ms tile q.comps (omega (arith, lt, p.tiles, q.tiles)) in
    ext_get_or [] (get_or ls tile []) (get_or ms tile []) (a ∙ sym b)
    (λ comp lt'.
    let exists : Exists frame tile comp = (omega (arith, lt, p.tiles), omega (arith, lt', a)) in
    (once (block_count (grid_of frame.header) tile comp) (component_data (tile_at frame tile) comp)).accepted (blocks_at ls tile comp) (blocks_at ms tile comp) (p.blocks tile comp exists) (q.blocks tile comp exists)))

-- blocks don't break
blocks-or-break : {A : Type 0} → ComponentsHaveOne → (frame : CodedFrame) (tile comp : ℕ) (blocks : List (List ℤ)) (rule : Rule) → HasBlocks frame tile comp blocks
    → ComponentBreaks (block_count (grid_of frame.header) tile comp) (component_data (tile_at frame tile) comp) rule → A
blocks-or-break once frame tile comp blocks rule p b = absurd ((once (block_count (grid_of frame.header) tile comp) (component_data (tile_at frame tile) comp)).not_both blocks rule p b)

levels-or-break : {A : Type 0} → ComponentsHaveOne → (frame : CodedFrame) (ls : Levels) (at : ContentBreak) → HasLevels frame ls → ContentBreaks frame at → A
levels-or-break once frame ls at p b = blocks-or-break once frame at.tile at.comp (blocks_at ls at.tile at.comp) at.rule (p.blocks at.tile at.comp b.exists) b.breaks

-- of two components one comes before the other, or they are one
in-order : (tile comp tile' comp' : ℕ) → Before tile comp tile' comp' ⊎ (Before tile' comp' tile comp ⊎ ((tile ≡ tile') × (comp ≡ comp')))
in-order tile comp tile' comp' = elim (cases_lt tile tile') [
  | inl lt ↦ inl (inl lt)
  | inr ge ↦ elim (cases_lt tile' tile) [
    | inl gt ↦ inr (inl (inl gt))
    | inr le ↦ elim (cases_lt comp comp') [
      | inl lt ↦ inl (inr (omega arith, lt))
      | inr ge' ↦ elim (cases_lt comp' comp) [
        | inl gt ↦ inr (inl (inr (omega arith, gt)))
        | inr le' ↦ inr (inr (omega arith, omega arith))
      ]
    ]
  ]
]

same-break : (t t' c c' : ℕ) (r r' : Rule) → t ≡ t' → c ≡ c' → r ≡ r' → ◌≡◌ {A = ContentBreak} (record { tile = t; comp = c; rule = r }) (record { tile = t'; comp = c'; rule = r' })
same-break t t' c c' r r' e f g = rw (e, f, g) refl

break-along : (frame : CodedFrame) (t t' c c' : ℕ) (rule : Rule) → t ≡ t' → c ≡ c' → ComponentBreaks (block_count (grid_of frame.header) t c) (component_data (tile_at frame t) c) rule
    → ComponentBreaks (block_count (grid_of frame.header) t' c') (component_data (tile_at frame t') c') rule
break-along frame t t' c c' rule e f b =
    subst (λ (i : ℕ). ComponentBreaks (block_count (grid_of frame.header) t' i) (component_data (tile_at frame t') i) rule) f
    (subst (λ (i : ℕ). ComponentBreaks (block_count (grid_of frame.header) i c) (component_data (tile_at frame i) c) rule) e b)

one-content-break : ComponentsHaveOne → (frame : CodedFrame) (a b : ContentBreak) → ContentBreaks frame a → ContentBreaks frame b → a ≡ b
one-content-break once frame a b p q = elim (in-order a.tile a.comp b.tile b.comp) [
  | inl lt ↦ (let good = q.before a.tile a.comp p.exists lt in blocks-or-break once frame a.tile a.comp good.0 a.rule good.1 p.breaks)
  | inr later ↦ elim later [
    | inl gt ↦ (let good = p.before b.tile b.comp q.exists gt in blocks-or-break once frame b.tile b.comp good.0 b.rule good.1 q.breaks)
    | inr here ↦ same-break a.tile b.tile a.comp b.comp a.rule b.rule here.0 here.1
        ((once (block_count (grid_of frame.header) b.tile b.comp) (component_data (tile_at frame b.tile) b.comp)).refused a.rule b.rule (break-along frame a.tile b.tile a.comp b.comp a.rule here.0 here.1 p.breaks) q.breaks)
  ]
]

pub content-once : ComponentsHaveOne → (frame : CodedFrame) → HasOneAnswer (HasLevels frame) (ContentBreaks frame)
content-once once frame = record { accepted = levels-same once frame; refused = one-content-break once frame; not_both = λ ls at p b. levels-or-break once frame ls at p b }

-- ---- the frames of an access unit

same-decoded : (k k' g g' : ℕ) (f f' : CodedFrame) (l l' : Levels) → k ≡ k' → g ≡ g' → f ≡ f' → l ≡ l'
    → ◌≡◌ {A = DecodedFrame} (record { kind = k; group = g; frame = f; levels = l }) (record { kind = k'; group = g'; frame = f'; levels = l' })
same-decoded k k' g g' f f' l l' e1 e2 e3 e4 = rw (e1, e2, e3, e4) refl

one-decoded : ComponentsHaveOne → (pbu : Pbu) (a b : DecodedFrame) → IsDecodedFrame pbu a → IsDecodedFrame pbu b → a ≡ b
one-decoded once pbu a b p q =
    let frames = one-frame pbu.body a.frame b.frame p.frame q.frame in
    same-decoded a.kind b.kind a.group b.group a.frame b.frame a.levels b.levels (sym p.kind ∙ q.kind) (sym p.group ∙ q.group) frames
    (levels-same once b.frame a.levels b.levels (subst (λ (f : CodedFrame). HasLevels f a.levels) frames p.levels) q.levels)

frame-or-not : {A : Type 0} (pbu : Pbu) → is_frame pbu.kind ≡ true → is_frame pbu.kind ≡ false → A
frame-or-not pbu e f = absurd (let no : ⊥ = cc (e, f) in no)

decoded-same : ComponentsHaveOne → (pbus : List Pbu) (fs gs : List DecodedFrame) → AreDecodedFrames pbus fs → AreDecodedFrames pbus gs → fs ≡ gs
decoded-same once [] fs gs none none = refl
decoded-same once (p ∷ ps) fs gs (other _ _ fs' e d) (other _ _ gs' e' d') = decoded-same once ps fs' gs' d d'
decoded-same once (p ∷ ps) fs gs (other _ _ fs' e d) (decoded _ _ g gs' e' i d') = frame-or-not p e' e
decoded-same once (p ∷ ps) fs gs (decoded _ _ f fs' e i d) (other _ _ gs' e' d') = frame-or-not p e e'
decoded-same once (p ∷ ps) fs gs (decoded _ _ f fs' e i d) (decoded _ _ g gs' e' i' d') =
    ap₂ (λ (x : DecodedFrame) (xs : List DecodedFrame). x ∷ xs) (one-decoded once p f g i i') (decoded-same once ps fs' gs' d d')

-- each frame among valid ones is decoded
decoded-at : (prefix : List Pbu) (pbu : Pbu) (later : List Pbu) (fs : List DecodedFrame) → AreDecodedFrames (prefix ++ pbu ∷ later) fs → is_frame pbu.kind ≡ true → (d : DecodedFrame) × IsDecodedFrame pbu d
decoded-at [] pbu later fs (other _ _ fs' e d) is = frame-or-not pbu is e
decoded-at [] pbu later fs (decoded _ _ f fs' e i d) is = (f, i)
decoded-at (p ∷ prefix) pbu later fs (other _ _ fs' e d) is = decoded-at prefix pbu later fs' d is
decoded-at (p ∷ prefix) pbu later fs (decoded _ _ f fs' e i d) is = decoded-at prefix pbu later fs' d is

-- a frame isn't valid and broken
frame-or-break : {A : Type 0} → ComponentsHaveOne → (pbu : Pbu) (d : DecodedFrame) (frame : CodedFrame) (at : ContentBreak) → IsDecodedFrame pbu d → HasFrame pbu.body frame → ContentBreaks frame at → A
frame-or-break once pbu d frame at i h b =
    let frames = one-frame pbu.body frame d.frame h i.frame in
    levels-or-break once d.frame d.levels at i.levels (subst (λ (f : CodedFrame). ContentBreaks f at) frames b)

valid-or-break : {A : Type 0} → ComponentsHaveOne → (pbus : List Pbu) (fs : List DecodedFrame) (n : ℕ) (at : ContentBreak) → AreDecodedFrames pbus fs → FramesBreak pbus n at → A
valid-or-break once pbus fs n at all b =
    let d = decoded-at b.prefix b.pbu b.later fs (subst (λ (ps : List Pbu). AreDecodedFrames ps fs) b.parts all) b.is_frame in
    frame-or-break once b.pbu d.0 b.frame at d.1 b.has_frame b.breaks

-- no broken frame comes before another one
before-break : {A : Type 0} → ComponentsHaveOne → (pbus : List Pbu) (n m : ℕ) (a b : ContentBreak) (p : FramesBreak pbus n a) (q : FramesBreak pbus m b) (more : List Pbu) → q.prefix ≡ p.prefix ++ p.pbu ∷ more → A
before-break once pbus n m a b p q more e =
    let d = decoded-at p.prefix p.pbu more q.frames (subst (λ (ps : List Pbu). AreDecodedFrames ps q.frames) e q.decoded) p.is_frame in
    frame-or-break once p.pbu d.0 p.frame a d.1 p.has_frame p.breaks

break-here : ComponentsHaveOne → (pbu pbu' : Pbu) (f g : CodedFrame) (a b : ContentBreak) → pbu ≡ pbu' → HasFrame pbu.body f → HasFrame pbu'.body g → ContentBreaks f a → ContentBreaks g b → a ≡ b
break-here once pbu pbu' f g a b e h h' p q =
    let frames = one-frame pbu'.body f g (subst (λ (x : Pbu). HasFrame x.body f) e h) h' in
    one-content-break once g a b (subst (λ (x : CodedFrame). ContentBreaks x a) frames p) q

one-frames-break : ComponentsHaveOne → (pbus : List Pbu) (n m : ℕ) (a b : ContentBreak) → FramesBreak pbus n a → FramesBreak pbus m b → (n ≡ m) × (a ≡ b)
one-frames-break once pbus n m a b p q = elim (splits p.prefix p.pbu p.later q.prefix q.pbu q.later (sym p.parts ∙ q.parts)) [
  | same e s ↦ (sym p.count ∙ ap (length {A = Pbu}) e ∙ q.count, break-here once p.pbu q.pbu p.frame q.frame a b s p.has_frame q.has_frame p.breaks q.breaks)
  | first more e ↦ before-break once pbus n m a b p q more e
  | second more e ↦ before-break once pbus m n b a q p more e
]

-- ---- an access unit

same-unit : (x x' : List ℕ) (p p' : List Pbu) (f f' : List DecodedFrame) → x ≡ x' → p ≡ p' → f ≡ f'
    → ◌≡◌ {A = DecodedUnit} (record { bytes = x; pbus = p; frames = f }) (record { bytes = x'; pbus = p'; frames = f' })
same-unit x x' p p' f f' e1 e2 e3 = rw (e1, e2, e3) refl

one-valid : ComponentsHaveOne → (strict : Bool) (a b : DecodedUnit) → a.bytes ≡ b.bytes → IsValidUnit strict a → IsValidUnit strict b → a ≡ b
one-valid once strict a b e p q =
    let pbus = one-structure with_bodies b.bytes a.pbus b.pbus (subst (λ (x : List ℕ). Structure with_bodies x a.pbus) e p.structure) q.structure in
    same-unit a.bytes b.bytes a.pbus b.pbus a.frames b.frames e pbus (decoded-same once b.pbus a.frames b.frames (subst (λ (ps : List Pbu). AreDecodedFrames ps a.frames) pbus p.content) q.content)

-- a unit of sound structure is the one that breaks later
strict-or-not : {A : Type 0} (bytes : List ℕ) (pbus pbus' : List Pbu) (b : Rule × ℕ) → Structure with_bodies bytes pbus → Structure with_bodies bytes pbus' → IsStrict pbus → StrictBreaks pbus' b → A
strict-or-not bytes pbus pbus' b s s' is br =
    let pbus_same = one-structure with_bodies bytes pbus pbus' s s' in
    absurd ((strict-once pbus').not_both tt b (subst IsStrict pbus_same is) br)

valid-or-broken-unit : {A : Type 0} → ComponentsHaveOne → (strict : Bool) (n : ℕ) (bytes : List ℕ) (unit : DecodedUnit) (end : UnitEnd) → unit.bytes ≡ bytes → IsValidUnit strict unit → UnitBreaks strict n bytes end → A
valid-or-broken-unit once strict n bytes unit end e v (in_structure end' b) = valid-or-broken with_bodies n bytes unit.pbus end' (subst (λ (x : List ℕ). Structure with_bodies x unit.pbus) e v.structure) b
valid-or-broken-unit once strict n bytes unit end e v (strictly pbus rule pbu s on b) =
    strict-or-not bytes unit.pbus pbus (rule, pbu) (subst (λ (x : List ℕ). Structure with_bodies x unit.pbus) e v.structure) s (v.strictly on) b
valid-or-broken-unit once strict n bytes unit end e v (in_content pbus pbu at s on b) =
    let pbus_same = one-structure with_bodies bytes unit.pbus pbus (subst (λ (x : List ℕ). Structure with_bodies x unit.pbus) e v.structure) s in
    valid-or-break once pbus unit.frames pbu at (subst (λ (ps : List Pbu). AreDecodedFrames ps unit.frames) pbus_same v.content) b

strict-end : (n : ℕ) (b c : Rule × ℕ) → b ≡ c → ◌≡◌ {A = UnitEnd} (Broken (record { rule = b.0; place = place_of n b.1 })) (Broken (record { rule = c.0; place = place_of n c.1 }))
strict-end n b c e = ap {B = UnitEnd} (λ (x : Rule × ℕ). Broken (record { rule = x.0; place = place_of n x.1 })) e

content-end : (n p q : ℕ) (a b : ContentBreak) → p ≡ q → a ≡ b
    → ◌≡◌ {A = UnitEnd} (Broken (record { rule = a.rule; place = record { unit = n; pbu = p; tile = a.tile; comp = a.comp } })) (Broken (record { rule = b.rule; place = record { unit = n; pbu = q; tile = b.tile; comp = b.comp } }))
content-end n p q a b e f = ap₂ {C = UnitEnd} (λ (i : ℕ) (x : ContentBreak). Broken (record { rule = x.rule; place = record { unit = n; pbu = i; tile = x.tile; comp = x.comp } })) e f

one-unit-break : ComponentsHaveOne → (strict : Bool) (n : ℕ) (bytes : List ℕ) (x y : UnitEnd) → UnitBreaks strict n bytes x → UnitBreaks strict n bytes y → x ≡ y
one-unit-break once strict n bytes x y (in_structure e b) (in_structure f c) = one-break with_bodies n bytes e f b c
one-unit-break once strict n bytes x y (in_structure e b) (strictly pbus rule pbu s on c) = valid-or-broken with_bodies n bytes pbus e s b
one-unit-break once strict n bytes x y (in_structure e b) (in_content pbus pbu at s on c) = valid-or-broken with_bodies n bytes pbus e s b
one-unit-break once strict n bytes x y (strictly pbus rule pbu s on b) (in_structure f c) = valid-or-broken with_bodies n bytes pbus f s c
one-unit-break once strict n bytes x y (strictly pbus rule pbu s on b) (strictly pbus' rule' pbu' s' on' c) =
    let pbus_same = one-structure with_bodies bytes pbus pbus' s s' in
    strict-end n (rule, pbu) (rule', pbu') ((strict-once pbus').refused (rule, pbu) (rule', pbu') (subst (λ (ps : List Pbu). StrictBreaks ps (rule, pbu)) pbus_same b) c)
one-unit-break once strict n bytes x y (strictly pbus rule pbu s on b) (in_content pbus' pbu' at s' on' c) = strict-or-not bytes pbus' pbus (rule, pbu) s' s (on' on) b
one-unit-break once strict n bytes x y (in_content pbus pbu at s on b) (in_structure f c) = valid-or-broken with_bodies n bytes pbus f s c
one-unit-break once strict n bytes x y (in_content pbus pbu at s on b) (strictly pbus' rule' pbu' s' on' c) = strict-or-not bytes pbus pbus' (rule', pbu') s s' (on on') c
one-unit-break once strict n bytes x y (in_content pbus pbu at s on b) (in_content pbus' pbu' at' s' on' c) =
    let pbus_same = one-structure with_bodies bytes pbus pbus' s s' in
    let one = one-frames-break once pbus' pbu pbu' at at' (subst (λ (ps : List Pbu). FramesBreak ps pbu at) pbus_same b) c in
    content-end n pbu pbu' at at' one.0 one.1

pub unit-once : ComponentsHaveOne → (strict : Bool) (n : ℕ) (bytes : List ℕ) → HasOneAnswer (AreValidUnitBytes strict bytes) (UnitBreaks strict n bytes)
unit-once once strict n bytes = record {
  accepted = λ a b p q. one-valid once strict a b (p.0 ∙ sym q.0) p.1 q.1;
  refused = one-unit-break once strict n bytes;
  not_both = λ a e p b. valid-or-broken-unit once strict n bytes a e p.0 p.1 b;
}

-- ---- a file

one-undecoded : ComponentsHaveOne → (settings : OutputSettings) (before : List DecodedUnit) (bytes : List ℕ) (x y : Exit) → IsUndecoded settings before bytes x → IsUndecoded settings before bytes y → x ≡ y
one-undecoded once settings before bytes x y (broken e b) (broken f c) = ap exit_of (one-unit-break once settings.strict (length before) bytes e f b c)
one-undecoded once settings before bytes x y (broken e b) (differs unit f same_bytes v on d) = valid-or-broken-unit once settings.strict (length before) bytes unit e same_bytes v b
one-undecoded once settings before bytes x y (differs unit e same_bytes v on d) (broken f c) = valid-or-broken-unit once settings.strict (length before) bytes unit f same_bytes v c
one-undecoded once settings before bytes x y (differs unit e same_bytes v on d) (differs unit' f same_bytes' v' on' d') =
    let units = one-valid once settings.strict unit unit' (same_bytes ∙ sym same_bytes') v v' in
    one-difference (formats settings (before ++ unit' ∷ [])) e f (subst (λ (u : DecodedUnit). FormatsDiffer (formats settings (before ++ u ∷ [])) e) units d) d'

decoded-or-not : {A : Type 0} → ComponentsHaveOne → (settings : OutputSettings) (before : List DecodedUnit) (bytes : List ℕ) (unit : DecodedUnit) (x : Exit) → unit.bytes ≡ bytes → (by_content settings).Accepts before unit → IsUndecoded settings before bytes x → A
decoded-or-not once settings before bytes unit x e p (broken f b) = valid-or-broken-unit once settings.strict (length before) bytes unit f e p.0 b
decoded-or-not once settings before bytes unit x e p (differs unit' f same_bytes v on d) =
    let units = one-valid once settings.strict unit unit' (e ∙ sym same_bytes) p.0 v in
    agree-or-differ (formats settings (before ++ unit' ∷ [])) f (subst (λ (u : DecodedUnit). AreOne (formats settings (before ++ u ∷ []))) units (p.1 on)) d

pub by_content-once : ComponentsHaveOne → (settings : OutputSettings) → JudgesOnce (by_content settings)
by_content-once once settings before bytes all = record {
  accepted = λ a b p q. one-valid once settings.strict a b (p.0 ∙ sym q.0) p.1.0 q.1.0;
  refused = one-undecoded once settings before bytes;
  not_both = λ a x p b. decoded-or-not once settings before bytes a x p.0 p.1 b;
}
