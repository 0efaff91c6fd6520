-- What is at the start of a list is one payload or PBU, a body or an access unit has one reading, and it is sound or
-- breaks one rule.
use Rattle.std.proofs.Common.{◌≡◌, ℕ, List, [], ◌∷◌, length, take, drop, refl, sym, ap, ap₂, ◌∙◌, subst, lit<, Result, Err}
use Rattle.apv_base.specs.declared.rules.Rule.{Rule}
use Rattle.apv_base.specs.declared.rules.Rule.TheVariants.{V4, V26}
use Rattle.apv_base.specs.declared.rules.HeadEnd.{HeadEnd}
use Rattle.apv_base.specs.declared.rules.HeadEnd.TheVariants.{Rule as breaks}
use Rattle.apv_base.specs.declared.rules.UnitEnd.{UnitEnd}
use Rattle.apv_base.specs.model.Table.{walk, coded_at}
use Rattle.apv_base.specs.model.Payload.{Payload, payload_table, payload_values, PayloadAt, ArePayloads, HasPartialPayload}
use Rattle.apv_base.specs.model.Pbu.{Pbu, pbu_table, IsMetadata, MetadataBreaks, in_size, in_payloads, in_filler}
use Rattle.apv_base.specs.model.Body.{Reach, BodyKind, unread, metadata, filler, frame, au_info, body_kind_of, IsSoundBody, BodyBreaks}
use Rattle.apv_base.specs.model.Unit.{HasPbuHeader, PbuAt, PbuBreaks, in_header, in_body, Structure, unit_end, StructureBreaks, unsigned, broken}
use Rattle.apv_base.proofs.FrameLemmas.{sound-or-broken-frame, one-frame-end, sound-or-broken-au_info, one-au_info-end}
use Rattle.apv_base.proofs.TableLemmas.{pair_of-Ok}
use Rattle.apv_base.proofs.SequenceLemmas.{HasOneItem, sequence-one}
use Rattle.apv_base.proofs.PbuLemmas.{no-size, one-header}
use Rattle.apv_base.proofs.UnitLemmas.{WalkedMetadata, no-fault, same-pbu}

-- ---- payloads

-- a payload is its values
same-payload : (a b : Payload) → payload_values a ≡ payload_values b → a ≡ b
same-payload a b e =
    let kinds : a.kind ≡ b.kind = cc in
    let bytes : a.bytes ≡ b.bytes = cc in
    ap₂ {C = Payload} (λ (k : ℕ) (xs : List ℕ). record { kind = k; bytes = xs }) kinds bytes

pub one-payload : HasOneItem PayloadAt
one-payload xs a b ys zs at bt = let p = pair_of-Ok (sym at ∙ bt) in (same-payload a b p.0, p.1)

-- no payload is where a walk finds a fault
pub no-payload : {A : Type 0} (xs : List ℕ) (p : Payload) (after : List ℕ) (rule : Rule) → ◌≡◌ {A = Result (List ℕ × List ℕ) Rule} (walk 256 payload_table xs) (Err rule) → PayloadAt xs p after → A
no-payload xs p after rule e at = absurd (let no : ⊥ = cc in no)

no-payload-at-end : (p : Payload) (after : List ℕ) → PayloadAt [] p after → ⊥
unfolding walk coded_at
no-payload-at-end p after at = no-payload [] p after V26 refl at

pub one-payloads : (xs : List ℕ) (ps qs : List Payload) → ArePayloads xs ps → ArePayloads xs qs → ps ≡ qs
one-payloads xs ps qs r s = (sequence-one PayloadAt one-payload xs [] [] ps qs r s no-payload-at-end no-payload-at-end).0

-- a list isn't whole payloads and a partial one after others
pub whole-or-partial : {A : Type 0} (xs : List ℕ) (ps : List Payload) (byte : ℕ) → ArePayloads xs ps → HasPartialPayload xs byte → A
whole-or-partial xs ps byte r h =
    let same = sequence-one PayloadAt one-payload xs [] h.rest ps h.whole r h.sequence no-payload-at-end (λ p after. no-payload h.rest p after V26 h.partial) in
    absurd (h.more (ap length (sym same.1)))

-- ---- bodies

-- metadata_size and what follows it are determined
one-size : (body : List ℕ) (size size' : ℕ) (rest rest' : List ℕ) → WalkedMetadata body size rest → WalkedMetadata body size' rest' → (size ≡ size') × (rest ≡ rest')
one-size body size size' rest rest' w w' =
    let p = pair_of-Ok (sym w ∙ w') in
    let e : ◌≡◌ {A = List ℕ} (size ∷ []) (size' ∷ []) = p.0 in
    (cc, p.1)

-- whole payloads in the bytes after metadata_size, as another walk names them
payloads-along : (size size' : ℕ) (rest rest' : List ℕ) (ps : List Payload) → (size ≡ size') × (rest ≡ rest') → ArePayloads (take size rest) ps → ArePayloads (take size' rest') ps
payloads-along size size' rest rest' ps same r = subst (λ (xs : List ℕ). ArePayloads xs ps) (ap₂ (λ (n : ℕ) (xs : List ℕ). take n xs) same.0 same.1) r

pub one-metadata : (body : List ℕ) (ps qs : List Payload) → IsMetadata body ps → IsMetadata body qs → ps ≡ qs
one-metadata body ps qs m m' =
    one-payloads (take m'.size m'.rest) ps qs (payloads-along m.size m'.size m.rest m'.rest ps (one-size body m.size m'.size m.rest m'.rest m.walked m'.walked) m.whole) m'.whole

-- a body of metadata isn't sound and broken
sound-or-broken-metadata : {A : Type 0} (body : List ℕ) (ps : List Payload) (rule : Rule) → IsMetadata body ps → MetadataBreaks body rule → A
sound-or-broken-metadata body ps rule m (in_size r e) = absurd (let no : ⊥ = cc (m.walked, e) in no)
sound-or-broken-metadata body ps rule m (in_payloads size byte rest w h) =
    whole-or-partial (take size rest) ps byte (payloads-along m.size size m.rest rest ps (one-size body m.size size m.rest rest m.walked w) m.whole) h
sound-or-broken-metadata body ps rule m (in_filler size rest qs w r f) =
    let same = one-size body m.size size m.rest rest m.walked w in
    absurd (let no : ⊥ = cc (m.filler, f, same.0, same.1) in no)

-- a body of metadata breaks one rule at most
one-metadata-rule : (body : List ℕ) (rule rule' : Rule) → MetadataBreaks body rule → MetadataBreaks body rule' → rule ≡ rule'
one-metadata-rule body rule rule' (in_size r e) (in_size r' e') = cc (e, e')
one-metadata-rule body rule rule' (in_size r e) (in_payloads size byte rest w h) = absurd (let no : ⊥ = cc (e, w) in no)
one-metadata-rule body rule rule' (in_size r e) (in_filler size rest ps w q f) = absurd (let no : ⊥ = cc (e, w) in no)
one-metadata-rule body rule rule' (in_payloads size byte rest w h) (in_size r e) = absurd (let no : ⊥ = cc (e, w) in no)
one-metadata-rule body rule rule' (in_payloads size byte rest w h) (in_payloads size' byte' rest' w' h') = refl
one-metadata-rule body rule rule' (in_payloads size byte rest w h) (in_filler size' rest' ps w' q f) =
    whole-or-partial (take size rest) ps byte (payloads-along size' size rest' rest ps (one-size body size' size rest' rest w' w) q) h
one-metadata-rule body rule rule' (in_filler size rest ps w q f) (in_size r e) = absurd (let no : ⊥ = cc (e, w) in no)
one-metadata-rule body rule rule' (in_filler size' rest' ps w' q f) (in_payloads size byte rest w h) =
    whole-or-partial (take size rest) ps byte (payloads-along size' size rest' rest ps (one-size body size' size rest' rest w' w) q) h
one-metadata-rule body rule rule' (in_filler size rest ps w q f) (in_filler size' rest' ps' w' q' f') = refl

-- a body holds the payloads of one list
pub one-body : (content : BodyKind) (body : List ℕ) (ps qs : List Payload) → IsSoundBody content body ps → IsSoundBody content body qs → ps ≡ qs
one-body unread body ps qs s t = s ∙ sym t
one-body metadata body ps qs s t = one-metadata body ps qs s t
one-body filler body ps qs s t = s.0 ∙ sym t.0
one-body frame body ps qs s t = s.0 ∙ sym t.0
one-body au_info body ps qs s t = s.0 ∙ sym t.0

-- a body isn't sound and broken
sound-or-broken : {A : Type 0} (content : BodyKind) (body : List ℕ) (ps : List Payload) (tile : ℕ) (end : HeadEnd) → IsSoundBody content body ps → BodyBreaks content body tile end → A
sound-or-broken unread body ps tile end s b = absurd b
sound-or-broken metadata body ps tile end s b = sound-or-broken-metadata body ps b.1.0 s b.1.2
sound-or-broken filler body ps tile end s b = absurd (let no : ⊥ = cc (s.1, b.2) in no)
sound-or-broken frame body ps tile end s b = sound-or-broken-frame body s.1.0 s.1.1 tile end s.1.2 b
sound-or-broken au_info body ps tile end s b = sound-or-broken-au_info body s.1.0 end s.1.1 b.1

-- a body breaks one rule at most, in one tile
one-body-end : (content : BodyKind) (body : List ℕ) (tile : ℕ) (end : HeadEnd) (tile' : ℕ) (end' : HeadEnd) → BodyBreaks content body tile end → BodyBreaks content body tile' end' → (tile ≡ tile') × (end ≡ end')
one-body-end unread body tile end tile' end' b b' = absurd b
one-body-end metadata body tile end tile' end' b b' = (b.0 ∙ sym b'.0, b.1.1 ∙ ap breaks (one-metadata-rule body b.1.0 b'.1.0 b.1.2 b'.1.2) ∙ sym b'.1.1)
one-body-end filler body tile end tile' end' b b' = (b.0 ∙ sym b'.0, b.1 ∙ sym b'.1)
one-body-end frame body tile end tile' end' b b' = one-frame-end body tile end tile' end' b b'
one-body-end au_info body tile end tile' end' b b' = (b.0 ∙ sym b'.0, one-au_info-end body end end' b.1 b'.1)

-- ---- PBUs

same-pbus : (a b : Pbu) → a.kind ≡ b.kind → a.group ≡ b.group → a.body ≡ b.body → a.payloads ≡ b.payloads → a ≡ b
same-pbus a b k g e p =
    let one : ◌≡◌ {A = Pbu} a (record { kind = b.kind; group = b.group; body = a.body; payloads = a.payloads }) = ap₂ {C = Pbu} (λ (x y : ℕ). record { kind = x; group = y; body = a.body; payloads = a.payloads }) k g in
    let two : ◌≡◌ {A = Pbu} (record { kind = b.kind; group = b.group; body = a.body; payloads = a.payloads }) b = ap₂ {C = Pbu} (λ (x : List ℕ) (y : List Payload). record { kind = b.kind; group = b.group; body = x; payloads = y }) e p in
    one ∙ two

-- the bodies of one PBU hold the same payloads
payloads-of-one : (reach : Reach) (a b : Pbu) → a.kind ≡ b.kind → a.body ≡ b.body → IsSoundBody (body_kind_of reach a.kind) a.body a.payloads → IsSoundBody (body_kind_of reach b.kind) b.body b.payloads → a.payloads ≡ b.payloads
payloads-of-one reach a b k e s s' =
    let along : IsSoundBody (body_kind_of reach b.kind) b.body a.payloads = subst (λ (n : ℕ). IsSoundBody (body_kind_of reach n) b.body a.payloads) k (subst (λ (xs : List ℕ). IsSoundBody (body_kind_of reach a.kind) xs a.payloads) e s) in
    one-body (body_kind_of reach b.kind) b.body a.payloads b.payloads along s'

pub one-pbu : (reach : Reach) → HasOneItem (PbuAt reach)
one-pbu reach xs a b ys zs at bt =
    let same = one-header xs a.kind a.group b.kind b.group a.body ys b.body zs at.header bt.header in
    (same-pbus a b same.kinds same.groups same.bodies (payloads-of-one reach a b same.kinds same.bodies at.sound bt.sound), same.afters)

-- what a body breaks, as another walk names the body
breaks-along : (reach : Reach) (kind kind' : ℕ) (body body' : List ℕ) (tile : ℕ) (end : HeadEnd) → kind ≡ kind' → body ≡ body' → BodyBreaks (body_kind_of reach kind) body tile end → BodyBreaks (body_kind_of reach kind') body' tile end
breaks-along reach kind kind' body body' tile end k e b = subst (λ (n : ℕ). BodyBreaks (body_kind_of reach n) body' tile end) k (subst (λ (xs : List ℕ). BodyBreaks (body_kind_of reach kind) xs tile end) e b)

-- no PBU is where a rule is broken
pub no-pbu : (reach : Reach) (xs : List ℕ) (tile : ℕ) (end : HeadEnd) → PbuBreaks reach xs tile end → (pbu : Pbu) (after : List ℕ) → PbuAt reach xs pbu after → ⊥
no-pbu reach xs tile end (in_header r e) pbu after at = no-fault reach xs pbu after r at e
no-pbu reach xs tile end (in_body t f kind group body rest header b) pbu after at =
    let same = same-pbu reach xs pbu after kind group body rest at header in
    sound-or-broken (body_kind_of reach pbu.kind) pbu.body pbu.payloads tile end at.sound (breaks-along reach kind pbu.kind body pbu.body tile end (sym same.kinds) (sym same.bodies) b)

header-or-fault : {A : Type 0} (xs : List ℕ) (kind group : ℕ) (body after : List ℕ) (rule : Rule) → HasPbuHeader xs kind group body after → ◌≡◌ {A = Result (List ℕ × List ℕ) Rule} (walk 256 pbu_table xs) (Err rule) → A
header-or-fault xs kind group body after rule h e = absurd (let no : ⊥ = cc (h, e) in no)

-- one rule at most is broken where a PBU should be, in one tile
pub one-pbu-end : (reach : Reach) (xs : List ℕ) (tile : ℕ) (end : HeadEnd) (tile' : ℕ) (end' : HeadEnd) → PbuBreaks reach xs tile end → PbuBreaks reach xs tile' end' → (tile ≡ tile') × (end ≡ end')
one-pbu-end reach xs tile end tile' end' (in_header r e) (in_header r' e') = let one : r ≡ r' = cc (e, e') in (refl, ap breaks one)
one-pbu-end reach xs tile end tile' end' (in_header r e) (in_body t f kind group body after h b) = header-or-fault xs kind group body after r h e
one-pbu-end reach xs tile end tile' end' (in_body t f kind group body after h b) (in_header r e) = header-or-fault xs kind group body after r h e
one-pbu-end reach xs tile end tile' end' (in_body t f kind group body after h b) (in_body t' f' kind' group' body' after' h' b') =
    let same = one-header xs kind group kind' group' body after body' after' h h' in
    one-body-end (body_kind_of reach kind') body' tile end tile' end' (breaks-along reach kind kind' body body' tile end same.kinds same.bodies b) b'

pub no-pbu-at-end : (reach : Reach) (pbu : Pbu) (after : List ℕ) → PbuAt reach [] pbu after → ⊥
no-pbu-at-end reach pbu after at = no-fault reach [] pbu after V4 at (no-size [] (lit< tt))

-- ---- access units

-- an access unit has the PBUs of one list
pub one-structure : (reach : Reach) (unit : List ℕ) (ps qs : List Pbu) → Structure reach unit ps → Structure reach unit qs → ps ≡ qs
one-structure reach unit ps qs s t = (sequence-one (PbuAt reach) (one-pbu reach) (drop 4 unit) [] [] ps qs s.sequence t.sequence (no-pbu-at-end reach) (no-pbu-at-end reach)).0

-- an access unit isn't valid and broken
pub valid-or-broken : {A : Type 0} (reach : Reach) (n : ℕ) (unit : List ℕ) (pbus : List Pbu) (end : UnitEnd) → Structure reach unit pbus → StructureBreaks reach n unit end → A
valid-or-broken reach n unit pbus end s (unsigned ne) = absurd (ne s.signed)
valid-or-broken reach n unit pbus end s (broken tile e ps rest signed row more b) =
    let same = sequence-one (PbuAt reach) (one-pbu reach) (drop 4 unit) [] rest pbus ps s.sequence row (no-pbu-at-end reach) (no-pbu reach rest tile e b) in
    absurd (more (λ e. s.some (same.0 ∙ e)) (sym same.1))

same-end : (n : ℕ) (ps ps' : List Pbu) (tile tile' : ℕ) (end end' : HeadEnd) → ps ≡ ps' → tile ≡ tile' → end ≡ end' → unit_end n (length ps) tile end ≡ unit_end n (length ps') tile' end'
same-end n ps ps' tile tile' end end' e f g = rw (e, f, g) refl

-- an access unit breaks one rule at most, at one place, or doesn't keep the limit
pub one-break : (reach : Reach) (n : ℕ) (unit : List ℕ) (b c : UnitEnd) → StructureBreaks reach n unit b → StructureBreaks reach n unit c → b ≡ c
one-break reach n unit b c (unsigned ne) (unsigned ne') = refl
one-break reach n unit b c (unsigned ne) (broken tile e ps rest signed row more p) = absurd (ne signed)
one-break reach n unit b c (broken tile e ps rest signed row more p) (unsigned ne) = absurd (ne signed)
one-break reach n unit b c (broken tile e ps rest signed row more p) (broken tile' e' ps' rest' signed' row' more' p') =
    let same = sequence-one (PbuAt reach) (one-pbu reach) (drop 4 unit) rest rest' ps ps' row row' (no-pbu reach rest tile e p) (no-pbu reach rest' tile' e' p') in
    let ends = one-pbu-end reach rest' tile e tile' e' (subst (λ (xs : List ℕ). PbuBreaks reach xs tile e) same.1 p) p' in
    same-end n ps ps' tile tile' e e' same.0 ends.0 ends.1
