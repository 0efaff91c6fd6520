-- A payload or PBU is at the start of a list, or a rule is broken; a body and an access unit are sound or break a rule.
use Rattle.std.proofs.Common.{◌≡◌, ◌≢◌, ℕ, zero, suc, ◌+◌, ◌*◌, ◌-◌, ◌<◌, ◌≤◌, List, [], ◌∷◌, ◌++◌, length, get_or, take, drop, refl, ap, ◌∙◌, arith, Some, None, Result, Ok, Err, append-nil, length-drop, ◌⊎◌, inl, inr, bytes_eq}
use Rattle.std.specs.Cmp.Lexicographic.{bytes_decides}
use Rattle.std.proofs.lemmas.Bool.{cases_eq, cases_lt, cases_Bool, eq-eqb, ne_eqb, lt-ltb, le-ltb}
use Rattle.std.proofs.lemmas.List.{length-take-le}
use Rattle.apv_base.specs.declared.rules.Rule.{Rule}
use Rattle.apv_base.specs.declared.rules.Rule.TheVariants.{V3, V4, V5, V6, V7, V8, V23, V25, V26}
use Rattle.apv_base.specs.declared.rules.HeadEnd.{HeadEnd}
use Rattle.apv_base.specs.declared.rules.HeadEnd.TheVariants.{Rule as breaks}
use Rattle.apv_base.specs.declared.rules.UnitEnd.{UnitEnd}
use Rattle.apv_base.specs.declared.rules.UnitEnd.TheVariants.{Broken}
use Rattle.apv_base.specs.model.Answer.{place_of}
use Rattle.apv_base.specs.model.Bits.{number}
use Rattle.apv_base.specs.model.Table.{walk, coded_at}
use Rattle.apv_base.specs.model.Sequence.{Sequence}
use Rattle.apv_base.specs.model.Payload.{Payload, payload_table, PayloadAt, ArePayloads, HasPartialPayload}
use Rattle.apv_base.specs.model.Pbu.{Pbu, signature, is_filler, IsMetadata, MetadataBreaks, in_size, in_payloads, in_filler}
use Rattle.apv_base.specs.model.Body.{Reach, BodyKind, unread, metadata, filler, frame, au_info, body_kind_of, IsSoundBody, BodyBreaks}
use Rattle.apv_base.specs.model.Unit.{HasPbuHeader, PbuAt, PbuBreaks, in_header, in_body, Structure, unit_end, StructureBreaks, unsigned, broken}
use Rattle.apv_base.proofs.FrameLemmas.{frame-or, au_info-or}
use Rattle.apv_base.proofs.PbuLemmas.{no-size, small, cut, reserved, whole, metadata-no-size, metadata-small, metadata-cut, metadata-whole}
use Rattle.apv_base.proofs.UnitLemmas.{WalkedMetadata}

-- ---- rows

-- an item that takes at least one byte is at the start of xs, or what says that none does
pub data ItemOr {A : Type 0} (At : List ℕ → A → List ℕ → Type 0) (Bad : List ℕ → Type 0) (xs : List ℕ) : Type 0 where
  item : (a : A) (after : List ℕ) → At xs a after → length after < length xs → ItemOr At Bad xs
  no_item : Bad xs → ItemOr At Bad xs

-- xs is a sequence of items, or after some there is none
pub data RowOr {A : Type 0} (At : List ℕ → A → List ℕ → Type 0) (Bad : List ℕ → Type 0) (xs : List ℕ) : Type 0 where
  all : (items : List A) → Sequence At xs items [] → RowOr At Bad xs
  part : (items : List A) (rest : List ℕ) → Sequence At xs items rest → rest ≢ [] → Bad rest → RowOr At Bad xs

-- one more item before
sequence-more : {A : Type 0} (At : List ℕ → A → List ℕ → Type 0) (Bad : List ℕ → Type 0) (xs : List ℕ) (a : A) (after : List ℕ) → At xs a after → RowOr At Bad after → RowOr At Bad xs
sequence-more At Bad xs a after at (all items row) = all (a ∷ items) (after, at, row)
sequence-more At Bad xs a after at (part items rest row ne bad) = part (a ∷ items) rest (after, at, row) ne bad

sequence-within : {A : Type 0} (At : List ℕ → A → List ℕ → Type 0) (Bad : List ℕ → Type 0) → ((xs : List ℕ) → ItemOr At Bad xs) → (bound : ℕ) (xs : List ℕ) → length xs ≤ bound → RowOr At Bad xs
sequence-within At Bad prefix bound [] le = all [] refl
sequence-within At Bad prefix zero (x ∷ xs) le = absurd (omega arith)
sequence-within At Bad prefix (suc bound) (x ∷ xs) le = elim (prefix (x ∷ xs)) [
  | item a after at lt ↦ sequence-more At Bad (x ∷ xs) a after at (sequence-within At Bad prefix bound after (omega arith))
  | no_item bad ↦ part [] (x ∷ xs) refl (λ e. let no : ⊥ = cc in no) bad
]

-- where each list has an item at its start or none, each list is a sequence or begins with one
pub sequence-or : {A : Type 0} (At : List ℕ → A → List ℕ → Type 0) (Bad : List ℕ → Type 0) → ((xs : List ℕ) → ItemOr At Bad xs) → (xs : List ℕ) → RowOr At Bad xs
sequence-or At Bad prefix xs = sequence-within At Bad prefix (length xs) xs (omega arith)

-- ---- payloads

-- no whole payload is at the start
abbrev pub IsPartial : List ℕ → Type 0
IsPartial xs = ◌≡◌ {A = Result (List ℕ × List ℕ) Rule} (walk 256 payload_table xs) (Err V26)

pub no-kind : (xs : List ℕ) → coded_at xs ≡ None → IsPartial xs
unfolding walk
no-kind xs e = rw e refl

pub no-length : (xs : List ℕ) (k : ℕ) (ys : List ℕ) → coded_at xs ≡ Some (k, ys) → coded_at ys ≡ None → IsPartial xs
unfolding walk
no-length xs k ys e f = rw (e, f) refl

pub too-short : (xs : List ℕ) (k : ℕ) (ys : List ℕ) (n : ℕ) (zs : List ℕ) → coded_at xs ≡ Some (k, ys) → coded_at ys ≡ Some (n, zs) → length zs < n → IsPartial xs
unfolding walk
too-short xs k ys n zs e f lt = rw (e, f, lt-ltb (length zs) n lt) refl

taken : (xs : List ℕ) (k : ℕ) (ys : List ℕ) (n : ℕ) (zs : List ℕ) → coded_at xs ≡ Some (k, ys) → coded_at ys ≡ Some (n, zs) → n ≤ length zs
    → ◌≡◌ {A = Result (List ℕ × List ℕ) Rule} (walk 256 payload_table xs) (Ok (k ∷ n ∷ (take n zs ++ []), drop n zs))
unfolding walk
taken xs k ys n zs e f le = rw (e, f, le-ltb (length zs) n le) refl

pub whole-payload : (xs : List ℕ) (k : ℕ) (ys : List ℕ) (n : ℕ) (zs : List ℕ) → coded_at xs ≡ Some (k, ys) → coded_at ys ≡ Some (n, zs) → n ≤ length zs → PayloadAt xs (record { kind = k; bytes = take n zs }) (drop n zs)
whole-payload xs k ys n zs e f le =
    let len : length (take n zs) ≡ n = length-take-le n zs le in
    rw len (taken xs k ys n zs e f le ∙ ap (λ (bs : List ℕ). Ok (k ∷ n ∷ bs, drop n zs)) (append-nil (take n zs)))

-- a number is at the start of xs, and takes at least one byte
data CodedOr (xs : List ℕ) : Type 0 where
  coded : (n : ℕ) (rest : List ℕ) → coded_at xs ≡ Some (n, rest) → length rest < length xs → CodedOr xs
  not_coded : coded_at xs ≡ None → CodedOr xs

coded-more : (x : ℕ) (xs : List ℕ) → x ≡ 255 → CodedOr xs → CodedOr (x ∷ xs)
unfolding coded_at
coded-more x xs e (coded n rest f lt) = coded (255 + n) rest (rw (eq-eqb x 255 e, f) refl) (omega arith)
coded-more x xs e (not_coded f) = not_coded (rw (eq-eqb x 255 e, f) refl)

coded-one : (x : ℕ) (xs : List ℕ) → x ≢ 255 → CodedOr (x ∷ xs)
unfolding coded_at
coded-one x xs ne = coded x xs (rw (ne_eqb x 255 ne) refl) (omega arith)

coded-none : CodedOr []
unfolding coded_at
coded-none = not_coded refl

coded-or : (xs : List ℕ) → CodedOr xs
coded-or [] = coded-none
coded-or (x ∷ xs) = elim (cases_eq x 255) [ inl e ↦ coded-more x xs e (coded-or xs) | inr ne ↦ coded-one x xs ne ]

-- by the bytes after its type and size; by its size; by its type
payload-bytes : (xs : List ℕ) (k : ℕ) (ys : List ℕ) (n : ℕ) (zs : List ℕ) → coded_at xs ≡ Some (k, ys) → length ys < length xs → coded_at ys ≡ Some (n, zs) → length zs < length ys → ItemOr PayloadAt IsPartial xs
payload-bytes xs k ys n zs e lt f lt2 = elim (cases_lt (length zs) n) [
  | inl short ↦ no_item (too-short xs k ys n zs e f short)
  | inr le ↦ item (record { kind = k; bytes = take n zs }) (drop n zs) (whole-payload xs k ys n zs e f le) (omega (arith, length-drop n zs))
]

payload-size : (xs : List ℕ) (k : ℕ) (ys : List ℕ) → coded_at xs ≡ Some (k, ys) → length ys < length xs → CodedOr ys → ItemOr PayloadAt IsPartial xs
payload-size xs k ys e lt (coded n zs f lt2) = payload-bytes xs k ys n zs e lt f lt2
payload-size xs k ys e lt (not_coded f) = no_item (no-length xs k ys e f)

payload-kind : (xs : List ℕ) → CodedOr xs → ItemOr PayloadAt IsPartial xs
payload-kind xs (coded k ys e lt) = payload-size xs k ys e lt (coded-or ys)
payload-kind xs (not_coded e) = no_item (no-kind xs e)

-- a payload is at the start of a list, or a partial one
pub payload-or : (xs : List ℕ) → ItemOr PayloadAt IsPartial xs
payload-or xs = payload-kind xs (coded-or xs)

not-at-end : (xs : List ℕ) → xs ≢ [] → length xs ≡ 0 → ⊥
not-at-end [] ne e = ne refl
not-at-end (x ∷ xs) ne e = omega arith

-- a list is whole payloads, or has a partial one
pub payloads-or : (xs : List ℕ) → ((ps : List Payload) × ArePayloads xs ps) ⊎ ((byte : ℕ) × HasPartialPayload xs byte)
payloads-or xs = elim (sequence-or PayloadAt IsPartial payload-or xs) [
  | all ps row ↦ inl (ps, row)
  | part ps rest row ne bad ↦ inr (length xs - length rest, record { whole = ps; rest = rest; place = refl; sequence = row; more = not-at-end rest ne; partial = bad })
]

-- ---- bodies

-- by the filler after the payloads; by the payloads; by metadata_size
metadata-filler : (body : List ℕ) (size : ℕ) (rest : List ℕ) (ps : List Payload) → WalkedMetadata body size rest → ArePayloads (take size rest) ps
    → ((ps : List Payload) × IsMetadata body ps) ⊎ ((rule : Rule) × MetadataBreaks body rule)
metadata-filler body size rest ps w row = elim (cases_Bool (is_filler (drop size rest))) [
  | inl e ↦ inl (ps, record { size = size; rest = rest; walked = w; whole = row; filler = e })
  | inr e ↦ inr (V23, in_filler size rest ps w row e)
]

metadata-payloads : (body : List ℕ) (size : ℕ) (rest : List ℕ) → WalkedMetadata body size rest
    → ((ps : List Payload) × IsMetadata body ps) ⊎ ((rule : Rule) × MetadataBreaks body rule)
metadata-payloads body size rest w = elim (payloads-or (take size rest)) [
  | inl p ↦ metadata-filler body size rest p.0 w p.1
  | inr h ↦ inr (V26, in_payloads size h.0 rest w h.1)
]

metadata-size : (body : List ℕ) (n : ℕ) → n ≡ number 256 (take 4 body) → 4 ≤ length body → ((ps : List Payload) × IsMetadata body ps) ⊎ ((rule : Rule) × MetadataBreaks body rule)
metadata-size body n e long = elim (cases_lt n 2) [
  | inl lt ↦ inr (V25, in_size V25 (metadata-small body n long e lt))
  | inr le ↦ elim (cases_lt (length (drop 4 body)) n) [
    | inl lt ↦ inr (V25, in_size V25 (metadata-cut body n long e le lt))
    | inr fits ↦ metadata-payloads body n (drop 4 body) (metadata-whole body n long e le fits)
  ]
]

-- a body of metadata is sound, or breaks a rule
pub metadata-or : (body : List ℕ) → ((ps : List Payload) × IsMetadata body ps) ⊎ ((rule : Rule) × MetadataBreaks body rule)
metadata-or body = elim (cases_lt (length body) 4) [
  | inl short ↦ inr (V8, in_size V8 (metadata-no-size body short))
  | inr long ↦ metadata-size body (number 256 (take 4 body)) refl long
]

-- what a body of one content is
abbrev pub BodyOr : BodyKind → List ℕ → Type 0
BodyOr content body = ((ps : List Payload) × IsSoundBody content body ps) ⊎ ((tile : ℕ) × (end : HeadEnd) × BodyBreaks content body tile end)

body-of-metadata : (body : List ℕ) → BodyOr metadata body
body-of-metadata body = elim (metadata-or body) [
  | inl m ↦ inl (m.0, m.1)
  | inr b ↦ inr (0, breaks b.0, (refl, (b.0, refl, b.1)))
]

body-of-filler : (body : List ℕ) → BodyOr filler body
body-of-filler body = elim (cases_Bool (is_filler body)) [
  | inl f ↦ inl ([], (refl, f))
  | inr f ↦ inr (0, breaks V23, (refl, refl, f))
]

body-of-frame : (body : List ℕ) → BodyOr frame body
body-of-frame body = elim (frame-or body) [
  | inl f ↦ inl ([], (refl, f))
  | inr b ↦ inr b
]

body-of-au_info : (body : List ℕ) → BodyOr au_info body
body-of-au_info body = elim (au_info-or body) [
  | inl f ↦ inl ([], (refl, f))
  | inr b ↦ inr (0, b.0, (refl, b.1))
]

-- a body is sound, or breaks a rule
pub body-or : (content : BodyKind) (body : List ℕ) → BodyOr content body
body-or unread body = inl ([], refl)
body-or metadata body = body-of-metadata body
body-or filler body = body-of-filler body
body-or frame body = body-of-frame body
body-or au_info body = body-of-au_info body

-- ---- PBUs

-- a rule is broken where a PBU should be
abbrev pub BreaksSomeRule : Reach → List ℕ → Type 0
BreaksSomeRule reach xs = (tile : ℕ) × (end : HeadEnd) × PbuBreaks reach xs tile end

-- by the body after the fields; by the reserved byte; by pbu_size
pbu-body : (reach : Reach) (xs : List ℕ) (kind group : ℕ) (body after : List ℕ) → HasPbuHeader xs kind group body after → length after < length xs → ItemOr (PbuAt reach) (BreaksSomeRule reach) xs
pbu-body reach xs kind group body after header lt = elim (body-or (body_kind_of reach kind) body) [
  | inl s ↦ item (record { kind = kind; group = group; body = body; payloads = s.0 }) after (record { header = header; sound = s.1 }) lt
  | inr b ↦ no_item (b.0, b.1, in_body b.0 b.1 kind group body after header b.2)
]

pbu-reserved : (reach : Reach) (xs : List ℕ) (n : ℕ) → n ≡ number 256 (take 4 xs) → 8 ≤ length xs → 4 ≤ n → n + 4 ≤ length xs → ItemOr (PbuAt reach) (BreaksSomeRule reach) xs
pbu-reserved reach xs n e long low high = elim (cases_eq (get_or xs 7 0) 0) [
  | inl z ↦ (let body : List ℕ = take (n - 4) (drop 8 xs) in
      let header : HasPbuHeader xs (get_or xs 4 0) (get_or xs 5 0 * 256 + get_or xs 6 0) body (drop (n + 4) xs) =
      whole xs n (get_or xs 4 0) (get_or xs 5 0 * 256 + get_or xs 6 0) body (drop (n + 4) xs) long e low high z refl refl refl refl in
      pbu-body reach xs (get_or xs 4 0) (get_or xs 5 0 * 256 + get_or xs 6 0) body (drop (n + 4) xs) header (omega (arith, length-drop (n + 4) xs)))
  | inr ne ↦ no_item (0, breaks V7, in_header V7 (reserved xs n long e low high ne))
]

pbu-size : (reach : Reach) (xs : List ℕ) (n : ℕ) → n ≡ number 256 (take 4 xs) → 4 ≤ length xs → ItemOr (PbuAt reach) (BreaksSomeRule reach) xs
pbu-size reach xs n e long = elim (cases_lt n 4) [
  | inl lt ↦ no_item (0, breaks V5, in_header V5 (small xs n long e lt))
  | inr le ↦ elim (cases_lt (length xs) (4 + n)) [
    | inl lt ↦ no_item (0, breaks V6, in_header V6 (cut xs n long e le lt))
    | inr fits ↦ pbu-reserved reach xs n e (omega arith) le (omega arith)
  ]
]

-- a sound PBU is at the start of a list, or a rule is broken
pub pbu-or : (reach : Reach) (xs : List ℕ) → ItemOr (PbuAt reach) (BreaksSomeRule reach) xs
pbu-or reach xs = elim (cases_lt (length xs) 4) [
  | inl short ↦ no_item (0, breaks V4, in_header V4 (no-size xs short))
  | inr long ↦ pbu-size reach xs (number 256 (take 4 xs)) refl long
]

-- ---- access units

-- at least one PBU has to be after the signature
unit-empty : (reach : Reach) (n : ℕ) (unit : List ℕ) (pbus : List Pbu) → take 4 unit ≡ signature → Sequence (PbuAt reach) (drop 4 unit) pbus [] → ((pbus : List Pbu) × Structure reach unit pbus) ⊎ ((end : UnitEnd) × StructureBreaks reach n unit end)
unit-empty reach n unit [] signed row =
    inr (unit_end n 0 0 (breaks V4), broken 0 (breaks V4) [] [] signed row (λ ne. absurd (ne refl)) (in_header V4 (no-size [] (omega arith))))
unit-empty reach n unit (pbu ∷ pbus) signed row = inl (pbu ∷ pbus, record { signed = signed; some = λ e. let no : ⊥ = cc in no; sequence = row })

unit-row : (reach : Reach) (n : ℕ) (unit : List ℕ) → take 4 unit ≡ signature → ((pbus : List Pbu) × Structure reach unit pbus) ⊎ ((end : UnitEnd) × StructureBreaks reach n unit end)
unit-row reach n unit signed = elim (sequence-or (PbuAt reach) (BreaksSomeRule reach) (pbu-or reach) (drop 4 unit)) [
  | all pbus row ↦ unit-empty reach n unit pbus signed row
  | part pbus rest row ne bad ↦ inr (unit_end n (length pbus) bad.0 bad.1, broken bad.0 bad.1 pbus rest signed row (λ some. ne) bad.2)
]

-- an access unit is valid, or breaks a rule
pub unit-or : (reach : Reach) (n : ℕ) (unit : List ℕ) → ((pbus : List Pbu) × Structure reach unit pbus) ⊎ ((end : UnitEnd) × StructureBreaks reach n unit end)
unit-or reach n unit =
    let same = bytes_decides (take 4 unit) signature in
    elim (cases_Bool (bytes_eq (take 4 unit) signature)) [
      | inl e ↦ unit-row reach n unit (same.0 e)
      | inr e ↦ inr (Broken (record { rule = V3; place = place_of n 0 }), unsigned (λ s. let no : ⊥ = cc (same.1 s, e) in no))
    ]
