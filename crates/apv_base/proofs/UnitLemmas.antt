-- What sound PBUs and bodies of metadata say of their bytes.
use Rattle.std.proofs.Common.{◌≡◌, ◌≢◌, ℕ, ◌<◌, ◌≤◌, List, [], ◌∷◌, ◌++◌, length, take, drop, refl, sym, ap, subst, lit<, Bool, true, false, Result, Ok, Err, ⊎_elim}
use Rattle.std.specs.Prelude.{if◌then◌else◌, ◌==◌}
use Rattle.std.proofs.lemmas.Bool.{cases_lt, eq-eqb, ne_eqb}
use Rattle.std.specs.List.{AllByRecursion}
use Rattle.apv_base.specs.declared.rules.Rule.{Rule}
use Rattle.apv_base.specs.declared.rules.Rule.TheVariants.{V4, V8, V25}
use Rattle.apv_base.specs.model.Bits.{number}
use Rattle.apv_base.specs.model.Table.{walk}
use Rattle.apv_base.specs.model.Sequence.{Sequence}
use Rattle.apv_base.specs.model.Frame.{IsFrame}
use Rattle.apv_base.specs.model.Payload.{Payload}
use Rattle.apv_base.specs.model.Pbu.{Pbu, pbu_table, metadata_table, METADATA, FILLER, AU_INFO, is_frame, IsMetadata}
use Rattle.apv_base.specs.model.Body.{Reach, with_bodies, BodyKind, unread, metadata, filler, frame, au_info, body_kind_of, IsSoundBody}
use Rattle.apv_base.specs.model.Unit.{HasPbuHeader, PbuAt}
use Rattle.apv_base.proofs.PbuLemmas.{no-size, metadata-no-size, metadata-small, metadata-cut, metadata-whole, one-header, SameHeader}

-- ---- metadata_size

pub record MetadataParts (xs : List ℕ) (size : ℕ) (rest : List ℕ) : Type 0 where
  pub long : 4 ≤ length xs
  pub is : size ≡ number 256 (take 4 xs)
  pub fits : size ≤ length (drop 4 xs)
  pub after : rest ≡ drop 4 xs

abbrev pub WalkedMetadata : List ℕ → ℕ → List ℕ → Type 0
WalkedMetadata xs size rest = ◌≡◌ {A = Result (List ℕ × List ℕ) Rule} (walk 256 metadata_table xs) (Ok (size ∷ [], rest))

failed : {A : Type 0} (xs : List ℕ) (rule : Rule) (size : ℕ) (rest : List ℕ) → ◌≡◌ {A = Result (List ℕ × List ℕ) Rule} (walk 256 metadata_table xs) (Err rule) → WalkedMetadata xs size rest → A
failed xs rule size rest e f = absurd (let no : ⊥ = cc in no)

same-parts : (xs : List ℕ) (n size : ℕ) (rest : List ℕ) → ◌≡◌ {A = Result (List ℕ × List ℕ) Rule} (walk 256 metadata_table xs) (Ok (n ∷ [], drop 4 xs)) → WalkedMetadata xs size rest → (size ≡ n) × (rest ≡ drop 4 xs)
same-parts xs n size rest e f =
    let p : ◌≡◌ {A = List ℕ × List ℕ} (n ∷ [], drop 4 xs) (size ∷ [], rest) = cc in
    let heads : ◌≡◌ {A = List ℕ} (n ∷ []) (size ∷ []) = ap (λ (q : List ℕ × List ℕ). q.0) p in
    (cc, sym (ap (λ (q : List ℕ × List ℕ). q.1) p))

pub metadata-parts : (xs : List ℕ) (size : ℕ) (rest : List ℕ) → WalkedMetadata xs size rest → MetadataParts xs size rest
metadata-parts xs size rest w =
    let n : ℕ = number 256 (take 4 xs) in
    ⊎_elim (λ (short : length xs < 4). failed xs V8 size rest (metadata-no-size xs short) w)
    (λ (long : 4 ≤ length xs). ⊎_elim
    (λ (small : n < 2). failed xs V25 size rest (metadata-small xs n long refl small) w)
    (λ (big : 2 ≤ n). ⊎_elim
    (λ (cut : length (drop 4 xs) < n). failed xs V25 size rest (metadata-cut xs n long refl big cut) w)
    (λ (fits : n ≤ length (drop 4 xs)).
    let same = same-parts xs n size rest (metadata-whole xs n long refl big fits) w in
    record { long = long; is = same.0; fits = rw same.0 fits; after = same.1 })
    (cases_lt (length (drop 4 xs)) n))
    (cases_lt n 2))
    (cases_lt (length xs) 4)

-- ---- what a body is looked into as, by its type

pub content-metadata : (kind : ℕ) → kind ≡ METADATA → body_kind_of with_bodies kind ≡ metadata
content-metadata kind e = rw (eq-eqb kind METADATA e) refl

pub content-filler : (kind : ℕ) → kind ≢ METADATA → kind ≡ FILLER → body_kind_of with_bodies kind ≡ filler
content-filler kind ne e = rw (ne_eqb kind METADATA ne, eq-eqb kind FILLER e) refl

pub content-frame : (kind : ℕ) → kind ≢ METADATA → kind ≢ FILLER → is_frame kind ≡ true → body_kind_of with_bodies kind ≡ frame
content-frame kind ne ne2 e = rw (ne_eqb kind METADATA ne, ne_eqb kind FILLER ne2, e) refl

not-metadata : (kind : ℕ) → is_frame kind ≡ true → kind ≢ METADATA
not-metadata kind is e = let at : is_frame METADATA ≡ true = subst (λ (k : ℕ). is_frame k ≡ true) e is in let no : ⊥ = cc at in no

not-filler : (kind : ℕ) → is_frame kind ≡ true → kind ≢ FILLER
not-filler kind is e = let at : is_frame FILLER ≡ true = subst (λ (k : ℕ). is_frame k ≡ true) e is in let no : ⊥ = cc at in no

-- a body of a frame's type is looked into as a frame
pub frame-kind : (kind : ℕ) → is_frame kind ≡ true → body_kind_of with_bodies kind ≡ frame
frame-kind kind is = content-frame kind (not-metadata kind is) (not-filler kind is) is

-- a sound body of a frame's type breaks no rule of a frame
pub frame-sound : (kind : ℕ) (body : List ℕ) (ps : List Payload) → is_frame kind ≡ true → IsSoundBody (body_kind_of with_bodies kind) body ps → (header tiles : List ℕ) × IsFrame body header tiles
frame-sound kind body ps is sound = (subst (λ (k : BodyKind). IsSoundBody k body ps) (frame-kind kind is) sound).1

pub content-au_info : (kind : ℕ) → kind ≢ METADATA → kind ≢ FILLER → is_frame kind ≡ false → kind ≡ AU_INFO → body_kind_of with_bodies kind ≡ au_info
content-au_info kind ne ne2 e f = rw (ne_eqb kind METADATA ne, ne_eqb kind FILLER ne2, e, eq-eqb kind AU_INFO f) refl

pub content-reserved : (kind : ℕ) → kind ≢ METADATA → kind ≢ FILLER → is_frame kind ≡ false → kind ≢ AU_INFO → body_kind_of with_bodies kind ≡ unread
content-reserved kind ne ne2 e f = rw (ne_eqb kind METADATA ne, ne_eqb kind FILLER ne2, e, ne_eqb kind AU_INFO f) refl

other-content : (a b c : Bool) → (if a then filler else (if b then frame else (if c then au_info else unread))) ≡ metadata → ⊥
other-content true b c e = cc
other-content false true c e = cc
other-content false false true e = cc
other-content false false false e = cc

pub content-other : (kind : ℕ) → kind ≢ METADATA → body_kind_of with_bodies kind ≢ metadata
content-other kind ne e = other-content (kind == FILLER) (is_frame kind) (kind == AU_INFO) (rw (ne_eqb kind METADATA ne) at e)

-- ---- bodies

-- a body of metadata that is looked into; a body of another type has no payloads
pub payloads_of-metadata : (kind : ℕ) (body : List ℕ) (ps : List Payload) → kind ≡ METADATA → IsSoundBody (body_kind_of with_bodies kind) body ps → IsMetadata body ps
payloads_of-metadata kind body ps k s = rw (eq-eqb kind METADATA k) at s

pub payloads_of-other : (content : BodyKind) (body : List ℕ) (ps : List Payload) → content ≢ metadata → IsSoundBody content body ps → ps ≡ []
payloads_of-other unread body ps ne s = s
payloads_of-other metadata body ps ne s = absurd (ne refl)
payloads_of-other filler body ps ne s = s.0
payloads_of-other frame body ps ne s = s.0
payloads_of-other au_info body ps ne s = s.0

-- ---- PBUs

pub no-fault : {A : Type 0} (reach : Reach) (xs : List ℕ) (pbu : Pbu) (after : List ℕ) (rule : Rule) → PbuAt reach xs pbu after → ◌≡◌ {A = Result (List ℕ × List ℕ) Rule} (walk 256 pbu_table xs) (Err rule) → A
no-fault reach xs pbu after rule at e = absurd (let no : ⊥ = cc (at.header, e) in no)

pub same-pbu : (reach : Reach) (xs : List ℕ) (pbu : Pbu) (after : List ℕ) (kind group : ℕ) (body after' : List ℕ) → PbuAt reach xs pbu after → HasPbuHeader xs kind group body after'
    → SameHeader pbu.kind pbu.group kind group pbu.body after body after'
same-pbu reach xs pbu after kind group body after' at header = one-header xs pbu.kind pbu.group kind group pbu.body after body after' at.header header

-- no PBU is at the end
pub none-at-end : (reach : Reach) (pbus : List Pbu) → Sequence (PbuAt reach) [] pbus [] → pbus ≡ []
none-at-end reach [] row = refl
none-at-end reach (pbu ∷ pbus) row = no-fault reach [] pbu row.0 V4 row.1 (no-size [] (lit< tt))

pub all-push : {A : Type 0} (P : A → Type 0) (xs : List A) (x : A) → AllByRecursion P xs → P x → AllByRecursion P (xs ++ x ∷ [])
all-push P [] x all p = (p, tt)
all-push P (y ∷ ys) x all p = (all.0, all-push P ys x all.1 p)
