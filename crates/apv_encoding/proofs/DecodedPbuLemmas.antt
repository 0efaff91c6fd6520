-- The PBUs that an encoder writes are read back: their fields, and bodies of metadata.
use Rattle.std.proofs.Common.{◌≡◌, ℕ, ◌+◌, ◌^◌, ◌<◌, ◌≤◌, List, [], ◌∷◌, ◌++◌, length, take, drop, refl, sym, ap, ◌∙◌, subst, arith, lit<, None, Result, Err, inl, inr, append_assoc, length-append}
use Rattle.std.proofs.lemmas.Bool.{cases_eq, eq-eqb, ne_eqb, le-ltb}
use Rattle.std.proofs.lemmas.List.{take_at, drop_at, take_all, drop_all}
use Rattle.apv_base.specs.declared.rules.Rule.{Rule}
use Rattle.apv_base.specs.declared.rules.Rule.TheVariants.{V6, V7, V26}
use Rattle.apv_base.specs.model.Bits.{be, number}
use Rattle.apv_base.specs.model.Encode.{pbu_bytes}
use Rattle.apv_base.specs.model.Payload.{Payload, payload_table, ArePayloads}
use Rattle.apv_base.specs.model.Pbu.{pbu_table, check_pbu_size, IsMetadata, is_filler}
use Rattle.apv_base.specs.model.Table.{Table, done, field, no_check, must_be_zero, spell, walk, coded_at}
use Rattle.apv_base.specs.model.Unit.{HasPbuHeader}
use Rattle.apv_base.specs.laws.Table.{Passes}
use Rattle.apv_base.proofs.BitsLemmas.{length-be}
use Rattle.apv_base.proofs.DigitsLemmas.{number-digits}
use Rattle.apv_base.proofs.PbuLemmas.{metadata-whole}
use Rattle.apv_base.proofs.TableLemmas.{spelled-walked}
use Rattle.apv_laws.proofs.SpelledFieldLemmas.{length-field}

-- ---- the fields before a body

-- the fields after pbu_size
abbrev after_size : Table Rule
after_size = field 1 V6 no_check (λ kind. field 2 V6 no_check (λ group. field 1 V6 (must_be_zero V7) (λ reserved. done)))

length-after_size : (kind group : ℕ) → length (spell 256 after_size (kind ∷ group ∷ 0 ∷ [])) ≡ 4
unfolding spell
length-after_size kind group =
    length-field 256 1 V6 no_check (λ kind. field 2 V6 no_check (λ group. field 1 V6 (must_be_zero V7) (λ reserved. done))) kind (group ∷ 0 ∷ [])
    ∙ ap (λ (k : ℕ). 1 + k) (length-field 256 2 V6 no_check (λ group. field 1 V6 (must_be_zero V7) (λ reserved. done)) group (0 ∷ [])
    ∙ ap (λ (k : ℕ). 2 + k) (length-field 256 1 V6 (must_be_zero V7) (λ reserved. done) 0 []))

size-checked : (size left : ℕ) → 4 ≤ size → size ≤ left → check_pbu_size size left ≡ None
size-checked size left low high = rw (le-ltb size 4 low, le-ltb left size high) refl

header-passes : (kind group n left : ℕ) → n + 4 < 4294967296 → kind < 256 → group < 65536 → n ≤ left → Passes 256 pbu_table ((n + 4) ∷ kind ∷ group ∷ 0 ∷ []) left
header-passes kind group n left small low few le = (
  refl,
  (let below : n + 4 < 256 ^ 4 = omega (arith, small) in below),
  size-checked (n + 4) (length (spell 256 after_size (kind ∷ group ∷ 0 ∷ [])) + left) (omega arith) (omega (arith, length-after_size kind group, le)),
  (refl, (let below : kind < 256 ^ 1 = omega (arith, low) in below), refl, (refl, (let below : group < 256 ^ 2 = omega (arith, few) in below), refl, (refl, (let below : 0 < 256 ^ 1 = lit< tt in below), refl, refl))),
)

-- the fields of a PBU that is written are read back, and its body
pub pbu-read : (kind group : ℕ) (body after : List ℕ) → length body + 4 < 4294967296 → kind < 256 → group < 65536 → HasPbuHeader (pbu_bytes kind group body ++ after) kind group body after
pbu-read kind group body after small low few =
    let values : List ℕ = (length body + 4) ∷ kind ∷ group ∷ 0 ∷ [] in
    let passes = header-passes kind group (length body) (length (body ++ after)) small low few (omega (arith, length-append body after)) in
    ap (walk 256 pbu_table) (append_assoc (spell 256 pbu_table values) body after) ∙ spelled-walked 256 pbu_table values (body ++ after) (lit< tt) passes

-- a PBU is longer than its body
pub pbu-longer : (kind group : ℕ) (body : List ℕ) → length body ≤ length (pbu_bytes kind group body)
pbu-longer kind group body = omega (arith, length-append (spell 256 pbu_table ((length body + 4) ∷ kind ∷ group ∷ 0 ∷ [])) body)

-- ---- payloads

abbrev Fails : List ℕ → Type 0
Fails xs = ◌≡◌ {A = Result (List ℕ × List ℕ) Rule} (walk 256 payload_table xs) (Err V26)

none-in-nothing : Fails []
unfolding walk coded_at
none-in-nothing = refl

none-in-one : (x : ℕ) → Fails (x ∷ [])
unfolding walk coded_at
none-in-one x = elim (cases_eq x 255) [
  | inl e ↦ rw (eq-eqb x 255 e) refl
  | inr ne ↦ rw (ne_eqb x 255 ne) refl
]

-- nothing has no payloads
pub payloads-of-nothing : (payloads : List Payload) → ArePayloads [] payloads → payloads ≡ []
payloads-of-nothing [] are = refl
payloads-of-nothing (payload ∷ payloads) (after, at, row) = absurd (let no : ⊥ = cc (none-in-nothing, at) in no)

-- payloads have at least two bytes, where they have one
pub payloads-long : (x : ℕ) (xs : List ℕ) (payloads : List Payload) → ArePayloads (x ∷ xs) payloads → 2 ≤ length (x ∷ xs)
payloads-long x (y ∷ ys) payloads are = omega arith
payloads-long x [] [] are = absurd (let no : ⊥ = cc (are) in no)
payloads-long x [] (payload ∷ payloads) (after, at, row) = absurd (let no : ⊥ = cc (none-in-one x, at) in no)

-- ---- metadata

-- metadata_size and the payloads are a body of metadata
pub metadata-read : (bytes : List ℕ) (payloads : List Payload) → ArePayloads bytes payloads → 2 ≤ length bytes → length bytes < 4294967296 → IsMetadata (be 4 (length bytes) ++ bytes) payloads
metadata-read bytes payloads are long small =
    let n : ℕ = length bytes in
    let body : List ℕ = be 4 n ++ bytes in
    let size : length (be 4 n) ≡ 4 = length-be 4 n in
    let first : take 4 body ≡ be 4 n = take_at (be 4 n) bytes 4 size in
    let rest : drop 4 body ≡ bytes = drop_at (be 4 n) bytes 4 size in
    let spelled : n ≡ number 256 (take 4 body) = sym (ap (number 256) first ∙ number-digits 256 4 n (lit< tt) (let below : n < 256 ^ 4 = omega (arith, small) in below)) in
    record {
      size = n;
      rest = drop 4 body;
      walked = metadata-whole body n (omega (arith, length-append (be 4 n) bytes, size)) spelled long (omega (arith, ap (length {A = ℕ}) rest));
      whole = subst (λ (xs : List ℕ). ArePayloads xs payloads) (sym (ap (take n) rest ∙ take_all n bytes (omega arith))) are;
      filler = ap is_filler (ap (drop n) rest ∙ drop_all n bytes (omega arith));
    }
