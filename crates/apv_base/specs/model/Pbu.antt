-- Primitive bitstream units (PBUs): pbu() of the RFC, and the bodies of metadata and filler.
use Rattle.std.specs.Prelude.{◌≡◌, ℕ, Bool, true, false, ◌||◌, List, [], ◌∷◌, take, drop, Option, Some, None, Ok, Err}
use Rattle.std.specs.Prelude.{nat_lt, if◌then◌else◌, ◌==◌}
use Rattle.std.specs.List.{list_all}
use Rattle.apv_base.specs.declared.rules.Rule.{Rule}
use Rattle.apv_base.specs.declared.rules.Rule.TheVariants.{V4, V5, V6, V7, V8, V23, V25, V26}
use Rattle.apv_base.specs.model.Table.{Table, done, field, no_check, must_be_zero, walk}
use Rattle.apv_base.specs.model.Payload.{Payload, ArePayloads, HasPartialPayload}

-- the signature of an access unit, aPv1
abbrev pub signature : List ℕ
signature = 97 ∷ 80 ∷ 118 ∷ 49 ∷ []

-- pbu_type of metadata and of filler; of frames and of access unit information
abbrev pub METADATA : ℕ
METADATA = 66

-- pbu_type of filler
abbrev pub FILLER : ℕ
FILLER = 67

-- pbu_type of access unit information
abbrev pub AU_INFO : ℕ
AU_INFO = 65

-- a pbu_type of a frame: primary, non-primary, preview, depth or alpha
abbrev pub is_frame : ℕ → Bool
is_frame kind = kind == 1 || kind == 2 || kind == 25 || kind == 26 || kind == 27

-- pbu_size must hold the header, and may not reach past the access unit
abbrev pub check_pbu_size : ℕ → ℕ → Option Rule
check_pbu_size size left = if nat_lt size 4 then Some V5 else (if nat_lt left size then Some V6 else None)

-- the fields before a body: pbu_size, pbu_type, group_id and the reserved byte
abbrev pub pbu_table : Table Rule
pbu_table =
    field 4 V4 check_pbu_size (λ size.
    field 1 V6 no_check (λ kind.
    field 2 V6 no_check (λ group.
    field 1 V6 (must_be_zero V7) (λ reserved.
    done))))

-- a PBU: its type, its group, its body, and the payloads where it is metadata
pub record Pbu : Type 0 where
  pub kind : ℕ
  pub group : ℕ
  pub body : List ℕ
  pub payloads : List Payload

-- each byte is FF
abbrev pub is_filler : List ℕ → Bool
is_filler xs = list_all (λ x. x == 255) xs

-- metadata_size is at least 2, and may not reach past the body
abbrev pub check_metadata_size : ℕ → ℕ → Option Rule
check_metadata_size size left = if nat_lt size 2 then Some V25 else (if nat_lt left size then Some V25 else None)

-- metadata_size
abbrev pub metadata_table : Table Rule
metadata_table = field 4 V8 check_metadata_size (λ size. done)

-- metadata_size, that many bytes of payloads, and filler
pub record IsMetadata (body : List ℕ) (payloads : List Payload) : Type 0 where
  pub size : ℕ
  pub rest : List ℕ
  pub walked : walk 256 metadata_table body ≡ Ok (size ∷ [], rest)
  pub whole : ArePayloads (take size rest) payloads
  pub filler : is_filler (drop size rest) ≡ true

-- the first rule that a body of metadata breaks
pub data MetadataBreaks (body : List ℕ) : Rule → Type 0 where
  in_size : (rule : Rule) → walk 256 metadata_table body ≡ Err rule → MetadataBreaks body rule
  in_payloads : (size byte : ℕ) (rest : List ℕ) → walk 256 metadata_table body ≡ Ok (size ∷ [], rest)
      → HasPartialPayload (take size rest) byte → MetadataBreaks body V26
  in_filler : (size : ℕ) (rest : List ℕ) (payloads : List Payload) → walk 256 metadata_table body ≡ Ok (size ∷ [], rest)
      → ArePayloads (take size rest) payloads → is_filler (drop size rest) ≡ false → MetadataBreaks body V23
