-- Worked numbers: a file of one unit of metadata, and how payloads are spelled.
use Rattle.std.proofs.Common.{◌≡◌, ℕ, List, [], ◌∷◌, length, refl, lit≤, append-nil, arith}
use Rattle.std.proofs.lemmas.List.{take_all}
use Rattle.apv_base.specs.declared.exits.Exit.TheVariants.{Done}
use Rattle.apv_base.specs.model.Bits.{digits, number}
use Rattle.apv_base.specs.model.Table.{walk, spell, coded_at, coded_number}
use Rattle.apv_base.specs.model.Payload.{Payload, payload_bytes, PayloadAt}
use Rattle.apv_base.specs.model.Pbu.{Pbu, IsMetadata, signature}
use Rattle.apv_base.specs.model.Body.{with_bodies}
use Rattle.apv_base.specs.model.Unit.{HasPbuHeader, Structure}
use Rattle.apv_base.specs.model.Run.{HasRun, by_size, at_end}
use Rattle.apv_base.specs.model.Sound.{SoundUnit, by_structure, meta_out}
use Rattle.apv_base.proofs.SomeRunLemmas.{accepted-none, accepted-push}

-- the signature is aPv1: 61 50 76 31
pub signature_bytes : signature ≡ 0x61 ∷ 0x50 ∷ 0x76 ∷ 0x31 ∷ []
signature_bytes = refl

-- a payload of type 170 with 510 bytes is AA FF FF 00 and the bytes
pub spelled_510 : (bytes : List ℕ) → length bytes ≡ 510 → payload_bytes (record { kind = 170; bytes = bytes }) ≡ 0xAA ∷ 0xFF ∷ 0xFF ∷ 0x00 ∷ bytes
unfolding spell coded_number
spelled_510 bytes e = rw (e, take_all 510 bytes (omega (arith, e)), append-nil bytes) refl

-- one of type 300 with the byte 7 is FF 2D 01 07, and one of type 6 without bytes is 06 00
pub spelled_300 : payload_bytes (record { kind = 300; bytes = 7 ∷ [] }) ≡ 0xFF ∷ 0x2D ∷ 0x01 ∷ 0x07 ∷ []
unfolding spell coded_number
spelled_300 = refl

pub spelled_empty : payload_bytes (record { kind = 6; bytes = [] }) ≡ 0x06 ∷ 0x00 ∷ []
unfolding spell coded_number
spelled_empty = refl

-- 00000016 61507631 0000000E 42000100 00000006 060403E80190
abbrev pub sample_list : List ℕ
sample_list = 0x06 ∷ 0x04 ∷ 0x03 ∷ 0xE8 ∷ 0x01 ∷ 0x90 ∷ []

abbrev pub sample_body : List ℕ
sample_body = 0x00 ∷ 0x00 ∷ 0x00 ∷ 0x06 ∷ sample_list

abbrev pub sample_bytes : List ℕ
sample_bytes = 0x61 ∷ 0x50 ∷ 0x76 ∷ 0x31 ∷ 0x00 ∷ 0x00 ∷ 0x00 ∷ 0x0E ∷ 0x42 ∷ 0x00 ∷ 0x01 ∷ 0x00 ∷ sample_body

abbrev pub sample_file : List ℕ
sample_file = 0x00 ∷ 0x00 ∷ 0x00 ∷ 0x16 ∷ sample_bytes

abbrev pub sample_payload : Payload
sample_payload = record { kind = 6; bytes = 0x03 ∷ 0xE8 ∷ 0x01 ∷ 0x90 ∷ [] }

abbrev pub sample_pbu : Pbu
sample_pbu = record { kind = 66; group = 1; body = sample_body; payloads = sample_payload ∷ [] }

abbrev pub sample_unit : SoundUnit
sample_unit = record { bytes = sample_bytes; pbus = sample_pbu ∷ [] }

payload_stands : PayloadAt sample_list sample_payload []
unfolding walk coded_at
payload_stands = refl

body_is_metadata : IsMetadata sample_body (sample_payload ∷ [])
unfolding walk number
body_is_metadata = record { size = 6; rest = sample_list; walked = refl; whole = ([], payload_stands, refl); filler = refl }

header_stands : HasPbuHeader (0x00 ∷ 0x00 ∷ 0x00 ∷ 0x0E ∷ 0x42 ∷ 0x00 ∷ 0x01 ∷ 0x00 ∷ sample_body) 66 1 sample_body []
unfolding walk number
header_stands = refl

sample_is_sound : Structure with_bodies sample_bytes (sample_pbu ∷ [])
sample_is_sound = record {
  signed = refl;
  some = λ none. absurd (let no : ⊥ = cc in no);
  sequence = ([], record { header = header_stands; sound = body_is_metadata }, refl);
}

-- the file is that one unit, and a reader of its structure ends after it
pub sample_runs : HasRun by_structure sample_file (sample_unit ∷ []) Done
unfolding digits
sample_runs = record {
  rest = [];
  prefix = record {
    parts = refl;
    count = lit≤ tt;
    accepted = accepted-push by_structure [] sample_unit (accepted-none by_structure) (lit≤ tt) sample_is_sound;
  };
  stops = by_size Done (at_end refl);
}

-- its metadata output is 06 04 03 E8 01 90
pub sample_output : meta_out (sample_unit ∷ []) ≡ sample_list
unfolding spell coded_number
sample_output = refl
