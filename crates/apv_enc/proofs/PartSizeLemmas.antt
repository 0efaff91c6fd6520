-- How many bytes the parts of an access unit have.
use Rattle.std.proofs.Common.{◌≡◌, ℕ, zero, suc, ◌+◌, ◌-◌, ◌*◌, ◌/◌, ◌<◌, Bool, true, false, List, [], ◌∷◌, ◌++◌, length, replicate, drop, refl, ap, ap₂, ◌∙◌, arith, length-append, Option}
use Rattle.std.specs.List.{flat_map}
use Rattle.std.proofs.lemmas.List.{length-replicate}
use Rattle.apv_base.specs.declared.rules.HeadEnd.{HeadEnd}
use Rattle.apv_base.specs.model.AuInfo.{ListedFrame, listed_values, entry_fields, entries_fields, au_info_table, au_info_body}
use Rattle.apv_base.specs.model.Bits.{bin, be, digits}
use Rattle.apv_base.specs.model.Component.{packed}
use Rattle.apv_base.specs.model.Encode.{pbu_bytes}
use Rattle.apv_base.specs.model.Format.{idc_of}
use Rattle.apv_base.specs.model.Header.{reserved}
use Rattle.apv_base.specs.model.Pbu.{pbu_table, FILLER, METADATA}
use Rattle.apv_base.specs.model.Table.{Table, done, field, spell}
use Rattle.apv_base.proofs.BitsLemmas.{length-bin, length-be}
use Rattle.apv_encoding.specs.AccessUnit.{metadata_pbu}
use Rattle.apv_enc.specs.UnitParts.{au_info_part}

-- ---- a PBU

header-size : (size kind group : ℕ) → length (spell 256 pbu_table (size ∷ kind ∷ group ∷ 0 ∷ [])) ≡ 8
unfolding spell digits
header-size size kind group = refl

-- a PBU has eight bytes before its body
pub pbu-size : (kind group : ℕ) (body : List ℕ) → length (pbu_bytes kind group body) ≡ 8 + length body
pbu-size kind group body =
    length-append (spell 256 pbu_table ((length body + 4) ∷ kind ∷ group ∷ 0 ∷ [])) body ∙ ap (λ (n : ℕ). n + length body) (header-size (length body + 4) kind group)

-- ---- access unit information

field-size : {E : Type 0} (n : ℕ) (short : E) (check : ℕ → ℕ → Option E) (next : ℕ → Table E) (value : ℕ) (values : List ℕ) (m : ℕ) → length (spell 2 (next value) values) ≡ m → length (spell 2 (field n short check next) (value ∷ values)) ≡ n + m
unfolding spell
field-size n short check next value values m e = length-append (bin n value) (spell 2 (next value) values) ∙ ap₂ (λ (a b : ℕ). a + b) (length-bin n value) e

entry-size : (next : Table HeadEnd) (frame : ListedFrame) (later : List ℕ) (m : ℕ) → length (spell 2 next later) ≡ m → length (spell 2 (entry_fields next) (listed_values frame ++ later)) ≡ m + 128
entry-size next frame later m e =
    field-size 8 _ _ _ frame.kind _ _ (field-size 16 _ _ _ frame.group _ _ (field-size 8 _ _ _ 0 _ _ (field-size 8 _ _ _ frame.info.profile _ _ (field-size 8 _ _ _ frame.info.level _ _ (
    field-size 3 _ _ _ frame.info.band _ _ (field-size 5 _ _ _ 0 _ _ (field-size 24 _ _ _ frame.info.width _ _ (field-size 24 _ _ _ frame.info.height _ _ (field-size 4 _ _ _ (idc_of frame.info.chroma) _ _ (
    field-size 4 _ _ _ (frame.info.depth - 8) _ _ (field-size 8 _ _ _ frame.info.capture _ _ (field-size 8 _ _ _ 0 _ _ e))))))))))))
    ∙ omega arith

last-size : length (spell 2 (reserved 8 done) (0 ∷ [])) ≡ 8
unfolding spell digits
last-size = refl

entries-size : (frames : List ListedFrame) → length (spell 2 (entries_fields (length frames) (reserved 8 done)) (flat_map listed_values frames ++ 0 ∷ [])) ≡ 128 * length frames + 8
unfolding entries_fields
entries-size [] = last-size
entries-size (frame ∷ frames) =
    entry-size (entries_fields (length frames) (reserved 8 done)) frame (flat_map listed_values frames ++ 0 ∷ []) (128 * length frames + 8) (entries-size frames) ∙ omega arith

packed-size : (n : ℕ) (bits : List ℕ) → length (packed n bits) ≡ n
unfolding packed
packed-size zero bits = refl
packed-size (suc n) bits = ap suc (packed-size n (drop 8 bits))

-- the number of entries, 16 bytes for each, and a reserved byte
pub au-info-size : (frames : List ListedFrame) → length (au_info_body frames) ≡ 3 + 16 * length frames
au-info-size frames =
    let word : List ℕ = spell 2 au_info_table (length frames ∷ flat_map listed_values frames ++ 0 ∷ []) in
    let long : length word ≡ 16 + (128 * length frames + 8) = field-size 16 _ _ _ (length frames) _ _ (entries-size frames) in
    packed-size ((length word + 7) / 8) word ∙ omega (arith, long)

pub au-part-size : (asked : Bool) (frames : List ListedFrame) → asked ≡ true → length (au_info_part asked frames) ≡ 11 + 16 * length frames
au-part-size true frames e = pbu-size 65 1 (au_info_body frames) ∙ omega (arith, au-info-size frames)
au-part-size false frames e = absurd (let no : ⊥ = cc (e) in no)

pub no-au-part : (asked : Bool) (frames : List ListedFrame) → asked ≡ false → au_info_part asked frames ≡ []
no-au-part true frames e = absurd (let no : ⊥ = cc (e) in no)
no-au-part false frames e = refl

-- ---- metadata

pub metadata-size : (payloads : List ℕ) → 0 < length payloads → 12 + length payloads ≡ length (metadata_pbu payloads)
metadata-size [] some = absurd (omega arith)
metadata-size (byte ∷ bytes) some =
    let payloads : List ℕ = byte ∷ bytes in
    omega (arith, pbu-size METADATA 1 (be 4 (length payloads) ++ payloads), length-append (be 4 (length payloads)) payloads, length-be 4 (length payloads))

pub no-metadata : (payloads : List ℕ) → length payloads ≡ 0 → metadata_pbu payloads ≡ []
no-metadata [] e = refl
no-metadata (byte ∷ bytes) e = absurd (omega arith)

-- ---- filler

pub filler-size : (count : ℕ) → 8 + count ≡ length (pbu_bytes FILLER 1 (replicate count 255))
filler-size count = omega (arith, pbu-size FILLER 1 (replicate count 255), length-replicate {A = ℕ} count 255)
