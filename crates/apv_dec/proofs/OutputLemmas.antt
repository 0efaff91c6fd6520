-- What the outputs hold of units, and of one more.
use Rattle.std.proofs.Common.{◌≡◌, ℕ, ◌<◌, List, [], ◌∷◌, ◌++◌, length, map, refl, sym, subst, ap, ap₂, ◌∙◌, arith, Bool, true, false, Option, None, append_assoc, append-nil}
use Rattle.std.specs.Prelude.{if◌then◌else◌, ◌&&◌}
use Rattle.std.specs.List.{flat_map, filter}
use Rattle.std.proofs.lemmas.Grind.{flat_map-append}
use Rattle.std.proofs.lemmas.List.Elements.{filter-append}
use Rattle.apv_base.specs.declared.format.Format.{Format}
use Rattle.apv_base.specs.model.Judge.{DecodedFrame, DecodedUnit}
use Rattle.apv_base.specs.model.Output.{OutputSettings, is_y4m, is_selected, all_frames, selected, decoded_format, formats, picture_of, header_with, header_of, dec_out, dec_payloads}
use Rattle.apv_base.specs.model.Sound.{unit_payloads}
use Rattle.apv_base.specs.model.Video.{tag_of}
use Rattle.apv_dec.specs.Outputs.{header_text, unit_pictures, unit_metadata, first_format, IsFirstFormat, new_format}

-- ---- no units

none-of-both : (b : Bool) (bytes : List ℕ) → bytes ≡ [] → (if b then bytes else []) ≡ []
none-of-both true bytes e = e
none-of-both false bytes e = refl

pub out-none : (settings : OutputSettings) → dec_out settings [] ≡ []
out-none settings = none-of-both settings.output [] refl

pub payloads-none : (settings : OutputSettings) → dec_payloads settings [] ≡ []
payloads-none settings = none-of-both settings.payloads [] refl

-- ---- the selected frames of one more unit

frames-push : (units : List DecodedUnit) (unit : DecodedUnit) → all_frames (units ++ unit ∷ []) ≡ all_frames units ++ unit.frames
frames-push [] unit = append-nil unit.frames
frames-push (u ∷ us) unit = ap (λ (fs : List DecodedFrame). u.frames ++ fs) (frames-push us unit) ∙ sym (append_assoc u.frames (all_frames us) unit.frames)

-- those of a unit
abbrev pub unit_selected : OutputSettings → DecodedUnit → List DecodedFrame
unit_selected settings unit = filter (is_selected settings) unit.frames

selected-push : (settings : OutputSettings) (units : List DecodedUnit) (unit : DecodedUnit) → selected settings (units ++ unit ∷ []) ≡ selected settings units ++ unit_selected settings unit
selected-push settings units unit = ap (filter (is_selected settings)) (frames-push units unit) ∙ filter-append (is_selected settings) (all_frames units) unit.frames

pub formats-append : (frames more : List DecodedFrame) → map decoded_format (frames ++ more) ≡ map decoded_format frames ++ map decoded_format more
formats-append [] more = refl
formats-append (frame ∷ frames) more = ap (λ (fs : List Format). decoded_format frame ∷ fs) (formats-append frames more)

pub formats-push : (settings : OutputSettings) (units : List DecodedUnit) (unit : DecodedUnit) → formats settings (units ++ unit ∷ []) ≡ formats settings units ++ map decoded_format (unit_selected settings unit)
formats-push settings units unit = ap (map decoded_format) (selected-push settings units unit) ∙ formats-append (selected settings units) (unit_selected settings unit)

pub formats-one : (settings : OutputSettings) (unit : DecodedUnit) → formats settings (unit ∷ []) ≡ map decoded_format (unit_selected settings unit)
formats-one settings unit = formats-push settings [] unit

-- ---- the header line, which comes before the first picture

-- the header of a file of pictures, which is a Y4M file or not
abbrev header_if : OutputSettings → Bool → List Format → List ℕ
header_if settings y4m [] = []
header_if settings y4m (first ∷ more) = if y4m then header_with settings.rate first (tag_of first) else []

-- the first of formats, where the file is a Y4M file
abbrev first_if : Bool → List Format → Option Format
first_if y4m all = if y4m then first_format all else None

header-as : (settings : OutputSettings) (all : List Format) → header_of settings all ≡ header_if settings (is_y4m settings.form) all
header-as settings [] = refl
header-as settings (first ∷ more) = refl

header-push : (settings : OutputSettings) (y4m : Bool) (all more : List Format) → header_if settings y4m (all ++ more) ≡ header_if settings y4m all ++ header_text settings (new_format (first_if y4m all) (first_if y4m (all ++ more)))
header-push settings true [] [] = refl
header-push settings false [] [] = refl
header-push settings true [] (first ∷ more) = refl
header-push settings false [] (first ∷ more) = refl
header-push settings true (first ∷ all) more = sym (append-nil (header_with settings.rate first (tag_of first)))
header-push settings false (first ∷ all) more = refl

-- the pictures of frames
abbrev pictures : OutputSettings → List DecodedFrame → List ℕ
pictures settings frames = flat_map (picture_of settings) frames

-- where there are pictures before a unit, it has no header line
header-swap : (settings : OutputSettings) (y4m : Bool) (frames : List DecodedFrame) (now : Option Format) (bytes : List ℕ) → bytes ≡ header_text settings (new_format (first_if y4m (map decoded_format frames)) (if y4m then now else None))
    → bytes ++ pictures settings frames ≡ pictures settings frames ++ bytes
header-swap settings y4m [] now bytes e = append-nil bytes
header-swap settings true (frame ∷ frames) now bytes e = rw e (sym (append-nil (pictures settings (frame ∷ frames))))
header-swap settings false (frame ∷ frames) now bytes e = rw e (sym (append-nil (pictures settings (frame ∷ frames))))

swapped : (header text done more : List ℕ) → text ++ done ≡ done ++ text → (header ++ text) ++ (done ++ more) ≡ (header ++ done) ++ (text ++ more)
swapped header text done more e =
    append_assoc header text (done ++ more)
    ∙ ap (λ (xs : List ℕ). header ++ xs) (sym (append_assoc text done more) ∙ ap (λ (xs : List ℕ). xs ++ more) e ∙ append_assoc done text more)
    ∙ sym (append_assoc header done (text ++ more))

-- ---- one more unit

-- what a file of these pictures holds
abbrev file_of : OutputSettings → Bool → List DecodedFrame → List ℕ
file_of settings y4m frames = header_if settings y4m (map decoded_format frames) ++ pictures settings frames

file-push : (settings : OutputSettings) (y4m : Bool) (frames more : List DecodedFrame)
    → file_of settings y4m (frames ++ more) ≡ file_of settings y4m frames ++ (header_text settings (new_format (first_if y4m (map decoded_format frames)) (first_if y4m (map decoded_format (frames ++ more)))) ++ pictures settings more)
file-push settings y4m frames more =
    let all : List Format = map decoded_format frames in
    let text : List ℕ = header_text settings (new_format (first_if y4m all) (first_if y4m (map decoded_format (frames ++ more)))) in
    let header : header_if settings y4m (map decoded_format (frames ++ more)) ≡ header_if settings y4m all ++ text =
    subst (λ (fs : List Format). header_if settings y4m fs ≡ header_if settings y4m all ++ header_text settings (new_format (first_if y4m all) (first_if y4m fs))) (sym (formats-append frames more)) (header-push settings y4m all (map decoded_format more)) in
    ap₂ (λ (x y : List ℕ). x ++ y) header (flat_map-append (picture_of settings) frames more)
    ∙ swapped (header_if settings y4m all) text (pictures settings frames) (pictures settings more) (header-swap settings y4m frames (first_format (map decoded_format (frames ++ more))) text refl)

out-of-frames : (settings : OutputSettings) (b y4m : Bool) (frames more : List DecodedFrame) (before now : Option Format) → before ≡ (if b && y4m then first_format (map decoded_format frames) else None)
    → now ≡ (if b && y4m then first_format (map decoded_format (frames ++ more)) else None)
    → (if b then file_of settings y4m (frames ++ more) else []) ≡ (if b then file_of settings y4m frames else []) ++ (if b then header_text settings (new_format before now) ++ pictures settings more else [])
out-of-frames settings true y4m frames more before now e f = rw (e, f) (file-push settings y4m frames more)
out-of-frames settings false y4m frames more before now e f = refl

out-as : (settings : OutputSettings) (units : List DecodedUnit) → dec_out settings units ≡ (if settings.output then file_of settings (is_y4m settings.form) (selected settings units) else [])
out-as settings units = ap (λ (header : List ℕ). if settings.output then header ++ pictures settings (selected settings units) else []) (header-as settings (formats settings units))

-- with the pictures of a unit comes the header line where they are the first
pub out-push : (settings : OutputSettings) (units : List DecodedUnit) (unit : DecodedUnit) (before now header : Option Format) → IsFirstFormat settings units before → IsFirstFormat settings (units ++ unit ∷ []) now → header ≡ new_format before now
    → dec_out settings (units ++ unit ∷ []) ≡ dec_out settings units ++ unit_pictures settings header unit
out-push settings units unit before now header e f g =
    let frames : List DecodedFrame = selected settings units in
    let more : List DecodedFrame = unit_selected settings unit in
    let y4m : Bool = is_y4m settings.form in
    let same = selected-push settings units unit in
    let first : now ≡ (if settings.output && y4m then first_format (map decoded_format (frames ++ more)) else None) =
    f ∙ ap (λ (fs : List DecodedFrame). if settings.output && y4m then first_format (map decoded_format fs) else None) same in
    out-as settings (units ++ unit ∷ []) ∙ ap (λ (fs : List DecodedFrame). if settings.output then file_of settings y4m fs else []) same
    ∙ out-of-frames settings settings.output y4m frames more before now e first
    ∙ ap₂ (λ (xs : List ℕ) (text : Option Format). xs ++ unit_pictures settings text unit) (sym (out-as settings units)) (sym g)

-- the payloads of all units
abbrev all_payloads : List DecodedUnit → List ℕ
all_payloads units = flat_map (λ unit. unit_payloads unit.pbus) units

if-append : (b : Bool) (xs ys all : List ℕ) → all ≡ xs ++ ys → (if b then all else []) ≡ (if b then xs else []) ++ (if b then ys else [])
if-append true xs ys all e = e
if-append false xs ys all e = refl

pub payloads-push : (settings : OutputSettings) (units : List DecodedUnit) (unit : DecodedUnit) → dec_payloads settings (units ++ unit ∷ []) ≡ dec_payloads settings units ++ unit_metadata settings unit
payloads-push settings units unit =
    if-append settings.payloads (all_payloads units) (unit_payloads unit.pbus) (all_payloads (units ++ unit ∷ []))
    (flat_map-append (λ (u : DecodedUnit). unit_payloads u.pbus) units (unit ∷ []) ∙ ap (λ (xs : List ℕ). all_payloads units ++ xs) (append-nil (unit_payloads unit.pbus)))

-- a write fails only where there are bytes to be written
pub is-wanted : (wanted : Bool) (bytes : List ℕ) (count : ℕ) → count < length (if wanted then bytes else []) → wanted ≡ true
is-wanted true bytes count lt = refl
is-wanted false bytes count lt = absurd (omega arith)
