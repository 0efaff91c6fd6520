-- What an encoder has written decodes to its end: to the frames of all tracks, the reconstruction and the payloads.
use Rattle.std.proofs.Common.{◌≡◌, ℕ, ◌≤◌, List, [], ◌∷◌, ◌++◌, length, get_or, refl, sym, ap, ap₂, ◌∙◌, subst, arith, Option, Some, None, Bool, true, false, nat_eq, append-nil}
use Rattle.std.specs.Prelude.{if◌then◌else◌}
use Rattle.std.specs.List.{AllByRecursion, flat_map, filter}
use Rattle.std.proofs.lemmas.Bool.{and_parts, or_parts}
use Rattle.std.proofs.lemmas.Grind.{flat_map-append}
use Rattle.std.proofs.lemmas.List.Elements.{filter-append}
use Rattle.apv_base.specs.declared.exits.Exit.{Exit}
use Rattle.apv_base.specs.declared.exits.Exit.TheVariants.{Done}
use Rattle.apv_base.specs.declared.format.Format.{Format}
use Rattle.apv_base.specs.model.CodedFrame.{Levels}
use Rattle.apv_base.specs.model.Judge.{DecodedFrame, DecodedUnit, IsValidUnit}
use Rattle.apv_base.specs.model.Output.{OutputSettings, DecodesTo, all_frames, by_content, dec_out, formats, header_of, is_selected, picture_of, selected}
use Rattle.apv_base.specs.model.Payload.{Payload, payloads_bytes, ArePayloads}
use Rattle.apv_base.specs.model.Run.{MAX_UNIT, MAX_UNITS, sized, at_end, AreAccepted, spelled, by_size}
use Rattle.apv_base.specs.model.Sound.{unit_payloads}
use Rattle.apv_base.proofs.PayloadLemmas.{payloads-spelled}
use Rattle.apv_encoding.specs.AccessUnit.{Pictures, EncodedUnit, AreTheirLevels}
use Rattle.apv_encoding.specs.Answer.{Inputs, HasFormats, HasPayloads, AreEncoded, carried, tile_offsets, tracks_for, enc_out, recon_out, primary_levels, reconstruction, Encodes, before, encoded}
use Rattle.apv_encoding.specs.DecodedUnit.{IsDecodedAs, decoded_frame, decoded_frames, frames_of_units, in_planar_file, for_primaries, reconstructions, DecodesToReconstruction}
use Rattle.apv_encoding.specs.Laws.{AreSoundSettings, FormatsPass, Encoding}
use Rattle.apv_encoding.specs.Settings.{EncoderSettings, Track, primary_track}
use Rattle.apv_encoding.proofs.DecodedUnitLemmas.{valid-unit}
use Rattle.apv_encoding.proofs.OneAnswerLemmas.{formats-pass, one-formats}
use Rattle.apv_encoding.proofs.StrictUnitLemmas.{all-at}
use Rattle.apv_encoding.proofs.TrackFrameLemmas.{IsFurtherTrack, further_tracks, are-further}

-- ---- units one by one

-- the unit decodes, isn't too long, and has levels of the primary frame
record IsDecoded (tracks : List Track) (payloads : List Payload) (strict : Bool) (unit : EncodedUnit) (decoded : DecodedUnit) : Type 0 where
  is : IsDecodedAs tracks payloads strict unit decoded
  small : length unit.bytes ≤ MAX_UNIT
  more : List Levels
  some : unit.levels ≡ primary_levels unit ∷ more

abbrev AreDecoded : List Track → List Payload → Bool → List EncodedUnit → List DecodedUnit → Type 0
AreDecoded tracks payloads strict [] all = all ≡ []
AreDecoded tracks payloads strict (unit ∷ units) [] = ⊥
AreDecoded tracks payloads strict (unit ∷ units) (first ∷ all) = IsDecoded tracks payloads strict unit first × AreDecoded tracks payloads strict units all

-- what is the same for all units of a run
record Run (settings : EncoderSettings) (inputs : Inputs) (format : Format) (payloads : List Payload) : Type 0 where
  sound : AreSoundSettings settings
  pass : FormatsPass settings format
  are : ArePayloads (carried inputs.payloads) payloads

-- the levels of the first track are there
levels-there : (first : Track) (further : List Track) (pictures : Pictures) (unit : EncodedUnit) (all : List Levels) → unit.levels ≡ all → AreTheirLevels (first ∷ further) pictures unit.q all → (more : List Levels) × (unit.levels ≡ primary_levels unit ∷ more)
levels-there first further pictures unit [] e are = absurd are
levels-there first further pictures unit (levels ∷ more) e are =
    let same : levels ≡ primary_levels unit = sym (ap (λ (xs : List Levels). get_or xs 0 []) e) in (more, e ∙ ap (λ (x : Levels). x ∷ more) same)

units-decode : (settings : EncoderSettings) (inputs : Inputs) (format : Format) (payloads : List Payload) (strict : Bool) (frames : List Pictures) (units : List EncodedUnit) → Run settings inputs format payloads → AreEncoded settings inputs format frames units
    → (all : List DecodedUnit) × AreDecoded (tracks_for settings inputs format) payloads strict units all
units-decode settings inputs format payloads strict [] [] run are = ([], refl)
units-decode settings inputs format payloads strict [] (unit ∷ units) run are = absurd (let no : ⊥ = cc (are) in no)
units-decode settings inputs format payloads strict (pictures ∷ frames) [] run are = absurd are
units-decode settings inputs format payloads strict (pictures ∷ frames) (unit ∷ units) run are =
    let offsets = tile_offsets inputs.offsets in
    let first = valid-unit settings format offsets (carried inputs.payloads) payloads pictures unit strict run.sound run.pass run.are are.0.unit_of are.0.small in
    let levels = levels-there (primary_track settings format offsets) (further_tracks settings format) pictures unit unit.levels refl are.0.unit_of.levels in
    let later = units-decode settings inputs format payloads strict frames units run are.1 in
    (first.0 ∷ later.0, (record { is = first.1; small = are.0.small; more = levels.0; some = levels.1 }, later.1))

-- ---- a file of them

length-decoded : (tracks : List Track) (payloads : List Payload) (strict : Bool) (units : List EncodedUnit) (all : List DecodedUnit) → AreDecoded tracks payloads strict units all → length all ≡ length units
length-decoded tracks payloads strict [] all are = ap (length {A = DecodedUnit}) are
length-decoded tracks payloads strict (unit ∷ units) [] are = absurd are
length-decoded tracks payloads strict (unit ∷ units) (first ∷ all) are = let later = length-decoded tracks payloads strict units all are.1 in omega (arith, later)

spelled-decoded : (tracks : List Track) (payloads : List Payload) (decoder : OutputSettings) (units : List EncodedUnit) (all : List DecodedUnit) → AreDecoded tracks payloads decoder.strict units all
    → flat_map (λ (unit : EncodedUnit). sized unit.bytes) units ≡ spelled (by_content decoder) all
spelled-decoded tracks payloads decoder [] all are = sym (ap (spelled (by_content decoder)) are)
spelled-decoded tracks payloads decoder (unit ∷ units) [] are = absurd are
spelled-decoded tracks payloads decoder (unit ∷ units) (first ∷ all) are = ap₂ (λ (xs ys : List ℕ). xs ++ ys) (ap sized (sym are.0.is.bytes)) (spelled-decoded tracks payloads decoder units all are.1)

-- a valid unit of a permitted size
abbrev IsGood : Bool → DecodedUnit → Type 0
IsGood strict unit = (length unit.bytes ≤ MAX_UNIT) × IsValidUnit strict unit

all-good : (tracks : List Track) (payloads : List Payload) (strict : Bool) (units : List EncodedUnit) (all : List DecodedUnit) → AreDecoded tracks payloads strict units all → AllByRecursion (IsGood strict) all
all-good tracks payloads strict units [] are = tt
all-good tracks payloads strict [] (first ∷ all) are = absurd (let no : ⊥ = cc (are) in no)
all-good tracks payloads strict (unit ∷ units) (first ∷ all) are = ((omega (arith, are.0.small, ap (length {A = ℕ}) are.0.is.bytes), are.0.is.valid), all-good tracks payloads strict units all are.1)

-- formats are never asked for in a planar file
accepted : (decoder : OutputSettings) (all : List DecodedUnit) → AllByRecursion (IsGood decoder.strict) all → AreAccepted (by_content (in_planar_file decoder)) all
accepted decoder all good prefix unit later e =
    let here = all-at (IsGood decoder.strict) prefix unit later (subst (AllByRecursion (IsGood decoder.strict)) e good) in
    (here.0, (here.1, λ wanted. let never = (and_parts decoder.output false wanted).1 in absurd (let no : ⊥ = cc (never) in no)))

file-decodes : (tracks : List Track) (payloads : List Payload) (decoder : OutputSettings) (file : List ℕ) (units : List EncodedUnit) (all : List DecodedUnit) → file ≡ flat_map (λ (unit : EncodedUnit). sized unit.bytes) units → length units ≤ MAX_UNITS
    → AreDecoded tracks payloads decoder.strict units all → DecodesTo (in_planar_file decoder) file all Done
file-decodes tracks payloads decoder file units all e few are =
    let whole : List ℕ = spelled (by_content (in_planar_file decoder)) all in
    record {
      rest = [];
      prefix = record {
        parts = e ∙ spelled-decoded tracks payloads (in_planar_file decoder) units all are ∙ sym (append-nil whole);
        count = omega (arith, few, length-decoded tracks payloads decoder.strict units all are);
        accepted = accepted decoder all (all-good tracks payloads decoder.strict units all are);
      };
      stops = by_size Done (at_end refl);
    }

-- ---- frames

-- the frames are those of the units
frames-decoded : (tracks : List Track) (payloads : List Payload) (strict : Bool) (units : List EncodedUnit) (all : List DecodedUnit) → AreDecoded tracks payloads strict units all → all_frames all ≡ frames_of_units tracks units
frames-decoded tracks payloads strict [] all are = ap all_frames are
frames-decoded tracks payloads strict (unit ∷ units) [] are = absurd are
frames-decoded tracks payloads strict (unit ∷ units) (first ∷ all) are = ap₂ (λ (xs ys : List DecodedFrame). xs ++ ys) are.0.is.frames (frames-decoded tracks payloads strict units all are.1)

-- ---- what a decoder writes of the primary ones

no-header : (decoder : OutputSettings) (all : List Format) → header_of (for_primaries decoder) all ≡ []
no-header decoder [] = refl
no-header decoder (first ∷ all) = refl

none-selected : (decoder : OutputSettings) (further : List Track) (q : ℕ) (all : List Levels) → AllByRecursion IsFurtherTrack further → filter (is_selected (for_primaries decoder)) (decoded_frames further q all) ≡ []
none-selected decoder [] q all minor = refl
none-selected decoder (track ∷ further) q [] minor = refl
none-selected decoder (track ∷ further) q (levels ∷ more) minor =
    let other : nat_eq track.kind 1 ≡ false = (or_parts (nat_eq track.kind 1) (nat_eq track.kind 2) minor.0).0 in rw other (none-selected decoder further q more minor.1)

-- of the frames of a unit the first is selected
first-selected : (decoder : OutputSettings) (first : Track) (further : List Track) (q : ℕ) (levels : Levels) (more : List Levels) → first.kind ≡ 1 → AllByRecursion IsFurtherTrack further
    → filter (is_selected (for_primaries decoder)) (decoded_frames (first ∷ further) q (levels ∷ more)) ≡ decoded_frame first q levels ∷ []
first-selected decoder first further q levels more primary minor =
    let one : nat_eq first.kind 1 ≡ true = ap (λ (kind : ℕ). nat_eq kind 1) primary in rw one (ap (λ (xs : List DecodedFrame). decoded_frame first q levels ∷ xs) (none-selected decoder further q more minor))

-- its picture
unit-picture : (first : Track) (further : List Track) (decoder : OutputSettings) (unit : EncodedUnit) (more : List Levels) (frames : List DecodedFrame) → first.kind ≡ 1 → AllByRecursion IsFurtherTrack further
    → frames ≡ decoded_frames (first ∷ further) unit.q unit.levels → unit.levels ≡ primary_levels unit ∷ more
    → flat_map (picture_of (for_primaries decoder)) (filter (is_selected (for_primaries decoder)) frames) ≡ reconstruction first.header first.qps unit
unit-picture first further decoder unit more frames primary minor e f =
    let chosen : List DecodedFrame → List DecodedFrame = filter (is_selected (for_primaries decoder)) in
    let one = ap chosen e ∙ ap (λ (all : List Levels). chosen (decoded_frames (first ∷ further) unit.q all)) f ∙ first-selected decoder first further unit.q (primary_levels unit) more primary minor in
    ap (flat_map (picture_of (for_primaries decoder))) one ∙ append-nil (reconstruction first.header first.qps unit)

pictures-written : (first : Track) (further : List Track) (payloads : List Payload) (decoder : OutputSettings) (units : List EncodedUnit) (all : List DecodedUnit) → first.kind ≡ 1 → AllByRecursion IsFurtherTrack further
    → AreDecoded (first ∷ further) payloads decoder.strict units all → flat_map (picture_of (for_primaries decoder)) (selected (for_primaries decoder) all) ≡ flat_map (reconstruction first.header first.qps) units
pictures-written first further payloads decoder [] all primary minor are = ap (λ (us : List DecodedUnit). flat_map (picture_of (for_primaries decoder)) (selected (for_primaries decoder) us)) are
pictures-written first further payloads decoder (unit ∷ units) [] primary minor are = absurd are
pictures-written first further payloads decoder (unit ∷ units) (decoded ∷ all) primary minor are =
    let chosen : DecodedFrame → Bool = is_selected (for_primaries decoder) in
    let picture : DecodedFrame → List ℕ = picture_of (for_primaries decoder) in
    ap (flat_map picture) (filter-append chosen decoded.frames (all_frames all)) ∙ flat_map-append picture (filter chosen decoded.frames) (filter chosen (all_frames all))
    ∙ ap₂ (λ (xs ys : List ℕ). xs ++ ys) (unit-picture first further decoder unit are.0.more decoded.frames primary minor are.0.is.frames are.0.some) (pictures-written first further payloads decoder units all primary minor are.1)

output-written : (first : Track) (further : List Track) (payloads : List Payload) (decoder : OutputSettings) (units : List EncodedUnit) (all : List DecodedUnit) → first.kind ≡ 1 → AllByRecursion IsFurtherTrack further
    → AreDecoded (first ∷ further) payloads decoder.strict units all → dec_out (for_primaries decoder) all ≡ flat_map (reconstruction first.header first.qps) units
output-written first further payloads decoder units all primary minor are =
    ap (λ (xs : List ℕ). xs ++ flat_map (picture_of (for_primaries decoder)) (selected (for_primaries decoder) all)) (no-header decoder (formats (for_primaries decoder) all))
    ∙ pictures-written first further payloads decoder units all primary minor are

-- ---- payloads

all-payloads : (tracks : List Track) (payloads : List Payload) (strict : Bool) (bytes : List ℕ) (units : List EncodedUnit) (all : List DecodedUnit) → payloads_bytes payloads ≡ bytes → AreDecoded tracks payloads strict units all
    → flat_map (λ (unit : DecodedUnit). unit_payloads unit.pbus) all ≡ flat_map (λ (unit : EncodedUnit). bytes) units
all-payloads tracks payloads strict bytes [] all e are = ap (flat_map (λ (unit : DecodedUnit). unit_payloads unit.pbus)) are
all-payloads tracks payloads strict bytes (unit ∷ units) [] e are = absurd are
all-payloads tracks payloads strict bytes (unit ∷ units) (first ∷ all) e are = ap₂ (λ (xs ys : List ℕ). xs ++ ys) (are.0.is.metadata ∙ e) (all-payloads tracks payloads strict bytes units all e are.1)

where-true : (asked : Bool) (xs : List ℕ) → asked ≡ true → (if asked then xs else []) ≡ xs
where-true true xs e = refl
where-true false xs e = absurd (let no : ⊥ = cc (e) in no)

-- ---- the answer of an encoder

-- the payloads that each access unit carries
payloads-carried : (given : Option (List ℕ)) → HasPayloads given → (payloads : List Payload) × ArePayloads (carried given) payloads
payloads-carried None has = ([], refl)
payloads-carried (Some bytes) has = has.1

-- nothing was written
nothing-decodes : (settings : EncoderSettings) (inputs : Inputs) (decoder : OutputSettings) (exit : Exit) → DecodesToReconstruction settings inputs (record { units = []; output = []; recon = []; exit = exit }) decoder
nothing-decodes settings inputs decoder exit = record {
  units = [];
  run = record {
    rest = [];
    prefix = record { parts = refl; count = omega arith; accepted = accepted decoder [] tt };
    stops = by_size Done (at_end refl);
  };
  frames = λ format left has. refl;
  pictures = λ format left has. refl;
  recon = λ asked. refl;
  payloads = λ asked bytes. where-true decoder.payloads [] asked;
}

units-written : (settings : EncoderSettings) (inputs : Inputs) (format : Format) (begin : List ℕ) (frames : List Pictures) (units : List EncodedUnit) (decoder : OutputSettings) (exit : Exit) → AreSoundSettings settings
    → settings.output ≡ true → HasFormats settings inputs format begin → length units ≤ MAX_UNITS → AreEncoded settings inputs format frames units
    → DecodesToReconstruction settings inputs (record { units = units; output = enc_out settings units; recon = recon_out settings inputs format units; exit = exit }) decoder
units-written settings inputs format begin frames units decoder exit sound written has few are =
    let first : Track = primary_track settings format (tile_offsets inputs.offsets) in
    let further : List Track = further_tracks settings format in
    let tracks : List Track = tracks_for settings inputs format in
    let carry = payloads-carried inputs.payloads has.payloads in
    let payloads : List Payload = carry.0 in
    let run : Run settings inputs format payloads = record { sound = sound; pass = formats-pass settings inputs format begin has; are = carry.1 } in
    let decode = units-decode settings inputs format payloads decoder.strict frames units run are in
    let all : List DecodedUnit = decode.0 in
    let out : dec_out (for_primaries decoder) all ≡ reconstructions settings inputs format units = output-written first further payloads decoder units all refl (are-further settings format) decode.1 in
    record {
      units = all;
      run = file-decodes tracks payloads decoder (enc_out settings units) units all (where-true settings.output (flat_map (λ (unit : EncodedUnit). sized unit.bytes) units) written) few decode.1;
      frames = λ other left also. frames-decoded tracks payloads decoder.strict units all decode.1 ∙ ap (λ (f : Format). frames_of_units (tracks_for settings inputs f) units) (one-formats settings inputs format other begin left has also).0;
      pictures = λ other left also. out ∙ ap (λ (f : Format). reconstructions settings inputs f units) (one-formats settings inputs format other begin left has also).0;
      recon = λ asked. out ∙ sym (where-true settings.recon (reconstructions settings inputs format units) asked);
      payloads = λ asked bytes. where-true decoder.payloads (flat_map (λ (unit : DecodedUnit). unit_payloads unit.pbus) all) asked
          ∙ all-payloads tracks payloads decoder.strict (carried inputs.payloads) units all (sym (payloads-spelled (carried inputs.payloads) payloads bytes carry.1)) decode.1;
    }

encodes-decodes : (settings : EncoderSettings) (inputs : Inputs) (units : List EncodedUnit) (output recon : List ℕ) (exit : Exit) (decoder : OutputSettings) → AreSoundSettings settings → settings.output ≡ true
    → Encodes settings inputs units output recon exit → DecodesToReconstruction settings inputs (record { units = units; output = output; recon = recon; exit = exit }) decoder
encodes-decodes settings inputs units output recon exit decoder sound written (before e stops) = nothing-decodes settings inputs decoder exit
encodes-decodes settings inputs units output recon exit decoder sound written (encoded format begin frames left all e has offsets few at are stop) = units-written settings inputs format begin frames all decoder exit sound written has few are

-- what was written decodes to its end
pub written-decodes : (settings : EncoderSettings) (inputs : Inputs) (encoding : Encoding) (decoder : OutputSettings) → AreSoundSettings settings → settings.output ≡ true
    → Encodes settings inputs encoding.units encoding.output encoding.recon encoding.exit → DecodesToReconstruction settings inputs encoding decoder
written-decodes settings inputs encoding decoder sound written encodes = encodes-decodes settings inputs encoding.units encoding.output encoding.recon encoding.exit decoder sound written encodes
