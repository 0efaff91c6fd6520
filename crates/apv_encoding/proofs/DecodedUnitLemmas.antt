-- The access unit of pictures is valid, judged strictly or not, and decodes to the frames of its levels.
use Rattle.std.proofs.Common.{◌≡◌, ℕ, ℤ, ◌≤◌, List, [], ◌∷◌, ◌++◌, length, take, drop, refl, sym, ap, subst, arith, Bool, length-append}
use Rattle.std.specs.List.{AllByRecursion}
use Rattle.apv_base.specs.declared.format.Format.{Format}
use Rattle.apv_base.specs.model.Body.{with_bodies}
use Rattle.apv_base.specs.model.CodedFrame.{Levels}
use Rattle.apv_base.specs.model.Judge.{DecodedUnit, IsValidUnit}
use Rattle.apv_base.specs.model.Payload.{Payload, ArePayloads}
use Rattle.apv_base.specs.model.Pbu.{Pbu, signature}
use Rattle.apv_base.specs.model.Run.{MAX_UNIT}
use Rattle.apv_base.specs.model.Sequence.{Sequence}
use Rattle.apv_base.specs.model.Unit.{PbuAt}
use Rattle.apv_encoding.specs.AccessUnit.{Pictures, EncodedUnit, AreTheirLevels, IsUnitOf}
use Rattle.apv_encoding.specs.DecodedUnit.{IsDecodedAs, decoded_frames}
use Rattle.apv_encoding.specs.Laws.{AreSoundSettings, FormatsPass, HaveSoundHeaders}
use Rattle.apv_encoding.specs.Settings.{EncoderSettings, Track, primary_track, tracks_of}
use Rattle.apv_encoding.proofs.SettingsLemmas.{are-tracks}
use Rattle.apv_encoding.proofs.StrictUnitLemmas.{unit-strict}
use Rattle.apv_encoding.proofs.TrackFrameLemmas.{IsFrameTrack, IsFurtherTrack, further_tracks, are-further, are-frame-tracks, few-tracks}
use Rattle.apv_encoding.proofs.WrittenPbuLemmas.{info_pbus, track_pbus, metadata_pbus, filler_pbus, track_pbu, unit_pbus, unit_bytes, unit-row}
use Rattle.apv_encoding.proofs.UnitContentLemmas.{unit-frames, unit-payloads}

-- a list with an item in it isn't empty
some-there : (front : List Pbu) (one : Pbu) (back : List Pbu) → front ++ one ∷ back ≡ [] → ⊥
some-there front one back e = omega (arith, ap (length {A = Pbu}) e, length-append front (one ∷ back))

-- what the tracks of sound settings are
record AreWritten (first : Track) (further : List Track) : Type 0 where
  primary : first.kind ≡ 1
  few : length (first ∷ further) ≤ 4
  are : AllByRecursion IsFrameTrack (first ∷ further)
  minor : AllByRecursion IsFurtherTrack further
  sound : HaveSoundHeaders (first ∷ further)

abbrev decoded_of : EncoderSettings → List Track → List ℕ → List Payload → EncodedUnit → DecodedUnit
decoded_of settings tracks bytes payloads unit = record {
  bytes = unit.bytes;
  pbus = unit_pbus settings.au_info settings.filler tracks unit.q unit.levels bytes payloads;
  frames = decoded_frames tracks unit.q unit.levels;
}

unit-valid : (settings : EncoderSettings) (first : Track) (further : List Track) (bytes : List ℕ) (payloads : List Payload) (pictures : Pictures) (q : ℕ) (all : List Levels) (unit : List ℕ) (strict : Bool) → AreWritten first further
    → AreTheirLevels (first ∷ further) pictures q all → ArePayloads bytes payloads → unit ≡ signature ++ unit_bytes settings.au_info settings.filler (first ∷ further) q all bytes → length unit ≤ MAX_UNIT
    → IsValidUnit strict (decoded_of settings (first ∷ further) bytes payloads (record { q = q; levels = all; bytes = unit }))
unit-valid settings first further bytes payloads pictures q [] unit strict written levels_are payloads_are e small = absurd levels_are
unit-valid settings first further bytes payloads pictures q (levels ∷ more) unit strict written levels_are payloads_are e small =
    let tracks : List Track = first ∷ further in
    let all : List Levels = levels ∷ more in
    let whole : List ℕ = unit_bytes settings.au_info settings.filler tracks q all bytes in
    let pbus : List Pbu = unit_pbus settings.au_info settings.filler tracks q all bytes payloads in
    let short : length whole ≤ MAX_UNIT = omega (arith, ap (length {A = ℕ}) e, length-append signature whole, small) in
    let row = unit-row settings.au_info settings.filler tracks pictures q all bytes payloads (omega (arith, written.few)) written.are written.sound levels_are payloads_are short in
    record {
      structure = record {
        signed = ap (take 4) e;
        some = some-there (info_pbus settings.au_info tracks) (track_pbu first q levels) (track_pbus further q more ++ (metadata_pbus bytes payloads ++ filler_pbus settings.filler));
        sequence = subst (λ (xs : List ℕ). Sequence (PbuAt with_bodies) xs pbus []) (sym (ap (drop 4) e)) row;
      };
      strictly = λ judged. unit-strict settings.au_info settings.filler first further pictures q levels more bytes payloads written.primary (omega (arith, written.few)) written.are written.minor written.sound levels_are;
      content = unit-frames settings.au_info settings.filler tracks pictures q all bytes payloads written.are written.sound levels_are;
    }

-- the access unit is valid, with the frames of its levels and the payloads of its metadata
pub valid-unit : (settings : EncoderSettings) (format : Format) (tile_offset : ℕ → ℤ) (bytes : List ℕ) (payloads : List Payload) (pictures : Pictures) (unit : EncodedUnit) (strict : Bool) → AreSoundSettings settings → FormatsPass settings format
    → ArePayloads bytes payloads → IsUnitOf settings (tracks_of settings format tile_offset) bytes pictures unit → length unit.bytes ≤ MAX_UNIT
    → (decoded : DecodedUnit) × IsDecodedAs (tracks_of settings format tile_offset) payloads strict unit decoded
valid-unit settings format tile_offset bytes payloads pictures unit strict sound pass are is small =
    let tracks : List Track = tracks_of settings format tile_offset in
    let written : AreWritten (primary_track settings format tile_offset) (further_tracks settings format) = record {
      primary = refl;
      few = few-tracks settings format tile_offset;
      are = are-frame-tracks settings format tile_offset;
      minor = are-further settings format;
      sound = (are-tracks settings format tile_offset sound pass).sound;
    } in (
      decoded_of settings tracks bytes payloads unit,
      record {
        bytes = refl;
        valid = unit-valid settings (primary_track settings format tile_offset) (further_tracks settings format) bytes payloads pictures unit.q unit.levels unit.bytes strict written is.levels are is.bytes small;
        frames = refl;
        metadata = unit-payloads settings.au_info settings.filler tracks unit.q unit.levels bytes payloads are;
      },
    )
