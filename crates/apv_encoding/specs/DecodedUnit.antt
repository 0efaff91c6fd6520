-- Laws of decoding what an encoder writes.
use Rattle.std.specs.Prelude.{◌≡◌, ℕ, Bool, true, List, [], ◌∷◌, None}
use Rattle.std.specs.List.{flat_map}
use Rattle.apv_base.specs.declared.exits.Exit.TheVariants.{Done}
use Rattle.apv_base.specs.declared.format.Format.{Format}
use Rattle.apv_base.specs.declared.options.Form.TheVariants.{Planar}
use Rattle.apv_base.specs.declared.options.Select.TheVariants.{Primary}
use Rattle.apv_base.specs.model.Bits.{AreBytes}
use Rattle.apv_base.specs.model.CodedFrame.{Levels}
use Rattle.apv_base.specs.model.Encode.{frame_with}
use Rattle.apv_base.specs.model.Judge.{DecodedFrame, DecodedUnit, IsValidUnit}
use Rattle.apv_base.specs.model.Output.{OutputSettings, DecodesTo, all_frames, dec_out, dec_payloads}
use Rattle.apv_base.specs.model.Payload.{Payload, payloads_bytes}
use Rattle.apv_base.specs.model.Sound.{unit_payloads}
use Rattle.apv_encoding.specs.AccessUnit.{EncodedUnit}
use Rattle.apv_encoding.specs.Answer.{Inputs, HasFormats, carried, tile_offsets, tracks_for, reconstruction}
use Rattle.apv_encoding.specs.Laws.{Encoding}
use Rattle.apv_encoding.specs.Settings.{EncoderSettings, Track, primary_track}

-- ---- an access unit

-- the frame that a decoder makes of levels of a track at a QP of the access unit: in the group 1, with the type and the
-- header of the track, and its samples are those of the levels
abbrev pub decoded_frame : Track → ℕ → Levels → DecodedFrame
decoded_frame track q levels = record {
  kind = track.kind;
  group = 1;
  frame = frame_with track.header (track.qps q) levels;
  levels = levels;
}

-- the frames of the tracks, in their order
abbrev pub decoded_frames : List Track → ℕ → List Levels → List DecodedFrame
decoded_frames [] q all = []
decoded_frames (track ∷ tracks) q [] = []
decoded_frames (track ∷ tracks) q (levels ∷ more) = decoded_frame track q levels ∷ decoded_frames tracks q more

-- The access unit is valid, judged strictly or not. Its frames are those of the levels of the tracks, and the payloads of
-- its metadata are these.
pub record IsDecodedAs (tracks : List Track) (payloads : List Payload) (strict : Bool) (unit : EncodedUnit)
    (decoded : DecodedUnit) : Type 0 where
  pub bytes : decoded.bytes ≡ unit.bytes
  pub valid : IsValidUnit strict decoded
  pub frames : decoded.frames ≡ decoded_frames tracks unit.q unit.levels
  pub metadata : unit_payloads decoded.pbus ≡ payloads_bytes payloads

-- ---- a file

-- settings of a decoder, with the pictures in a planar file
abbrev pub in_planar_file : OutputSettings → OutputSettings
in_planar_file decoder = record decoder { form = Planar }

-- settings of a decoder, with the pictures of the primary frames of all groups in a planar file
abbrev pub for_primaries : OutputSettings → OutputSettings
for_primaries decoder = record decoder { output = true; form = Planar; select = Primary; group = None }

-- the frames that a decoder makes of the access units
abbrev pub frames_of_units : List Track → List EncodedUnit → List DecodedFrame
frames_of_units tracks units = flat_map (λ unit. decoded_frames tracks unit.q unit.levels) units

-- the pictures that a decoder makes of the primary frames, whether they are written to Recon or not
abbrev pub reconstructions : EncoderSettings → Inputs → Format → List EncodedUnit → List ℕ
reconstructions settings inputs format units =
    let primary = primary_track settings format (tile_offsets inputs.offsets) in
    flat_map (reconstruction primary.header primary.qps) units

-- Output, as the encoder leaves it, is decoded to its end, whatever a decoder selects for a planar file: to the frames of
-- all tracks, of which those of the primary track are in Recon where that is written, and to the payloads, once for each
-- access unit.
pub record DecodesToReconstruction (settings : EncoderSettings) (inputs : Inputs) (encoding : Encoding)
    (decoder : OutputSettings) : Type 0 where
  pub units : List DecodedUnit
  pub run : DecodesTo (in_planar_file decoder) encoding.output units Done
  pub frames : (format : Format) (left : List ℕ) → HasFormats settings inputs format left
      → all_frames units ≡ frames_of_units (tracks_for settings inputs format) encoding.units
  pub pictures : (format : Format) (left : List ℕ) → HasFormats settings inputs format left
      → dec_out (for_primaries decoder) units ≡ reconstructions settings inputs format encoding.units
  pub recon : settings.recon ≡ true → dec_out (for_primaries decoder) units ≡ encoding.recon
  pub payloads : decoder.payloads ≡ true → AreBytes (carried inputs.payloads)
      → dec_payloads decoder units ≡ flat_map (λ unit. carried inputs.payloads) encoding.units
