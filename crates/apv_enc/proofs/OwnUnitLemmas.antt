-- A valid access unit breaks no rule, and its frames are one list. That of an encoder is valid, and has a first frame.
use Rattle.std.proofs.Common.{◌≡◌, ℕ, ℤ, ◌<◌, ◌≤◌, List, [], ◌∷◌, length, map, drop, slice_index_or, Option, Some, None, Bool, false, refl, subst, arith}
use Rattle.apv_base.proofs.JudgeLemmas.{unit-once}
use Rattle.apv_base.specs.declared.format.Format.{Format}
use Rattle.apv_base.specs.declared.rules.UnitEnd.{UnitEnd}
use Rattle.apv_base.specs.declared.rules.UnitEnd.TheVariants as ends
use Rattle.apv_base.specs.laws.Judge.{AreValidUnitBytes}
use Rattle.apv_base.specs.model.Body.{with_bodies}
use Rattle.apv_base.specs.model.Judge.{DecodedFrame, DecodedUnit, ContentBreak, FramesBreak, in_structure, in_content}
use Rattle.apv_base.specs.model.Payload.{ArePayloads, Payload}
use Rattle.apv_base.specs.model.Run.{MAX_UNIT}
use Rattle.apv_base.specs.model.Unit.{Structure, StructureBreaks}
use Rattle.apv_grid.specs.Buffer.{Buffer}
use Rattle.apv_frame.specs.Unit.{AreBuffersOf, HasFrames, IsBufferOf, more as one_more}
use Rattle.apv_laws.proofs.ComponentLemmas.{component-once}
use Rattle.apv_encoding.specs.AccessUnit.{EncodedUnit, IsUnitOf, Pictures}
use Rattle.apv_encoding.specs.Answer.{HasPayloads, Inputs, carried, primary_levels, tile_offsets, tracks_for}
use Rattle.apv_encoding.specs.DecodedUnit.{IsDecodedAs, decoded_frame, decoded_frames}
use Rattle.apv_encoding.specs.Laws.{AreSoundSettings, FormatsPass}
use Rattle.apv_encoding.specs.Settings.{EncoderSettings, primary_track, tracks_of}
use Rattle.apv_tracks.specs.States.{AreStatesOf}
use Rattle.apv_workers.specs.Track.{TrackState, levels_of}
use Rattle.apv_enc.specs.Added.{HasFirstFrame}
use Rattle.apv_enc.specs.Coding.{unit_of_states}

-- the structure of the bytes of a valid unit
pub structure-of : (bytes : List ℕ) (unit : DecodedUnit) → AreValidUnitBytes false bytes unit → Structure with_bodies bytes unit.pbus
structure-of bytes unit valid = subst (λ (b : List ℕ). Structure with_bodies b unit.pbus) valid.0 valid.1.structure

-- its structure breaks no rule
pub sound-structure : {A : Type 0} (n : ℕ) (bytes : List ℕ) (unit : DecodedUnit) (end : UnitEnd) → AreValidUnitBytes false bytes unit → StructureBreaks with_bodies n bytes end → A
sound-structure n bytes unit end valid b = absurd ((unit-once component-once false n bytes).not_both unit end valid (in_structure end b))

-- the content of its frames breaks no rule
pub sound-content : {A : Type 0} (n : ℕ) (bytes : List ℕ) (unit : DecodedUnit) (pbu : ℕ) (at : ContentBreak) → AreValidUnitBytes false bytes unit → FramesBreak unit.pbus pbu at → A
sound-content n bytes unit pbu at valid b =
    let end : UnitEnd = ends.Broken (record { rule = at.rule; place = record { unit = n; pbu = pbu; tile = at.tile; comp = at.comp } }) in
    absurd ((unit-once component-once false n bytes).not_both unit end valid (in_content unit.pbus pbu at (structure-of bytes unit valid) valid.1.strictly b))

-- the frames that are decoded of its PBUs are its own
pub own-frames : (bytes : List ℕ) (buffers : List (Buffer ℕ)) (unit : DecodedUnit) → AreValidUnitBytes false bytes unit → HasFrames unit.pbus buffers → AreBuffersOf unit.frames buffers
own-frames bytes buffers unit valid has =
    let other : DecodedUnit = record { bytes = bytes; pbus = unit.pbus; frames = has.frames } in
    let same : other ≡ unit = (unit-once component-once false 0 bytes).accepted other unit (refl, record { structure = structure-of bytes unit valid; strictly = valid.1.strictly; content = has.decoded }) valid in
    subst (λ (u : DecodedUnit). AreBuffersOf u.frames buffers) same has.held

-- ---- the access unit of an encoder

-- each access unit of an encoder is valid, and has the frames of its tracks
abbrev pub HasValidUnits : Type 0
HasValidUnits =
    (settings : EncoderSettings) (format : Format) (tile_offset : ℕ → ℤ) (bytes : List ℕ) (payloads : List Payload) (pictures : Pictures) (unit : EncodedUnit) (strict : Bool) → AreSoundSettings settings → FormatsPass settings format
    → ArePayloads bytes payloads → IsUnitOf settings (tracks_of settings format tile_offset) bytes pictures unit → length unit.bytes ≤ MAX_UNIT → (decoded : DecodedUnit) × IsDecodedAs (tracks_of settings format tile_offset) payloads strict unit decoded

-- what is carried is whole payloads
whole-payloads : (given : Option (List ℕ)) → HasPayloads given → (payloads : List Payload) × ArePayloads (carried given) payloads
whole-payloads None whole = ([], refl)
whole-payloads (Some bytes) whole = whole.1

-- the first frame of the access unit of the tracks is that of the primary one
pub unit-first : (law : HasValidUnits) (e : EncoderSettings) (inputs : Inputs) (format : Format) (pictures : Pictures) (states : List TrackState) (q : ℕ) (bytes : List ℕ) → AreSoundSettings e → FormatsPass e format → HasPayloads inputs.payloads → AreStatesOf (tracks_for e inputs format) states
    → IsUnitOf e (tracks_for e inputs format) (carried inputs.payloads) pictures (unit_of_states q states bytes) → length bytes ≤ MAX_UNIT
    → HasFirstFrame bytes (decoded_frame (primary_track e format (tile_offsets inputs.offsets)) q (primary_levels (unit_of_states q states bytes)))
unit-first law e inputs format pictures [] q bytes sound passes whole are made small = absurd are
unit-first law e inputs format pictures (first ∷ more) q bytes sound passes whole are made small =
    let payloads = whole-payloads inputs.payloads whole in
    let decoded = law e format (tile_offsets inputs.offsets) (carried inputs.payloads) payloads.0 pictures (unit_of_states q (first ∷ more) bytes) false sound passes payloads.1 made small in
    record {
      unit = decoded.0;
      more = decoded_frames (drop 1 (tracks_for e inputs format)) q (map levels_of more);
      of_bytes = decoded.1.bytes;
      valid = decoded.1.valid;
      frames = decoded.1.frames;
    }

-- ---- what the first frame is decoded to

some-held : (first : DecodedFrame) (later : List DecodedFrame) (buffers : List (Buffer ℕ)) → AreBuffersOf (first ∷ later) buffers → 0 < length buffers
some-held first later [] held = elim held [ ]
some-held first later (buffer ∷ rest) held = omega arith

first-held : (first : DecodedFrame) (later : List DecodedFrame) (buffers : List (Buffer ℕ)) (other : Buffer ℕ) → AreBuffersOf (first ∷ later) buffers → IsBufferOf first (slice_index_or buffers 0 other)
first-held first later [] other held = elim held [ ]
first-held first later (buffer ∷ rest) other (one_more _ _ _ _ is held) = is

-- there is a first buffer
pub has-buffer : (bytes : List ℕ) (first : DecodedFrame) (has : HasFirstFrame bytes first) (buffers : List (Buffer ℕ)) → AreBuffersOf has.unit.frames buffers → 0 < length buffers
has-buffer bytes first has buffers held = some-held first has.more buffers (subst (λ (frames : List DecodedFrame). AreBuffersOf frames buffers) has.frames held)

-- and it is that of the first frame
pub first-buffer : (bytes : List ℕ) (first : DecodedFrame) (has : HasFirstFrame bytes first) (buffers : List (Buffer ℕ)) (other : Buffer ℕ) → AreBuffersOf has.unit.frames buffers → IsBufferOf first (slice_index_or buffers 0 other)
first-buffer bytes first has buffers other held = first-held first has.more buffers other (subst (λ (frames : List DecodedFrame). AreBuffersOf frames buffers) has.frames held)
