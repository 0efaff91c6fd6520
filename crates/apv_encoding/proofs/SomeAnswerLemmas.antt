-- An encoder has an answer.
use Rattle.std.proofs.Common.{◌≡◌, ℕ, zero, suc, ◌+◌, ◌<◌, ◌≤◌, ◌⊎◌, inl, inr, List, [], ◌∷◌, length, refl, subst, arith, lit<, Option, Some, None, false, nat_lt}
use Rattle.std.specs.Prelude.{IfSome, slice_index, not}
use Rattle.std.proofs.lemmas.Bool.{cases_lt, ltb-false, or_parts}
use Rattle.apv_base.specs.declared.exits.Exit.{Exit}
use Rattle.apv_base.specs.declared.format.Format.{Format}
use Rattle.apv_base.specs.declared.slot.Slot.TheVariants.{Input, Preview, Depth, Alpha, Metadata, TileQp, Output, Recon, MetaOut, Console}
use Rattle.apv_base.specs.model.Bits.{AreBytes}
use Rattle.apv_base.specs.model.Format.{comps_of, component_width}
use Rattle.apv_base.specs.model.Picture.{Samples, low_first, joined, picture}
use Rattle.apv_base.specs.model.Quant.{max_qp}
use Rattle.apv_base.specs.model.Run.{MAX_UNIT, MAX_UNITS}
use Rattle.apv_base.specs.model.Video.{VideoFault}
use Rattle.apv_base.proofs.SomeUnitLemmas.{payloads-or}
use Rattle.apv_quant.specs.Laws.{HasOneNearest}
use Rattle.apv_base.proofs.DigitsLemmas.{digits-append}
use Rattle.apv_encoding.specs.AccessUnit.{Pictures, EncodedUnit, HasSizeAt, IsChosen}
use Rattle.apv_encoding.specs.Answer.{FormatAt, of_words, of_header, FormatStops, at_header, at_input, at_preview, Inputs, carried, HasPayloads, HasOffsets, IsBadOffset, is_missing, is_outside, is_late, HasBadOffset, primary_tiles, HasFormats, StopsBefore, long_payloads, partial_payload, at_formats, bad_offset, from_first_frame, tracks_for, tile_offsets, IsEncoded, EncodingStops, by_frames, too_large, over_limit, enc_out, recon_out, before, encoded}
use Rattle.apv_encoding.specs.Laws.{AreTracks, AreByteContents, AreSoundSettings, IsSoundRate, FormatsPass, HasPermittedQp, IsChosenUnit, Encoding, HasEncoding}
use Rattle.apv_encoding.specs.Settings.{EncoderSettings, Source, planar, y4m, Track, RateControl, fixed, limited, given_or, check_size_of, is_written, profile_of, has_many_tiles, has_large_qp, check_input, check_preview}
use Rattle.apv_encoding.specs.Tracks.{Contents, FrameAt}
use Rattle.apv_encoding.proofs.ChosenLemmas.{size-is, chosen-some}
use Rattle.apv_encoding.proofs.OneAnswerLemmas.{EncodedAfter, formats-pass}
use Rattle.apv_encoding.proofs.PictureLemmas.{pieces}
use Rattle.apv_encoding.proofs.SettingsLemmas.{are-tracks, first-none, passed}
use Rattle.apv_encoding.proofs.SomeHeaderLemmas.{header-or}
use Rattle.apv_encoding.proofs.SomePictureLemmas.{line-bytes}
use Rattle.apv_encoding.proofs.SomeTracksLemmas.{NextFrame, frame-or, fewer-left}

-- ---- the format

-- bytes in what is left of Input
record SomeFormat (file : List ℕ) (source : Source) : Type 0 where
  format : Format
  left : List ℕ
  at : FormatAt file source format left
  bytes : AreBytes left

format-by : (settings : EncoderSettings) (file : List ℕ) (source : Source) → AreBytes file → settings.source ≡ source → SomeFormat file source ⊎ ((exit : Exit) × FormatStops settings file exit)
format-by settings file (planar format) bytes e = inl (record { format = format; left = file; at = of_words format; bytes = bytes })
format-by settings file y4m bytes e = elim (header-or file) [
  | inl header ↦ inl (record { format = header.0; left = header.1; at = of_header header.0 header.1 header.2; bytes = line-bytes file header.2.line header.1 header.2.line_at bytes })
  | inr fault ↦ inr (_, at_header fault.0 e fault.1)
]

-- a check passes, or names a fault
checked-or : (o : Option VideoFault) → (o ≡ None) ⊎ ((fault : VideoFault) × (o ≡ Some fault))
checked-or None = inl refl
checked-or (Some fault) = inr (fault, refl)

-- a format that passes
record GoodFormat (settings : EncoderSettings) (file : List ℕ) : Type 0 where
  some : SomeFormat file settings.source
  pass : FormatsPass settings some.format

preview-or : (settings : EncoderSettings) (file : List ℕ) (some : SomeFormat file settings.source) → check_input settings some.format ≡ None → GoodFormat settings file ⊎ ((exit : Exit) × FormatStops settings file exit)
preview-or settings file some input = elim (checked-or (check_preview settings.preview)) [
  | inl preview ↦ inl (record { some = some; pass = record { input = input; preview = preview } })
  | inr fault ↦ inr (_, at_preview some.format some.left fault.0 some.at input fault.1)
]

input-or : (settings : EncoderSettings) (file : List ℕ) → SomeFormat file settings.source → GoodFormat settings file ⊎ ((exit : Exit) × FormatStops settings file exit)
input-or settings file some = elim (checked-or (check_input settings some.format)) [
  | inl input ↦ preview-or settings file some input
  | inr fault ↦ inr (_, at_input some.format some.left fault.0 some.at fault.1)
]

format-or : (settings : EncoderSettings) (file : List ℕ) → AreBytes file → GoodFormat settings file ⊎ ((exit : Exit) × FormatStops settings file exit)
format-or settings file bytes = elim (format-by settings file settings.source bytes refl) [
  | inl some ↦ input-or settings file some
  | inr stops ↦ inr stops
]

-- ---- payloads and offsets

payload-file-or : (settings : EncoderSettings) (inputs : Inputs) (o : Option (List ℕ)) → inputs.payloads ≡ o → HasPayloads o ⊎ ((exit : Exit) × StopsBefore settings inputs exit)
payload-file-or settings inputs None e = inl tt
payload-file-or settings inputs (Some bytes) e = elim (cases_lt MAX_UNIT (length bytes)) [
  | inl long ↦ inr (_, long_payloads bytes e long)
  | inr few ↦ elim (payloads-or bytes) [
    | inl payloads ↦ inl (few, payloads)
    | inr partial ↦ inr (_, partial_payload bytes partial.0 e few partial.1)
  ]
]

-- the first number below n of which something holds
data FirstBelow (P : ℕ → Type 0) (n : ℕ) : Type 0 where
  none_below : ((i : ℕ) → i < n → P i → ⊥) → FirstBelow P n
  one_below : (i : ℕ) → P i → ((j : ℕ) → j < i → P j → ⊥) → FirstBelow P n

first-below : (P : ℕ → Type 0) → ((i : ℕ) → P i ⊎ (P i → ⊥)) → (n : ℕ) → FirstBelow P n
first-below P test zero = none_below (λ i lt p. absurd (omega (arith, lt)))
first-below P test (suc n) = elim (first-below P test n) [
  | one_below i p first ↦ one_below i p first
  | none_below none ↦ elim (test n) [
    | inl p ↦ one_below n p none
    | inr not_here ↦ none_below (λ i lt p. elim (cases_lt i n) [
      | inl below ↦ none i below p
      | inr ge ↦ (let last : i ≡ n = omega arith in not_here (subst P last p))
    ])
  ]
]

-- places that aren't wrong
good-low : (tiles : ℕ) (bytes : List ℕ) (place : ℕ) → place < length bytes → place < tiles → slice_index bytes place ≤ 75 → IsBadOffset tiles bytes place → ⊥
good-low tiles bytes place lt early low (is_missing past e) = absurd (omega (arith, lt, past))
good-low tiles bytes place lt early low (is_outside l above below) = absurd (omega (arith, low, above))
good-low tiles bytes place lt early low (is_late l late) = absurd (omega (arith, early, late))

good-high : (tiles : ℕ) (bytes : List ℕ) (place : ℕ) → place < length bytes → place < tiles → 181 ≤ slice_index bytes place → IsBadOffset tiles bytes place → ⊥
good-high tiles bytes place lt early high (is_missing past e) = absurd (omega (arith, lt, past))
good-high tiles bytes place lt early high (is_outside l above below) = absurd (omega (arith, high, below))
good-high tiles bytes place lt early high (is_late l late) = absurd (omega (arith, early, late))

good-past : (tiles : ℕ) (bytes : List ℕ) (place : ℕ) → length bytes ≤ place → tiles ≤ place → IsBadOffset tiles bytes place → ⊥
good-past tiles bytes place past late (is_missing p early) = absurd (omega (arith, late, early))
good-past tiles bytes place past late (is_outside lt above below) = absurd (omega (arith, past, lt))
good-past tiles bytes place past late (is_late lt l) = absurd (omega (arith, past, lt))

-- a wrong place is before the end of the tiles and of the file
bad-within : (tiles : ℕ) (bytes : List ℕ) (place : ℕ) → IsBadOffset tiles bytes place → place < tiles + length bytes
bad-within tiles bytes place (is_missing past early) = omega (arith, early)
bad-within tiles bytes place (is_outside lt above below) = omega (arith, lt)
bad-within tiles bytes place (is_late lt late) = omega (arith, lt)

-- a place within the file
within-or : (tiles : ℕ) (bytes : List ℕ) (place : ℕ) → place < length bytes → IsBadOffset tiles bytes place ⊎ (IsBadOffset tiles bytes place → ⊥)
within-or tiles bytes place lt = elim (cases_lt place tiles) [
  | inr late ↦ inl (is_late lt late)
  | inl early ↦ elim (cases_lt 75 (slice_index bytes place)) [
    | inr low ↦ inr (good-low tiles bytes place lt early low)
    | inl above ↦ elim (cases_lt (slice_index bytes place) 181) [
      | inl below ↦ inl (is_outside lt above below)
      | inr high ↦ inr (good-high tiles bytes place lt early high)
    ]
  ]
]

offset-or : (tiles : ℕ) (bytes : List ℕ) (place : ℕ) → IsBadOffset tiles bytes place ⊎ (IsBadOffset tiles bytes place → ⊥)
offset-or tiles bytes place = elim (cases_lt place (length bytes)) [
  | inl lt ↦ within-or tiles bytes place lt
  | inr past ↦ elim (cases_lt place tiles) [
    | inl early ↦ inl (is_missing past early)
    | inr late ↦ inr (good-past tiles bytes place past late)
  ]
]

offsets-or : (tiles : ℕ) (o : Option (List ℕ)) → HasOffsets tiles o ⊎ ((bytes : List ℕ) × (byte : ℕ) × (o ≡ Some bytes) × HasBadOffset tiles bytes byte)
offsets-or tiles None = inl tt
offsets-or tiles (Some bytes) = elim (first-below (IsBadOffset tiles bytes) (offset-or tiles bytes) (tiles + length bytes)) [
  | none_below none ↦ inl (λ place wrong. none place (bad-within tiles bytes place wrong) wrong)
  | one_below place wrong first ↦ inr (bytes, place, refl, record { here = wrong; first = first })
]

-- ---- the QPs

permitted-limited : (limit : ℕ) (first last : Option ℕ) (depth : ℕ) → IfSome last (λ qp. given_or first 0 ≤ qp) → has_large_qp (limited limit first last) depth ≡ false → HasPermittedQp (limited limit first last) depth
permitted-limited limit first None depth sound small =
    let parts = or_parts (nat_lt (max_qp depth) (given_or first 0)) (nat_lt (max_qp depth) 0) small in (given_or first 0, (omega arith, ltb-false (max_qp depth) (given_or first 0) parts.0))
permitted-limited limit first (Some last) depth sound small = (given_or first 0, (omega arith, sound))

permitted-of : (rate : RateControl) (depth : ℕ) → IsSoundRate rate → has_large_qp rate depth ≡ false → HasPermittedQp rate depth
permitted-of (fixed qp) depth sound small = (qp, refl)
permitted-of (limited limit first last) depth sound small = permitted-limited limit first last depth sound.1 small

small-qp : (settings : EncoderSettings) (format : Format) → check_input settings format ≡ None → has_large_qp settings.rate format.depth ≡ false
small-qp settings format e =
    let one = first-none (check_size_of format) _ e in
    let two = passed (not (is_written (profile_of settings format) format)) _ _ one.1 in
    let three = passed (has_many_tiles settings format) _ _ two.1 in
    (passed (has_large_qp settings.rate format.depth) _ _ three.1).0

-- ---- frame by frame

-- what is the same for all frames
record Task (settings : EncoderSettings) (inputs : Inputs) (format : Format) : Type 0 where
  nearest : HasOneNearest
  are : AreTracks (tracks_for settings inputs format)
  rate : IsSoundRate settings.rate
  permitted : HasPermittedQp settings.rate format.depth

-- a chosen access unit that is above the limit L1 has a QP that was asked for
over-by : (settings : EncoderSettings) (inputs : Inputs) (format : Format) (n : ℕ) (left after : Contents) (pictures : Pictures) (unit : EncodedUnit) (rate : RateControl) → settings.rate ≡ rate → IsSoundRate rate → n < MAX_UNITS → FrameAt settings.source (tracks_for settings inputs format) left pictures after
    → IsChosenUnit settings format.depth (tracks_for settings inputs format) (carried inputs.payloads) pictures unit → MAX_UNIT < length unit.bytes → (exit : Exit) × EncodingStops settings inputs format n left exit
over-by settings inputs format n left after pictures unit (fixed qp) e sound few at is above =
    let tracks : List Track = tracks_for settings inputs format in
    let q : unit.q ≡ qp = subst (λ (rate : RateControl). IsChosen settings format.depth tracks (carried inputs.payloads) pictures rate unit) e is.chosen in
    let size : HasSizeAt settings tracks (carried inputs.payloads) pictures qp (length unit.bytes) = subst (λ (k : ℕ). HasSizeAt settings tracks (carried inputs.payloads) pictures k (length unit.bytes)) q (size-is settings tracks (carried inputs.payloads) pictures unit is.unit_of) in
    (_, over_limit pictures after qp (length unit.bytes) few at e size above)
over-by settings inputs format n left after pictures unit (limited limit first last) e sound few at is above =
    let chosen : IsChosen settings format.depth (tracks_for settings inputs format) (carried inputs.payloads) pictures (limited limit first last) unit = subst (λ (rate : RateControl). IsChosen settings format.depth (tracks_for settings inputs format) (carried inputs.payloads) pictures rate unit) e is.chosen in
    absurd (omega (arith, above, chosen.1, sound.0))

-- the access unit of a frame, or a stop
abbrev UnitOr : EncoderSettings → Inputs → Format → ℕ → Contents → Pictures → Type 0
UnitOr settings inputs format n left pictures = ((unit : EncodedUnit) × IsEncoded settings inputs format pictures unit) ⊎ ((exit : Exit) × EncodingStops settings inputs format n left exit)

unit-by-size : (settings : EncoderSettings) (inputs : Inputs) (format : Format) (n : ℕ) (left after : Contents) (pictures : Pictures) (unit : EncodedUnit) → Task settings inputs format → n < MAX_UNITS → FrameAt settings.source (tracks_for settings inputs format) left pictures after
    → IsChosenUnit settings format.depth (tracks_for settings inputs format) (carried inputs.payloads) pictures unit → UnitOr settings inputs format n left pictures
unit-by-size settings inputs format n left after pictures unit task few at is = elim (cases_lt MAX_UNIT (length unit.bytes)) [
  | inl above ↦ inr (over-by settings inputs format n left after pictures unit settings.rate refl task.rate few at is above)
  | inr small ↦ inl (unit, record { unit_of = is.unit_of; chosen = is.chosen; small = small })
]

unit-or : (settings : EncoderSettings) (inputs : Inputs) (format : Format) (n : ℕ) (left after : Contents) (pictures : Pictures) → Task settings inputs format → n < MAX_UNITS → FrameAt settings.source (tracks_for settings inputs format) left pictures after → UnitOr settings inputs format n left pictures
unit-or settings inputs format n left after pictures task few at = elim (chosen-some task.nearest settings format.depth (tracks_for settings inputs format) (carried inputs.payloads) pictures task.are.sound task.permitted) [
  | inl unit ↦ unit-by-size settings inputs format n left after pictures unit.0 task few at unit.1
  | inr large ↦ (let is = large.1 in inr (_, too_large pictures after is.limit large.0 is.first is.last few at is.rate is.nowhere is.above))
]

-- the access units after n of them, and why no further one follows
record SomeRun (settings : EncoderSettings) (inputs : Inputs) (format : Format) (n : ℕ) (left : Contents) : Type 0 where
  frames : List Pictures
  after : Contents
  units : List EncodedUnit
  exit : Exit
  run : EncodedAfter settings inputs format n left frames after units exit

run-here : (settings : EncoderSettings) (inputs : Inputs) (format : Format) (n : ℕ) (left : Contents) (exit : Exit) → n ≤ MAX_UNITS → EncodingStops settings inputs format n left exit → SomeRun settings inputs format n left
run-here settings inputs format n left exit most stop =
    let count : n ≡ n + length {A = EncodedUnit} [] = omega arith in
    record {
      frames = [];
      after = left;
      units = [];
      exit = exit;
      run = record { few = omega (arith, most); frames_at = λ track in-them. refl; encoded_as = refl; stop = subst (λ (k : ℕ). EncodingStops settings inputs format k left exit) count stop };
    }

run-later : (settings : EncoderSettings) (inputs : Inputs) (format : Format) (n : ℕ) (left : Contents) (next : NextFrame settings.source (tracks_for settings inputs format) n left) (unit : EncodedUnit) → IsEncoded settings inputs format next.pictures unit
    → SomeRun settings inputs format (suc n) next.after → SomeRun settings inputs format n left
run-later settings inputs format n left next unit is later =
    let count : suc n + length later.units ≡ n + suc (length later.units) = omega arith in
    record {
      frames = next.pictures ∷ later.frames;
      after = later.after;
      units = unit ∷ later.units;
      exit = later.exit;
      run = record {
        few = omega (arith, later.run.few);
        frames_at = (next.after, next.frame_at, later.run.frames_at);
        encoded_as = (is, later.run.encoded_as);
        stop = subst (λ (k : ℕ). EncodingStops settings inputs format k later.after later.exit) count later.run.stop;
      };
    }

some-run : (settings : EncoderSettings) (inputs : Inputs) (format : Format) (most n : ℕ) (left : Contents) (task : Task settings inputs format) → length (left task.are.first.slot) < most → n ≤ MAX_UNITS → AreByteContents left → SomeRun settings inputs format n left
some-run settings inputs format zero n left task lt few bytes = absurd (omega (arith, lt))
some-run settings inputs format (suc most) n left task lt few bytes = elim (frame-or settings.source (tracks_for settings inputs format) n left task.are few bytes) [
  | inr stop ↦ run-here settings inputs format n left stop.0 few (by_frames stop.0 stop.1)
  | inl next ↦ elim (unit-or settings inputs format n left next.after next.pictures task next.few next.frame_at) [
    | inr stop ↦ run-here settings inputs format n left stop.0 few stop.1
    | inl unit ↦ run-later settings inputs format n left next unit.0 unit.1
        (some-run settings inputs format most (suc n) next.after task (omega (arith, lt, fewer-left settings.source (tracks_for settings inputs format) n left task.are next)) (omega (arith, next.few)) next.bytes)
  ]
]

-- ---- the answer

first-bytes : (contents : Contents) (left : List ℕ) → AreByteContents contents → AreBytes left → AreByteContents (from_first_frame contents left)
first-bytes contents left bytes here Input = here
first-bytes contents left bytes here Preview = bytes Preview
first-bytes contents left bytes here Depth = bytes Depth
first-bytes contents left bytes here Alpha = bytes Alpha
first-bytes contents left bytes here Metadata = bytes Metadata
first-bytes contents left bytes here TileQp = bytes TileQp
first-bytes contents left bytes here Output = bytes Output
first-bytes contents left bytes here Recon = bytes Recon
first-bytes contents left bytes here MetaOut = bytes MetaOut
first-bytes contents left bytes here Console = bytes Console

abbrev SomeEncoding : EncoderSettings → Inputs → Type 0
SomeEncoding settings inputs = (encoding : Encoding) × HasEncoding settings inputs encoding

stops-so : (settings : EncoderSettings) (inputs : Inputs) (exit : Exit) → StopsBefore settings inputs exit → SomeEncoding settings inputs
stops-so settings inputs exit stops = (record { units = []; output = []; recon = []; exit = exit }, before exit stops)

run-so : (settings : EncoderSettings) (inputs : Inputs) (format : Format) (left : List ℕ) → HasFormats settings inputs format left → HasOffsets (primary_tiles settings format) inputs.offsets → SomeRun settings inputs format 0 (from_first_frame inputs.contents left) → SomeEncoding settings inputs
run-so settings inputs format left has offsets some =
    let count : 0 + length some.units ≡ length some.units = omega arith in (
      record { units = some.units; output = enc_out settings some.units; recon = recon_out settings inputs format some.units; exit = some.exit },
      encoded format left some.frames some.after some.units some.exit has offsets (omega (arith, some.run.few)) some.run.frames_at some.run.encoded_as
          (subst (λ (k : ℕ). EncodingStops settings inputs format k some.after some.exit) count some.run.stop),
    )

task-of : HasOneNearest → (settings : EncoderSettings) (inputs : Inputs) (format : Format) (left : List ℕ) → AreSoundSettings settings → IsSoundRate settings.rate → HasFormats settings inputs format left → Task settings inputs format
task-of nearest settings inputs format left sound rate has = record {
  nearest = nearest;
  are = are-tracks settings format (tile_offsets inputs.offsets) sound (formats-pass settings inputs format left has);
  rate = rate;
  permitted = permitted-of settings.rate format.depth rate (small-qp settings format has.input);
}

begin-so : HasOneNearest → (settings : EncoderSettings) (inputs : Inputs) (format : Format) (left : List ℕ) → AreSoundSettings settings → IsSoundRate settings.rate → AreByteContents inputs.contents → AreBytes left → HasFormats settings inputs format left → SomeEncoding settings inputs
begin-so nearest settings inputs format left sound rate bytes here has = elim (offsets-or (primary_tiles settings format) inputs.offsets) [
  | inr wrong ↦ stops-so settings inputs _ (bad_offset format left wrong.0 wrong.1 has wrong.2 wrong.3)
  | inl offsets ↦ (let task = task-of nearest settings inputs format left sound rate has in
      let start : Contents = from_first_frame inputs.contents left in
      run-so settings inputs format left has offsets (some-run settings inputs format (suc (length (start task.are.first.slot))) 0 start task (omega arith) (omega arith) (first-bytes inputs.contents left bytes here)))
]

formats-so : HasOneNearest → (settings : EncoderSettings) (inputs : Inputs) → AreSoundSettings settings → IsSoundRate settings.rate → AreByteContents inputs.contents → HasPayloads inputs.payloads → SomeEncoding settings inputs
formats-so nearest settings inputs sound rate bytes payloads = elim (format-or settings (inputs.contents Input) (bytes Input)) [
  | inr stops ↦ stops-so settings inputs stops.0 (at_formats stops.0 payloads stops.1)
  | inl good ↦ begin-so nearest settings inputs good.some.format good.some.left sound rate bytes good.some.bytes (record { payloads = payloads; format_at = good.some.at; input = good.pass.input; preview = good.pass.preview })
]

pub answer-some : HasOneNearest → (settings : EncoderSettings) (inputs : Inputs) → AreSoundSettings settings → IsSoundRate settings.rate → AreByteContents inputs.contents → (encoding : Encoding) × HasEncoding settings inputs encoding
answer-some nearest settings inputs sound rate bytes = elim (payload-file-or settings inputs inputs.payloads refl) [
  | inr stops ↦ stops-so settings inputs stops.0 stops.1
  | inl payloads ↦ formats-so nearest settings inputs sound rate bytes payloads
]
