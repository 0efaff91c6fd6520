-- What a run of the encoder did to its files, for inputs that agree with what is known of them.
use Rattle.std.proofs.Common.{◌≡◌, ℕ, ◌≤◌, List, [], ◌∷◌, ◌++◌, length, refl, sym, ap, ◌∙◌, subst, Option, Some, None, is_some, Bool, true, false, not, inl, true≢false, append-nil}
use Rattle.std.proofs.lemmas.Bool.{OnFalse_from}
use Rattle.std.specs.Bool.{OnFalse, OnTrue}
use Rattle.std.specs.Io.KnownBytes.{prepend_known, IsAtEnd}
use Rattle.apv_base.specs.declared.exits.Exit.{Exit}
use Rattle.apv_base.specs.declared.exits.Exit.TheVariants.{Done, Memory}
use Rattle.apv_console.specs.declared.report.Report.{Report}
use Rattle.apv_base.specs.declared.format.Format.{Format}
use Rattle.apv_base.specs.declared.options.Form.{Form}
use Rattle.apv_base.specs.declared.options.Form.TheVariants.{Planar, Y4m}
use Rattle.apv_base.specs.declared.slot.Slot.{Slot}
use Rattle.apv_base.specs.declared.slot.Slot.TheVariants.{Input, Preview, Depth, Alpha, Metadata, TileQp, Output, Recon}
use Rattle.apv_base.specs.model.Run.{MAX_UNITS}
use Rattle.apv_base.specs.model.Slot.{is_input, same_slot}
use Rattle.apv_files.specs.SlotView.{SlotView}
use Rattle.apv_run.specs.Cause.{is_of_file, is_write_fault}
use Rattle.apv_run.specs.Known.{IsKnownAs}
use Rattle.apv_run.specs.Names.{IsNamed}
use Rattle.apv_run.proofs.WrittenLemmas.{known-before, none-taken, none-took}
use Rattle.apv_run.proofs.KnownLemmas.{some-content}
use Rattle.apv_words.specs.declared.encoder.EncSettings.{EncSettings}
use Rattle.apv_workers.specs.Track.{TrackState}
use Rattle.apv_encoding.specs.AccessUnit.{Pictures, EncodedUnit}
use Rattle.apv_encoding.specs.Answer.{AreEncoded, EncodingStops, by_frames, too_large, over_limit, FormatAt, FormatStops, HasFormats, HasOffsets, HasPayloads, Inputs, StopsBefore, long_payloads, partial_payload, at_formats, bad_offset, carried, from_first_frame, primary_tiles, tile_offsets, tracks_for}
use Rattle.apv_encoding.specs.Settings.{EncoderSettings, check_input, check_preview, primary_track, tracks_of}
use Rattle.apv_encoding.specs.Tracks.{Contents}
use Rattle.apv_tracks.specs.Format.{FormatFails, IsWithinHeader, Pass}
use Rattle.apv_tracks.specs.Opening.{AreInputs, IsGivenAs, OnlyAtInputs, OpensTracks, TookFile, TookWhereGiven, TracksEnd, by_memory as lacks_memory, by_metadata, by_input, by_tile_qp, by_answer}
use Rattle.apv_tracks.specs.Pictures.{AreJoined, AreKnownLeft}
use Rattle.apv_tracks.specs.Plain.{plain_settings}
use Rattle.apv_tracks.specs.States.{AreStatesOf}
use Rattle.apv_enc.specs.Encoded.{EndsOpened, before_frames, among_frames}
use Rattle.apv_enc.specs.Frames.{AreFrameBytes, AreTracksFor, AreWritten, EncodedFrames, EndsWithin, reading, writing, IsStopped, ReadsStop, WritesStop, in_output, in_recon, WritesUnit, to_output, to_recon}
use Rattle.apv_enc.specs.Report.{IsReported}
use Rattle.apv_enc.specs.Run.{AreFiles, AreKnown, content_of, input_by, input_content, name_of}
use Rattle.apv_enc.specs.declared.end.RunEnd.{RunEnd}
use Rattle.apv_enc.proofs.RunCauseLemmas.{EndsBy, by_memory, by_read, by_write, by_end, by_own, IsOwnExit, own_video, own_limit, own_payload, own_offset, own_large, ends-by, frames-with, inputs_with, no_contents, own-before}
use Rattle.apv_enc.proofs.RunTracksLemmas.{at-alpha, at-depth, at-input, at-preview, each-track}

-- ---- bytes that are known or not

-- all of it was taken
known-all : (old new : Option (List ℕ)) (taken : List ℕ) → old ≡ prepend_known taken new → IsAtEnd new → IsKnownAs old taken
known-all None new taken e end = tt
known-all (Some xs) None taken e end = absurd (let no : ⊥ = cc (e) in no)
known-all (Some xs) (Some ys) taken e end = let same : xs ≡ taken ++ ys = cc (e) in same ∙ ap (λ (zs : List ℕ). taken ++ zs) end ∙ append-nil taken

known-along : (one other : Option (List ℕ)) (bytes : List ℕ) → one ≡ other → IsKnownAs one bytes → IsKnownAs other bytes
known-along one other bytes e k = subst (λ (known : Option (List ℕ)). IsKnownAs known bytes) e k

known-same : (known : Option (List ℕ)) (one other : List ℕ) → is_some known ≡ true → IsKnownAs known one → IsKnownAs known other → one ≡ other
known-same None one other some p q = absurd (true≢false (sym some))
known-same (Some xs) one other some p q = sym p ∙ q

-- the content of a file is known to be that, where it has a name
known-where : (name : Option (List ℕ)) (held : List ℕ → Option (List ℕ)) (bytes : List ℕ) → (is_some name ≡ true → IsKnownAs (content_of name held) bytes) → IsKnownAs (content_of name held) bytes
known-where None held bytes here = tt
known-where (Some name) held bytes here = here refl

given-some : {T : Type 0} (given : Option T) (known : Option (List ℕ)) → (bytes : Option (List ℕ)) × IsGivenAs given known bytes
given-some None known = (None, refl)
given-some (Some x) None = (Some [], ([], refl, tt))
given-some (Some x) (Some xs) = (Some xs, (xs, refl, refl))

given-took : {T : Type 0} (given : Option T) (old : SlotView) (taken : Option (List ℕ)) (new : SlotView) → TookFile given old taken new → IsGivenAs given old.left taken
given-took None old taken new t = t.0
given-took (Some x) old taken new t = (t.0, t.1, known-all old.left new.left t.0 t.2.prefix t.3)

given-along : {T : Type 0} (given : Option T) (one other bytes : Option (List ℕ)) → (is_some given ≡ true → one ≡ other) → IsGivenAs given one bytes → IsGivenAs given other bytes
given-along None one other bytes e g = g
given-along (Some x) one other bytes e g = (g.0, g.1, known-along one other g.0 (e refl) g.2)

given-same : {T : Type 0} (given : Option T) (known one other : Option (List ℕ)) → (is_some given ≡ true → is_some known ≡ true) → IsGivenAs given known one → IsGivenAs given known other → one ≡ other
given-same None known one other some p q = p ∙ sym q
given-same (Some x) known one other some p q = p.1 ∙ ap Some (known-same known p.0 q.0 (some refl) p.2 q.2) ∙ sym q.1

-- ---- files

-- what each slot holds that pictures are read from
abbrev content_in : EncSettings → (List ℕ → Option (List ℕ)) → Slot → Option (List ℕ)
content_in settings held Input = input_content settings held
content_in settings held slot = content_of (name_of settings slot) held

-- what Input holds is known where each file is
pub input-known : (settings : EncSettings) (held : List ℕ → Option (List ℕ)) → is_some settings.input ≡ not (is_some settings.generate) → AreKnown settings held → is_some (input_content settings held) ≡ true
input-known settings held given known = go settings.generate given
  where
    go : (seed : Option ℕ) → is_some settings.input ≡ not (is_some seed) → is_some (input_by seed (content_of settings.input held)) ≡ true
    go None named = known Input refl named
    go (Some seed) named = refl

-- some inputs agree with what is held
pub some-files : (settings : EncSettings) (held : List ℕ → Option (List ℕ)) → (inputs : Inputs) × AreFiles settings held inputs
some-files settings held =
    let payloads = given-some settings.metadata (content_of settings.metadata held) in
    let offsets = given-some settings.tile_qp (content_of settings.tile_qp held) in (
      inputs_with (λ slot. (some-content (content_in settings held slot)).0) payloads.0 offsets.0,
      record {
        input = (some-content (input_content settings held)).1;
        preview = (some-content (content_of settings.preview held)).1;
        depth = (some-content (content_of settings.depth_map held)).1;
        alpha = (some-content (content_of settings.alpha held)).1;
        metadata = payloads.1;
        tile_qp = offsets.1;
      },
    )

-- files that are known are one
module _ (settings : EncSettings) (held : List ℕ → Option (List ℕ)) (known : AreKnown settings held) (given : is_some settings.input ≡ not (is_some settings.generate)) (one other : Inputs) (p : AreFiles settings held one) (q : AreFiles settings held other) where
  same-input : one.contents Input ≡ other.contents Input
  same-input = known-same (input_content settings held) (one.contents Input) (other.contents Input) (input-known settings held given known) p.input q.input

  same-payloads : one.payloads ≡ other.payloads
  same-payloads = given-same settings.metadata (content_of settings.metadata held) one.payloads other.payloads (known Metadata refl) p.metadata q.metadata

  same-offsets : one.offsets ≡ other.offsets
  same-offsets = given-same settings.tile_qp (content_of settings.tile_qp held) one.offsets other.offsets (known TileQp refl) p.tile_qp q.tile_qp

-- ---- before the first frame

-- what stops before the first frame is the file of Input, and those of payloads and of offsets
module _ (settings : EncoderSettings) (one other : Inputs) (input : one.contents Input ≡ other.contents Input) (payloads : one.payloads ≡ other.payloads) (offsets : one.offsets ≡ other.offsets) where
  good-along : HasPayloads one.payloads → HasPayloads other.payloads
  good-along good = subst HasPayloads payloads good

  formats-along : (format : Format) (left : List ℕ) → HasFormats settings one format left → HasFormats settings other format left
  formats-along format left has = record {
    payloads = good-along has.payloads;
    format_at = subst (λ (file : List ℕ). FormatAt file settings.source format left) input has.format_at;
    input = has.input;
    preview = has.preview;
  }

  before-along : (exit : Exit) → StopsBefore settings one exit → StopsBefore settings other exit
  before-along exit (long_payloads bytes is long) = long_payloads bytes (sym payloads ∙ is) long
  before-along exit (partial_payload bytes byte is few partial) = partial_payload bytes byte (sym payloads ∙ is) few partial
  before-along exit (at_formats e good stops) = at_formats e (good-along good) (subst (λ (file : List ℕ). FormatStops settings file e) input stops)
  before-along exit (bad_offset format left bytes byte has is wrong) = bad_offset format left bytes byte (formats-along format left has) (sym offsets ∙ is) wrong

-- ---- frames that were encoded

-- frames that were encoded, and how the loop over them ended, by cases
pub record EncodedBy (settings : EncSettings) (inputs : Inputs) (format : Format) (old : Slot → SlotView) (end : RunEnd) (new : Slot → SlotView) : Type 0 where
  pub frames : List Pictures
  pub units : List EncodedUnit
  pub bytes : Contents
  pub rest : Contents
  pub frame_bytes : AreFrameBytes (plain_settings settings) inputs format frames bytes
  pub encoded : AreEncoded (plain_settings settings) inputs format frames units
  pub count : length units ≤ MAX_UNITS
  pub told : AreKnownLeft (tracks_for (plain_settings settings) inputs format) old (λ slot. bytes slot ++ rest slot)
  pub ends : EndsBy (plain_settings settings) inputs format old new units rest end.exit
  pub within : EndsWithin settings.form (plain_settings settings) inputs format old new end.exit (bytes Input) units
  pub report : end.exit ≡ Done → IsReported settings.generate (primary_track (plain_settings settings) format (tile_offsets inputs.offsets)) units end.report

encoded-by : (settings : EncSettings) (inputs : Inputs) (format : Format) (old : Slot → SlotView) (end : RunEnd) (new : Slot → SlotView) → EncodedFrames settings inputs format old end new → EncodedBy settings inputs format old end new
encoded-by settings inputs format old end new d = record {
  frames = d.frames;
  units = d.units;
  bytes = d.bytes;
  rest = d.rest;
  frame_bytes = d.frame_bytes;
  encoded = d.encoded;
  count = d.count;
  told = d.told;
  ends = ends-by (plain_settings settings) inputs format old new d.units d.rest end.exit d.ends;
  within = d.within;
  report = d.report;
}

-- the tracks of a run are those for its inputs
tracks-for : (settings : EncoderSettings) (inputs : Inputs) (format : Format) (bytes : List ℕ) (tracks : List TrackState) (payloads offsets : Option (List ℕ)) → payloads ≡ inputs.payloads → offsets ≡ inputs.offsets → bytes ≡ carried payloads → HasPayloads payloads → check_input settings format ≡ None
    → check_preview settings.preview ≡ None → AreStatesOf (tracks_of settings format (tile_offsets offsets)) tracks → AreTracksFor settings inputs format bytes tracks
tracks-for settings inputs format bytes tracks payloads offsets p q carries whole passes preview_passes kept =
    record { carries = carries ∙ ap carried p; whole = subst HasPayloads p whole; kept = subst (λ (o : Option (List ℕ)). AreStatesOf (tracks_of settings format (tile_offsets o)) tracks) q kept; passes = passes; preview_passes = preview_passes }

-- what is said of frames depends on the files of payloads and of offsets alone
module _ (settings : EncSettings) (one other : Contents) (payloads offsets : Option (List ℕ)) (format : Format) where
  abbrev plain : EncoderSettings
  plain = plain_settings settings

  abbrev inputs_before : Inputs
  inputs_before = inputs_with one payloads offsets

  abbrev inputs_after : Inputs
  inputs_after = inputs_with other payloads offsets

  encoded-any : (frames : List Pictures) (units : List EncodedUnit) → AreEncoded plain inputs_before format frames units → AreEncoded plain inputs_after format frames units
  encoded-any [] units e = e
  encoded-any (pictures ∷ frames) [] e = e
  encoded-any (pictures ∷ frames) (unit ∷ units) e = (record { unit_of = e.0.unit_of; chosen = e.0.chosen; small = e.0.small }, encoded-any frames units e.1)

  stops-any : (n : ℕ) (left : Contents) (exit : Exit) → EncodingStops plain inputs_before format n left exit → EncodingStops plain inputs_after format n left exit
  stops-any n left exit (by_frames e stop) = by_frames e stop
  stops-any n left exit (too_large pictures after limit smallest first last lt at rate nowhere above) = too_large pictures after limit smallest first last lt at rate nowhere above
  stops-any n left exit (over_limit pictures after qp size lt at rate has above) = over_limit pictures after qp size lt at rate has above

  module _ (old new : Slot → SlotView) where
    written-any : (units : List EncodedUnit) → AreWritten plain inputs_before format units old new → AreWritten plain inputs_after format units old new
    written-any units w = record { output = w.output; recon = w.recon }

    stopped-any : (exit : Exit) (units : List EncodedUnit) (rest : Contents) → IsStopped plain inputs_before format old new exit units rest → IsStopped plain inputs_after format old new exit units rest
    stopped-any exit units rest s = record { stops = λ left joined. stops-any (length units) left exit (s.stops left joined); inputs_read = s.inputs_read; written = written-any units s.written; end = s.end }

    reads-any : (units : List EncodedUnit) (slot : Slot) → ReadsStop plain inputs_before format old new units slot → ReadsStop plain inputs_after format old new units slot
    reads-any units slot s = record { track = s.track; of_track = s.of_track; fails = s.fails; written = written-any units s.written }

    fails-any : (units : List EncodedUnit) (slot : Slot) → WritesStop plain inputs_before format old new units slot → WritesStop plain inputs_after format old new units slot
    fails-any units slot (in_output wanted fault recon) = in_output wanted fault recon
    fails-any units slot (in_recon wanted fault output) = in_recon wanted fault output

    ends-any : (units : List EncodedUnit) (rest : Contents) (exit : Exit) → EndsBy plain inputs_before format old new units rest exit → EndsBy plain inputs_after format old new units rest exit
    ends-any units rest exit (by_memory read w) = by_memory read (record { output = w.output; recon = w.recon })
    ends-any units rest exit (by_read slot s) = by_read slot (reads-any units slot s)
    ends-any units rest exit (by_write slot read stop) = by_write slot read (fails-any units slot stop)
    ends-any units rest exit (by_end s) = by_end (stopped-any exit units rest s)
    ends-any units rest exit (by_own e own s) = by_own e own (stopped-any exit units rest s)

    unit-any : (units : List EncodedUnit) (unit : EncodedUnit) → WritesUnit plain inputs_before format old new units unit → WritesUnit plain inputs_after format old new units unit
    unit-any units unit (to_output output recon) = to_output output recon
    unit-any units unit (to_recon output recon) = to_recon output recon

    within-any : (exit : Exit) (bytes : List ℕ) (units : List EncodedUnit) → EndsWithin settings.form plain inputs_before format old new exit bytes units → EndsWithin settings.form plain inputs_after format old new exit bytes units
    within-any exit bytes units (reading us taken quiet within left w) = reading us taken quiet within left (written-any us w)
    within-any exit bytes units (writing us unit left w) = writing us unit left (unit-any us unit w)

    abbrev encoded-for : (end : RunEnd) → EncodedBy settings inputs_before format old end new → EncodedBy settings inputs_after format old end new
    encoded-for end d = record {
      frames = d.frames;
      units = d.units;
      bytes = d.bytes;
      rest = d.rest;
      frame_bytes = d.frame_bytes;
      encoded = encoded-any d.frames d.units d.encoded;
      count = d.count;
      told = d.told;
      ends = ends-any d.units d.rest end.exit d.ends;
      within = within-any end.exit (d.bytes Input) d.units d.within;
      report = d.report;
    }

-- ---- nothing was taken

none-within : (form : Form) → IsWithinHeader form []
none-within Planar = refl
none-within Y4m = inl refl

none-given : {T : Type 0} (given : Option T) (view : SlotView) → TookWhereGiven given view view
none-given None view = refl
none-given (Some x) view = ([], none-took view)

-- no slot changed
none-changed : (views : Slot → SlotView) → OnlyAtInputs views views
none-changed views slot =
    OnFalse_from (same_slot slot Input) (OnFalse (same_slot slot Metadata) (OnFalse (same_slot slot TileQp) (views slot ≡ views slot))) (λ not_input.
    OnFalse_from (same_slot slot Metadata) (OnFalse (same_slot slot TileQp) (views slot ≡ views slot)) (λ not_metadata. OnFalse_from (same_slot slot TileQp) (views slot ≡ views slot) (λ not_offsets. refl)))

-- memory ran out before anything was read
pub none-before : (settings : EncSettings) (views : Slot → SlotView) (report : Option Report) → EndsOpened settings views views (record { exit = Memory; report = report })
none-before settings views report = before_frames (lacks_memory (record {
  taken = [];
  within = none-within settings.form;
  input = none-took (views Input);
  metadata = none-given settings.metadata (views Metadata);
  tile_qp = none-given settings.tile_qp (views TileQp);
  others = none-changed views;
}))

-- ---- the outcome

-- frames were read after a header, and encoded
pub record RanFrames (settings : EncSettings) (inputs : Inputs) (format : Format) (old mid new : Slot → SlotView) (end : RunEnd) : Type 0 where
  pub head : List ℕ
  pub format_at : (rest : List ℕ) → FormatAt (head ++ rest) (plain_settings settings).source format rest
  pub passes : Pass settings format
  pub whole : HasPayloads inputs.payloads
  pub right : HasOffsets (primary_tiles (plain_settings settings) format) inputs.offsets
  pub output : mid Output ≡ old Output
  pub recon : mid Recon ≡ old Recon
  pub ran : EncodedBy settings inputs format mid end new
  pub parts : inputs.contents Input ≡ head ++ (ran.bytes Input ++ ran.rest Input)
  pub joined : AreJoined (tracks_for (plain_settings settings) inputs format) (from_first_frame inputs.contents (ran.bytes Input ++ ran.rest Input)) ran.bytes ran.rest

-- no byte of Input after the header was taken, and nothing was written
pub record StopsInHead (settings : EncSettings) (old new : Slot → SlotView) : Type 0 where
  pub taken : List ℕ
  pub within : IsWithinHeader settings.form taken
  pub left : (old Input).left ≡ prepend_known taken (new Input).left
  pub output : new Output ≡ old Output
  pub recon : new Recon ≡ old Recon

-- the run ended before the first frame, or among the frames
pub data Outcome (settings : EncSettings) (inputs : Inputs) (old new : Slot → SlotView) (end : RunEnd) : Type 0 where
  at_head : StopsInHead settings old new → is_write_fault end.exit ≡ false → OnTrue (is_of_file end.exit) (StopsBefore (plain_settings settings) inputs end.exit) → Outcome settings inputs old new end
  at_frames : (format : Format) (mid : Slot → SlotView) → RanFrames settings inputs format old mid new end → Outcome settings inputs old new end

-- inputs that agree with what is held, and the outcome for them
pub record HasOutcome (settings : EncSettings) (held : List ℕ → Option (List ℕ)) (old new : Slot → SlotView) (end : RunEnd) : Type 0 where
  pub inputs : Inputs
  pub told : AreFiles settings held inputs
  pub outcome : Outcome settings inputs old new end

own-no-write : (exit : Exit) → IsOwnExit exit → is_write_fault exit ≡ false
own-no-write exit (own_video break) = refl
own-no-write exit (own_limit limit count) = refl
own-no-write exit (own_payload byte) = refl
own-no-write exit (own_offset byte) = refl
own-no-write exit (own_large frame smallest limit) = refl

pub on-true : (b : Bool) {P : Type 0} → P → OnTrue b P
on-true true p = p
on-true false p = tt

header-within : (settings : EncSettings) (old new : SlotView) → (f : FormatFails settings old new) → IsWithinHeader settings.form f.taken
header-within settings old new f = subst (λ (form : Form). IsWithinHeader form f.taken) (sym f.y4m) f.within

module _ (settings : EncSettings) (held : List ℕ → Option (List ℕ)) (old new : Slot → SlotView) (given : is_some settings.input ≡ not (is_some settings.generate)) (left_input : (old Input).left ≡ input_content settings held)
    (left : (slot : Slot) → is_input slot ≡ true → IsNamed (name_of settings) slot → (old slot).left ≡ content_of (name_of settings slot) held) where
  -- ---- before the first frame

  head-of : (exit : Exit) → TracksEnd settings old new exit → StopsInHead settings old new
  head-of exit (lacks_memory t) = record { taken = t.taken; within = t.within; left = t.input.prefix; output = t.others Output; recon = t.others Recon }
  head-of exit (by_metadata f) = record {
    taken = [];
    within = none-within settings.form;
    left = none-taken (old Input).left ∙ ap (λ (view : SlotView). prepend_known [] view.left) (sym f.input);
    output = f.others Output;
    recon = f.others Recon;
  }
  head-of exit (by_input f) = record { taken = f.input.taken; within = header-within settings (old Input) (new Input) f.input; left = f.input.failed.prefix; output = f.others Output; recon = f.others Recon }
  head-of exit (by_tile_qp f) = record { taken = f.format_at.taken; within = f.format_at.within; left = f.format_at.took.prefix; output = f.others Output; recon = f.others Recon }
  head-of exit (by_answer e a) = record { taken = a.took.taken; within = a.took.within; left = a.took.input.prefix; output = a.took.others Output; recon = a.took.others Recon }

  -- the slot of pictures that has a name is known as it was opened
  told-from : (slot : Slot) (name : Option (List ℕ)) (bytes : List ℕ) → name_of settings slot ≡ name → is_input slot ≡ true → (is_some name ≡ true → IsKnownAs (old slot).left bytes) → IsKnownAs (content_of name held) bytes
  told-from slot name bytes is input known =
      known-where name held bytes (λ named. known-along (old slot).left (content_of name held) bytes (left slot input (ap is_some is ∙ named) ∙ ap (λ (n : Option (List ℕ)). content_of n held) is) (known named))

  -- the inputs of an answer are the files
  answered-files : (inputs : Inputs) → AreInputs settings old inputs → AreFiles settings held inputs
  answered-files inputs are = record {
    input = known-along (old Input).left (input_content settings held) (inputs.contents Input) left_input (are.contents Input);
    preview = told-from Preview settings.preview (inputs.contents Preview) refl refl (λ named. are.contents Preview);
    depth = told-from Depth settings.depth_map (inputs.contents Depth) refl refl (λ named. are.contents Depth);
    alpha = told-from Alpha settings.alpha (inputs.contents Alpha) refl refl (λ named. are.contents Alpha);
    metadata = given-along settings.metadata (old Metadata).left (content_of settings.metadata held) inputs.payloads (left Metadata refl) are.payloads;
    tile_qp = given-along settings.tile_qp (old TileQp).left (content_of settings.tile_qp held) inputs.offsets (left TileQp refl) are.offsets;
  }

  answered-outcome : (inputs : Inputs) (end : RunEnd) → StopsInHead settings old new → StopsBefore (plain_settings settings) inputs end.exit → Outcome settings inputs old new end
  answered-outcome inputs end head stops = at_head head (own-no-write end.exit (own-before (plain_settings settings) inputs end.exit stops)) (on-true (is_of_file end.exit) stops)

  -- ---- among the frames

  module _ (format : Format) (bytes : List ℕ) (tracks : List TrackState) (mid : Slot → SlotView) (end : RunEnd) (t : OpensTracks settings old format bytes tracks mid) where
    -- what was taken, and what is left
    module _ (inputs : Inputs) (ran : EncodedBy settings inputs format mid end new) where
      abbrev whole-of : Contents
      whole-of slot = from_first_frame (λ s. ran.bytes s ++ ran.rest s) (t.format_at.taken ++ (ran.bytes Input ++ ran.rest Input)) slot

      abbrev known-of : Slot → Type 0
      known-of slot = IsKnownAs (mid slot).left (ran.bytes slot ++ ran.rest slot)

      input-told : IsKnownAs (input_content settings held) (t.format_at.taken ++ (ran.bytes Input ++ ran.rest Input))
      input-told = known-along (old Input).left (input_content settings held) (t.format_at.taken ++ (ran.bytes Input ++ ran.rest Input)) left_input (
          known-before (old Input).left (mid Input).left t.format_at.taken (ran.bytes Input ++ ran.rest Input) t.format_at.took.prefix (at-input settings known-of format (tile_offsets inputs.offsets) ran.told))

      preview-told : IsKnownAs (content_of settings.preview held) (ran.bytes Preview ++ ran.rest Preview)
      preview-told = told-from Preview settings.preview (ran.bytes Preview ++ ran.rest Preview) refl refl (λ named.
          subst (λ (view : SlotView). IsKnownAs view.left (ran.bytes Preview ++ ran.rest Preview)) (t.others Preview) (at-preview settings known-of format (tile_offsets inputs.offsets) ran.told named))

      depth-told : IsKnownAs (content_of settings.depth_map held) (ran.bytes Depth ++ ran.rest Depth)
      depth-told = told-from Depth settings.depth_map (ran.bytes Depth ++ ran.rest Depth) refl refl (λ named.
          subst (λ (view : SlotView). IsKnownAs view.left (ran.bytes Depth ++ ran.rest Depth)) (t.others Depth) (at-depth settings known-of format (tile_offsets inputs.offsets) ran.told named))

      alpha-told : IsKnownAs (content_of settings.alpha held) (ran.bytes Alpha ++ ran.rest Alpha)
      alpha-told = told-from Alpha settings.alpha (ran.bytes Alpha ++ ran.rest Alpha) refl refl (λ named.
          subst (λ (view : SlotView). IsKnownAs view.left (ran.bytes Alpha ++ ran.rest Alpha)) (t.others Alpha) (at-alpha settings known-of format (tile_offsets inputs.offsets) ran.told named))

      ran-of : t.payloads ≡ inputs.payloads → t.offsets ≡ inputs.offsets → inputs.contents Input ≡ t.format_at.taken ++ (ran.bytes Input ++ ran.rest Input) → (is_some settings.preview ≡ true → inputs.contents Preview ≡ ran.bytes Preview ++ ran.rest Preview)
          → (is_some settings.depth_map ≡ true → inputs.contents Depth ≡ ran.bytes Depth ++ ran.rest Depth) → (is_some settings.alpha ≡ true → inputs.contents Alpha ≡ ran.bytes Alpha ++ ran.rest Alpha) → RanFrames settings inputs format old mid new end
      ran-of payloads offsets i p d a = record {
        head = t.format_at.taken;
        format_at = t.format_at.format_at;
        passes = t.passes;
        whole = subst HasPayloads payloads t.whole;
        right = subst (HasOffsets (primary_tiles (plain_settings settings) format)) offsets t.right;
        output = t.others Output;
        recon = t.others Recon;
        ran = ran;
        parts = i;
        joined = each-track settings (λ slot. from_first_frame inputs.contents (ran.bytes Input ++ ran.rest Input) slot ≡ ran.bytes slot ++ ran.rest slot) format (tile_offsets inputs.offsets) refl p d a;
      }

    payloads-told : IsGivenAs settings.metadata (content_of settings.metadata held) t.payloads
    payloads-told = given-along settings.metadata (old Metadata).left (content_of settings.metadata held) t.payloads (left Metadata refl) (given-took settings.metadata (old Metadata) t.payloads (mid Metadata) t.took_payloads)

    offsets-told : IsGivenAs settings.tile_qp (content_of settings.tile_qp held) t.offsets
    offsets-told = given-along settings.tile_qp (old TileQp).left (content_of settings.tile_qp held) t.offsets (left TileQp refl) (given-took settings.tile_qp (old TileQp) t.offsets (mid TileQp) t.took_offsets)

    -- inputs of what was taken and what is left
    frames-outcome : EncodedBy settings (inputs_with no_contents t.payloads t.offsets) format mid end new → HasOutcome settings held old new end
    frames-outcome d =
        let contents : Contents = whole-of (inputs_with no_contents t.payloads t.offsets) d in
        let inputs : Inputs = inputs_with contents t.payloads t.offsets in
        let ran : EncodedBy settings inputs format mid end new = encoded-for settings no_contents contents t.payloads t.offsets format mid new end d in
        record {
          inputs = inputs;
          told = record { input = input-told inputs ran; preview = preview-told inputs ran; depth = depth-told inputs ran; alpha = alpha-told inputs ran; metadata = payloads-told; tile_qp = offsets-told };
          outcome = at_frames format mid (ran-of inputs ran refl refl refl (λ named. refl) (λ named. refl) (λ named. refl));
        }

    -- inputs that are known are of what was taken and what is left
    module _ (known : AreKnown settings held) (inputs : Inputs) (files : AreFiles settings held inputs) where
      known-payloads : t.payloads ≡ inputs.payloads
      known-payloads = given-same settings.metadata (content_of settings.metadata held) t.payloads inputs.payloads (known Metadata refl) payloads-told files.metadata

      known-offsets : t.offsets ≡ inputs.offsets
      known-offsets = given-same settings.tile_qp (content_of settings.tile_qp held) t.offsets inputs.offsets (known TileQp refl) offsets-told files.tile_qp

      known-frames : EncodedBy settings inputs format mid end new → Outcome settings inputs old new end
      known-frames ran = at_frames format mid (ran-of inputs ran known-payloads known-offsets
          (known-same (input_content settings held) (inputs.contents Input) (t.format_at.taken ++ (ran.bytes Input ++ ran.rest Input)) (input-known settings held given known) files.input (input-told inputs ran))
          (λ named. known-same (content_of settings.preview held) (inputs.contents Preview) (ran.bytes Preview ++ ran.rest Preview) (known Preview refl named) files.preview (preview-told inputs ran))
          (λ named. known-same (content_of settings.depth_map held) (inputs.contents Depth) (ran.bytes Depth ++ ran.rest Depth) (known Depth refl named) files.depth (depth-told inputs ran))
          (λ named. known-same (content_of settings.alpha held) (inputs.contents Alpha) (ran.bytes Alpha ++ ran.rest Alpha) (known Alpha refl named) files.alpha (alpha-told inputs ran)))

  -- ---- the whole run

  -- there are inputs that agree with what is held, and this is the outcome for them
  some-head : (exit : Exit) (report : Option Report) → is_of_file exit ≡ false → is_write_fault exit ≡ false → StopsInHead settings old new → HasOutcome settings held old new (record { exit = exit; report = report })
  some-head exit report other quiet head =
      let some = some-files settings held in
      record { inputs = some.0; told = some.1; outcome = at_head head quiet (subst (λ (b : Bool). OnTrue b (StopsBefore (plain_settings settings) some.0 exit)) (sym other) tt) }

  head-outcome : (exit : Exit) (report : Option Report) → TracksEnd settings old new exit → HasOutcome settings held old new (record { exit = exit; report = report })
  head-outcome exit report (lacks_memory t) = some-head exit report refl refl (head-of exit (lacks_memory t))
  head-outcome exit report (by_metadata f) = some-head exit report refl refl (head-of exit (by_metadata f))
  head-outcome exit report (by_input f) = some-head exit report refl refl (head-of exit (by_input f))
  head-outcome exit report (by_tile_qp f) = some-head exit report refl refl (head-of exit (by_tile_qp f))
  head-outcome exit report (by_answer e a) = record { inputs = a.inputs; told = answered-files a.inputs a.are; outcome = answered-outcome a.inputs (record { exit = exit; report = report }) (head-of exit (by_answer e a)) a.stops }

  pub outcome-of : (end : RunEnd) → EndsOpened settings old new end → HasOutcome settings held old new end
  outcome-of end (before_frames ends) = head-outcome end.exit end.report ends
  outcome-of end (among_frames format bytes tracks mid t frames) =
      frames-outcome format bytes tracks mid end t
      (encoded-by settings (inputs_with no_contents t.payloads t.offsets) format mid end new (frames-with settings no_contents old mid new end format bytes tracks t frames))

  -- the outcome for inputs that are known
  module _ (known : AreKnown settings held) (inputs : Inputs) (files : AreFiles settings held inputs) where
    known-head : (exit : Exit) (report : Option Report) → TracksEnd settings old new exit → Outcome settings inputs old new (record { exit = exit; report = report })
    known-head exit report (lacks_memory t) = at_head (head-of exit (lacks_memory t)) refl tt
    known-head exit report (by_metadata f) = at_head (head-of exit (by_metadata f)) refl tt
    known-head exit report (by_input f) = at_head (head-of exit (by_input f)) refl tt
    known-head exit report (by_tile_qp f) = at_head (head-of exit (by_tile_qp f)) refl tt
    known-head exit report (by_answer e a) =
        let told = answered-files a.inputs a.are in
        answered-outcome inputs (record { exit = exit; report = report }) (head-of exit (by_answer e a))
        (before-along (plain_settings settings) a.inputs inputs (same-input settings held known given a.inputs inputs told files) (same-payloads settings held known given a.inputs inputs told files) (same-offsets settings held known given a.inputs inputs told files) exit a.stops)

    pub known-outcome : (end : RunEnd) → EndsOpened settings old new end → Outcome settings inputs old new end
    known-outcome end (before_frames ends) = known-head end.exit end.report ends
    known-outcome end (among_frames format bytes tracks mid t frames) =
        let payloads = known-payloads format bytes tracks mid end t known inputs files in
        let offsets = known-offsets format bytes tracks mid end t known inputs files in
        let plain : EncoderSettings = plain_settings settings in
        known-frames format bytes tracks mid end t known inputs files (encoded-by settings inputs format mid end new (frames inputs (tracks-for plain inputs format bytes tracks t.payloads t.offsets payloads offsets t.carries t.whole t.passes.input t.passes.preview t.kept)))
