-- Frames that were read and coded and whose outputs are written, one more of them, and how the loop over them ends.
use Rattle.std.proofs.Common.{◌≡◌, ℕ, ◌+◌, ◌<◌, ◌≤◌, List, [], ◌∷◌, ◌++◌, length, take, drop, refl, sym, ap, ◌∙◌, subst, arith, false, Option, None, Some, append_assoc, append-nil, length-append, inl, inr, Err}
use Rattle.std.proofs.KnownBytes.{prepend_known-nil}
use Rattle.std.proofs.lemmas.List.{take-append-drop}
use Rattle.std.specs.Io.KnownBytes.{prepend_known, IsAtEnd}
use Rattle.apv_base.specs.declared.exits.Exit.{Exit}
use Rattle.apv_base.specs.declared.exits.Exit.TheVariants.{Done, Memory, ReadFailed, TooLarge as TooLargeExit}
use Rattle.apv_base.specs.declared.format.Format.{Format}
use Rattle.apv_base.specs.declared.slot.Slot.{Slot}
use Rattle.apv_base.specs.declared.slot.Slot.TheVariants.{Input, Output, Recon}
use Rattle.apv_base.specs.model.Run.{MAX_UNITS}
use Rattle.apv_base.specs.model.Video.{bad, over}
use Rattle.apv_files.specs.SlotView.{SlotView, OnlyAt, Faulted}
use Rattle.apv_files.specs.Loops.{WroteAll, WritesAll, WritesFailed, WritesStopped}
use Rattle.apv_files.specs.declared.files.Failed.{Failed}
use Rattle.apv_files.specs.declared.files.Failed.TheVariants.{Device as FailedDevice, Memory as FailedMemory}
use Rattle.apv_files.proofs.Many.{prepend-prepend, wrote-none, wrote-wrote, wrote-failed}
use Rattle.apv_words.specs.declared.encoder.EncSettings.{EncSettings}
use Rattle.apv_workers.specs.Track.{TrackState}
use Rattle.apv_run.specs.Cause.{is_write_fault}
use Rattle.apv_run.specs.Exits.{write_exit}
use Rattle.apv_run.specs.Slots.{OnlyLeftChanged, IsReadFault, IsWrittenPrefix, IsWriteFault, HasWritten}
use Rattle.apv_run.proofs.KnownLemmas.{known-prefix, some-content}
use Rattle.apv_run.proofs.ThreeSlotsLemmas.{read-then}
use Rattle.apv_encoding.specs.AccessUnit.{Pictures, EncodedUnit}
use Rattle.apv_encoding.specs.Answer.{Inputs, IsEncoded, AreEncoded, EncodingStops, by_frames, over_limit, too_large, enc_out, recon_out, carried, tile_offsets, tracks_for}
use Rattle.apv_console.specs.declared.report.Report.{Report}
use Rattle.apv_encoding.specs.Settings.{EncoderSettings, Source, Track, limited, given_or, primary_track}
use Rattle.apv_enc.specs.Report.{IsReported}
use Rattle.apv_encoding.specs.Tracks.{Contents, FrameAt, FramesStop, ended, extra, missing, no_picture}
use Rattle.apv_tracks.specs.Format.{input_shape}
use Rattle.apv_tracks.specs.Kinds.{OnlyAtTracks}
use Rattle.apv_tracks.specs.Pictures.{AreKnownLeft, AreRead, AtTracks, IsWithinFrame, PicturesEnd, PicturesFail, PicturesStop, TookPictures, by_fault, by_memory, by_stop}
use Rattle.apv_tracks.specs.Plain.{plain_settings, rate_by}
use Rattle.apv_enc.specs.declared.unit.UnitFault.{UnitFault}
use Rattle.apv_enc.specs.declared.unit.UnitFault.TheVariants.{TooLarge, Limit as TooLong, Memory as LacksMemory}
use Rattle.apv_enc.specs.Coding.{IsUnitFault}
use Rattle.apv_enc.specs.Frames.{AreFrameBytes, StopsAt, OnlyAtFiles, AreWritten, IsStopped, in_output, in_recon, Ends, WritesUnit, to_output, to_recon, reading, writing, EncodedFrames}
use Rattle.apv_enc.specs.Steps.{unit_exit}
use Rattle.apv_enc.proofs.FramesLemmas.{at-input, bytes-none, bytes-push, within-none, within-frame, encoded-push, is-wanted, out-none, one_out, out-push, recon-none, one_recon, recon-push}
use Rattle.apv_enc.proofs.SlotsLemmas.{output-stays, recon-stays, stay-at-output, stay-at-recon, tracks-none, files-none, files-tracks, files-output, files-recon}

-- ---- reads of a slot, one after another

pub taken-prefix : (a b c : SlotView) (bytes taken : List ℕ) → a.left ≡ prepend_known bytes b.left → b.left ≡ prepend_known taken c.left → a.left ≡ prepend_known (bytes ++ taken) c.left
taken-prefix a b c bytes taken e f = e ∙ ap (prepend_known bytes) f ∙ prepend-prepend c.left bytes taken

-- only what is left changed, and then a read failed
fault-then : (a b c : SlotView) → OnlyLeftChanged a b → IsReadFault b c → IsReadFault a c
fault-then a b c e f = record {
  fault = subst (λ (k : ℕ). Faulted k c.read_faults) (ap (λ (q : SlotView). q.read_faults) e) f.fault;
  rest = f.rest ∙ ap (λ (q : SlotView). record q { left = c.left; read_faults = c.read_faults }) e;
}

-- ---- writes of a part

-- a prefix is written up to what was written before
before-part : (old new : SlotView) (done bytes all : List ℕ) → all ≡ done ++ bytes → WroteAll old done new → IsWrittenPrefix old all new
before-part old new done bytes all e w = record { prefix = done; more = bytes; parts = sym e; rest = w }

whole-prefix : (old new : SlotView) (bytes : List ℕ) → WroteAll old bytes new → IsWrittenPrefix old bytes new
whole-prefix old new bytes w = record { prefix = bytes; more = []; parts = append-nil bytes; rest = w }

part-parts : (done bytes all : List ℕ) (count : ℕ) → all ≡ done ++ bytes → (done ++ take count bytes) ++ drop count bytes ≡ all
part-parts done bytes all count e = append_assoc done (take count bytes) (drop count bytes) ∙ ap (λ (xs : List ℕ). done ++ xs) (take-append-drop count bytes) ∙ sym e

part-written : (old mid new : SlotView) (done bytes all : List ℕ) → all ≡ done ++ bytes → WroteAll old done mid → WritesStopped mid bytes new → IsWrittenPrefix old all new
part-written old mid new done bytes all e w s =
    record { prefix = done ++ take s.count bytes; more = drop s.count bytes; parts = part-parts done bytes all s.count e; rest = wrote-wrote old mid new done (take s.count bytes) w s.wrote }

part-failed : (old mid new : SlotView) (done bytes all : List ℕ) → all ≡ done ++ bytes → WroteAll old done mid → WritesFailed mid bytes new → IsWriteFault old all new
part-failed old mid new done bytes all e w f =
    record { prefix = done ++ take f.count bytes; more = drop f.count bytes; parts = part-parts done bytes all f.count e; failed = wrote-failed old mid new done (take f.count bytes) w f.failed }

-- what was written before a write that failed is there
written-before : (T : Type 0) (old mid new : SlotView) (done bytes : List ℕ) (failed : Failed) → WroteAll old done mid → WritesAll {T = T} mid bytes (Err failed) new → HasWritten old done new
written-before T old mid new done bytes FailedDevice w f = (take f.count bytes, ap (λ (v : SlotView). v.written) (wrote-failed old mid new done (take f.count bytes) w f.failed).rest)
written-before T old mid new done bytes FailedMemory w s = (take s.count bytes, ap (λ (v : SlotView). v.written) (wrote-wrote old mid new done (take s.count bytes) w s.wrote))

-- ---- progress

-- n frames were read and coded, and both outputs of their units written
pub record SoFar (s : EncSettings) (inputs : Inputs) (format : Format) (old now : Slot → SlotView) (n : ℕ) : Type 0 where
  pub frames : List Pictures
  pub units : List EncodedUnit
  pub bytes : Contents
  pub frame_bytes : AreFrameBytes (plain_settings s) inputs format frames bytes
  pub encoded : AreEncoded (plain_settings s) inputs format frames units
  pub count : length units ≡ n
  pub prefix : AtTracks (tracks_for (plain_settings s) inputs format) (λ slot. (old slot).left ≡ prepend_known (bytes slot) (now slot).left)
  pub read : AreRead (tracks_for (plain_settings s) inputs format) old now
  pub written : AreWritten (plain_settings s) inputs format units old now
  pub others : OnlyAtFiles s old now

-- and a picture of each track was taken
pub record FrameRead (s : EncSettings) (inputs : Inputs) (format : Format) (old mid new : Slot → SlotView) (n : ℕ) (states : List TrackState) : Type 0 where
  pub so_far : SoFar s inputs format old mid n
  pub took : TookPictures (plain_settings s).source (tracks_for (plain_settings s) inputs format) n mid states new
  pub elsewhere : OnlyAtTracks s mid new

-- n units, and one more, whose outputs needn't be written
pub record WithUnit (s : EncSettings) (inputs : Inputs) (format : Format) (old new : Slot → SlotView) (n : ℕ) (unit : EncodedUnit) : Type 0 where
  pub frames : List Pictures
  pub units : List EncodedUnit
  pub bytes : Contents
  pub frame_bytes : AreFrameBytes (plain_settings s) inputs format frames bytes
  pub encoded : AreEncoded (plain_settings s) inputs format frames (units ++ unit ∷ [])
  pub count : length units ≡ n
  pub few : n < MAX_UNITS
  pub prefix : AtTracks (tracks_for (plain_settings s) inputs format) (λ slot. (old slot).left ≡ prepend_known (bytes slot) (new slot).left)
  pub read : AreRead (tracks_for (plain_settings s) inputs format) old new
  pub others : OnlyAtFiles s old new

-- and the pictures are coded, and nothing of their unit written
pub record FrameCoded (s : EncSettings) (inputs : Inputs) (format : Format) (old new : Slot → SlotView) (n : ℕ) (unit : EncodedUnit) : Type 0 where
  pub with : WithUnit s inputs format old new n unit
  pub written : AreWritten (plain_settings s) inputs format with.units old new

-- its access unit is written, and nothing of its picture
pub record UnitWritten (s : EncSettings) (inputs : Inputs) (format : Format) (old new : Slot → SlotView) (n : ℕ) (unit : EncodedUnit) : Type 0 where
  pub with : WithUnit s inputs format old new n unit
  pub output : WroteAll (old Output) (enc_out (plain_settings s) (with.units ++ unit ∷ [])) (new Output)
  pub recon : WroteAll (old Recon) (recon_out (plain_settings s) inputs format with.units) (new Recon)

-- ---- answers

-- the exit is an answer of the inputs themselves
record IsAnswer (e : EncoderSettings) (inputs : Inputs) (format : Format) (old new : Slot → SlotView) (exit : Exit) : Type 0 where
  pub no_write : is_write_fault exit ≡ false
  pub ends : (units : List EncodedUnit) (rest : Contents) → IsStopped e inputs format old new exit units rest → Ends e inputs format old new exit units rest

-- why no further frame follows is one
stop-answers : (e : EncoderSettings) (inputs : Inputs) (format : Format) (old new : Slot → SlotView) (source : Source) (tracks : List Track) (n : ℕ) (left : Contents) (exit : Exit) → FramesStop source tracks n left exit → IsAnswer e inputs format old new exit
stop-answers e inputs format old new source tracks n left exit (ended all) = record { no_write = refl; ends = λ units rest is. is }
stop-answers e inputs format old new source tracks n left exit (extra track none turn some) = record { no_write = refl; ends = λ units rest is. is }
stop-answers e inputs format old new source tracks n left exit (missing track some few turn none) = record { no_write = refl; ends = λ units rest is. is }
stop-answers e inputs format old new source tracks n left exit (no_picture track (bad rule) some turn breaks) = record { no_write = refl; ends = λ units rest is. is }
stop-answers e inputs format old new source tracks n left exit (no_picture track (over limit count) some turn breaks) = record { no_write = refl; ends = λ units rest is. is }

-- the limit of the settings is that of their rate
limit-is : (s : EncSettings) (given : Option ℕ) (limit : ℕ) (first last : Option ℕ) → rate_by s given ≡ limited limit first last → limit ≡ given_or given 0
limit-is s None limit first last e = absurd (let no : ⊥ = cc in no)
limit-is s (Some most) limit first last e = let same : limit ≡ most = cc in same

module _ (s : EncSettings) (inputs : Inputs) (format : Format) where
  abbrev settings : EncoderSettings
  settings = plain_settings s

  abbrev tracks : List Track
  tracks = tracks_for settings inputs format

  -- what is known to be left, or something
  abbrev some_rest : (Slot → SlotView) → Contents
  some_rest views slot = (some-content (views slot).left).0

  rest-known : (views : Slot → SlotView) → AreKnownLeft tracks views (some_rest views)
  rest-known views track in-them = (some-content (views track.slot).left).1

  -- before the first frame
  unfoldable pub none-so-far : (old : Slot → SlotView) → SoFar s inputs format old old 0
  none-so-far old = record {
    frames = [];
    units = [];
    bytes = λ slot. [];
    frame_bytes = bytes-none settings inputs format;
    encoded = refl;
    count = refl;
    prefix = λ track in-them. sym (prepend_known-nil (old track.slot).left);
    read = λ track in-them. refl;
    written = record {
      output = subst (λ (xs : List ℕ). WroteAll (old Output) xs (old Output)) (sym (out-none settings)) (wrote-none (old Output));
      recon = subst (λ (xs : List ℕ). WroteAll (old Recon) xs (old Recon)) (sym (recon-none settings inputs format)) (wrote-none (old Recon));
    };
    others = files-none s old;
  }

  pub written-still : (old mid new : Slot → SlotView) (units : List EncodedUnit) → OnlyAtTracks s mid new → AreWritten settings inputs format units old mid → AreWritten settings inputs format units old new
  written-still old mid new units elsewhere w = record { output = output-stays s mid new elsewhere ∙ w.output; recon = recon-stays s mid new elsewhere ∙ w.recon }

  pub read-after : (old mid new : Slot → SlotView) → AreRead tracks old mid → AreRead tracks mid new → AreRead tracks old new
  read-after old mid new a b track in-them = read-then (old track.slot) (mid track.slot) (new track.slot) (a track in-them) (b track in-them)

  -- ---- one more frame

  unfoldable pub frame-coded : (old mid new : Slot → SlotView) (n : ℕ) (states : List TrackState) (unit : EncodedUnit) (r : FrameRead s inputs format old mid new n states) → IsEncoded settings inputs format r.took.pictures unit → FrameCoded s inputs format old new n unit
  frame-coded old mid new n states unit r is = record {
    with = record {
      frames = r.so_far.frames ++ r.took.pictures ∷ [];
      units = r.so_far.units;
      bytes = λ slot. r.so_far.bytes slot ++ r.took.taken slot;
      frame_bytes = bytes-push settings inputs format r.so_far.frames r.so_far.bytes r.took.taken r.took.pictures r.so_far.frame_bytes r.took.frame_at;
      encoded = encoded-push settings inputs format r.so_far.frames r.so_far.units r.took.pictures unit r.so_far.encoded is;
      count = r.so_far.count;
      few = r.took.few;
      prefix = λ track in-them. taken-prefix (old track.slot) (mid track.slot) (new track.slot) (r.so_far.bytes track.slot) (r.took.taken track.slot) (r.so_far.prefix track in-them) (r.took.took track in-them).prefix;
      read = read-after old mid new r.so_far.read (λ track in-them. (r.took.took track in-them).rest);
      others = files-tracks s old mid new r.so_far.others r.elsewhere;
    };
    written = written-still old mid new r.so_far.units r.elsewhere r.so_far.written;
  }

  -- a call elsewhere than on the slots of tracks
  with-still : (old mid new : Slot → SlotView) (n : ℕ) (unit : EncodedUnit) → WithUnit s inputs format old mid n unit → AtTracks tracks (λ slot. new slot ≡ mid slot) → OnlyAtFiles s old new → WithUnit s inputs format old new n unit
  with-still old mid new n unit w same others = record {
    frames = w.frames;
    units = w.units;
    bytes = w.bytes;
    frame_bytes = w.frame_bytes;
    encoded = w.encoded;
    count = w.count;
    few = w.few;
    prefix = λ track in-them. w.prefix track in-them ∙ ap (λ (p : SlotView). prepend_known (w.bytes track.slot) p.left) (sym (same track in-them));
    read = λ track in-them. subst (λ (p : SlotView). OnlyLeftChanged (old track.slot) p) (sym (same track in-them)) (w.read track in-them);
    others = others;
  }

  with-output : (old mid new : Slot → SlotView) (n : ℕ) (unit : EncodedUnit) → WithUnit s inputs format old mid n unit → OnlyAt Output mid new → WithUnit s inputs format old new n unit
  with-output old mid new n unit w elsewhere = with-still old mid new n unit w (stay-at-output settings format (tile_offsets inputs.offsets) mid new elsewhere) (files-output s old mid new w.others elsewhere)

  with-recon : (old mid new : Slot → SlotView) (n : ℕ) (unit : EncodedUnit) → WithUnit s inputs format old mid n unit → OnlyAt Recon mid new → WithUnit s inputs format old new n unit
  with-recon old mid new n unit w elsewhere = with-still old mid new n unit w (stay-at-recon settings format (tile_offsets inputs.offsets) mid new elsewhere) (files-recon s old mid new w.others elsewhere)

  unfoldable pub unit-written : (old mid new : Slot → SlotView) (n : ℕ) (unit : EncodedUnit) → FrameCoded s inputs format old mid n unit → OnlyAt Output mid new → WroteAll (mid Output) (one_out settings unit) (new Output) → UnitWritten s inputs format old new n unit
  unfolding with-still with-output
  unit-written old mid new n unit f elsewhere wrote = record {
    with = with-output old mid new n unit f.with elsewhere;
    output = subst (λ (xs : List ℕ). WroteAll (old Output) xs (new Output)) (sym (out-push settings f.with.units unit))
        (wrote-wrote (old Output) (mid Output) (new Output) (enc_out settings f.with.units) (one_out settings unit) f.written.output wrote);
    recon = elsewhere Recon ∙ f.written.recon;
  }

  unfoldable pub frame-written : (old mid new : Slot → SlotView) (n : ℕ) (unit : EncodedUnit) → UnitWritten s inputs format old mid n unit → OnlyAt Recon mid new → WroteAll (mid Recon) (one_recon settings inputs format unit) (new Recon) → SoFar s inputs format old new (n + 1)
  unfolding with-still with-recon
  frame-written old mid new n unit u elsewhere wrote =
      let w : WithUnit s inputs format old new n unit = with-recon old mid new n unit u.with elsewhere in
      record {
        frames = w.frames;
        units = u.with.units ++ unit ∷ [];
        bytes = w.bytes;
        frame_bytes = w.frame_bytes;
        encoded = w.encoded;
        count = omega (arith, length-append u.with.units (unit ∷ []), u.with.count);
        prefix = w.prefix;
        read = w.read;
        written = record {
          output = elsewhere Output ∙ u.output;
          recon = subst (λ (xs : List ℕ). WroteAll (old Recon) xs (new Recon)) (sym (recon-push settings inputs format u.with.units unit))
              (wrote-wrote (old Recon) (mid Recon) (new Recon) (recon_out settings inputs format u.with.units) (one_recon settings inputs format unit) u.recon wrote);
        };
        others = w.others;
      }

  -- ---- an end before the outputs of the next unit

  -- after Done the report is that of these units
  abbrev IsReportedAt : Exit → List EncodedUnit → Option Report → Type 0
  IsReportedAt exit units report = exit ≡ Done → IsReported s.generate (primary_track settings format (tile_offsets inputs.offsets)) units report

  not-reported : (exit : Exit) (units : List EncodedUnit) (report : Option Report) → (exit ≡ Done → ⊥) → IsReportedAt exit units report
  not-reported exit units report other done = absurd (other done)

  unread : (old mid new : Slot → SlotView) (n : ℕ) (exit : Exit) (report : Option Report) (rest : Contents) (p : SoFar s inputs format old mid n) → n ≤ MAX_UNITS → OnlyAtTracks s mid new → AreKnownLeft tracks mid rest → IsWithinFrame (input_shape s.form format) (mid Input) (new Input)
      → is_write_fault exit ≡ false → Ends settings inputs format old new exit p.units rest → IsReportedAt exit p.units report → EncodedFrames s inputs format old (record { exit = exit; report = report }) new
  unread old mid new n exit report rest p few elsewhere known within no_write ends reported = record {
    frames = p.frames;
    units = p.units;
    bytes = p.bytes;
    rest = rest;
    frame_bytes = p.frame_bytes;
    encoded = p.encoded;
    count = omega (arith, p.count, few);
    told = λ track in-them. known-prefix (old track.slot).left (mid track.slot).left (p.bytes track.slot) (rest track.slot) (p.prefix track in-them) (known track in-them);
    others = files-tracks s old mid new p.others elsewhere;
    ends = ends;
    within = reading p.units within.taken no_write within.within
        (taken-prefix (old Input) (mid Input) (new Input) (p.bytes Input) within.taken (at-input settings inputs format (λ slot. (old slot).left ≡ prepend_known (p.bytes slot) (mid slot).left) p.prefix) within.took)
        (written-still old mid new p.units elsewhere p.written);
    report = reported;
  }

  memory-then : (old mid new : Slot → SlotView) (n : ℕ) (report : Option Report) → SoFar s inputs format old mid n → n ≤ MAX_UNITS → OnlyAtTracks s mid new → AreRead tracks mid new → IsWithinFrame (input_shape s.form format) (mid Input) (new Input) → EncodedFrames s inputs format old (record { exit = Memory; report = report }) new
  memory-then old mid new n report p few elsewhere read within =
      let written : AreWritten settings inputs format p.units old new = written-still old mid new p.units elsewhere p.written in
      unread old mid new n Memory report (some_rest mid) p few elsewhere (rest-known mid) within refl (
        read-after old mid new p.read read,
        record {
          output = whole-prefix (old Output) (new Output) (enc_out settings p.units) written.output;
          recon = whole-prefix (old Recon) (new Recon) (recon_out settings inputs format p.units) written.recon;
        },
      ) (not-reported Memory p.units report (λ e. let no : ⊥ = cc in no))

  -- before anything was read
  pub memory-first : (old : Slot → SlotView) (report : Option Report) → EncodedFrames s inputs format old (record { exit = Memory; report = report }) old
  memory-first old report = memory-then old old old 0 report (none-so-far old) (omega arith) (tracks-none s old) (λ track in-them. refl)
      (record { taken = []; within = within-none (input_shape s.form format); took = sym (prepend_known-nil (old Input).left) })

  -- the answer of the inputs themselves
  stopped : (old mid new : Slot → SlotView) (n : ℕ) (exit : Exit) (report : Option Report) (rest : Contents) (p : SoFar s inputs format old mid n) → n ≤ MAX_UNITS → OnlyAtTracks s mid new → AreRead tracks mid new → AreKnownLeft tracks mid rest → IsWithinFrame (input_shape s.form format) (mid Input) (new Input)
      → StopsAt settings inputs format n rest exit → (exit ≡ Done → AtTracks tracks (λ slot. IsAtEnd (new slot).left)) → IsAnswer settings inputs format old new exit → IsReportedAt exit p.units report → EncodedFrames s inputs format old (record { exit = exit; report = report }) new
  stopped old mid new n exit report rest p few elsewhere read known within stops end answer reported =
      unread old mid new n exit report rest p few elsewhere known within answer.no_write (answer.ends p.units rest (record {
        stops = subst (λ (k : ℕ). StopsAt settings inputs format k rest exit) (sym p.count) stops;
        inputs_read = read-after old mid new p.read read;
        written = written-still old mid new p.units elsewhere p.written;
        end = end;
      })) reported

  -- ---- no frame was read

  read-failed : (old mid new : Slot → SlotView) (n : ℕ) (report : Option Report) (track : Track) → SoFar s inputs format old mid n → n ≤ MAX_UNITS → OnlyAtTracks s mid new → IsWithinFrame (input_shape s.form format) (mid Input) (new Input) → PicturesFail tracks track mid new
      → EncodedFrames s inputs format old (record { exit = ReadFailed track.slot; report = report }) new
  read-failed old mid new n report track p few elsewhere within f =
      unread old mid new n (ReadFailed track.slot) report (some_rest mid) p few elsewhere (rest-known mid) within refl (record {
        track = track;
        of_track = refl;
        fails = record {
          among = f.among;
          fault = fault-then (old track.slot) (mid track.slot) (new track.slot) (p.read track f.among) f.fault;
          others = λ other in-them. elim (f.others other in-them) [
            | inl same ↦ inl same
            | inr changed ↦ inr (read-then (old other.slot) (mid other.slot) (new other.slot) (p.read other in-them) changed)
          ];
        };
        written = written-still old mid new p.units elsewhere p.written;
      }) (not-reported (ReadFailed track.slot) p.units report (λ e. let no : ⊥ = cc in no))

  pictures-stop : (old mid new : Slot → SlotView) (n : ℕ) (exit : Exit) (report : Option Report) (p : SoFar s inputs format old mid n) → n ≤ MAX_UNITS → OnlyAtTracks s mid new → IsWithinFrame (input_shape s.form format) (mid Input) (new Input) → PicturesStop settings.source tracks n mid exit new
      → IsReportedAt exit p.units report → EncodedFrames s inputs format old (record { exit = exit; report = report }) new
  pictures-stop old mid new n exit report p few elsewhere within stop reported =
      stopped old mid new n exit report stop.left p few elsewhere stop.read stop.told within (λ all joined. by_frames exit (stop.stops all joined)) stop.end
      (stop-answers settings inputs format old new settings.source tracks n stop.left exit (stop.stops stop.left (λ track in-them. sym (append-nil (stop.left track.slot))))) reported

  pub not-read : (old mid new : Slot → SlotView) (n : ℕ) (exit : Exit) (report : Option Report) (p : SoFar s inputs format old mid n) → n ≤ MAX_UNITS → OnlyAtTracks s mid new → IsWithinFrame (input_shape s.form format) (mid Input) (new Input) → PicturesEnd settings.source tracks n mid new exit
      → IsReported s.generate (primary_track settings format (tile_offsets inputs.offsets)) p.units report → EncodedFrames s inputs format old (record { exit = exit; report = report }) new
  not-read old mid new n exit report p few elsewhere within (by_memory read) reported = memory-then old mid new n report p few elsewhere read within
  not-read old mid new n exit report p few elsewhere within (by_fault track fails) reported = read-failed old mid new n report track p few elsewhere within fails
  not-read old mid new n exit report p few elsewhere within (by_stop answer stop) reported = pictures-stop old mid new n exit report p few elsewhere within stop (λ done. reported)

  -- ---- no access unit was made

  frame-within : (old mid new : Slot → SlotView) (n : ℕ) (states : List TrackState) → FrameRead s inputs format old mid new n states → IsWithinFrame (input_shape s.form format) (mid Input) (new Input)
  frame-within old mid new n states r = record {
    taken = r.took.taken Input;
    within = within-frame s inputs format r.took.pictures r.took.taken r.took.frame_at;
    took = at-input settings inputs format (λ slot. (mid slot).left ≡ prepend_known (r.took.taken slot) (new slot).left) (λ track in-them. (r.took.took track in-them).prefix);
  }

  frame-read-in : (old mid new : Slot → SlotView) (n : ℕ) (states : List TrackState) → FrameRead s inputs format old mid new n states → AreRead tracks mid new
  frame-read-in old mid new n states r track in-them = (r.took.took track in-them).rest

  -- where it stops at each frame of these pictures
  coded-stops : (old mid new : Slot → SlotView) (n : ℕ) (states : List TrackState) (exit : Exit) (report : Option Report) (r : FrameRead s inputs format old mid new n states) → ((left after : Contents) → FrameAt settings.source tracks left r.took.pictures after → EncodingStops settings inputs format n left exit)
      → (exit ≡ Done → ⊥) → IsAnswer settings inputs format old new exit → EncodedFrames s inputs format old (record { exit = exit; report = report }) new
  coded-stops old mid new n states exit report r stops not_done answer =
      let more : Contents = some_rest new in
      stopped old mid new n exit report (λ slot. r.took.taken slot ++ more slot) r.so_far (omega (arith, r.took.few)) r.elsewhere (frame-read-in old mid new n states r)
      (λ track in-them. known-prefix (mid track.slot).left (new track.slot).left (r.took.taken track.slot) (more track.slot) (r.took.took track in-them).prefix (rest-known new track in-them))
      (frame-within old mid new n states r)
      (λ left joined. stops left more (r.took.frame_at left more (λ track in-them. joined track in-them ∙ append-nil (r.took.taken track.slot ++ more track.slot))))
      (λ e. absurd (not_done e)) answer (not-reported exit r.so_far.units report not_done)

  fails-coded : (old mid new : Slot → SlotView) (n : ℕ) (states : List TrackState) (fault : UnitFault) (report : Option Report) (r : FrameRead s inputs format old mid new n states) → IsUnitFault settings format.depth tracks (carried inputs.payloads) r.took.pictures fault
      → EncodedFrames s inputs format old (record { exit = unit_exit s n fault; report = report }) new
  fails-coded old mid new n states (TooLarge smallest) report r f =
      coded-stops old mid new n states (unit_exit s n (TooLarge smallest)) report r
      (λ left after at. subst (λ (limit : ℕ). EncodingStops settings inputs format n left (TooLargeExit n smallest limit)) (limit-is s s.limit f.limit f.first f.last f.rate)
      (too_large r.took.pictures after f.limit smallest f.first f.last r.took.few at f.rate f.nowhere f.above))
      (λ e. let no : ⊥ = cc in no) (record { no_write = refl; ends = λ units rest is. is })
  fails-coded old mid new n states (TooLong size) report r f =
      coded-stops old mid new n states (unit_exit s n (TooLong size)) report r (λ left after at. over_limit r.took.pictures after f.qp size r.took.few at f.rate f.size_at f.above)
      (λ e. let no : ⊥ = cc in no) (record { no_write = refl; ends = λ units rest is. is })
  fails-coded old mid new n states LacksMemory report r f = memory-then old mid new n report r.so_far (omega (arith, r.took.few)) r.elsewhere (frame-read-in old mid new n states r) (frame-within old mid new n states r)

  pub not-coded : (old mid new : Slot → SlotView) (n : ℕ) (states : List TrackState) (payloads : List ℕ) (fault : UnitFault) (exit : Exit) (report : Option Report) (r : FrameRead s inputs format old mid new n states) → payloads ≡ carried inputs.payloads → exit ≡ unit_exit s n fault
      → IsUnitFault settings format.depth tracks payloads r.took.pictures fault → EncodedFrames s inputs format old (record { exit = exit; report = report }) new
  not-coded old mid new n states payloads fault exit report r carries is fails =
      subst (λ (x : Exit). EncodedFrames s inputs format old (record { exit = x; report = report }) new) (sym is)
      (fails-coded old mid new n states fault report r (subst (λ (bytes : List ℕ). IsUnitFault settings format.depth tracks bytes r.took.pictures fault) carries fails))

  -- ---- a write failed, or memory ran out, while the outputs of a unit were written

  write-not-done : (slot : Slot) (failed : Failed) → write_exit slot failed ≡ Done → ⊥
  write-not-done slot FailedDevice e = cc (e)
  write-not-done slot FailedMemory e = cc (e)

  ended-writing : (old new : Slot → SlotView) (n : ℕ) (unit : EncodedUnit) (exit : Exit) (report : Option Report) (w : WithUnit s inputs format old new n unit) → WritesUnit settings inputs format old new w.units unit
      → ((rest : Contents) → Ends settings inputs format old new exit (w.units ++ unit ∷ []) rest) → (exit ≡ Done → ⊥) → EncodedFrames s inputs format old (record { exit = exit; report = report }) new
  ended-writing old new n unit exit report w writes ends not_done =
      let more : Contents = some_rest new in
      record {
        frames = w.frames;
        units = w.units ++ unit ∷ [];
        bytes = w.bytes;
        rest = more;
        frame_bytes = w.frame_bytes;
        encoded = w.encoded;
        count = omega (arith, length-append w.units (unit ∷ []), w.count, w.few);
        told = λ track in-them. known-prefix (old track.slot).left (new track.slot).left (w.bytes track.slot) (more track.slot) (w.prefix track in-them) (rest-known new track in-them);
        others = w.others;
        ends = ends more;
        within = writing w.units unit (at-input settings inputs format (λ slot. (old slot).left ≡ prepend_known (w.bytes slot) (new slot).left) w.prefix) writes;
        report = not-reported exit (w.units ++ unit ∷ []) report not_done;
      }

  output-ends : (T : Type 0) (old new : Slot → SlotView) (mid : SlotView) (units : List EncodedUnit) (unit : EncodedUnit) (failed : Failed) (rest : Contents) → AreRead tracks old new → WroteAll (old Output) (enc_out settings units) mid
      → WroteAll (old Recon) (recon_out settings inputs format units) (new Recon) → WritesAll {T = T} mid (one_out settings unit) (Err failed) (new Output)
      → Ends settings inputs format old new (write_exit Output failed) (units ++ unit ∷ []) rest
  output-ends T old new mid units unit FailedDevice rest read output recon w = (
    read,
    in_output (is-wanted settings.output _ w.count w.short)
        (part-failed (old Output) mid (new Output) (enc_out settings units) (one_out settings unit) (enc_out settings (units ++ unit ∷ [])) (out-push settings units unit) output w)
        (before-part (old Recon) (new Recon) (recon_out settings inputs format units) (one_recon settings inputs format unit) (recon_out settings inputs format (units ++ unit ∷ [])) (recon-push settings inputs format units unit) recon),
  )
  output-ends T old new mid units unit FailedMemory rest read output recon w = (
    read,
    record {
      output = part-written (old Output) mid (new Output) (enc_out settings units) (one_out settings unit) (enc_out settings (units ++ unit ∷ [])) (out-push settings units unit) output w;
      recon = before-part (old Recon) (new Recon) (recon_out settings inputs format units) (one_recon settings inputs format unit) (recon_out settings inputs format (units ++ unit ∷ [])) (recon-push settings inputs format units unit) recon;
    },
  )

  pub output-failed : (T : Type 0) (old mid new : Slot → SlotView) (n : ℕ) (unit : EncodedUnit) (failed : Failed) (exit : Exit) (report : Option Report) → exit ≡ write_exit Output failed → FrameCoded s inputs format old mid n unit → OnlyAt Output mid new
      → WritesAll {T = T} (mid Output) (one_out settings unit) (Err failed) (new Output) → EncodedFrames s inputs format old (record { exit = exit; report = report }) new
  unfolding with-still with-output
  output-failed T old mid new n unit failed exit report e f elsewhere w =
      let with : WithUnit s inputs format old new n unit = with-output old mid new n unit f.with elsewhere in
      let recon : WroteAll (old Recon) (recon_out settings inputs format f.with.units) (new Recon) = elsewhere Recon ∙ f.written.recon in
      ended-writing old new n unit exit report with
      (to_output (written-before T (old Output) (mid Output) (new Output) (enc_out settings f.with.units) (one_out settings unit) failed f.written.output w) recon)
      (λ rest. subst (λ (x : Exit). Ends settings inputs format old new x (f.with.units ++ unit ∷ []) rest) (sym e) (output-ends T old new (mid Output) f.with.units unit failed rest with.read f.written.output recon w))
      (λ done. write-not-done Output failed (sym e ∙ done))

  recon-ends : (T : Type 0) (old new : Slot → SlotView) (mid : SlotView) (units : List EncodedUnit) (unit : EncodedUnit) (failed : Failed) (rest : Contents) → AreRead tracks old new → WroteAll (old Output) (enc_out settings (units ++ unit ∷ [])) (new Output)
      → WroteAll (old Recon) (recon_out settings inputs format units) mid → WritesAll {T = T} mid (one_recon settings inputs format unit) (Err failed) (new Recon)
      → Ends settings inputs format old new (write_exit Recon failed) (units ++ unit ∷ []) rest
  recon-ends T old new mid units unit FailedDevice rest read output recon w = (
    read,
    in_recon (is-wanted settings.recon _ w.count w.short)
        (part-failed (old Recon) mid (new Recon) (recon_out settings inputs format units) (one_recon settings inputs format unit) (recon_out settings inputs format (units ++ unit ∷ [])) (recon-push settings inputs format units unit) recon w)
        output,
  )
  recon-ends T old new mid units unit FailedMemory rest read output recon w = (
    read,
    record {
      output = whole-prefix (old Output) (new Output) (enc_out settings (units ++ unit ∷ [])) output;
      recon = part-written (old Recon) mid (new Recon) (recon_out settings inputs format units) (one_recon settings inputs format unit) (recon_out settings inputs format (units ++ unit ∷ [])) (recon-push settings inputs format units unit) recon w;
    },
  )

  pub recon-failed : (T : Type 0) (old mid new : Slot → SlotView) (n : ℕ) (unit : EncodedUnit) (failed : Failed) (exit : Exit) (report : Option Report) → exit ≡ write_exit Recon failed → UnitWritten s inputs format old mid n unit → OnlyAt Recon mid new
      → WritesAll {T = T} (mid Recon) (one_recon settings inputs format unit) (Err failed) (new Recon) → EncodedFrames s inputs format old (record { exit = exit; report = report }) new
  unfolding with-still with-recon
  recon-failed T old mid new n unit failed exit report e u elsewhere w =
      let with : WithUnit s inputs format old new n unit = with-recon old mid new n unit u.with elsewhere in
      let output : WroteAll (old Output) (enc_out settings (u.with.units ++ unit ∷ [])) (new Output) = elsewhere Output ∙ u.output in
      ended-writing old new n unit exit report with
      (to_recon output (written-before T (old Recon) (mid Recon) (new Recon) (recon_out settings inputs format u.with.units) (one_recon settings inputs format unit) failed u.recon w))
      (λ rest. subst (λ (x : Exit). Ends settings inputs format old new x (u.with.units ++ unit ∷ []) rest) (sym e) (recon-ends T old new (mid Recon) u.with.units unit failed rest with.read output u.recon w))
      (λ done. write-not-done Recon failed (sym e ∙ done))
