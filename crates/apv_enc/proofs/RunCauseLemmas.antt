-- What follows each answer of a run of the encoder.
use Rattle.std.proofs.Common.{◌≡◌, ℕ, ◌+◌, List, [], append-nil, length, refl, sym, ◌∙◌, subst, Option, Some, None, is_some, true, ◌⊎◌, inl, inr, true≢false}
use Rattle.std.specs.Io.KnownBytes.{IsAtEnd}
use Rattle.apv_base.specs.declared.exits.Exit.{Exit}
use Rattle.apv_base.specs.declared.exits.Exit.TheVariants.{Done, Memory, Usage, Broken, BadVideo, BadPayloads, BadTileQp, OpenFailed, ReadFailed, WriteFailed, LimitMet, FormatChange, NoTag, TooLarge}
use Rattle.apv_base.specs.declared.exits.VideoBreak.{VideoBreak}
use Rattle.apv_base.specs.declared.exits.VideoRule.TheVariants.{Missing, Extra}
use Rattle.apv_base.specs.declared.format.Format.{Format}
use Rattle.apv_base.specs.declared.rules.Limit.{Limit}
use Rattle.apv_base.specs.declared.rules.Limit.TheVariants.{L1}
use Rattle.apv_base.specs.declared.slot.Slot.{Slot}
use Rattle.apv_base.specs.declared.slot.Slot.TheVariants.{Input, Preview, Depth, Alpha, Metadata, TileQp, Output, Recon, MetaOut, Console}
use Rattle.apv_base.specs.model.Run.{MAX_UNIT}
use Rattle.apv_base.specs.model.Slot.{is_input}
use Rattle.apv_base.specs.model.Video.{VideoFault, bad, over}
use Rattle.apv_files.specs.SlotView.{SlotView, Rose}
use Rattle.apv_run.specs.Cause.{AreAtEnd, AreSound, HasCause, HasNoFault, HaveNoFault, IsNotWritten, IsUnread}
use Rattle.apv_run.specs.Names.{AreNamed, AreOpen, IsNamed, Names}
use Rattle.apv_run.proofs.CauseLemmas.{all-quiet-then}
use Rattle.apv_run.proofs.OpenLemmas.{open-are-named, same-quiet}
use Rattle.apv_run.proofs.SlotLemmas.{at-file, at-files, input-file}
use Rattle.apv_run.proofs.ViewLemmas.{AllStayOpen, StaysOpen, failed-open, left-open, left-quiet, open-still, open-then, read-open, same-open, wrote-open, wrote-quiet}
use Rattle.apv_words.specs.declared.encoder.EncSettings.{EncSettings}
use Rattle.apv_workers.specs.Track.{TrackState}
use Rattle.apv_encoding.specs.AccessUnit.{EncodedUnit}
use Rattle.apv_encoding.specs.Answer.{FormatStops, at_header, at_input, at_preview, Inputs, StopsBefore, long_payloads, partial_payload, at_formats, bad_offset, EncodingStops, by_frames, too_large, over_limit, enc_out, recon_out, tile_offsets, tracks_for}
use Rattle.apv_encoding.specs.Settings.{EncoderSettings, Track}
use Rattle.apv_encoding.specs.Tracks.{Contents, ended, extra, missing, no_picture, video_exit}
use Rattle.apv_tracks.specs.Kinds.{AreReading}
use Rattle.apv_tracks.specs.Opening.{OpensTracks, TookBefore, TookFile, TookWhereGiven, TracksEnd, by_memory as lacks_memory, by_metadata, by_input, by_tile_qp, by_answer}
use Rattle.apv_tracks.specs.Pictures.{AtTracks, PicturesFail}
use Rattle.apv_tracks.specs.Plain.{plain_settings}
use Rattle.apv_enc.specs.Encoded.{EndsOpened, before_frames, among_frames}
use Rattle.apv_enc.specs.Frames.{AreTracksFor, ArePartlyWritten, AreWritten, EncodedFrames, Ends, IsStopped, OnlyAtFiles, OnlyReads, ReadsStop, WritesStop, in_output, in_recon}
use Rattle.apv_enc.specs.Run.{is_own_answer, names_with}
use Rattle.apv_enc.specs.declared.end.RunEnd.{RunEnd}
use Rattle.apv_enc.proofs.RunTracksLemmas.{at-alpha, at-depth, at-input, at-inputs, at-outputs, at-preview, each-track, no-track, stays}

-- ---- own answers

-- the answers that are an encoder's own
pub data IsOwnExit : Exit → Type 0 where
  own_video : (break : VideoBreak) → IsOwnExit (BadVideo break)
  own_limit : (limit : Limit) (count : ℕ) → IsOwnExit (LimitMet limit count)
  own_payload : (byte : ℕ) → IsOwnExit (BadPayloads byte)
  own_offset : (byte : ℕ) → IsOwnExit (BadTileQp byte)
  own_large : (frame smallest limit : ℕ) → IsOwnExit (TooLarge frame smallest limit)

own-fault : (slot : Slot) (frame : ℕ) (fault : VideoFault) → IsOwnExit (video_exit slot frame fault)
own-fault slot frame (bad rule) = own_video (record { slot = slot; rule = rule; frame = frame })
own-fault slot frame (over limit count) = own_limit limit count

own-format : (settings : EncoderSettings) (file : List ℕ) (exit : Exit) → FormatStops settings file exit → IsOwnExit exit
own-format settings file exit (at_header fault is breaks) = own-fault Input 0 fault
own-format settings file exit (at_input format after fault at check) = own-fault Input 0 fault
own-format settings file exit (at_preview format after fault at check preview) = own-fault Preview 0 fault

-- before the first frame
pub own-before : (settings : EncoderSettings) (inputs : Inputs) (exit : Exit) → StopsBefore settings inputs exit → IsOwnExit exit
own-before settings inputs exit (long_payloads bytes is long) = own_limit L1 (MAX_UNIT + 1)
own-before settings inputs exit (partial_payload bytes byte is few partial) = own_payload byte
own-before settings inputs exit (at_formats e good stops) = own-format settings (inputs.contents Input) exit stops
own-before settings inputs exit (bad_offset format left bytes byte has is wrong) = own_offset byte

own-frames : (settings : EncoderSettings) (inputs : Inputs) (format : Format) (n : ℕ) (left : Contents) (exit : Exit) → EncodingStops settings inputs format n left exit → (exit ≡ Done) ⊎ IsOwnExit exit
own-frames settings inputs format n left exit (by_frames e (ended all)) = inl refl
own-frames settings inputs format n left exit (by_frames e (extra track none turn some)) = inr (own_video (record { slot = track.slot; rule = Extra; frame = n }))
own-frames settings inputs format n left exit (by_frames e (missing track some few turn none)) = inr (own_video (record { slot = track.slot; rule = Missing; frame = n }))
own-frames settings inputs format n left exit (by_frames e (no_picture track fault some turn breaks)) = inr (own-fault track.slot n fault)
own-frames settings inputs format n left exit (too_large pictures after limit smallest first last lt at rate nowhere above) = inr (own_large n smallest limit)
own-frames settings inputs format n left exit (over_limit pictures after q size lt at rate has above) = inr (own_limit L1 size)

-- ---- how the loop over the frames ends, by cases

-- memory ran out, a read or a write failed, or an answer of the files' own
pub data EndsBy (settings : EncoderSettings) (inputs : Inputs) (format : Format) (old new : Slot → SlotView) (units : List EncodedUnit) (rest : Contents) : Exit → Type 0 where
  by_memory : OnlyReads settings inputs format old new → ArePartlyWritten settings inputs format units old new → EndsBy settings inputs format old new units rest Memory
  by_read : (slot : Slot) → ReadsStop settings inputs format old new units slot → EndsBy settings inputs format old new units rest (ReadFailed slot)
  by_write : (slot : Slot) → OnlyReads settings inputs format old new → WritesStop settings inputs format old new units slot → EndsBy settings inputs format old new units rest (WriteFailed slot)
  by_end : IsStopped settings inputs format old new Done units rest → EndsBy settings inputs format old new units rest Done
  by_own : (exit : Exit) → IsOwnExit exit → IsStopped settings inputs format old new exit units rest → EndsBy settings inputs format old new units rest exit

module _ (settings : EncoderSettings) (inputs : Inputs) (format : Format) (old new : Slot → SlotView) (units : List EncodedUnit) (rest : Contents) where
  -- why no access unit follows, where nothing follows what is left
  pub stops-here : (exit : Exit) → IsStopped settings inputs format old new exit units rest → EncodingStops settings inputs format (length units) rest exit
  stops-here exit s = s.stops rest (λ track in-them. sym (append-nil (rest track.slot)))

  ends-stopped : (exit : Exit) → IsStopped settings inputs format old new exit units rest → EndsBy settings inputs format old new units rest exit
  ends-stopped exit s = elim (own-frames settings inputs format (length units) rest exit (stops-here exit s)) [
    | inl done ↦ subst (EndsBy settings inputs format old new units rest) (sym done) (by_end (subst (λ (e : Exit). IsStopped settings inputs format old new e units rest) done s))
    | inr own ↦ by_own exit own s
  ]

  pub ends-by : (exit : Exit) → Ends settings inputs format old new exit units rest → EndsBy settings inputs format old new units rest exit
  ends-by Memory e = by_memory e.0 e.1
  ends-by (ReadFailed slot) e = by_read slot e
  ends-by (WriteFailed slot) e = by_write slot e.0 e.1
  ends-by Done e = ends-stopped Done e
  ends-by (Broken break) e = ends-stopped (Broken break) e
  ends-by (LimitMet limit count) e = ends-stopped (LimitMet limit count) e
  ends-by (OpenFailed slot) e = ends-stopped (OpenFailed slot) e
  ends-by (Usage kind) e = ends-stopped (Usage kind) e
  ends-by (BadVideo break) e = ends-stopped (BadVideo break) e
  ends-by (BadPayloads byte) e = ends-stopped (BadPayloads byte) e
  ends-by (BadTileQp byte) e = ends-stopped (BadTileQp byte) e
  ends-by (FormatChange first other) e = ends-stopped (FormatChange first other) e
  ends-by (NoTag format) e = ends-stopped (NoTag format) e
  ends-by (TooLarge frame smallest limit) e = ends-stopped (TooLarge frame smallest limit) e

-- ---- slots that stay open, and that don't fail

given-open : {T : Type 0} (given : Option T) (old new : SlotView) → TookWhereGiven given old new → StaysOpen old new
given-open None old new e = same-open old new e
given-open (Some x) old new t = left-open old new t.1.rest

given-quiet : {T : Type 0} (given : Option T) (old new : SlotView) → TookWhereGiven given old new → HasNoFault old new
given-quiet None old new e = same-quiet old new e
given-quiet (Some x) old new t = left-quiet old new t.1.rest

file-open : {T : Type 0} (given : Option T) (old : SlotView) (taken : Option (List ℕ)) (new : SlotView) → TookFile given old taken new → StaysOpen old new
file-open None old taken new t = same-open old new t.1
file-open (Some x) old taken new t = left-open old new t.2.rest

file-quiet : {T : Type 0} (given : Option T) (old : SlotView) (taken : Option (List ℕ)) (new : SlotView) → TookFile given old taken new → HasNoFault old new
file-quiet None old taken new t = same-quiet old new t.1
file-quiet (Some x) old taken new t = left-quiet old new t.2.rest

-- a file that is named and was taken is at its end
file-end : {T : Type 0} (given : Option T) (old : SlotView) (taken : Option (List ℕ)) (new : SlotView) → is_some given ≡ true → TookFile given old taken new → IsAtEnd new.left
file-end None old taken new some t = absurd (true≢false (sym some))
file-end (Some x) old taken new some t = t.3

module _ (settings : EncSettings) (old new : Slot → SlotView) where
  took-open : TookBefore settings old new → AllStayOpen old new
  took-open t = at-inputs old new StaysOpen same-open t.others (left-open (old Input) (new Input) t.input.rest) (given-open settings.metadata (old Metadata) (new Metadata) t.metadata) (given-open settings.tile_qp (old TileQp) (new TileQp) t.tile_qp)

  took-quiet : TookBefore settings old new → (slot : Slot) → HasNoFault (old slot) (new slot)
  took-quiet t = at-inputs old new HasNoFault same-quiet t.others (left-quiet (old Input) (new Input) t.input.rest) (given-quiet settings.metadata (old Metadata) (new Metadata) t.metadata) (given-quiet settings.tile_qp (old TileQp) (new TileQp) t.tile_qp)

  tracks-open : (format : Format) (bytes : List ℕ) (tracks : List TrackState) → OpensTracks settings old format bytes tracks new → AllStayOpen old new
  tracks-open format bytes tracks t =
      at-inputs old new StaysOpen same-open t.others (left-open (old Input) (new Input) t.format_at.took.rest) (file-open settings.metadata (old Metadata) t.payloads (new Metadata) t.took_payloads) (file-open settings.tile_qp (old TileQp) t.offsets (new TileQp) t.took_offsets)

  -- the slots of the tracks are still reading
  pub tracks-reading : (format : Format) (bytes : List ℕ) (tracks : List TrackState) → OpensTracks settings old format bytes tracks new → AreReading settings old → AreReading settings new
  tracks-reading format bytes tracks t reading kind in-them = (tracks-open format bytes tracks t kind.slot).mode ∙ reading kind in-them

  tracks-quiet : (format : Format) (bytes : List ℕ) (tracks : List TrackState) → OpensTracks settings old format bytes tracks new → (slot : Slot) → HasNoFault (old slot) (new slot)
  tracks-quiet format bytes tracks t =
      at-inputs old new HasNoFault same-quiet t.others (left-quiet (old Input) (new Input) t.format_at.took.rest) (file-quiet settings.metadata (old Metadata) t.payloads (new Metadata) t.took_payloads) (file-quiet settings.tile_qp (old TileQp) t.offsets (new TileQp) t.took_offsets)

  before-open : (exit : Exit) → TracksEnd settings old new exit → AllStayOpen old new
  before-open exit (lacks_memory t) = took-open t
  before-open exit (by_metadata f) = at-inputs old new StaysOpen same-open f.others (same-open (old Input) (new Input) f.input) (read-open (old Metadata) (new Metadata) f.failed.rest) (same-open (old TileQp) (new TileQp) f.tile_qp)
  before-open exit (by_input f) = at-inputs old new StaysOpen same-open f.others (read-open (old Input) (new Input) f.input.failed.rest) (given-open settings.metadata (old Metadata) (new Metadata) f.metadata) (same-open (old TileQp) (new TileQp) f.tile_qp)
  before-open exit (by_tile_qp f) = at-inputs old new StaysOpen same-open f.others (left-open (old Input) (new Input) f.format_at.took.rest) (given-open settings.metadata (old Metadata) (new Metadata) f.metadata) (read-open (old TileQp) (new TileQp) f.failed.rest)
  before-open exit (by_answer e a) = took-open a.took

-- the slot of each track stays open where reads of one of them failed
failed-tracks-open : (tracks : List Track) (track : Track) (old new : Slot → SlotView) → PicturesFail tracks track old new → AtTracks tracks (λ slot. StaysOpen (old slot) (new slot))
failed-tracks-open tracks track old new f other in-them = elim (f.others other in-them) [
  | inl here ↦ subst (λ (slot : Slot). StaysOpen (old slot) (new slot)) (sym here) (read-open (old track.slot) (new track.slot) f.fault.rest)
  | inr left ↦ left-open (old other.slot) (new other.slot) left
]

module _ (words : EncSettings) (inputs : Inputs) (format : Format) (old new : Slot → SlotView) (units : List EncodedUnit) (others : OnlyAtFiles words old new) where
  abbrev plain : EncoderSettings
  plain = plain_settings words

  abbrev plain_tracks : List Track
  plain_tracks = tracks_for plain inputs format

  reads-open : OnlyReads plain inputs format old new → AtTracks plain_tracks (λ slot. StaysOpen (old slot) (new slot))
  reads-open r track in-them = left-open (old track.slot) (new track.slot) (r track in-them)

  outputs-open : AtTracks plain_tracks (λ slot. StaysOpen (old slot) (new slot)) → StaysOpen (old Output) (new Output) → StaysOpen (old Recon) (new Recon) → AllStayOpen old new
  outputs-open t o r = at-outputs old new StaysOpen same-open words format (tile_offsets inputs.offsets) others t o r

  written-open : AtTracks plain_tracks (λ slot. StaysOpen (old slot) (new slot)) → AreWritten plain inputs format units old new → AllStayOpen old new
  written-open t w = outputs-open t (wrote-open (old Output) (new Output) (enc_out plain units) w.output) (wrote-open (old Recon) (new Recon) (recon_out plain inputs format units) w.recon)

  stop-open : (slot : Slot) → OnlyReads plain inputs format old new → WritesStop plain inputs format old new units slot → AllStayOpen old new
  stop-open slot t (in_output wanted fault recon) = outputs-open (reads-open t) (failed-open (old Output) (new Output) fault.prefix fault.failed) (wrote-open (old Recon) (new Recon) recon.prefix recon.rest)
  stop-open slot t (in_recon wanted fault output) = outputs-open (reads-open t) (wrote-open (old Output) (new Output) (enc_out plain units) output) (failed-open (old Recon) (new Recon) fault.prefix fault.failed)

  -- the loop opens and closes nothing
  ends-open : (rest : Contents) (exit : Exit) → EndsBy plain inputs format old new units rest exit → AllStayOpen old new
  ends-open rest exit (by_memory read w) =
      outputs-open (reads-open read) (wrote-open (old Output) (new Output) w.output.prefix w.output.rest) (wrote-open (old Recon) (new Recon) w.recon.prefix w.recon.rest)
  ends-open rest exit (by_read slot s) = written-open (failed-tracks-open plain_tracks s.track old new s.fails) s.written
  ends-open rest exit (by_write slot read stop) = stop-open slot read stop
  ends-open rest exit (by_end s) = written-open (reads-open s.inputs_read) s.written
  ends-open rest exit (by_own e own s) = written-open (reads-open s.inputs_read) s.written

  stopped-quiet : (exit : Exit) (rest : Contents) → IsStopped plain inputs format old new exit units rest → (slot : Slot) → HasNoFault (old slot) (new slot)
  stopped-quiet exit rest s =
      at-outputs old new HasNoFault same-quiet words format (tile_offsets inputs.offsets) others (λ track in-them. left-quiet (old track.slot) (new track.slot) (s.inputs_read track in-them))
      (wrote-quiet (old Output) (new Output) (enc_out plain units) s.written.output) (wrote-quiet (old Recon) (new Recon) (recon_out plain inputs format units) s.written.recon)

-- ---- causes

own-cause : (names : Names) (start new : Slot → SlotView) (exit : Exit) → IsOwnExit exit → AreSound names start new → HasCause is_own_answer names start new exit
own-cause names start new exit (own_video break) s = (refl, s)
own-cause names start new exit (own_limit limit count) s = (refl, s)
own-cause names start new exit (own_payload byte) s = (refl, s)
own-cause names start new exit (own_offset byte) s = (refl, s)
own-cause names start new exit (own_large frame smallest limit) s = (refl, s)

-- the inputs that are named are at their end: those of tracks, and the files that were read before the first frame
ends-of : (input : Option (List ℕ)) (settings : EncSettings) (new : Slot → SlotView) (format : Format) (inputs : Inputs) → AtTracks (tracks_for (plain_settings settings) inputs format) (λ slot. IsAtEnd (new slot).left) → (is_some settings.metadata ≡ true → IsAtEnd (new Metadata).left)
    → (is_some settings.tile_qp ≡ true → IsAtEnd (new TileQp).left) → AreAtEnd (names_with input settings) new
ends-of name settings new format inputs t m q Input input named = at-input settings (λ slot. IsAtEnd (new slot).left) format (tile_offsets inputs.offsets) t
ends-of name settings new format inputs t m q Preview input named = at-preview settings (λ slot. IsAtEnd (new slot).left) format (tile_offsets inputs.offsets) t named
ends-of name settings new format inputs t m q Depth input named = at-depth settings (λ slot. IsAtEnd (new slot).left) format (tile_offsets inputs.offsets) t named
ends-of name settings new format inputs t m q Alpha input named = at-alpha settings (λ slot. IsAtEnd (new slot).left) format (tile_offsets inputs.offsets) t named
ends-of name settings new format inputs t m q Metadata input named = m named
ends-of name settings new format inputs t m q TileQp input named = q named
ends-of name settings new format inputs t m q Output input named = absurd (true≢false (sym input))
ends-of name settings new format inputs t m q Recon input named = absurd (true≢false (sym input))
ends-of name settings new format inputs t m q MetaOut input named = absurd (true≢false (sym input))
ends-of name settings new format inputs t m q Console input named = absurd (true≢false (sym input))

-- the slot of a track is an input that is named
track-named : (input : Option (List ℕ)) (settings : EncSettings) (format : Format) (inputs : Inputs) → is_some input ≡ true → AtTracks (tracks_for (plain_settings settings) inputs format) (λ slot. IsNamed (names_with input settings) slot × (is_input slot ≡ true))
track-named input settings format inputs given =
    each-track settings (λ slot. IsNamed (names_with input settings) slot × (is_input slot ≡ true)) format (tile_offsets inputs.offsets) (given, refl) (λ named. (named, refl)) (λ named. (named, refl)) (λ named. (named, refl))

-- any inputs with the payloads and the offsets of a run
abbrev pub inputs_with : Contents → Option (List ℕ) → Option (List ℕ) → Inputs
inputs_with contents payloads offsets = record { contents = contents; payloads = payloads; offsets = offsets }

abbrev pub no_contents : Contents
no_contents slot = []

-- what opened tracks is said of equal payloads and tracks
pub tracks-along : (settings : EncSettings) (old new : Slot → SlotView) (format : Format) (bytes list : List ℕ) (tracks states : List TrackState) → list ≡ bytes → states ≡ tracks → OpensTracks settings old format bytes tracks new → OpensTracks settings old format list states new
tracks-along settings old new format bytes list tracks states e f t =
    subst (λ (xs : List ℕ). OpensTracks settings old format xs states new) (sym e) (subst (λ (ts : List TrackState). OpensTracks settings old format bytes ts new) (sym f) t)

-- the tracks that were opened are those for some inputs
pub some-tracks : (settings : EncSettings) (old new : Slot → SlotView) (format : Format) (bytes : List ℕ) (tracks : List TrackState) → OpensTracks settings old format bytes tracks new
    → (inputs : Inputs) × (f : Format) × AreTracksFor (plain_settings settings) inputs f bytes tracks
some-tracks settings old new format bytes tracks t = (inputs_with no_contents t.payloads t.offsets, format, record { carries = t.carries; whole = t.whole; kept = t.kept; passes = t.passes.input; preview_passes = t.passes.preview })

-- frames of a run, whatever its slots hold
pub frames-with : (settings : EncSettings) (contents : Contents) (old mid new : Slot → SlotView) (end : RunEnd) (format : Format) (bytes : List ℕ) (tracks : List TrackState) (t : OpensTracks settings old format bytes tracks mid)
    → ((inputs : Inputs) → AreTracksFor (plain_settings settings) inputs format bytes tracks → EncodedFrames settings inputs format mid end new) → EncodedFrames settings (inputs_with contents t.payloads t.offsets) format mid end new
frames-with settings contents old mid new end format bytes tracks t frames = frames (inputs_with contents t.payloads t.offsets) (record { carries = t.carries; whole = t.whole; kept = t.kept; passes = t.passes.input; preview_passes = t.passes.preview })

-- ---- what stays of slots, whatever the end

module _ (settings : EncSettings) (old new : Slot → SlotView) where
  before-console : (exit : Exit) → TracksEnd settings old new exit → new Console ≡ old Console
  before-console exit (lacks_memory t) = t.others Console
  before-console exit (by_metadata f) = f.others Console
  before-console exit (by_input f) = f.others Console
  before-console exit (by_tile_qp f) = f.others Console
  before-console exit (by_answer e a) = a.took.others Console

  -- the console is as before
  pub console-of : (end : RunEnd) → EndsOpened settings old new end → new Console ≡ old Console
  console-of end (before_frames ends) = before-console end.exit ends
  console-of end (among_frames format bytes tracks mid t frames) =
      let d = frames-with settings no_contents old mid new end format bytes tracks t frames in
      stays settings mid new d.others Console (no-track settings Console refl refl refl refl) refl refl ∙ t.others Console

  -- each slot is open as it was
  pub stay-open : (end : RunEnd) → EndsOpened settings old new end → AllStayOpen old new
  stay-open end (before_frames ends) = before-open settings old new end.exit ends
  stay-open end (among_frames format bytes tracks mid t frames) =
      let inputs : Inputs = inputs_with no_contents t.payloads t.offsets in
      let d = frames-with settings no_contents old mid new end format bytes tracks t frames in
      open-then old mid new (tracks-open settings old mid format bytes tracks t)
      (ends-open settings inputs format mid new d.units d.others d.rest end.exit (ends-by (plain_settings settings) inputs format mid new d.units d.rest end.exit d.ends))

-- a run on slots that were opened by these names, of which Input has one
module _ (settings : EncSettings) (input : Option (List ℕ)) (start old new : Slot → SlotView) (given : is_some input ≡ true) (quiet-start : HaveNoFault start old) (are-opened : AreOpen (names_with input settings) old) where
  abbrev names : Names
  names = names_with input settings

  quiet-now : ((slot : Slot) → HasNoFault (old slot) (new slot)) → HaveNoFault start new
  quiet-now all = all-quiet-then start old new quiet-start (at-files (λ slot. HasNoFault (old slot) (new slot)) (λ slot file. all slot))

  open-now : AllStayOpen old new → AreOpen names new
  open-now stay = open-still names old new stay are-opened

  before-cause : (exit : Exit) → AreOpen names new → TracksEnd settings old new exit → HasCause is_own_answer names start new exit
  before-cause exit is_open (lacks_memory t) = tt
  before-cause exit is_open (by_metadata f) = record { are_open = is_open; named = f.given; input = refl; rose = subst (λ (n : ℕ). Rose n (new Metadata).read_faults) (quiet-start Metadata).reads f.failed.fault.rose }
  before-cause exit is_open (by_input f) = record { are_open = is_open; named = given; input = refl; rose = subst (λ (n : ℕ). Rose n (new Input).read_faults) (quiet-start Input).reads f.input.failed.fault.rose }
  before-cause exit is_open (by_tile_qp f) = record { are_open = is_open; named = f.given; input = refl; rose = subst (λ (n : ℕ). Rose n (new TileQp).read_faults) (quiet-start TileQp).reads f.failed.fault.rose }
  before-cause exit is_open (by_answer e a) =
      own-cause names start new exit (own-before (plain_settings settings) a.inputs exit a.stops) (record { are_open = is_open; quiet = quiet-now (took-quiet settings old new a.took) })

  module _ (format : Format) (bytes : List ℕ) (tracks : List TrackState) (mid : Slot → SlotView) (t : OpensTracks settings old format bytes tracks mid) (inputs : Inputs) where
    quiet-mid : HaveNoFault start mid
    quiet-mid = all-quiet-then start old mid quiet-start (at-files (λ slot. HasNoFault (old slot) (mid slot)) (λ slot file. tracks-quiet settings old mid format bytes tracks t slot))

    stopped-sound : (units : List EncodedUnit) (rest : Contents) (exit : Exit) → OnlyAtFiles settings mid new → AreOpen names new → IsStopped (plain_settings settings) inputs format mid new exit units rest → AreSound names start new
    stopped-sound units rest exit others is_open s = record {
      are_open = is_open;
      quiet = all-quiet-then start mid new quiet-mid
          (at-files (λ slot. HasNoFault (mid slot) (new slot)) (λ slot file. stopped-quiet settings inputs format mid new units others exit rest s slot));
    }

    -- a read of the slot of a track failed
    unread-cause : (track : Track) → AreOpen names new → PicturesFail (tracks_for (plain_settings settings) inputs format) track mid new → IsUnread names track.slot start new
    unread-cause track is_open f =
        let is = track-named input settings format inputs given track f.among in
        let quiet = at-file (λ slot. HasNoFault (start slot) (mid slot)) quiet-mid track.slot (input-file track.slot is.1) in
        record { are_open = is_open; named = is.0; input = is.1; rose = subst (λ (n : ℕ). Rose n (new track.slot).read_faults) quiet.reads f.fault.fault.rose }

    stop-cause : (units : List EncodedUnit) (slot : Slot) → AreOpen names new → WritesStop (plain_settings settings) inputs format mid new units slot → IsNotWritten names slot start new
    stop-cause units slot is_open (in_output wanted fault recon) =
        record { are_open = is_open; named = wanted; output = refl; rose = subst (λ (n : ℕ). Rose n (new Output).write_faults) (quiet-mid Output).writes fault.failed.fault.rose }
    stop-cause units slot is_open (in_recon wanted fault output) =
        record { are_open = is_open; named = wanted; output = refl; rose = subst (λ (n : ℕ). Rose n (new Recon).write_faults) (quiet-mid Recon).writes fault.failed.fault.rose }

    frames-cause : (units : List EncodedUnit) (rest : Contents) (exit : Exit) → OnlyAtFiles settings mid new → AreOpen names new → EndsBy (plain_settings settings) inputs format mid new units rest exit → HasCause is_own_answer names start new exit
    frames-cause units rest exit others is_open (by_memory read w) = tt
    frames-cause units rest exit others is_open (by_read slot s) = subst (λ (x : Slot). IsUnread names x start new) (sym s.of_track) (unread-cause s.track is_open s.fails)
    frames-cause units rest exit others is_open (by_write slot read stop) = stop-cause units slot is_open stop
    frames-cause units rest exit others is_open (by_end s) = (
      stopped-sound units rest Done others is_open s,
      ends-of input settings new format inputs (s.end refl)
          (λ some. subst (λ (view : SlotView). IsAtEnd view.left) (sym (stays settings mid new others Metadata (no-track settings Metadata refl refl refl refl) refl refl)) (file-end settings.metadata (old Metadata) t.payloads (mid Metadata) some t.took_payloads))
          (λ some. subst (λ (view : SlotView). IsAtEnd view.left) (sym (stays settings mid new others TileQp (no-track settings TileQp refl refl refl refl) refl refl)) (file-end settings.tile_qp (old TileQp) t.offsets (mid TileQp) some t.took_offsets)),
    )
    frames-cause units rest exit others is_open (by_own e own s) = own-cause names start new exit own (stopped-sound units rest exit others is_open s)

  pub open-after : (end : RunEnd) → EndsOpened settings old new end → AreOpen names new
  open-after end e = open-now (stay-open settings old new end e)

  pub cause-of : (end : RunEnd) → EndsOpened settings old new end → HasCause is_own_answer names start new end.exit
  cause-of end (before_frames ends) = before-cause end.exit (open-after end (before_frames ends)) ends
  cause-of end (among_frames format bytes tracks mid t frames) =
      let inputs : Inputs = inputs_with no_contents t.payloads t.offsets in
      let d = frames-with settings no_contents old mid new end format bytes tracks t frames in
      frames-cause format bytes tracks mid t inputs d.units d.rest end.exit d.others (open-after end (among_frames format bytes tracks mid t frames)) (ends-by (plain_settings settings) inputs format mid new d.units d.rest end.exit d.ends)

  pub named-after : (end : RunEnd) → EndsOpened settings old new end → AreNamed names new
  named-after end e = open-are-named names new (open-after end e)
