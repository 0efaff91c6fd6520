-- Frames are read and written one at a time.
use Rattle.std.proofs.Common.{Contains, ◌≡◌, ℕ, zero, suc, ◌+◌, ◌<◌, ◌≤◌, List, [], ◌∷◌, ◌++◌, length, take, refl, sym, ap, ◌∙◌, subst, arith, Option, Some, None, is_some, true, false, not, inl, inr, append_assoc, length-append, true≢false}
use Rattle.std.proofs.lemmas.List.{append_cancel_left}
use Rattle.std.proofs.lemmas.Bool.{and_parts}
use Rattle.std.specs.List.{list_all}
use Rattle.std.specs.Prelude.{not, ◌==◌}
use Rattle.std.specs.Io.KnownBytes.{append_known, prepend_known, IsAtEnd}
use Rattle.apv_base.specs.declared.exits.Exit.{Exit}
use Rattle.apv_base.specs.declared.format.Format.{Format}
use Rattle.apv_base.specs.declared.options.Form.{Form}
use Rattle.apv_base.specs.declared.options.Form.TheVariants.{Planar, Y4m}
use Rattle.apv_base.specs.declared.slot.Slot.{Slot}
use Rattle.apv_base.specs.declared.slot.Slot.TheVariants.{Input, Output, Recon}
use Rattle.apv_base.specs.model.Picture.{Samples, picture, picture_len}
use Rattle.apv_base.specs.model.Video.{FrameLineAt, planar as no_line, named, spaced, PictureAt}
use Rattle.apv_files.specs.SlotView.{SlotView}
use Rattle.apv_quant.specs.Laws.{HasOneNearest}
use Rattle.apv_run.specs.Cause.{AreUnwritten, is_write_fault}
use Rattle.apv_run.specs.Known.{BeginsWith, IsKnownAs, IsPrefixOf}
use Rattle.apv_run.proofs.WrittenLemmas.{begins-none, begins-written, has-written, take-first, take-next}
use Rattle.apv_run.proofs.KnownLemmas.{prefix-none}
use Rattle.apv_video.specs.Line.{HasNoFeed}
use Rattle.apv_video.specs.ReadFrame.{IsWithinPicture, form_of as shape_form}
use Rattle.apv_words.specs.declared.encoder.EncSettings.{EncSettings}
use Rattle.apv_encoding.specs.AccessUnit.{Pictures, EncodedUnit}
use Rattle.apv_encoding.specs.Answer.{AreEncoded, FormatAt, of_words, of_header, HasFormats, Inputs, enc_out, from_first_frame, recon_out, tile_offsets, tracks_for}
use Rattle.apv_enc.specs.ByFrame.{AreFramesBefore, EndsWith, IsEncodedByFrame, IsLeftAfter, IsPictureByPicture, IsReadInto, IsReadUpTo, IsUnitByUnit, IsWithinFrame}
use Rattle.apv_enc.specs.Frames.{AreWritten, EndsWithin, reading, writing, WritesUnit, to_output, to_recon}
use Rattle.apv_encoding.specs.Laws.{AreSoundSettings, Encoding, HasEncoding}
use Rattle.apv_tracks.specs.Format.{IsWithinHeader, input_shape}
use Rattle.apv_tracks.specs.Plain.{given_format, plain_settings, source_by}
use Rattle.apv_enc.specs.Run.{AreFiles, AreKnown, input_content}
use Rattle.apv_enc.specs.declared.end.RunEnd.{RunEnd}
use Rattle.apv_encoding.specs.Settings.{EncoderSettings, Source, Track, primary_track}
use Rattle.apv_encoding.specs.Tracks.{Contents, form_of, FrameAt, FramesAt}
use Rattle.apv_encoding.proofs.OneAnswerLemmas.{one-formats}
use Rattle.apv_encoding.proofs.PictureLemmas.{length-picture, one-prefix}
use Rattle.apv_enc.proofs.RunEncodedLemmas.{HoldPrefixes, head-output, head-recon, mid-output, mid-recon, more-units, out-append, out-none, ran-begins, ran-formats, ran-frames, ran-prefixes, recon-none}
use Rattle.apv_enc.proofs.RunOutcomeLemmas.{Outcome, at_head, at_frames, RanFrames, StopsInHead, input-known}
use Rattle.apv_enc.proofs.RunPrefixLemmas.{BeginsSo}
use Rattle.apv_enc.proofs.RunTracksLemmas.{at-input}
use Rattle.apv_encoding.proofs.TracksLemmas.{AreSameAt, after-same, frame-along, frames-along}

-- ---- ends of bytes

ends-none : (bytes : List ℕ) → EndsWith bytes bytes
ends-none bytes = ([], refl)

ends-then : (a b c : List ℕ) → EndsWith a b → EndsWith b c → EndsWith a c
ends-then a b c p q = (p.0 ++ q.0, p.1 ∙ ap (λ (xs : List ℕ). p.0 ++ xs) q.1 ∙ sym (append_assoc p.0 q.0 c))

-- of two ends of the same bytes the shorter is an end of the longer
later : (a b c d : List ℕ) → a ++ b ≡ c ++ d → length d ≤ length b → EndsWith b d
later [] b c d e le = (c, e)
later (x ∷ a) b [] d e le = absurd (omega (arith, ap (length {A = ℕ}) e, length-append a b, le))
later (x ∷ a) b (y ∷ c) d e le = let tails : a ++ b ≡ c ++ d = cc (e) in later a b c d tails le

-- ---- the header

-- bytes without a line feed are within the first line
free-later : (taken left line begin : List ℕ) → HasNoFeed taken → taken ++ left ≡ line ++ 10 ∷ begin → EndsWith left begin
free-later [] left line begin free e = (line ++ 10 ∷ [], e ∙ sym (append_assoc line (10 ∷ []) begin))
free-later (x ∷ taken) left [] begin free e =
    let head : x ≡ 10 = cc (e) in
    let bad : HasNoFeed (10 ∷ taken) = subst (λ (k : ℕ). HasNoFeed (k ∷ taken)) head free in
    absurd (true≢false (sym bad))
free-later (x ∷ taken) left (y ∷ line) begin free e =
    let tails : taken ++ left ≡ line ++ 10 ∷ begin = cc (e) in
    free-later taken left line begin (and_parts (not (x == 10)) (list_all (λ byte. not (byte == 10)) taken) free).1 tails

-- no byte after the header was taken
header-later : (form : Form) (given : Format) (file : List ℕ) (format : Format) (begin taken left : List ℕ) → IsWithinHeader form taken → FormatAt file (source_by form given) format begin → file ≡ taken ++ left → EndsWith left begin
header-later Planar given file format begin taken left within (of_words f) e = ([], sym (e ∙ ap (λ (xs : List ℕ). xs ++ left) within))
header-later Y4m given file format begin taken left (inl free) (of_header f a p) e = free-later taken left p.line begin free (sym e ∙ p.line_at.bytes)
header-later Y4m given file format begin taken left (inr whole) (of_header f a p) e =
    let here : file ≡ whole.0 ++ 10 ∷ left = e ∙ ap (λ (xs : List ℕ). xs ++ left) whole.2 ∙ append_assoc whole.0 (10 ∷ []) left in
    ([], (one-prefix file whole.0 p.line left begin (here, whole.1) (p.line_at.bytes, p.line_at.first)).1)

-- ---- frames

line-ends : (xs : List ℕ) (form : Form) (start : List ℕ) → FrameLineAt xs form start → EndsWith xs start
line-ends xs Planar start no_line = ([], refl)
line-ends xs Y4m start (named line after at e) = (line ++ 10 ∷ [], at.bytes ∙ sym (append_assoc line (10 ∷ []) start))
line-ends xs Y4m start (spaced line after more at e) = (line ++ 10 ∷ [], at.bytes ∙ sym (append_assoc line (10 ∷ []) start))

picture-ends : (format : Format) (form : Form) (xs : List ℕ) (samples : Samples) (after : List ℕ) → PictureAt format form xs samples after → EndsWith xs after
picture-ends format form xs samples after p = ends-then xs p.start after (line-ends xs form p.start p.prefix) (picture format samples, p.bytes)

module _ (settings : EncSettings) (inputs : Inputs) (format : Format) where
  -- the first track is that of Input
  first-in : Contains (tracks_for (plain_settings settings) inputs format) (primary_track (plain_settings settings) format (tile_offsets inputs.offsets))
  first-in = (0, omega arith, refl)

  picture-of : (left : Contents) (pictures : Pictures) (after : Contents) → FrameAt (plain_settings settings).source (tracks_for (plain_settings settings) inputs format) left pictures after
      → PictureAt format (form_of (plain_settings settings).source Input) (left Input) (pictures Input) (after Input)
  picture-of left pictures after at = at (primary_track (plain_settings settings) format (tile_offsets inputs.offsets)) first-in

  same-input : (a b : Contents) → AreSameAt (tracks_for (plain_settings settings) inputs format) a b → a Input ≡ b Input
  same-input a b same = same (primary_track (plain_settings settings) format (tile_offsets inputs.offsets)) first-in

  frame-ends : (left : Contents) (pictures : Pictures) (after : Contents) → FrameAt (plain_settings settings).source (tracks_for (plain_settings settings) inputs format) left pictures after → EndsWith (left Input) (after Input)
  frame-ends left pictures after at = picture-ends format (form_of (plain_settings settings).source Input) (left Input) (pictures Input) (after Input) (picture-of left pictures after at)

  frames-ends : (left : Contents) (frames : List Pictures) (after : Contents) → FramesAt (plain_settings settings).source (tracks_for (plain_settings settings) inputs format) left frames after → EndsWith (left Input) (after Input)
  frames-ends left [] after at = ([], same-input left after at)
  frames-ends left (pictures ∷ frames) after at = ends-then (left Input) (at.0 Input) (after Input) (frame-ends left pictures at.0 at.1) (frames-ends at.0 frames after at.2)

  -- as many frames end at one place
  same-frames : (left : Contents) (frames others : List Pictures) (a b : Contents) → length frames ≡ length others → FramesAt (plain_settings settings).source (tracks_for (plain_settings settings) inputs format) left frames a
      → FramesAt (plain_settings settings).source (tracks_for (plain_settings settings) inputs format) left others b → AreSameAt (tracks_for (plain_settings settings) inputs format) a b
  same-frames left [] [] a b e p q = λ track in-them. sym (p track in-them) ∙ q track in-them
  same-frames left [] (y ∷ others) a b e p q = absurd (omega (arith, e))
  same-frames left (x ∷ frames) [] a b e p q = absurd (omega (arith, e))
  same-frames left (x ∷ frames) (y ∷ others) a b e p q =
      let source : Source = (plain_settings settings).source in
      let tracks : List Track = tracks_for (plain_settings settings) inputs format in
      same-frames q.0 frames others a b (omega (arith, e)) (frames-along source tracks p.0 q.0 frames a (after-same source tracks left x y p.0 q.0 p.1 q.1) p.2) q.2

  -- one frame more
  next-frame : (left : Contents) (frames others : List Pictures) (a b : Contents) → length others ≡ suc (length frames) → FramesAt (plain_settings settings).source (tracks_for (plain_settings settings) inputs format) left frames a
      → FramesAt (plain_settings settings).source (tracks_for (plain_settings settings) inputs format) left others b
      → (pictures : Pictures) × (after : Contents) × FrameAt (plain_settings settings).source (tracks_for (plain_settings settings) inputs format) a pictures after × (after Input ≡ b Input)
  next-frame left [] [] a b e p q = absurd (omega (arith, e))
  next-frame left [] (y ∷ []) a b e p q =
      (y, q.0, frame-along (plain_settings settings).source (tracks_for (plain_settings settings) inputs format) left a y q.0 p q.1, same-input q.0 b q.2)
  next-frame left [] (y ∷ z ∷ others) a b e p q = absurd (omega (arith, e))
  next-frame left (x ∷ frames) [] a b e p q = absurd (omega (arith, e))
  next-frame left (x ∷ frames) (y ∷ others) a b e p q =
      let source : Source = (plain_settings settings).source in
      let tracks : List Track = tracks_for (plain_settings settings) inputs format in
      next-frame q.0 frames others a b (omega (arith, e)) (frames-along source tracks p.0 q.0 frames a (after-same source tracks left x y p.0 q.0 p.1 q.1) p.2) q.2

  -- all frames but the last
  init-frames : (left : Contents) (frames : List Pictures) (after : Contents) (n : ℕ) → length frames ≡ suc n → FramesAt (plain_settings settings).source (tracks_for (plain_settings settings) inputs format) left frames after
      → (first : List Pictures) × (mid : Contents) × (length first ≡ n) × FramesAt (plain_settings settings).source (tracks_for (plain_settings settings) inputs format) left first mid × EndsWith (mid Input) (after Input)
  init-frames left [] after n e at = absurd (omega (arith, e))
  init-frames left (x ∷ []) after n e at = ([], left, omega (arith, e), (λ track in-them. refl), frames-ends left (x ∷ []) after at)
  init-frames left (x ∷ y ∷ frames) after zero e at = absurd (omega (arith, e))
  init-frames left (x ∷ y ∷ frames) after (suc n) e at =
      let more = init-frames at.0 (y ∷ frames) after n (omega (arith, e)) at.2 in
      (x ∷ more.0, more.1, omega (arith, more.2), (at.0, at.1, more.3), more.4)

encoded-length : (settings : EncoderSettings) (inputs : Inputs) (format : Format) (frames : List Pictures) (units : List EncodedUnit) → AreEncoded settings inputs format frames units → length frames ≡ length units
encoded-length settings inputs format [] units e = sym (ap (length {A = EncodedUnit}) e)
encoded-length settings inputs format (pictures ∷ frames) [] e = absurd e
encoded-length settings inputs format (pictures ∷ frames) (unit ∷ units) e = ap suc (encoded-length settings inputs format frames units e.1)

-- ---- what is known to be left

known-parts : (known : Option (List ℕ)) (bytes taken rest left : List ℕ) → known ≡ prepend_known (bytes ++ taken) (Some left) → IsKnownAs known (bytes ++ rest) → rest ≡ taken ++ left
known-parts known bytes taken rest left e told =
    let all : (bytes ++ taken) ++ left ≡ bytes ++ rest = subst (λ (k : Option (List ℕ)). IsKnownAs k (bytes ++ rest)) e told in
    append_cancel_left bytes rest (taken ++ left) (sym all ∙ append_assoc bytes taken left)

-- ---- within a frame

-- the form of the pictures of Input is that of the settings
shape-form-is : (form : Form) (given format : Format) → shape_form (input_shape form format) ≡ form_of (source_by form given) Input
shape-form-is Planar given format = refl
shape-form-is Y4m given format = refl

module _ (settings : EncSettings) (inputs : Inputs) where
  abbrev file : List ℕ
  file = inputs.contents Input

  -- where so many frames begin
  position : (format : Format) (begin : List ℕ) (frames : List Pictures) (after : Contents) (count : ℕ) → HasFormats (plain_settings settings) inputs format begin → length frames ≡ count
      → FramesAt (plain_settings settings).source (tracks_for (plain_settings settings) inputs format) (from_first_frame inputs.contents begin) frames after → EndsWith file begin
      → (before : List ℕ) × IsLeftAfter (plain_settings settings) inputs count before × EndsWith before (after Input)
  position format begin frames after zero has number at ends =
      (file, refl, ends-then file begin (after Input) ends (frames-ends settings inputs format (from_first_frame inputs.contents begin) frames after at))
  position format begin frames after (suc count) has number at ends =
      (after Input, record { format = format; begin = begin; formats = has; frames = frames; number = number; after = after; frames_at = at; input = refl }, ends-none (after Input))

  -- the run ended within the header
  head-within : (taken left : List ℕ) → IsWithinHeader settings.form taken → file ≡ taken ++ left → IsWithinFrame (plain_settings settings) inputs 0 left
  head-within taken left within e = record {
    before = file;
    after_frames = refl;
    not_before = (taken, e);
    not_after = λ next (a : AreFramesBefore (plain_settings settings) inputs 1 next).
        ends-then left a.begin next (header-later settings.form (given_format settings) file a.format a.begin taken left within a.formats.format_at e)
        (subst (EndsWith a.begin) a.input (frames-ends settings inputs a.format (from_first_frame inputs.contents a.begin) a.frames a.after a.frames_at));
  }

  module _ (format : Format) (old mid new : Slot → SlotView) (end : RunEnd) (r : RanFrames settings inputs format old mid new end) where
    abbrev bytes_of : List ℕ
    bytes_of = r.ran.bytes Input

    abbrev rest_of : List ℕ
    rest_of = r.ran.rest Input

    ends-begin : EndsWith file (bytes_of ++ rest_of)
    ends-begin = (r.head, r.parts)

    -- other frames of the same format, from the same start
    same-start : (count : ℕ) (left : List ℕ) (a : AreFramesBefore (plain_settings settings) inputs count left)
        → FramesAt (plain_settings settings).source (tracks_for (plain_settings settings) inputs format) (from_first_frame inputs.contents (bytes_of ++ rest_of)) a.frames a.after
    same-start count left a =
        let has = ran-formats settings inputs format old mid new end r in
        let formats = one-formats (plain_settings settings) inputs a.format format a.begin (bytes_of ++ rest_of) a.formats has in
        subst (λ (f : Format). FramesAt (plain_settings settings).source (tracks_for (plain_settings settings) inputs f) (from_first_frame inputs.contents (bytes_of ++ rest_of)) a.frames a.after) formats.0
        (subst (λ (xs : List ℕ). FramesAt (plain_settings settings).source (tracks_for (plain_settings settings) inputs a.format) (from_first_frame inputs.contents xs) a.frames a.after) formats.1 a.frames_at)

    number-of : length r.ran.frames ≡ length r.ran.units
    number-of = encoded-length (plain_settings settings) inputs format r.ran.frames r.ran.units r.ran.encoded

    -- no byte after the next picture was taken
    picture-later : (taken left next : List ℕ) (samples : Samples) → IsWithinPicture (input_shape settings.form format) taken → rest_of ≡ taken ++ left → PictureAt format (form_of (plain_settings settings).source Input) rest_of samples next → EndsWith left next
    picture-later taken left next samples within e p =
        let line : FrameLineAt (taken ++ left) (shape_form (input_shape settings.form format)) p.start = subst (λ (form : Form). FrameLineAt (taken ++ left) form p.start) (sym (shape-form-is settings.form (given_format settings) format)) (subst (λ (xs : List ℕ). FrameLineAt xs (form_of (plain_settings settings).source Input) p.start) e p.prefix) in
        let size : length p.start ≡ picture_len format + length next = ap (length {A = ℕ}) p.bytes ∙ length-append (picture format samples) next ∙ ap (λ (n : ℕ). n + length next) (length-picture format samples) in
        let most : length p.start ≤ picture_len format + length left = within left p.start line (omega (arith, size)) in
        let ends = picture-ends format (form_of (plain_settings settings).source Input) rest_of samples next p in
        later taken left ends.0 next (sym e ∙ ends.1) (omega (arith, size, most))

    reading-within : (taken left : List ℕ) → IsWithinPicture (input_shape settings.form format) taken → rest_of ≡ taken ++ left → IsWithinFrame (plain_settings settings) inputs (length r.ran.units) left
    reading-within taken left within e =
        let has = ran-formats settings inputs format old mid new end r in
        let frames = ran-frames settings inputs format old mid new end r in
        let here = position format (bytes_of ++ rest_of) r.ran.frames r.ran.rest (length r.ran.units) has number-of frames ends-begin in
        record {
          before = here.0;
          after_frames = here.1;
          not_before = ends-then here.0 rest_of left here.2 (taken, e);
          not_after = λ next (a : AreFramesBefore (plain_settings settings) inputs (suc (length r.ran.units)) next).
              let more = next-frame settings inputs format (from_first_frame inputs.contents (bytes_of ++ rest_of)) r.ran.frames a.frames r.ran.rest a.after (omega (arith, a.number, number-of)) frames (same-start (suc (length r.ran.units)) next a) in
              subst (EndsWith left) (more.3 ∙ a.input) (picture-later taken left (more.1 Input) (more.0 Input) within e (picture-of settings inputs format r.ran.rest more.0 more.1 more.2));
        }

    module _ (before : List EncodedUnit) (unit : EncodedUnit) (parts : r.ran.units ≡ before ++ unit ∷ []) (left : List ℕ) (e : rest_of ≡ left) where
      number-next : length r.ran.frames ≡ suc (length before)
      number-next = omega (arith, number-of, ap (length {A = EncodedUnit}) parts, length-append before (unit ∷ []))

      whole-frame : IsLeftAfter (plain_settings settings) inputs (suc (length before)) left
      whole-frame = record {
        format = format;
        begin = bytes_of ++ rest_of;
        formats = ran-formats settings inputs format old mid new end r;
        frames = r.ran.frames;
        number = number-next;
        after = r.ran.rest;
        frames_at = ran-frames settings inputs format old mid new end r;
        input = e;
      }

      writing-within : IsWithinFrame (plain_settings settings) inputs (length before) left
      writing-within =
          let start : Contents = from_first_frame inputs.contents (bytes_of ++ rest_of) in
          let has = ran-formats settings inputs format old mid new end r in
          let frames = ran-frames settings inputs format old mid new end r in
          let first = init-frames settings inputs format start r.ran.frames r.ran.rest (length before) number-next frames in
          let here = position format (bytes_of ++ rest_of) first.0 first.1 (length before) has first.2 first.3 ends-begin in
          record {
            before = here.0;
            after_frames = here.1;
            not_before = subst (EndsWith here.0) e (ends-then here.0 (first.1 Input) rest_of here.2 first.4);
            not_after = λ next (a : AreFramesBefore (plain_settings settings) inputs (suc (length before)) next).
                let same = same-input settings inputs format r.ran.rest a.after (same-frames settings inputs format start r.ran.frames a.frames r.ran.rest a.after (number-next ∙ sym a.number) frames (same-start (suc (length before)) next a)) in
                ([], sym e ∙ same ∙ a.input);
          }

-- ---- outputs

module _ (settings : EncoderSettings) (inputs : Inputs) (format : Format) (old new : Slot → SlotView) (no_output : IsAtEnd (old Output).written) (no_recon : IsAtEnd (old Recon).written) (before : List EncodedUnit) (unit : EncodedUnit) where
  writes-output : WritesUnit settings inputs format old new before unit → BeginsWith (new Output).written (enc_out settings before)
  writes-output (to_output output recon) = has-written (old Output) (new Output) (enc_out settings before) no_output output.0 output.1
  writes-output (to_recon output recon) =
      has-written (old Output) (new Output) (enc_out settings before) no_output (enc_out settings (unit ∷ [])) (ap (λ (p : SlotView). p.written) output ∙ ap (append_known (old Output).written) (out-append settings before (unit ∷ [])))

  writes-recon : WritesUnit settings inputs format old new before unit → BeginsWith (new Recon).written (recon_out settings inputs format before)
  writes-recon (to_output output recon) = begins-written (old Recon) (new Recon) (recon_out settings inputs format before) no_recon recon
  writes-recon (to_recon output recon) = has-written (old Recon) (new Recon) (recon_out settings inputs format before) no_recon recon.0 recon.1

module _ (settings : EncoderSettings) (inputs : Inputs) (format : Format) (all first next : List EncodedUnit) (count : ℕ) (is_first : take count all ≡ first) (is_next : take (count + 1) all ≡ next) (views : Slot → SlotView) (h : HoldPrefixes settings inputs format next views) where
  unit-by-unit : BeginsWith (views Output).written (enc_out settings first) → IsUnitByUnit settings all count (views Output).written
  unit-by-unit begins = record {
    whole = subst (λ (us : List EncodedUnit). BeginsWith (views Output).written (enc_out settings us)) (sym is_first) begins;
    no_more = subst (λ (us : List EncodedUnit). IsPrefixOf (views Output).written (enc_out settings us)) (sym is_next) h.output;
  }

  picture-by-picture : BeginsWith (views Recon).written (recon_out settings inputs format first) → (other : Format) → format ≡ other → IsPictureByPicture settings inputs other all count (views Recon).written
  picture-by-picture begins other same = subst (λ (f : Format). IsPictureByPicture settings inputs f all count (views Recon).written) same (record {
    whole = subst (λ (us : List EncodedUnit). BeginsWith (views Recon).written (recon_out settings inputs format us)) (sym is_first) begins;
    no_more = subst (λ (us : List EncodedUnit). IsPrefixOf (views Recon).written (recon_out settings inputs format us)) (sym is_next) h.recon;
  })

-- ---- a run

known-rest : (known : Option (List ℕ)) (bytes rest left : List ℕ) → known ≡ prepend_known bytes (Some left) → IsKnownAs known (bytes ++ rest) → rest ≡ left
known-rest known bytes rest left e told =
    let all : bytes ++ left ≡ bytes ++ rest = subst (λ (k : Option (List ℕ)). IsKnownAs k (bytes ++ rest)) e told in
    append_cancel_left bytes rest left (sym all)

known-some : (known : Option (List ℕ)) (bytes : List ℕ) → is_some known ≡ true → IsKnownAs known bytes → known ≡ Some bytes
known-some None bytes some k = absurd (true≢false (sym some))
known-some (Some xs) bytes some k = ap Some k

file-of : (known : Option (List ℕ)) (file taken left : List ℕ) → known ≡ Some file → known ≡ prepend_known taken (Some left) → file ≡ taken ++ left
file-of known file taken left is e = let same : Some file ≡ Some (taken ++ left) = sym is ∙ e in cc

module _ (settings : EncSettings) (nearest : HasOneNearest) (sound : AreSoundSettings (plain_settings settings)) (old new : Slot → SlotView) (none : AreUnwritten old) (inputs : Inputs) (end : RunEnd) (encoding : Encoding)
    (made : HasEncoding (plain_settings settings) inputs encoding) where
  module _ (is : (old Input).left ≡ Some (inputs.contents Input)) (h : StopsInHead settings old new) where
    head-into : (known : Option (List ℕ)) → (old Input).left ≡ prepend_known h.taken known → IsReadInto (plain_settings settings) inputs 0 known
    head-into None e = tt
    head-into (Some left) e = head-within settings inputs h.taken left h.within (file-of (old Input).left (inputs.contents Input) h.taken left is e)

    by-head : is_write_fault end.exit ≡ false → IsEncodedByFrame (plain_settings settings) inputs encoding.units end.exit (new Input).left new
    by-head quiet =
        let s : EncoderSettings = plain_settings settings in
        record {
          count = 0;
          among = omega arith;
          output = record {
            whole = subst (BeginsWith (new Output).written) (sym (out-none s)) (begins-none (new Output).written);
            no_more = prefix-none (new Output).written (enc_out s (take 1 encoding.units)) (head-output settings old new none inputs h);
          };
          recon = λ format begin has. record {
            whole = subst (BeginsWith (new Recon).written) (sym (recon-none s inputs format)) (begins-none (new Recon).written);
            no_more = prefix-none (new Recon).written (recon_out s inputs format (take 1 encoding.units)) (head-recon settings old new none inputs h);
          };
          input = head-into (new Input).left h.left;
          written = λ fault. absurd (true≢false (sym fault ∙ quiet));
        }

  module _ (format : Format) (mid : Slot → SlotView) (r : RanFrames settings inputs format old mid new end) where
    abbrev bytes_read : List ℕ
    bytes_read = r.ran.bytes Input

    abbrev rest_left : List ℕ
    rest_left = r.ran.rest Input

    told-input : IsKnownAs (mid Input).left (bytes_read ++ rest_left)
    told-input = at-input settings (λ slot. IsKnownAs (mid slot).left (r.ran.bytes slot ++ r.ran.rest slot)) format (tile_offsets inputs.offsets) r.ran.told

    reading-into : (taken : List ℕ) → IsWithinPicture (input_shape settings.form format) taken → (known : Option (List ℕ)) → (mid Input).left ≡ prepend_known (bytes_read ++ taken) known → IsReadInto (plain_settings settings) inputs (length r.ran.units) known
    reading-into taken within None e = tt
    reading-into taken within (Some left) e = reading-within settings inputs format old mid new end r taken left within (known-parts (mid Input).left bytes_read taken rest_left left e told-input)

    writing-into : (before : List EncodedUnit) (unit : EncodedUnit) → r.ran.units ≡ before ++ unit ∷ [] → (known : Option (List ℕ)) → (mid Input).left ≡ prepend_known bytes_read known → IsReadInto (plain_settings settings) inputs (length before) known
    writing-into before unit parts None e = tt
    writing-into before unit parts (Some left) e = writing-within settings inputs format old mid new end r before unit parts left (known-rest (mid Input).left bytes_read rest_left left e told-input)

    writing-up-to : (before : List EncodedUnit) (unit : EncodedUnit) → r.ran.units ≡ before ++ unit ∷ [] → (known : Option (List ℕ)) → (mid Input).left ≡ prepend_known bytes_read known → IsReadUpTo (plain_settings settings) inputs (suc (length before)) known
    writing-up-to before unit parts None e = tt
    writing-up-to before unit parts (Some left) e = whole-frame settings inputs format old mid new end r before unit parts left (known-rest (mid Input).left bytes_read rest_left left e told-input)

    no-output : IsAtEnd (mid Output).written
    no-output = mid-output settings inputs format old mid new end r none

    no-recon : IsAtEnd (mid Recon).written
    no-recon = mid-recon settings inputs format old mid new end r none

    begins : BeginsSo (plain_settings settings) inputs format r.ran.units encoding
    begins = ran-begins settings inputs format old mid new end r nearest sound encoding made

    prefixes : HoldPrefixes (plain_settings settings) inputs format r.ran.units new
    prefixes = ran-prefixes settings inputs format old mid new end r none

    same-format : (other : Format) (begin : List ℕ) → HasFormats (plain_settings settings) inputs other begin → format ≡ other
    same-format other begin has = (one-formats (plain_settings settings) inputs format other (bytes_read ++ rest_left) begin (ran-formats settings inputs format old mid new end r) has).0

    while-reading : (taken : List ℕ) → is_write_fault end.exit ≡ false → IsWithinPicture (input_shape settings.form format) taken → (mid Input).left ≡ prepend_known (bytes_read ++ taken) (new Input).left → AreWritten (plain_settings settings) inputs format r.ran.units mid new
        → IsEncodedByFrame (plain_settings settings) inputs encoding.units end.exit (new Input).left new
    while-reading taken quiet within left w =
        let s : EncoderSettings = plain_settings settings in
        let first : take (length r.ran.units) encoding.units ≡ r.ran.units = ap (take (length r.ran.units)) begins.parts ∙ take-first r.ran.units begins.more in
        let next : take (length r.ran.units + 1) encoding.units ≡ r.ran.units ++ take 1 begins.more = ap (take (length r.ran.units + 1)) begins.parts ∙ take-next r.ran.units begins.more in
        let all = more-units s inputs format r.ran.units (take 1 begins.more) new prefixes in
        record {
          count = length r.ran.units;
          among = omega (arith, ap (length {A = EncodedUnit}) begins.parts, length-append r.ran.units begins.more);
          output = unit-by-unit s inputs format encoding.units r.ran.units (r.ran.units ++ take 1 begins.more) (length r.ran.units) first next new all (begins-written (mid Output) (new Output) (enc_out s r.ran.units) no-output w.output);
          recon = λ other begin has. picture-by-picture s inputs format encoding.units r.ran.units (r.ran.units ++ take 1 begins.more) (length r.ran.units) first next new all
              (begins-written (mid Recon) (new Recon) (recon_out s inputs format r.ran.units) no-recon w.recon) other (same-format other begin has);
          input = reading-into taken within (new Input).left left;
          written = λ fault. absurd (true≢false (sym fault ∙ quiet));
        }

    while-writing : (before : List EncodedUnit) (unit : EncodedUnit) → r.ran.units ≡ before ++ unit ∷ [] → (mid Input).left ≡ prepend_known bytes_read (new Input).left → WritesUnit (plain_settings settings) inputs format mid new before unit
        → IsEncodedByFrame (plain_settings settings) inputs encoding.units end.exit (new Input).left new
    while-writing before unit parts left w =
        let s : EncoderSettings = plain_settings settings in
        let units : encoding.units ≡ before ++ (unit ∷ begins.more) = begins.parts ∙ ap (λ (us : List EncodedUnit). us ++ begins.more) parts ∙ append_assoc before (unit ∷ []) begins.more in
        let first : take (length before) encoding.units ≡ before = ap (take (length before)) units ∙ take-first before (unit ∷ begins.more) in
        let next : take (length before + 1) encoding.units ≡ before ++ unit ∷ [] = ap (take (length before + 1)) units ∙ take-next before (unit ∷ begins.more) in
        let all : HoldPrefixes s inputs format (before ++ unit ∷ []) new = subst (λ (us : List EncodedUnit). HoldPrefixes s inputs format us new) parts prefixes in
        let few : length before < length encoding.units = omega (arith, ap (length {A = EncodedUnit}) units, length-append before (unit ∷ begins.more)) in
        record {
          count = length before;
          among = omega (arith, few);
          output = unit-by-unit s inputs format encoding.units before (before ++ unit ∷ []) (length before) first next new all (writes-output s inputs format mid new no-output no-recon before unit w);
          recon = λ other begin has. picture-by-picture s inputs format encoding.units before (before ++ unit ∷ []) (length before) first next new all (writes-recon s inputs format mid new no-output no-recon before unit w) other (same-format other begin has);
          input = writing-into before unit parts (new Input).left left;
          written = λ fault. (few, writing-up-to before unit parts (new Input).left left);
        }

    by-within : (units : List EncodedUnit) → r.ran.units ≡ units → EndsWithin settings.form (plain_settings settings) inputs format mid new end.exit bytes_read units → IsEncodedByFrame (plain_settings settings) inputs encoding.units end.exit (new Input).left new
    by-within units e (reading us taken quiet within left w) =
        while-reading taken quiet within left (subst (λ (xs : List EncodedUnit). AreWritten (plain_settings settings) inputs format xs mid new) (sym e) w)
    by-within units e (writing before unit left w) = while-writing before unit e left w

  by-outcome : (old Input).left ≡ Some (inputs.contents Input) → Outcome settings inputs old new end → IsEncodedByFrame (plain_settings settings) inputs encoding.units end.exit (new Input).left new
  by-outcome is (at_head h quiet stops) = by-head is h quiet
  by-outcome is (at_frames format mid r) = by-within format mid r r.ran.units refl r.ran.within

-- frames were read and written one at a time, where the files are known
pub by-frame : (settings : EncSettings) → HasOneNearest → AreSoundSettings (plain_settings settings) → (held : List ℕ → Option (List ℕ)) (old new : Slot → SlotView) → AreUnwritten old → is_some settings.input ≡ not (is_some settings.generate) → (old Input).left ≡ input_content settings held → (end : RunEnd)
    → (AreKnown settings held → (inputs : Inputs) → AreFiles settings held inputs → Outcome settings inputs old new end) → AreKnown settings held → (inputs : Inputs) (encoding : Encoding) → AreFiles settings held inputs → HasEncoding (plain_settings settings) inputs encoding
    → IsEncodedByFrame (plain_settings settings) inputs encoding.units end.exit (new Input).left new
by-frame settings nearest sound held old new none given left end outcome known inputs encoding files made =
    by-outcome settings nearest sound old new none inputs end encoding made (left ∙ known-some (input_content settings held) (inputs.contents Input) (input-known settings held given known) files.input) (outcome known inputs files)
