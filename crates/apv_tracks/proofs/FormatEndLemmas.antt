-- The format of the primary frames: by the words, or by the header of a Y4M file; and why it isn't taken.
use Rattle.std.proofs.Common.{◌≡◌, ℕ, inl, inr, List, [], ◌++◌, refl, sym, ap, ◌∙◌, subst, Some, None, Err}
use Rattle.std.specs.Prelude.{true}
use Rattle.apv_base.specs.declared.exits.Exit.{Exit}
use Rattle.apv_base.specs.declared.exits.Exit.TheVariants.{BadVideo, LimitMet, ReadFailed, Memory}
use Rattle.apv_base.specs.declared.exits.VideoBreak.{VideoBreak}
use Rattle.apv_base.specs.declared.format.Format.{Format}
use Rattle.apv_base.specs.declared.options.Form.{Form}
use Rattle.apv_base.specs.declared.options.Form.TheVariants.{Planar, Y4m}
use Rattle.apv_base.specs.declared.rules.Limit.{Limit}
use Rattle.apv_base.specs.declared.slot.Slot.{Slot}
use Rattle.apv_base.specs.declared.slot.Slot.TheVariants.{Input, Preview}
use Rattle.apv_base.specs.model.Video.{VideoFault, bad, over, VideoHeaderBreaks}
use Rattle.apv_files.specs.SlotView.{SlotView}
use Rattle.apv_video.specs.OpenVideo.{IsWithinLine, OpensVideo, TookHeader, HeaderStops, HeaderFails, HeaderLacksMemory}
use Rattle.apv_video.specs.declared.end.VideoEnd.{VideoEnd}
use Rattle.apv_video.specs.declared.end.VideoEnd.TheVariants.{Bad, Limit as EndLimit, Read, Memory as EndMemory}
use Rattle.apv_video.specs.declared.open.Shape.{Shape}
use Rattle.apv_words.specs.declared.encoder.EncSettings.{EncSettings}
use Rattle.apv_run.proofs.WrittenLemmas.{none-took}
use Rattle.apv_encoding.specs.Answer.{FormatAt, of_words, of_header, FormatStops, at_header, at_input, at_preview}
use Rattle.apv_encoding.specs.Settings.{check_input, check_preview, y4m}
use Rattle.apv_encoding.specs.Tracks.{video_exit}
use Rattle.apv_tracks.specs.Format.{IsWithinHeader, TookFormat, FormatAnswered, FormatEnds, format_memory, format_fault, format_answer}
use Rattle.apv_tracks.specs.PictureSteps.{video_end_exit}
use Rattle.apv_tracks.specs.Plain.{plain_settings, given_format, source_by}

-- the words give the format
pub format-given : (settings : EncSettings) (view : SlotView) (format : Format) → settings.form ≡ Planar → format ≡ given_format settings → TookFormat settings view format view
format-given settings view format form is = record {
  taken = [];
  within = subst (λ (f : Form). IsWithinHeader f []) (sym form) refl;
  took = none-took view;
  format_at = λ rest.
      subst (λ (given : Format). FormatAt rest (source_by settings.form (given_format settings)) given rest) (sym is)
      (subst (λ (f : Form). FormatAt rest (source_by f (given_format settings)) (given_format settings) rest) (sym form) (of_words (given_format settings)));
}

-- ---- the header of a Y4M file

module _ (settings : EncSettings) (old new : SlotView) (form : settings.form ≡ Y4m) where
  within-form : (taken : List ℕ) → IsWithinLine taken → IsWithinHeader settings.form taken
  within-form taken within = subst (λ (f : Form). IsWithinHeader f taken) (sym form) within

  source-is : (plain_settings settings).source ≡ y4m
  source-is = ap (λ (f : Form). source_by f (given_format settings)) form

  -- it gives the format
  pub format-read : (shape : Shape) → TookHeader old shape new → TookFormat settings old shape.format new
  format-read shape t = record {
    taken = t.taken;
    within = within-form t.taken t.within;
    took = t.took;
    format_at = λ rest. rw source-is (of_header shape.format rest (t.header rest));
  }

  header-breaks : (file : List ℕ) (fault : VideoFault) → VideoHeaderBreaks file fault → FormatStops (plain_settings settings) file (video_exit Input 0 fault)
  header-breaks file fault b = at_header fault source-is b

  header-answered : (fault : VideoFault) → HeaderStops old fault new → FormatAnswered settings old (video_exit Input 0 fault) new
  header-answered fault h = record {
    taken = h.taken;
    within = within-form h.taken h.within;
    took = h.took;
    stops = elim h.stops [
      | inl all ↦ inl (λ rest. header-breaks (h.taken ++ rest) fault (all rest))
      | inr here ↦ inr (here.0, header-breaks h.taken fault here.1)
    ];
  }

  break-is : (break : VideoBreak) → break.slot ≡ Input → break.frame ≡ 0 → video_exit Input 0 (bad break.rule) ≡ BadVideo break
  break-is break slot frame =
      ap (λ (s : Slot). BadVideo (record { slot = s; rule = break.rule; frame = 0 })) (sym slot)
      ∙ ap (λ (n : ℕ). BadVideo (record { slot = break.slot; rule = break.rule; frame = n })) (sym frame)

  -- it breaks a rule
  header-bad : (break : VideoBreak) → HeaderStops old (bad break.rule) new → break.slot ≡ Input → break.frame ≡ 0 → FormatEnds settings old new (BadVideo break)
  header-bad break h slot frame = format_answer (BadVideo break) (subst (λ (e : Exit). FormatAnswered settings old e new) (break-is break slot frame) (header-answered (bad break.rule) h))

  -- its pictures are over a limit
  header-over : (limit : Limit) (count : ℕ) → HeaderStops old (over limit count) new → FormatEnds settings old new (LimitMet limit count)
  header-over limit count h = format_answer (LimitMet limit count) (header-answered (over limit count) h)

  -- a read failed
  header-fails : (slot : Slot) → HeaderFails old new → slot ≡ Input → FormatEnds settings old new (ReadFailed slot)
  header-fails slot h e =
      subst (λ (s : Slot). FormatEnds settings old new (ReadFailed s)) (sym e)
      (format_fault (record { taken = h.taken; y4m = form; within = h.within; failed = h.failed }))

  -- memory ran out
  header-lacks : HeaderLacksMemory old new → FormatEnds settings old new Memory
  header-lacks h = format_memory h.taken (within-form h.taken h.within) h.took

  -- there is no header
  pub header-ends : (end : VideoEnd) → OpensVideo old (Err end) new → FormatEnds settings old new (video_end_exit end)
  header-ends (Bad break) h = header-bad break h.0 h.1 h.2
  header-ends (EndLimit limit count) h = header-over limit count h
  header-ends (Read slot) h = header-fails slot h.0 h.1
  header-ends EndMemory h = header-lacks h

-- ---- a format that doesn't pass

module _ (settings : EncSettings) (old new : SlotView) (format : Format) (t : TookFormat settings old format new) (exit : Exit) where
  refused-with : ((rest : List ℕ) → FormatStops (plain_settings settings) (t.taken ++ rest) exit) → FormatEnds settings old new exit
  refused-with stops = format_answer exit (record { taken = t.taken; within = t.within; took = t.took; stops = inl stops })

  -- that of the primary frames
  pub input-refused : (fault : VideoFault) × (check_input (plain_settings settings) format ≡ Some fault) × (exit ≡ video_exit Input 0 fault) → FormatEnds settings old new exit
  input-refused (fault, fails, is) =
      refused-with (λ rest. subst (FormatStops (plain_settings settings) (t.taken ++ rest)) (sym is) (at_input format rest fault (t.format_at rest) fails))

  -- that of the preview frames, where that of the primary ones passes
  pub preview-refused : check_input (plain_settings settings) format ≡ None → (fault : VideoFault) × (check_preview (plain_settings settings).preview ≡ Some fault) × (exit ≡ video_exit Preview 0 fault) → FormatEnds settings old new exit
  preview-refused passes (fault, fails, is) =
      refused-with (λ rest. subst (FormatStops (plain_settings settings) (t.taken ++ rest)) (sym is) (at_preview format rest fault (t.format_at rest) passes fails))
