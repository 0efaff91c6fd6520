-- The settings of words are sound, and what passes and what fails the checks of a format.
use Rattle.std.proofs.Common.{◌≡◌, ℕ, ◌-◌, ◌<◌, ◌≤◌, List, [], ◌∷◌, ◌++◌, map, take, replicate, refl, sym, ◌∙◌, subst, arith, Option, Some, None, Bool, true, false, cond, not, nat_lt}
use Rattle.std.specs.Prelude.{IfSome, is_some, pos}
use Rattle.std.specs.List.{list_any}
use Rattle.std.specs.Option.{option_map}
use Rattle.apv_base.specs.declared.exits.VideoRule.TheVariants.{Size, Profile, Grid, Qp}
use Rattle.apv_base.specs.declared.format.Chroma.{Chroma}
use Rattle.apv_base.specs.declared.format.Chroma.TheVariants.{C400, C422, C444, C4444}
use Rattle.apv_base.specs.declared.format.Format.{Format}
use Rattle.std.proofs.lemmas.Bool.{lt-ltb}
use Rattle.apv_base.specs.declared.header.FrameHeader.{FrameHeader}
use Rattle.apv_base.specs.declared.rules.Limit.TheVariants.{L2}
use Rattle.apv_base.specs.model.Format.{IsDepth, IsSoundFormat, comps_of, macroblock_columns, macroblock_rows, macroblocks, MAX_MACROBLOCKS}
use Rattle.apv_base.specs.model.Grid.{default_size}
use Rattle.apv_base.specs.model.Header.{IsSoundHeader, flat}
use Rattle.apv_base.specs.model.Profile.{is_writable}
use Rattle.apv_base.specs.model.Video.{VideoFault, bad, over, is_bad_video_size}
use Rattle.apv_words.specs.Encoder.{HasEncBounds}
use Rattle.apv_words.specs.declared.encoder.EncSettings.{EncSettings}
use Rattle.apv_encoding.specs.Laws.{AreSoundSettings, HaveSoundHeaders, IsTileSize}
use Rattle.apv_tracks.specs.Format.{IsPreviewHeader}
use Rattle.apv_tracks.specs.Plain.{plain_settings}
use Rattle.apv_encoding.specs.Settings.{EncoderSettings, fixed, first_given, further_header, given_or, check_input, check_preview, check_size_of, is_written, primary_header, grey_header, preview_format, preview_header, tracks_of}
use Rattle.apv_encoding.proofs.SettingsLemmas.{are-tracks, size-passes, written-depth}

-- ---- settings

tile-within : (least : ℕ) (size : Option ℕ) → IfSome size (λ n. (least ≤ n) × (n ≤ 1048575)) → IfSome size (IsTileSize least)
tile-within least None h = tt
tile-within least (Some n) h = (h.0, omega (arith, h.1))

-- the settings of words are sound
pub plain-sound : (settings : EncSettings) → HasEncBounds settings → AreSoundSettings (plain_settings settings)
plain-sound settings bounds = record {
  level = omega (arith, bounds.level);
  band = omega (arith, bounds.band);
  colour = bounds.colour;
  four = refl;
  each = (bounds.matrix_0, (bounds.matrix_1, (bounds.matrix_2, (bounds.matrix_3, tt))));
  tile_width = tile-within 16 settings.tile_width bounds.tile_width;
  tile_height = tile-within 8 settings.tile_height bounds.tile_height;
}

-- ---- headers

-- the settings, where a depth map is asked for and no preview
abbrev with_depth : EncoderSettings → EncoderSettings
with_depth settings = record settings { preview = None; depth = true }

depth-sound : (settings : EncoderSettings) → AreSoundSettings settings → AreSoundSettings (with_depth settings)
depth-sound settings sound = record {
  level = sound.level;
  band = sound.band;
  colour = sound.colour;
  four = sound.four;
  each = sound.each;
  tile_width = sound.tile_width;
  tile_height = sound.tile_height;
}

module _ (settings : EncSettings) (format : Format) (bounds : HasEncBounds settings) (passes : check_input (plain_settings settings) format ≡ None) where
  primary-and-depth : HaveSoundHeaders (tracks_of (with_depth (plain_settings settings)) format (λ tile. pos 0))
  primary-and-depth =
      (are-tracks (with_depth (plain_settings settings)) format (λ tile. pos 0) (depth-sound (plain_settings settings) (plain-sound settings bounds)) (record { input = passes; preview = refl })).sound

  -- the header of primary frames whose format passes breaks no rule
  pub header-sound : IsSoundHeader (primary_header (plain_settings settings) format)
  header-sound = primary-and-depth.0

  -- the format is sound
  pub input-sound : IsSoundFormat format
  input-sound = header-sound.info.format

  -- the header of depth and alpha frames breaks no rule
  pub grey-sound : IsSoundHeader (grey_header (plain_settings settings) format)
  grey-sound = primary-and-depth.1.0

-- the settings, where a preview of a size is asked for, and which any format passes that a default profile writes
abbrev with_preview : EncoderSettings → ℕ × ℕ → EncoderSettings
with_preview settings size =
    record settings { profile = None; rate = fixed 0; tile_width = None; tile_height = None; preview = Some size }

-- a format that passes
abbrev small : Format
small = record { width = 16; height = 16; chroma = C422; depth = 10 }

-- the header of preview frames whose size passes breaks no rule
pub preview-sound : (settings : EncSettings) (size : ℕ × ℕ) → HasEncBounds settings → check_size_of (preview_format size) ≡ None → IsSoundHeader (preview_header (plain_settings settings) size)
preview-sound settings size bounds passes =
    let sound = plain-sound settings bounds in
    let sound_with : AreSoundSettings (with_preview (plain_settings settings) size) = record {
      level = sound.level;
      band = sound.band;
      colour = sound.colour;
      four = refl;
      each = sound.each;
      tile_width = tt;
      tile_height = tt;
    } in
    (are-tracks (with_preview (plain_settings settings) size) small (λ tile. pos 0) sound_with (record { input = refl; preview = passes })).sound.1.0

-- what is judged of the preview frames, and their header
pub preview-judged : (settings : EncSettings) (preview : Option (ℕ × ℕ)) (format : Format) (header : FrameHeader) → HasEncBounds settings → option_map preview_format preview ≡ Some format → check_size_of format ≡ None
    → header ≡ further_header (plain_settings settings) 33 format (default_size (macroblock_columns format)) (default_size (macroblock_rows format))
    → (check_preview preview ≡ None) × IsPreviewHeader settings preview (Some header)
preview-judged settings None format header bounds asked passes is = absurd (let no : ⊥ = cc in no)
preview-judged settings (Some size) format header bounds asked passes is =
    let same : format ≡ preview_format size = cc in
    let fits : check_size_of (preview_format size) ≡ None = rw same at passes in
    let header_is : header ≡ preview_header (plain_settings settings) size = rw same at is in
    (fits, (header_is, rw header_is (preview-sound settings size bounds fits)))

-- ---- matrices

module _ (a b c d : Option (List ℕ)) where
  abbrev given_of : Chroma → List (Option (List ℕ))
  given_of chroma = take (comps_of chroma) (a ∷ b ∷ c ∷ d ∷ []) ++ replicate (4 - comps_of chroma) None

  -- a matrix that isn't given is not used
  pub matrix-used : (chroma : Chroma) → list_any is_some (given_of chroma) ≡ list_any is_some (take (comps_of chroma) (a ∷ b ∷ c ∷ d ∷ []))
  matrix-used C400 = refl
  matrix-used C422 = refl
  matrix-used C444 = refl
  matrix-used C4444 = refl

  -- and is flat
  pub matrices-are : (chroma : Chroma) → map (λ (matrix : Option (List ℕ)). given_or matrix flat) (given_of chroma) ≡ map (λ (matrix : Option (List ℕ)). given_or matrix flat) (take (comps_of chroma) (a ∷ b ∷ c ∷ d ∷ [])) ++ replicate (4 - comps_of chroma) flat
  matrices-are C400 = refl
  matrices-are C422 = refl
  matrices-are C444 = refl
  matrices-are C4444 = refl

-- ---- the checks in their order

abbrev pub checks : Option VideoFault → Bool → Bool → Bool → Option VideoFault
checks size written many large =
    first_given size (
    cond (not written) (Some (bad Profile)) (cond many (Some (bad Grid)) (cond large (Some (bad Qp)) None)))

module _ (size : Option VideoFault) (written many large : Bool) where
  pub fails-size : (fault : VideoFault) → size ≡ Some fault → checks size written many large ≡ Some fault
  fails-size fault e = rw e refl

  pub fails-profile : size ≡ None → written ≡ false → checks size written many large ≡ Some (bad Profile)
  fails-profile e w = rw (e, w) refl

  pub fails-grid : size ≡ None → written ≡ true → many ≡ true → checks size written many large ≡ Some (bad Grid)
  fails-grid e w m = rw (e, w, m) refl

  pub fails-qp : size ≡ None → written ≡ true → many ≡ false → large ≡ true → checks size written many large ≡ Some (bad Qp)
  fails-qp e w m l = rw (e, w, m, l) refl

  pub passes-all : size ≡ None → written ≡ true → many ≡ false → large ≡ false → checks size written many large ≡ None
  passes-all e w m l = rw (e, w, m, l) refl

-- ---- the size

module _ (format : Format) (is_bad : Bool) (same : is_bad ≡ is_bad_video_size format) where
  pub size-bad : is_bad ≡ true → check_size_of format ≡ Some (bad Size)
  size-bad e = let b : is_bad_video_size format ≡ true = sym same ∙ e in rw b refl

  pub size-over : (count : ℕ) → is_bad ≡ false → count ≡ macroblocks format → MAX_MACROBLOCKS < count → check_size_of format ≡ Some (over L2 (macroblocks format))
  size-over count e is lt =
      let b : is_bad_video_size format ≡ false = sym same ∙ e in
      let more : nat_lt MAX_MACROBLOCKS (macroblocks format) ≡ true = lt-ltb MAX_MACROBLOCKS (macroblocks format) (subst (λ (n : ℕ). MAX_MACROBLOCKS < n) is lt) in
      rw (b, more) refl

-- ---- what passes

-- a profile that is there, with which the format is written
pub written-by : (asked : Option ℕ) (profile : ℕ) (format : Format) → asked ≡ Some profile → is_writable profile format.chroma format.depth ≡ true → is_written asked format ≡ true
written-by asked profile format e written = rw e written

-- a format that is written has a bit depth
pub depth-written : (profile : ℕ) (format : Format) → is_writable profile format.chroma format.depth ≡ true → IsDepth format.depth
depth-written profile format written = written-depth profile format.chroma format.depth written

-- a format of a size that passes, and of a bit depth, is sound
pub format-sound : (format : Format) → check_size_of format ≡ None → IsDepth format.depth → IsSoundFormat format
format-sound format size depth =
    let passes = size-passes format size in
    record { size = passes.size; width = passes.width; height = passes.height; few = passes.few; low = depth.0; high = depth.1 }
