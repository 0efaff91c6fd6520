-- Files of pictures, planar and Y4M: what is taken from their prefix, and why nothing is.
use Rattle.std.specs.Prelude.{◌≡◌, ◌≢◌, ℕ, ◌+◌, ◌^◌, ◌<◌, ◌≤◌, Bool, true, false, ◌&&◌, ◌||◌, not, List, [], ◌∷◌, ◌++◌}
use Rattle.std.specs.Prelude.{length, drop, slice_index, Option, Some, None, nat_lt, nat_le, codes, if◌then◌else◌, ◌==◌}
use Rattle.std.specs.List.{filter, list_all, slice_split}
use Rattle.std.specs.Fmt.{decimal}
use Rattle.std.specs.Str.Parse.{digits_value}
use Rattle.apv_base.specs.declared.exits.VideoRule.{VideoRule}
use Rattle.apv_base.specs.declared.exits.VideoRule.TheVariants.{Header, Tag, Size, FrameLine, Truncated, Range}
use Rattle.apv_base.specs.declared.rules.Limit.{Limit}
use Rattle.apv_base.specs.declared.rules.Limit.TheVariants.{L2, L3}
use Rattle.apv_base.specs.declared.options.Form.{Form}
use Rattle.apv_base.specs.declared.options.Form.TheVariants.{Planar, Y4m}
use Rattle.apv_base.specs.declared.format.Chroma.{Chroma}
use Rattle.apv_base.specs.declared.format.Chroma.TheVariants.{C400, C422, C444, C4444}
use Rattle.apv_base.specs.declared.format.Format.{Format}
use Rattle.apv_base.specs.model.Format.{comps_of, is_bad_size, macroblocks, MAX_MACROBLOCKS, component_width}
use Rattle.apv_base.specs.model.Picture.{Samples, picture, picture_len}
use Rattle.apv_base.specs.model.Run.{MAX_UNITS}

-- why nothing is taken from the start of a file
pub data VideoFault : Type 0 where
  bad : VideoRule → VideoFault
  over : Limit → ℕ → VideoFault

-- ---- tags

-- the tag of a format in a Y4M file
abbrev pub tag_for : Chroma → ℕ → Option (List ℕ)
tag_for C400 depth = if depth == 10 then Some (codes "Cmono10") else None
tag_for C422 depth =
    if depth == 10 then Some (codes "C422p10") else (if depth == 12 then Some (codes "C422p12") else None)
tag_for C444 depth =
    if depth == 10 then Some (codes "C444p10") else (if depth == 12 then Some (codes "C444p12") else None)
tag_for C4444 depth = None

-- the tag of a format
abbrev pub tag_of : Format → Option (List ℕ)
tag_of format = tag_for format.chroma format.depth

-- ---- lines

-- a line of at most 1,024 bytes with its line feed is at the start, and this after it
pub record LineAt (xs line after : List ℕ) : Type 0 where
  pub bytes : xs ≡ line ++ 10 ∷ after
  pub first : list_all (λ byte. not (byte == 10)) line ≡ true
  pub short : length line < 1024

-- the tokens of a line, divided by spaces
abbrev pub tokens : List ℕ → List (List ℕ)
tokens line = filter (λ token. nat_lt 0 (length token)) (slice_split (λ byte. byte == 32) line)

-- the tokens that begin with this letter
abbrev pub with_letter : ℕ → List (List ℕ) → List (List ℕ)
with_letter letter words = filter (λ token. slice_index token 0 == letter) words

-- a decimal digit
abbrev pub is_digit : ℕ → Bool
is_digit byte = nat_le 48 byte && nat_le byte 57

-- 1 to 8 digits after a letter
pub record IsSize (token : List ℕ) (number : ℕ) : Type 0 where
  pub some : 2 ≤ length token
  pub few : length token ≤ 9
  pub digits : list_all is_digit (drop 1 token) ≡ true
  pub is : number ≡ digits_value 10 (drop 1 token)

-- the letters W, H and C
abbrev pub letter_w : ℕ
letter_w = 87

-- the letter H
abbrev pub letter_h : ℕ
letter_h = 72

-- the letter C
abbrev pub letter_c : ℕ
letter_c = 67

-- A header line: YUV4MPEG2, and among the tokens after it one of W with the width, one of H with the height, and at
-- most one of C. Others say nothing.
pub record IsHeaderLine (line : List ℕ) (width height : ℕ) (tags : List (List ℕ)) : Type 0 where
  pub rest : List ℕ
  pub named : line ≡ codes "YUV4MPEG2" ++ rest
  pub divided : rest ≢ [] → slice_index rest 0 ≡ 32
  pub w : List ℕ
  pub h : List ℕ
  pub one_w : with_letter letter_w (tokens rest) ≡ w ∷ []
  pub one_h : with_letter letter_h (tokens rest) ≡ h ∷ []
  pub w_is : IsSize w width
  pub h_is : IsSize h height
  pub all_tags : with_letter letter_c (tokens rest) ≡ tags
  pub few : length tags ≤ 1

-- the width or height can't be one of a frame
abbrev pub is_bad_video_size : Format → Bool
is_bad_video_size format = is_bad_size format || nat_lt 16777215 format.width || nat_lt 16777215 format.height

-- the format that a header line names, with its tag
pub record NamesFormat (line : List ℕ) (format : Format) : Type 0 where
  pub tag : List ℕ
  pub is : IsHeaderLine line format.width format.height (tag ∷ [])
  pub known : tag_of format ≡ Some tag

-- the header at the start of a Y4M file names this format; this follows it
pub record VideoHeaderAt (xs : List ℕ) (format : Format) (after : List ℕ) : Type 0 where
  pub line : List ℕ
  pub line_at : LineAt xs line after
  pub names : NamesFormat line format
  pub size : is_bad_video_size format ≡ false
  pub few : macroblocks format ≤ MAX_MACROBLOCKS

-- why no such header is there, in the order of the rules
pub data VideoHeaderBreaks (xs : List ℕ) : VideoFault → Type 0 where
  no_line : ((line after : List ℕ) → LineAt xs line after → ⊥) → VideoHeaderBreaks xs (bad Header)
  other_form : (line after : List ℕ) → LineAt xs line after
      → ((width height : ℕ) (tags : List (List ℕ)) → IsHeaderLine line width height tags → ⊥)
      → VideoHeaderBreaks xs (bad Header)
  no_tag : (line after : List ℕ) (width height : ℕ) (tags : List (List ℕ)) → LineAt xs line after
      → IsHeaderLine line width height tags
      → ((format : Format) → NamesFormat line format → ⊥) → VideoHeaderBreaks xs (bad Tag)
  bad_size : (line after : List ℕ) (format : Format) → LineAt xs line after → NamesFormat line format
      → is_bad_video_size format ≡ true → VideoHeaderBreaks xs (bad Size)
  wide : (line after : List ℕ) (format : Format) → LineAt xs line after → NamesFormat line format
      → is_bad_video_size format ≡ false → MAX_MACROBLOCKS < macroblocks format
      → VideoHeaderBreaks xs (over L2 (macroblocks format))

-- ---- pictures

-- each visible sample is below 2 ^ depth
abbrev pub AreInRange : Format → Samples → Type 0
AreInRange format samples = (comp x y : ℕ) → comp < comps_of format.chroma → x < component_width format comp
    → y < format.height → samples comp x y < 2 ^ format.depth

-- each visible sample is a number of 16 bits
abbrev pub AreSamples : Format → Samples → Type 0
AreSamples format samples = (comp x y : ℕ) → comp < comps_of format.chroma → x < component_width format comp
    → y < format.height → samples comp x y < 2 ^ 16

-- before a picture: nothing in a planar file; a line FRAME, or FRAME and a space and anything, in a Y4M file
pub data FrameLineAt (xs : List ℕ) : Form → List ℕ → Type 0 where
  planar : FrameLineAt xs Planar xs
  named : (line after : List ℕ) → LineAt xs line after → (line ≡ codes "FRAME") → FrameLineAt xs Y4m after
  spaced : (line after more : List ℕ) → LineAt xs line after → (line ≡ codes "FRAME " ++ more)
      → FrameLineAt xs Y4m after

-- the next picture of a file has these samples, and this follows it
pub record PictureAt (format : Format) (form : Form) (xs : List ℕ) (samples : Samples) (after : List ℕ) : Type 0 where
  pub start : List ℕ
  pub prefix : FrameLineAt xs form start
  pub bytes : start ≡ picture format samples ++ after
  pub wide : AreSamples format samples
  pub range : AreInRange format samples

-- why no picture, which is the nth of its slot, is at the start of what is left; where nothing is left, there is
-- no further one
pub data PictureBreaks (format : Format) (form : Form) (n : ℕ) (xs : List ℕ) : VideoFault → Type 0 where
  full : xs ≢ [] → n ≡ MAX_UNITS → PictureBreaks format form n xs (over L3 (MAX_UNITS + 1))
  no_prefix : xs ≢ [] → n < MAX_UNITS → ((start : List ℕ) → FrameLineAt xs form start → ⊥)
      → PictureBreaks format form n xs (bad FrameLine)
  truncated : (start : List ℕ) → xs ≢ [] → n < MAX_UNITS → FrameLineAt xs form start
      → length start < picture_len format → PictureBreaks format form n xs (bad Truncated)
  out_of_range : (start after : List ℕ) (samples : Samples) → xs ≢ [] → n < MAX_UNITS → FrameLineAt xs form start
      → AreSamples format samples → start ≡ picture format samples ++ after
      → (AreInRange format samples → ⊥) → PictureBreaks format form n xs (bad Range)

-- ---- what is written

-- the header line of a Y4M file
abbrev pub header_line : Format → ℕ × ℕ → List ℕ → List ℕ
header_line format rate tag =
    codes "YUV4MPEG2 W" ++ (decimal format.width
    ++ (codes " H" ++ (decimal format.height
    ++ (codes " F" ++ (decimal rate.0 ++ (codes ":" ++ (decimal rate.1
    ++ (codes " Ip A0:0 " ++ (tag ++ codes "\n")))))))))

-- the line before a picture of a Y4M file
abbrev pub frame_line : List ℕ
frame_line = codes "FRAME\n"
