-- Chroma formats and the formats of frames.
use Rattle.std.specs.Prelude.{◌≡◌, ℕ, ◌+◌, ◌-◌, ◌*◌, ◌/◌, ◌%◌, ◌^◌, ◌<◌, ◌≤◌, Bool, true, false, ◌&&◌, ◌||◌, Option}
use Rattle.std.specs.Prelude.{Some, None, if◌then◌else◌, ◌==◌}
use Rattle.apv_base.specs.declared.format.Chroma.{Chroma}
use Rattle.apv_base.specs.declared.format.Format.{Format}
use Rattle.apv_base.specs.declared.format.Chroma.TheVariants.{C400, C422, C444, C4444}

-- chroma_format_idc
abbrev pub idc_of : Chroma → ℕ
idc_of C400 = 0
idc_of C422 = 2
idc_of C444 = 3
idc_of C4444 = 4

-- the chroma format of a chroma_format_idc, where it has one
abbrev pub chroma_of : ℕ → Option Chroma
chroma_of idc =
    if idc == 0 then Some C400
    else (if idc == 2 then Some C422
    else (if idc == 3 then Some C444
    else (if idc == 4 then Some C4444 else None)))

-- the number of components
abbrev pub comps_of : Chroma → ℕ
comps_of C400 = 1
comps_of C422 = 3
comps_of C444 = 3
comps_of C4444 = 4

-- the chroma format of a code, and 4:0:0 for a code that has none
abbrev pub or_grey : Option Chroma → Chroma
or_grey None = C400
or_grey (Some chroma) = chroma

-- the second and third component have half the width
abbrev pub is_halved : Chroma → Bool
is_halved C422 = true
is_halved chroma = false

-- how many parts of m there are in n, the last one cut or whole
abbrev pub parts : ℕ → ℕ → ℕ
parts n m = (n + (m - 1)) / m

-- a macroblock has 16x16 samples of the first component
abbrev pub macroblock_columns : Format → ℕ
macroblock_columns format = parts format.width 16

-- the rows of macroblocks of a frame
abbrev pub macroblock_rows : Format → ℕ
macroblock_rows format = parts format.height 16

-- the macroblocks of a frame
abbrev pub macroblocks : Format → ℕ
macroblocks format = macroblock_columns format * macroblock_rows format

-- the maximum number of macroblocks of a frame, which is the limit L2
abbrev pub MAX_MACROBLOCKS : ℕ
MAX_MACROBLOCKS = 262144

-- the width or height is 0, or the width is odd with 4:2:2
abbrev pub is_bad_size : Format → Bool
is_bad_size format = format.width == 0 || format.height == 0 || (is_halved format.chroma && format.width % 2 == 1)

-- a bit depth that samples can have
abbrev pub IsDepth : ℕ → Type 0
IsDepth depth = (10 ≤ depth) × (depth ≤ 12)

-- a format that a frame can have
pub record IsSoundFormat (format : Format) : Type 0 where
  pub size : is_bad_size format ≡ false
  pub width : format.width < 2 ^ 24
  pub height : format.height < 2 ^ 24
  pub few : macroblocks format ≤ MAX_MACROBLOCKS
  pub low : 10 ≤ format.depth
  pub high : format.depth ≤ 12

-- the visible width of a component
abbrev pub component_width : Format → ℕ → ℕ
component_width format comp =
    if is_halved format.chroma && (comp == 1 || comp == 2) then format.width / 2 else format.width
