-- What a header line names.
use Rattle.std.specs.Prelude.{◌≡◌, ◌≢◌, ℕ, List, [], ◌∷◌, ◌++◌, codes, slice_index, Result, Ok, Err}
use Rattle.apv_base.specs.declared.slot.Slot.TheVariants.{Input}
use Rattle.apv_base.specs.declared.format.Format.{Format}
use Rattle.apv_base.specs.model.Video.{LineAt, IsSize, IsHeaderLine, NamesFormat, VideoHeaderAt, VideoHeaderBreaks}
use Rattle.apv_base.specs.model.Video.{VideoFault, bad, over}
use Rattle.apv_video.specs.Tokens.{letter_tokens}
use Rattle.apv_video.specs.declared.header.LineFault.{LineFault}
use Rattle.apv_video.specs.declared.header.LineFault.TheVariants.{Form, Tag}
use Rattle.apv_video.specs.declared.end.VideoEnd.{VideoEnd}
use Rattle.apv_video.specs.declared.end.VideoEnd.TheVariants.{Bad, Limit, Read, Memory}

-- the line is the name and this, which is empty or begins with a space
pub record HasName (line rest : List ℕ) : Type 0 where
  pub named : line ≡ codes "YUV4MPEG2" ++ rest
  pub divided : rest ≢ [] → slice_index rest 0 ≡ 32

-- the line isn't the name and such a rest
abbrev pub HasNoName : List ℕ → Type 0
HasNoName line = (rest : List ℕ) → HasName line rest → ⊥

-- the only token that begins with a letter has this number
pub record HasSize (letter : ℕ) (rest : List ℕ) (size : ℕ) : Type 0 where
  pub token : List ℕ
  pub one : letter_tokens letter rest ≡ token ∷ []
  pub is : IsSize token size

-- it isn't a header line
abbrev pub HasNoForm : List ℕ → Type 0
HasNoForm line = (width height : ℕ) (tags : List (List ℕ)) → IsHeaderLine line width height tags → ⊥

-- it is a header line, and names no format
pub record LacksTag (line : List ℕ) : Type 0 where
  pub width : ℕ
  pub height : ℕ
  pub tags : List (List ℕ)
  pub is : IsHeaderLine line width height tags
  pub none : (format : Format) → NamesFormat line format → ⊥

-- the format that a line names, or why it names none
abbrev pub IsNamed : List ℕ → Result Format LineFault → Type 0
IsNamed line (Ok format) = NamesFormat line format
IsNamed line (Err Form) = HasNoForm line
IsNamed line (Err Tag) = LacksTag line

-- this is why bytes that begin with the line have no header
abbrev pub LineBreaks : List ℕ → VideoFault → Type 0
LineBreaks line fault = (xs after : List ℕ) → LineAt xs line after → VideoHeaderBreaks xs fault

-- the format of the header that is the line, or why it isn't one
abbrev pub IsJudged : List ℕ → Result Format VideoEnd → Type 0
IsJudged line (Ok format) = (xs after : List ℕ) → LineAt xs line after → VideoHeaderAt xs format after
IsJudged line (Err (Bad break)) = LineBreaks line (bad break.rule) × (break.slot ≡ Input) × (break.frame ≡ 0)
IsJudged line (Err (Limit limit count)) = LineBreaks line (over limit count)
IsJudged line (Err (Read slot)) = ⊥
IsJudged line (Err Memory) = ⊥
