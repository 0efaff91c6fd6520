-- What a call that reads the header of a Y4M file takes and returns.
use Rattle.std.specs.Prelude.{◌≡◌, ℕ, List, [], ◌∷◌, ◌++◌, true, Result, Ok, Err, ◌⊎◌}
use Rattle.std.specs.Io.KnownBytes.{IsAtEnd}
use Rattle.apv_base.specs.declared.slot.Slot.TheVariants.{Input}
use Rattle.apv_base.specs.model.Video.{VideoHeaderAt, VideoHeaderBreaks, VideoFault, bad, over}
use Rattle.apv_files.specs.SlotView.{SlotView}
use Rattle.apv_files.specs.Loops.{TookAll, TookFailed}
use Rattle.apv_video.specs.Line.{HasNoFeed}
use Rattle.apv_video.specs.declared.end.VideoEnd.{VideoEnd}
use Rattle.apv_video.specs.declared.end.VideoEnd.TheVariants.{Bad, Limit, Read, Memory}
use Rattle.apv_video.specs.declared.open.Shape.{Shape}

-- no byte after a line feed is among these
abbrev pub IsWithinLine : List ℕ → Type 0
IsWithinLine taken = HasNoFeed taken ⊎ ((line : List ℕ) × HasNoFeed line × (taken ≡ line ++ 10 ∷ []))

-- a header of this format was taken, whatever follows it
pub record TookHeader (old : SlotView) (shape : Shape) (new : SlotView) : Type 0 where
  pub taken : List ℕ
  pub within : IsWithinLine taken
  pub took : TookAll old taken new
  pub header : (after : List ℕ) → VideoHeaderAt (taken ++ after) shape.format after
  pub y4m : shape.y4m ≡ true

-- At most a line was taken, and no header is there: whatever follows, or where nothing follows, since all that was left
-- was taken.
pub record HeaderStops (old : SlotView) (fault : VideoFault) (new : SlotView) : Type 0 where
  pub taken : List ℕ
  pub within : IsWithinLine taken
  pub took : TookAll old taken new
  pub stops :
      ((after : List ℕ) → VideoHeaderBreaks (taken ++ after) fault)
      ⊎ (IsAtEnd new.left × VideoHeaderBreaks taken fault)

-- bytes of a line were taken, and then a read failed
pub record HeaderFails (old new : SlotView) : Type 0 where
  pub taken : List ℕ
  pub within : IsWithinLine taken
  pub failed : TookFailed old taken new

-- bytes of a line were taken, and then memory ran out
pub record HeaderLacksMemory (old new : SlotView) : Type 0 where
  pub taken : List ℕ
  pub within : IsWithinLine taken
  pub took : TookAll old taken new

-- the header was read
abbrev pub OpensVideo : SlotView → Result Shape VideoEnd → SlotView → Type 0
OpensVideo old (Ok shape) new = TookHeader old shape new
OpensVideo old (Err (Bad break)) new = HeaderStops old (bad break.rule) new × (break.slot ≡ Input) × (break.frame ≡ 0)
OpensVideo old (Err (Limit limit count)) new = HeaderStops old (over limit count) new
OpensVideo old (Err (Read slot)) new = HeaderFails old new × (slot ≡ Input)
OpensVideo old (Err Memory) new = HeaderLacksMemory old new
