-- What a call that reads the line before a picture takes.
use Rattle.std.specs.Prelude.{◌≡◌, ℕ, ◌<◌, ◌≤◌, Bool, true, false, List, [], ◌∷◌, ◌++◌, length, codes}
use Rattle.std.specs.Prelude.{Result, Ok, Err, ◌⊎◌}
use Rattle.std.specs.Io.KnownBytes.{IsAtEnd}
use Rattle.apv_base.specs.declared.options.Form.TheVariants.{Y4m}
use Rattle.apv_base.specs.model.Video.{FrameLineAt}
use Rattle.apv_files.specs.SlotView.{SlotView}
use Rattle.apv_files.specs.Loops.{TookAll, TookFailed}
use Rattle.apv_files.specs.declared.files.Failed.{Failed}
use Rattle.apv_files.specs.declared.files.Failed.TheVariants.{Device, Memory}
use Rattle.apv_video.specs.Line.{HasNoFeed}

-- the line is FRAME, or FRAME and a space and anything
abbrev pub IsFrameLine : List ℕ → Type 0
IsFrameLine line = (line ≡ codes "FRAME") ⊎ ((more : List ℕ) × (line ≡ codes "FRAME " ++ more))

-- the rest of a frame line after its first byte was taken
pub record TookFrameLine (old : SlotView) (first : ℕ) (new : SlotView) : Type 0 where
  pub rest : List ℕ
  pub line : HasNoFeed (first ∷ rest)
  pub short : length rest < 1023
  pub named : IsFrameLine (first ∷ rest)
  pub took : TookAll old (rest ++ 10 ∷ []) new

-- no right frame line is there
abbrev pub HasNoFrameLine : List ℕ → Type 0
HasNoFrameLine xs = (start : List ℕ) → FrameLineAt xs Y4m start → ⊥

-- no more follows a frame line than what follows these bytes
abbrev pub IsWithinFrameLine : List ℕ → Type 0
IsWithinFrameLine taken = (more start : List ℕ) → FrameLineAt (taken ++ more) Y4m start → length start ≤ length more

-- no right frame line is there: whatever follows, or where nothing follows, since all that was left was taken
pub record LacksFrameLine (old : SlotView) (first : ℕ) (new : SlotView) : Type 0 where
  pub taken : List ℕ
  pub took : TookAll old taken new
  pub within : IsWithinFrameLine (first ∷ taken)
  pub stops :
      ((more : List ℕ) → HasNoFrameLine ((first ∷ taken) ++ more))
      ⊎ (IsAtEnd new.left × HasNoFrameLine (first ∷ taken))

-- bytes of a line were taken, and then a read failed
pub record FrameLineFails (old : SlotView) (first : ℕ) (new : SlotView) : Type 0 where
  pub taken : List ℕ
  pub within : IsWithinFrameLine (first ∷ taken)
  pub failed : TookFailed old taken new

-- bytes of a line were taken, and then memory ran out
pub record FrameLineStops (old : SlotView) (first : ℕ) (new : SlotView) : Type 0 where
  pub taken : List ℕ
  pub within : IsWithinFrameLine (first ∷ taken)
  pub took : TookAll old taken new

-- the rest of a frame line was read, and is right or not
abbrev pub ReadsFrameLine : SlotView → ℕ → Result Bool Failed → SlotView → Type 0
ReadsFrameLine old first (Ok true) new = TookFrameLine old first new
ReadsFrameLine old first (Ok false) new = LacksFrameLine old first new
ReadsFrameLine old first (Err Device) new = FrameLineFails old first new
ReadsFrameLine old first (Err Memory) new = FrameLineStops old first new
