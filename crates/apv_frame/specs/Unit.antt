-- The frames of an access unit, and what is decoded of them.
use Rattle.std.specs.Prelude.{◌≡◌, ℕ, List, [], ◌∷◌, ◌++◌}
use Rattle.apv_base.specs.model.Header.{grid_of}
use Rattle.apv_base.specs.model.Judge.{DecodedFrame, AreDecodedFrames, FramesBreak}
use Rattle.apv_base.specs.model.Pbu.{Pbu}
use Rattle.apv_base.specs.model.Picture.{sample}
use Rattle.apv_grid.specs.Buffer.{Buffer, IsFilled, samples_of}
use Rattle.apv_workers.specs.Decode.{break_of}
use Rattle.apv_frame.specs.Frame.{HasSamples}
use Rattle.apv_frame.specs.declared.decode.FrameFault.{FrameFault}
use Rattle.apv_frame.specs.declared.decode.FrameFault.TheVariants as of_frame
use Rattle.apv_frame.specs.declared.unit.FramesFault.{FramesFault}
use Rattle.apv_frame.specs.declared.unit.FramesFault.TheVariants.{Broken, Memory}

-- the buffer has the grid and the samples of a decoded frame
pub record IsBufferOf (frame : DecodedFrame) (buffer : Buffer ℕ) : Type 0 where
  pub grid : buffer.grid ≡ grid_of frame.frame.header
  pub samples : (comp x y : ℕ) → IsFilled buffer.grid comp x y
      → samples_of buffer comp x y ≡ sample frame.frame frame.levels comp x y

-- the buffers are those of the frames, one after another
pub data AreBuffersOf : List DecodedFrame → List (Buffer ℕ) → Type 0 where
  none : AreBuffersOf [] []
  more : (frame : DecodedFrame) (frames : List DecodedFrame) (buffer : Buffer ℕ) (buffers : List (Buffer ℕ))
      → IsBufferOf frame buffer → AreBuffersOf frames buffers → AreBuffersOf (frame ∷ frames) (buffer ∷ buffers)

-- the frames among PBUs are valid, and the buffers are theirs
pub record HasFrames (pbus : List Pbu) (buffers : List (Buffer ℕ)) : Type 0 where
  pub frames : List DecodedFrame
  pub decoded : AreDecodedFrames pbus frames
  pub held : AreBuffersOf frames buffers

-- why the frames among PBUs aren't decoded; memory may run out at any time
abbrev pub IsFramesFault : List Pbu → FramesFault → Type 0
IsFramesFault pbus (Broken pbu at) = FramesBreak pbus pbu (break_of at)
IsFramesFault pbus Memory = Unit {0}

-- the fault of a frame as that of its access unit
abbrev pub fault_at : ℕ → FrameFault → FramesFault
fault_at pbu (of_frame.Broken at) = Broken pbu at
fault_at pbu of_frame.Memory = Memory

-- a buffer with the samples of the frame of a body is the next one
pub record Pushes (body : List ℕ) (old new : List (Buffer ℕ)) : Type 0 where
  pub buffer : Buffer ℕ
  pub pushed : new ≡ old ++ buffer ∷ []
  pub samples : HasSamples body buffer
