-- Going over the PBUs of an access unit and decoding the frames among them.
use Rattle.std.proofs.Common.{◌≡◌, ℕ, List, [], ◌∷◌, ◌++◌, refl, sym, ap, subst, ◌∙◌, true, false}
use Rattle.apv_base.specs.model.CodedFrame.{HasFrame}
use Rattle.apv_base.specs.model.Judge.{DecodedFrame, IsDecodedFrame, AreDecodedFrames, none, other, decoded, FramesBreak}
use Rattle.apv_base.specs.model.Pbu.{Pbu, is_frame}
use Rattle.apv_grid.specs.Buffer.{Buffer}
use Rattle.apv_unit.proofs.PbusWalk.{Midway, Passes}
use Rattle.apv_unit.specs.Pbus.{PbusLeft}
use Rattle.apv_unit.specs.declared.pbus.SoundPbu.{SoundPbu}
use Rattle.apv_workers.specs.declared.run.ContentBreak as declared
use Rattle.apv_workers.specs.Decode.{break_of}
use Rattle.apv_frame.specs.declared.decode.FrameFault.{FrameFault}
use Rattle.apv_frame.specs.declared.decode.FrameFault.TheVariants as of_frame
use Rattle.apv_frame.specs.Frame.{HasContentBreak, IsFault}
use Rattle.apv_frame.specs.Unit.{IsBufferOf, AreBuffersOf, none as no_buffers, more, HasFrames, Pushes, IsFramesFault, fault_at}

-- ---- one more

decoded-push : (pbus : List Pbu) (frames : List DecodedFrame) (pbu : Pbu) (frame : DecodedFrame) → is_frame pbu.kind ≡ true → IsDecodedFrame pbu frame → AreDecodedFrames pbus frames
    → AreDecodedFrames (pbus ++ pbu ∷ []) (frames ++ frame ∷ [])
decoded-push [] frames pbu frame is d none = decoded pbu [] frame [] is d none
decoded-push (p ∷ ps) frames pbu frame is d (other _ _ fs e all) = other p (ps ++ pbu ∷ []) (fs ++ frame ∷ []) e (decoded-push ps fs pbu frame is d all)
decoded-push (p ∷ ps) frames pbu frame is d (decoded _ _ f fs e i all) = decoded p (ps ++ pbu ∷ []) f (fs ++ frame ∷ []) e i (decoded-push ps fs pbu frame is d all)

other-push : (pbus : List Pbu) (frames : List DecodedFrame) (pbu : Pbu) → is_frame pbu.kind ≡ false → AreDecodedFrames pbus frames → AreDecodedFrames (pbus ++ pbu ∷ []) frames
other-push [] frames pbu not none = other pbu [] [] not none
other-push (p ∷ ps) frames pbu not (other _ _ fs e all) = other p (ps ++ pbu ∷ []) fs e (other-push ps fs pbu not all)
other-push (p ∷ ps) frames pbu not (decoded _ _ f fs e i all) = decoded p (ps ++ pbu ∷ []) f fs e i (other-push ps fs pbu not all)

buffers-push : (frames : List DecodedFrame) (buffers : List (Buffer ℕ)) (frame : DecodedFrame) (buffer : Buffer ℕ) → IsBufferOf frame buffer → AreBuffersOf frames buffers
    → AreBuffersOf (frames ++ frame ∷ []) (buffers ++ buffer ∷ [])
buffers-push [] buffers frame buffer is no_buffers = more frame [] buffer [] is no_buffers
buffers-push (f ∷ fs) buffers frame buffer is (more _ _ b bs i all) = more f (fs ++ frame ∷ []) b (bs ++ buffer ∷ []) i (buffers-push fs bs frame buffer is all)

-- ---- along the PBUs

-- of the PBUs that were passed the frames are decoded
pub record DecodedSoFar (pbus : List Pbu) (now : PbusLeft) (buffers : List (Buffer ℕ)) : Type 0 where
  pub passed : List Pbu
  pub midway : Midway pbus passed now
  pub frames : HasFrames passed buffers

pub start-decoded : (pbus : List Pbu) (now : PbusLeft) (buffers : List (Buffer ℕ)) → Midway pbus [] now → buffers ≡ [] → DecodedSoFar pbus now buffers
start-decoded pbus now buffers at e = record {
  passed = [];
  midway = at;
  frames = subst (λ (b : List (Buffer ℕ)). HasFrames [] b) (sym e) (record { frames = []; decoded = none; held = no_buffers });
}

-- the PBU that was passed isn't a frame
pub other-passed : (pbus : List Pbu) (old new : PbusLeft) (given : SoundPbu) (buffers : List (Buffer ℕ)) (now : DecodedSoFar pbus old buffers) (step : Passes pbus now.passed given new)
    → is_frame given.kind ≡ false → DecodedSoFar pbus new buffers
other-passed pbus old new given buffers now step not = record {
  passed = now.passed ++ step.pbu ∷ [];
  midway = step.midway;
  frames = record {
    frames = now.frames.frames;
    decoded = other-push now.passed now.frames.frames step.pbu (ap is_frame (sym step.is.kind) ∙ not) now.frames.decoded;
    held = now.frames.held;
  };
}

-- the PBU that was passed is a frame, and was decoded
pub frame-passed : (pbus : List Pbu) (old new : PbusLeft) (given : SoundPbu) (buffers more_buffers : List (Buffer ℕ)) (now : DecodedSoFar pbus old buffers) (step : Passes pbus now.passed given new)
    → is_frame given.kind ≡ true → Pushes given.body.now buffers more_buffers → DecodedSoFar pbus new more_buffers
frame-passed pbus old new given buffers more_buffers now step is p =
    let frame : DecodedFrame = record { kind = step.pbu.kind; group = step.pbu.group; frame = p.samples.frame; levels = p.samples.decoded.levels } in
    let has : HasFrame step.pbu.body p.samples.frame = subst (λ (b : List ℕ). HasFrame b p.samples.frame) step.is.body p.samples.is in
    record {
      passed = now.passed ++ step.pbu ∷ [];
      midway = step.midway;
      frames = subst (λ (b : List (Buffer ℕ)). HasFrames (now.passed ++ step.pbu ∷ []) b) (sym p.pushed) (record {
        frames = now.frames.frames ++ frame ∷ [];
        decoded = decoded-push now.passed now.frames.frames step.pbu frame (ap is_frame (sym step.is.kind) ∙ is)
            (record { kind = refl; group = refl; frame = has; levels = p.samples.decoded.is }) now.frames.decoded;
        held = buffers-push now.frames.frames buffers frame p.buffer (record { grid = p.samples.grid; samples = p.samples.decoded.samples }) now.frames.held;
      });
    }

-- the content of the frame that comes next breaks a rule
frame-breaks : (pbus : List Pbu) (old new : PbusLeft) (given : SoundPbu) (buffers : List (Buffer ℕ)) (at : declared.ContentBreak) (now : DecodedSoFar pbus old buffers) (step : Passes pbus now.passed given new)
    → is_frame given.kind ≡ true → HasContentBreak given.body.now at → FramesBreak pbus given.number (break_of at)
frame-breaks pbus old new given buffers at now step is b = record {
  prefix = now.passed;
  pbu = step.pbu;
  later = step.later;
  frames = now.frames.frames;
  frame = b.frame;
  parts = step.parts;
  count = step.number;
  decoded = now.frames.decoded;
  is_frame = ap is_frame (sym step.is.kind) ∙ is;
  has_frame = subst (λ (x : List ℕ). HasFrame x b.frame) step.is.body b.is;
  breaks = b.breaks;
}

-- the frame that comes next isn't decoded
pub frame-faults : (pbus : List Pbu) (old new : PbusLeft) (given : SoundPbu) (buffers : List (Buffer ℕ)) (fault : FrameFault) (now : DecodedSoFar pbus old buffers) (step : Passes pbus now.passed given new)
    → is_frame given.kind ≡ true → IsFault given.body.now fault → IsFramesFault pbus (fault_at given.number fault)
frame-faults pbus old new given buffers (of_frame.Broken at) now step is b = frame-breaks pbus old new given buffers at now step is b
frame-faults pbus old new given buffers of_frame.Memory now step is b = tt {0}
