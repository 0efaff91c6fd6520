use Rattle.std.proofs.Common.{◌≡◌, ◌≤◌, ◌-◌, ℕ, List}
use Rattle.apv_dec.specs.Outputs.{output_settings}
use Rattle.apv_dec.proofs.ProgressLemmas.{LoopState}
use Rattle.apv_dec.proofs.decode.decode.Given as goal

-- n units were read and written, and this is the format of their pictures
abbrev pub invariant-loop-frames : goal.invariant-loop-frames
invariant-loop-frames g l = record {
  number : l.number ≤ 4294967295;
  state : LoopState (output_settings l.fn.settings) (g.F.Files.slot_view l.fn.files) (g.F.Files.slot_view l.files) l.number l.format;
  held : (file : List ℕ) → g.F.Files.held l.files file ≡ g.F.Files.held l.fn.files file;
}

abbrev pub decreases-loop-frames : goal.decreases-loop-frames
decreases-loop-frames g l = 4294967295 - l.number
