use Rattle.std.proofs.Common.{◌≡◌, ◌≤◌, ◌-◌, ℕ, List, is_some}
use Rattle.apv_base.specs.declared.format.Format.{Format}
use Rattle.apv_encoding.specs.Answer.{Inputs, tile_offsets}
use Rattle.apv_encoding.specs.Settings.{primary_track}
use Rattle.apv_enc.specs.Check.{IsCheckOf}
use Rattle.apv_tracks.specs.Plain.{plain_settings}
use Rattle.apv_tracks.specs.States.{HaveOwnGrids}
use Rattle.apv_enc.specs.Frames.{AreTracksFor}
use Rattle.apv_enc.proofs.RoundLemmas.{GoesOn}
use Rattle.apv_enc.proofs.frames.encode_frames.Given as goal

-- the frames so far are done, and the tracks and the frame of the reconstruction serve the next
abbrev pub invariant-loop-exit : goal.invariant-loop-exit
invariant-loop-exit g l = record {
  number : l.number ≤ 4294967295;
  own : HaveOwnGrids l.tracks;
  named : is_some l.recon ≡ is_some l.fn.settings.recon;
  goes : (inputs : Inputs) (format : Format) → AreTracksFor (plain_settings l.fn.settings) inputs format l.fn.payloads l.fn.tracks → GoesOn l.fn.settings inputs format l.fn.payloads (g.F.Files.slot_view l.fn.files) (g.F.Files.slot_view l.files) l.tracks l.recon l.number;
  checked : (inputs : Inputs) (format : Format) (is : AreTracksFor (plain_settings l.fn.settings) inputs format l.fn.payloads l.fn.tracks) → IsCheckOf l.fn.settings.generate (primary_track (plain_settings l.fn.settings) format (tile_offsets inputs.offsets)) (goes inputs format is).so_far.units l.check;
  held : (file : List ℕ) → g.F.Files.held l.files file ≡ g.F.Files.held l.fn.files file;
}

abbrev pub decreases-loop-exit : goal.decreases-loop-exit
decreases-loop-exit g l = 4294967295 - l.number
