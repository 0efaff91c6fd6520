use Rattle.apv_base.specs.model.Picture.{picture}
use Rattle.apv_grid.specs.Buffer.{samples_of}
use Rattle.apv_video.proofs.WriteLemmas.{puts-then}
use Rattle.apv_video.proofs.write.write_frame.Goals as goal

pub returns-clause-here : goal.returns-clause-here
returns-clause-here g c =
    let frame = c.args.frame.now in
    puts-then _ (g.F.Files.slot_view c.write_frame_line.new.files c.args.slot) _ _ (picture frame.grid.format (samples_of frame)) c.write_picture.result c.in_ok-write_frame_line.ensures.here c.write_picture.ensures.here
