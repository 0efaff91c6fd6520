use Rattle.std.proofs.Common.{◌∙◌}
use Rattle.apv_workers.specs.Track.{frame_of, levels_of}
use Rattle.apv_frame.proofs.PictureLemmas.{picture-of}
use Rattle.apv_frame.proofs.encode.reconstruct.Goals as goal

pub returns-clause-picture : goal.returns-clause-picture
returns-clause-picture g c =
    picture-of (frame_of c.args.track.now) (levels_of c.args.track.now) c.rebuild_tiles.new.frame (c.rebuild_tiles.ensures.grid ∙ c.requires.grid) c.rebuild_tiles.ensures.samples
