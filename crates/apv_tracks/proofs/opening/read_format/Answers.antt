use Rattle.apv_tracks.proofs.FormatEndLemmas.{format-given, format-read, header-ends}
use Rattle.apv_tracks.proofs.opening.read_format.Goals as goal

pub returns-in-Planar-clause-ok : goal.returns-in-Planar-clause-ok
returns-in-Planar-clause-ok g c = format-given c.args.settings.now _ _ c.in-Planar.is c.given_format.ensures

pub returns-in-Ok-clause-ok : goal.returns-in-Ok-clause-ok
returns-in-Ok-clause-ok g c = format-read c.args.settings.now _ _ c.in-Y4m.is c.in-Ok.shape c.in-Ok.ensures.here

pub returns-in-Err-clause-err : goal.returns-in-Err-clause-err
returns-in-Err-clause-err g c = rw c.video_end_exit.ensures (header-ends c.args.settings.now _ _ c.in-Y4m.is c.in-Err.end c.in-Err.ensures.here)
