use Rattle.apv_generated.proofs.ByteLemmas.{made-left}
use Rattle.apv_generated.proofs.video.GeneratedVideo.make_next.Goals as goal

pub returns-in-Ok-clause-left : goal.returns-in-Ok-clause-left
returns-in-Ok-clause-left c =
    let video = c.args.self.now in
    made-left video.seed video.number video.taken video.picture.items c.clear.new.self.items c.push_picture.new.bytes.items c.requires.read c.requires.more c.clear.ensures.items c.in-Ok.ensures
