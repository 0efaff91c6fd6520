use Rattle.apv_video.proofs.HeaderLemmas.{no-form-width, no-form-height, tag-missing, tag-unknown}
use Rattle.apv_video.proofs.header.format_of.Goals as goal

pub returns-in-None : goal.returns-in-None
returns-in-None c = no-form-width c.args.line.now c.in-Some.rest.now c.in-Some.ensures c.in-None.ensures.none

pub returns-in-None-size_after : goal.returns-in-None-size_after
returns-in-None-size_after c = no-form-height c.args.line.now c.in-Some.rest.now c.in-Some.ensures c.in-None-size_after.ensures.none

pub returns-in-Missing : goal.returns-in-Missing
returns-in-Missing c =
    tag-missing c.args.line.now c.in-Some.rest.now c.in-Some-size_after.width c.in-Some-size_after-2.height c.in-Some.ensures c.in-Some-size_after.ensures.some c.in-Some-size_after-2.ensures.some c.in-Missing.ensures

pub returns-in-None-of : goal.returns-in-None-of
returns-in-None-of c =
    tag-unknown c.args.line.now c.in-Some.rest.now c.in-One.text.now c.in-Some-size_after.width c.in-Some-size_after-2.height c.in-Some.ensures c.in-Some-size_after.ensures.some c.in-Some-size_after-2.ensures.some c.in-One.ensures c.in-None-of.ensures.none
