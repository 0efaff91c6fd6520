use Rattle.std.proofs.Common.{refl}
use Rattle.apv_grid.specs.Buffer.{samples_of}
use Rattle.apv_video.specs.FrameLine.{TookFrameLine, LacksFrameLine, FrameLineFails, FrameLineStops}
use Rattle.apv_video.proofs.FrameLemmas.{y4m-read, line-wrong, line-fails, line-stops}
use Rattle.apv_video.proofs.frames.read_y4m.Goals as goal

pub returns-in-Ok-true-clause-here : goal.returns-in-Ok-true-clause-here
returns-in-Ok-true-clause-here g c start so =
    let old = g.F.Files.slot_view c.args.files.now c.args.slot in
    let mid = g.F.Files.slot_view c.read_frame_line.new.files c.args.slot in
    let new = g.F.Files.slot_view c.read_rest.new.files c.args.slot in
    let line : TookFrameLine old c.args.first mid = rw c.in-Ok-true.field-0-test at c.in-Ok-true.ensures.here in
    y4m-read c.args.slot c.args.shape.now c.args.number c.args.first start old mid new c.args.frame.now.grid.format c.read_rest.result (samples_of c.read_rest.new.frame) c.requires.y4m c.requires.few so line c.requires.format c.read_rest.ensures.here

pub returns-in-Ok-false-clause-here : goal.returns-in-Ok-false-clause-here
returns-in-Ok-false-clause-here g c start so =
    let old = g.F.Files.slot_view c.args.files.now c.args.slot in
    let mid = g.F.Files.slot_view c.read_frame_line.new.files c.args.slot in
    let none : LacksFrameLine old c.args.first mid = rw c.in-Ok-false.field-0-test at c.in-Ok-false.ensures.here in
    rw c.bad_picture.ensures (line-wrong c.args.shape.now c.args.number c.args.first start old mid c.requires.y4m c.requires.few so none, refl, refl)

pub returns-in-Err-Device-clause-here : goal.returns-in-Err-Device-clause-here
returns-in-Err-Device-clause-here g c start so =
    let old = g.F.Files.slot_view c.args.files.now c.args.slot in
    let mid = g.F.Files.slot_view c.read_frame_line.new.files c.args.slot in
    let fails : FrameLineFails old c.args.first mid = rw c.in-Err-Device.field-0-is at c.in-Err-Device.ensures.here in
    (line-fails c.args.shape.now c.args.first start old mid c.requires.y4m so fails, refl)

pub returns-in-Err-Memory-clause-here : goal.returns-in-Err-Memory-clause-here
returns-in-Err-Memory-clause-here g c start so =
    let old = g.F.Files.slot_view c.args.files.now c.args.slot in
    let mid = g.F.Files.slot_view c.read_frame_line.new.files c.args.slot in
    let stops : FrameLineStops old c.args.first mid = rw c.in-Err-Memory.field-0-is at c.in-Err-Memory.ensures.here in
    line-stops c.args.shape.now c.args.first start old mid c.requires.y4m so stops
