use Rattle.std.proofs.Common.{◌≡◌, ◌<◌, false, [], ◌∷◌, refl, arith, rules}
use Rattle.apv_base.specs.model.Run.{MAX_UNITS}
use Rattle.apv_files.specs.Loops.{TookAll, TookFailed}
use Rattle.apv_grid.specs.Buffer.{samples_of}
use Rattle.apv_video.proofs.FrameLemmas.{planar-read, one-too-many, first-fails, first-stops}
use Rattle.apv_video.proofs.frames.read_frame.Goals as goal

pub returns-in-Err-Device-clause-here : goal.returns-in-Err-Device-clause-here
returns-in-Err-Device-clause-here g c =
    let old = g.F.Files.slot_view c.args.files.now c.args.slot in
    let new = g.F.Files.slot_view c.take_byte.new.files c.args.slot in
    let failed : TookFailed old [] new = rw c.in-Err-Device.field-0-is at c.in-Err-Device.ensures.here in
    (first-fails c.args.shape.now old new failed, refl)

pub returns-in-Err-Memory-clause-here : goal.returns-in-Err-Memory-clause-here
returns-in-Err-Memory-clause-here g c =
    let old = g.F.Files.slot_view c.args.files.now c.args.slot in
    let new = g.F.Files.slot_view c.take_byte.new.files c.args.slot in
    let same : new ≡ old = rw c.in-Err-Memory.field-0-is at c.in-Err-Memory.ensures.here in
    first-stops c.args.shape.now old new same

pub returns-then-number-eq4294967295-clause-here : goal.returns-then-number-eq4294967295-clause-here
returns-then-number-eq4294967295-clause-here g c =
    let old = g.F.Files.slot_view c.args.files.now c.args.slot in
    let new = g.F.Files.slot_view c.take_byte.new.files c.args.slot in
    let took : TookAll old (c.in-Ok-Some.first ∷ []) new = search rules in
    one-too-many c.args.shape.now c.args.number c.in-Ok-Some.first (samples_of c.args.frame.now) old new c.requires.sound (search rules) took

pub returns-clause-here : goal.returns-clause-here
returns-clause-here g c =
    let old = g.F.Files.slot_view c.args.files.now c.args.slot in
    let mid = g.F.Files.slot_view c.take_byte.new.files c.args.slot in
    let new = g.F.Files.slot_view c.read_rest.new.files c.args.slot in
    let took : TookAll old (c.in-Ok-Some.first ∷ []) mid = search rules in
    let plain : c.args.shape.now.y4m ≡ false = search rules in
    let few : c.args.number < MAX_UNITS = omega arith in
    planar-read c.args.slot c.args.shape.now c.args.number c.in-Ok-Some.first old mid new _ c.args.frame.now.grid.format c.read_rest.result (samples_of c.read_rest.new.frame) plain c.requires.sound few took refl c.requires.format c.read_rest.ensures.here
