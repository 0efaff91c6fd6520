use Rattle.std.proofs.Common.{◌≡◌, ◌<◌, true, refl, arith, rules}
use Rattle.apv_base.specs.model.Format.{macroblocks, MAX_MACROBLOCKS}
use Rattle.apv_base.specs.model.Video.{other_form, no_tag, bad_size, wide, is_bad_video_size}
use Rattle.apv_video.specs.Header.{HasNoForm, LacksTag}
use Rattle.apv_video.proofs.header.judge_line.Goals as goal

pub returns-in-Err-Form : goal.returns-in-Err-Form
returns-in-Err-Form c =
    let none : HasNoForm c.args.line.now = rw c.in-Err-Form.field-0-is at c.in-Err-Form.ensures in
    rw c.bad_header.ensures ((λ xs after at. other_form c.args.line.now after at none), refl, refl)

pub returns-in-Err-Tag : goal.returns-in-Err-Tag
returns-in-Err-Tag c =
    let tag : LacksTag c.args.line.now = rw c.in-Err-Tag.field-0-is at c.in-Err-Tag.ensures in
    rw c.bad_header-in-Err-Tag.ensures ((λ xs after at. no_tag c.args.line.now after tag.width tag.height tag.tags at tag.is tag.none), refl, refl)

pub returns-then-is_bad_size : goal.returns-then-is_bad_size
returns-then-is_bad_size c =
    let size : is_bad_video_size c.in-Ok.format ≡ true = search rules in
    rw c.bad_header-then-is_bad_size.ensures ((λ xs after at. bad_size c.args.line.now after c.in-Ok.format at c.in-Ok.ensures size), refl, refl)

pub returns-then-macroblocks-gt-MAX_MACROBLOCKS : goal.returns-then-macroblocks-gt-MAX_MACROBLOCKS
returns-then-macroblocks-gt-MAX_MACROBLOCKS c xs after at =
    let many : MAX_MACROBLOCKS < macroblocks c.in-Ok.format = omega (arith, c.macroblocks-macroblocks.ensures) in
    rw c.macroblocks-macroblocks.ensures (wide c.args.line.now after c.in-Ok.format at c.in-Ok.ensures (search rules) many)
