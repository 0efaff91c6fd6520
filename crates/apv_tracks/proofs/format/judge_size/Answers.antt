use Rattle.std.proofs.Common.{ℕ, ap}
use Rattle.apv_base.specs.declared.exits.Exit.TheVariants.{LimitMet}
use Rattle.apv_base.specs.declared.exits.VideoRule.TheVariants.{Size}
use Rattle.apv_base.specs.declared.rules.Limit.TheVariants.{L2}
use Rattle.apv_base.specs.model.Format.{macroblocks}
use Rattle.apv_base.specs.model.Video.{bad, over}
use Rattle.apv_tracks.proofs.HeaderLemmas.{size-bad, size-over}
use Rattle.apv_tracks.proofs.format.judge_size.Goals as goal

pub returns-then-is_bad_size : goal.returns-then-is_bad_size
returns-then-is_bad_size c =
    (bad Size, size-bad c.args.format.now c.is_bad_size.result c.is_bad_size.ensures c.if-is_bad_size.true, c.bad_format.ensures)

pub returns-then-macroblocks-gt-MAX_MACROBLOCKS : goal.returns-then-macroblocks-gt-MAX_MACROBLOCKS
returns-then-macroblocks-gt-MAX_MACROBLOCKS c = (
  over L2 (macroblocks c.args.format.now),
  size-over c.args.format.now c.is_bad_size.result c.is_bad_size.ensures c.macroblocks-macroblocks.result c.if-is_bad_size.false c.macroblocks-macroblocks.ensures c.if-macroblocks-gt-MAX_MACROBLOCKS.true,
  ap (λ (n : ℕ). LimitMet L2 n) c.macroblocks-macroblocks.ensures,
)
