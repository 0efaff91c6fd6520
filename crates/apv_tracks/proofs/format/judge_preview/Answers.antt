use Rattle.std.proofs.Common.{sym, ◌∙◌}
use Rattle.apv_tracks.specs.Plain.{plain_settings}
use Rattle.apv_tracks.proofs.HeaderLemmas.{preview-judged}
use Rattle.apv_tracks.proofs.format.judge_preview.Goals as goal

pub returns : goal.returns
returns c =
    preview-judged c.args.settings.now (plain_settings c.args.settings.now).preview c.in-Some.format c.further_header.result c.requires (sym c.preview_format.ensures ∙ c.in-Some.is) c.in_ok-judge_size.ensures.0 (rw c.default_tile-tiles.ensures.size at c.further_header.ensures)
