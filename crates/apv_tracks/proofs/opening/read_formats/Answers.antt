use Rattle.apv_tracks.proofs.ErrorLemmas.{err-gives}
use Rattle.apv_tracks.proofs.FormatEndLemmas.{input-refused, preview-refused}
use Rattle.apv_tracks.proofs.opening.read_formats.Goals as goal

pub returns-in_err-primary-clause-err : goal.returns-in_err-primary-clause-err
returns-in_err-primary-clause-err g c =
    err-gives _ _ _ c.from_residual-in_err-primary.ensures.1
    (input-refused c.args.settings.now _ _ c.in_ok-format.format c.in_ok-format.ensures.ok c.in_err-primary.field-0.0 c.in_err-primary.ensures)

pub returns-in_err-preview-clause-err : goal.returns-in_err-preview-clause-err
returns-in_err-preview-clause-err g c =
    err-gives _ _ _ c.from_residual-in_err-preview.ensures.1
    (preview-refused c.args.settings.now _ _ c.in_ok-format.format c.in_ok-format.ensures.ok c.in_err-preview.field-0.0 c.in_ok-primary.ensures.0 c.in_err-preview.ensures)
