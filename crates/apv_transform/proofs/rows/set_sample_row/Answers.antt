use Rattle.std.proofs.Common.{◌∙◌, ap, [], get_or, arith}
use Rattle.std.proofs.lemmas.List.{get_or_default}
use Rattle.apv_transform.proofs.Stored.{row_written, row_kept}
use Rattle.apv_transform.proofs.rows.set_sample_row.Goals as goal

pub returns : goal.returns
returns c =
    let rows = c.args.rows.now in
    let lanes = c.element.result in
    let taken = c.element.ensures ∙ get_or_default rows c.args.row lanes [] (omega arith) in
    record {
      written = λ x small. row_written 0 c.args.row c.args.samples.now lanes (omega arith) c.requires (omega arith) x small ∙ ap (λ lanes. get_or lanes x 0) taken;
      kept = row_kept 0 c.args.row c.args.samples.now lanes (omega arith) c.requires (omega arith);
    }
