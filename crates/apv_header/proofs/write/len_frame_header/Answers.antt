use Rattle.std.proofs.Common.{length, ap, ◌∙◌, arith}
use Rattle.std.specs.List.{concat}
use Rattle.apv_base.specs.model.Header.{header_comps}
use Rattle.apv_header.proofs.LengthLemmas.{length-header, length-matrices}
use Rattle.apv_header.proofs.SpellLemmas.{spelled-header}
use Rattle.apv_header.proofs.write.len_frame_header.Goals as goal

pub returns-clause-bytes : goal.returns-clause-bytes
returns-clause-bytes c sizes count =
    let header = c.args.header.now in
    let stated = c.stated_matrices.ensures in
    let values = c.len_values.ensures in
    let spelled = spelled-header header sizes c.stated_matrices.result.now c.len_values.result c.requires.sound (λ present. count present ∙ c.requires.tiles) stated.matrices values.values values.count stated.count in
    let value_len = length-matrices header.use_matrix (header_comps header) header.matrices in
    let same = ap concat stated.matrices in
    omega (
      arith,
      ap length spelled,
      length-header header sizes,
      c.len_colour.ensures.bits,
      value_len,
      values.values,
      ap length same,
      c.len_sizes.ensures.bytes sizes count,
    )
