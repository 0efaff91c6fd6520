use Rattle.std.proofs.Common.{◌≡◌, ◌+◌, ◌*◌, ◌∙◌, ◌++◌, length, sym, ap, arith}
use Rattle.std.specs.List.{concat}
use Rattle.apv_base.specs.model.Bits.{bits, padding}
use Rattle.apv_base.specs.model.Header.{header_comps, grid_of}
use Rattle.apv_base.proofs.BitsLemmas.{length-bits}
use Rattle.apv_header.specs.Parts.{colour_flag}
use Rattle.apv_header.specs.Words.{prefix_word, alignment_word, frame_header_word}
use Rattle.apv_header.proofs.LengthLemmas.{length-header, length-matrices, few_tiles, few_sizes, few_colour}
use Rattle.apv_header.proofs.SpellLemmas.{spelled-header}
use Rattle.apv_header.proofs.WriteLemmas.{midway-start, midway-step, midway-align, midway-done}
use Rattle.apv_header.proofs.write.put_frame_header.Goals as goal

pub new-writer-requires : goal.new-writer-requires
new-writer-requires c =
    let header = c.args.header.now in
    let sizes = c.args.sizes.now in
    let stated = c.stated_matrices.ensures in
    let values = c.len_values.ensures in
    let spelled = spelled-header header sizes c.stated_matrices.result.now c.len_values.result c.requires.sound c.requires.sizes stated.matrices values.values values.count stated.count in
    omega (
      arith,
      c.requires.room,
      ap length spelled,
      length-header header sizes,
      few_colour header.colour,
      length-matrices header.use_matrix (header_comps header) header.matrices,
      ap length (ap concat stated.matrices),
      values.values,
      values.count,
      stated.few,
      few_sizes header.sizes_present sizes _ c.requires.sizes (few_tiles (grid_of header) c.requires.sound.tiles),
    )

pub put_prefix-requires-clause-room : goal.put_prefix-requires-clause-room
put_prefix-requires-clause-room c =
    let header = c.args.header.now in
    let sizes = c.args.sizes.now in
    let stated = c.stated_matrices.ensures in
    let values = c.len_values.ensures in
    let spelled = spelled-header header sizes c.stated_matrices.result.now c.len_values.result c.requires.sound c.requires.sizes stated.matrices values.values values.count stated.count in
    omega (arith, c.requires.room, ap length spelled, length-header header sizes, ap length c.new-writer.ensures.bits_after, length-bits c.args.out.now)

pub returns : goal.returns
returns c =
    let header = c.args.header.now in
    let sizes = c.args.sizes.now in
    let stated = c.stated_matrices.ensures in
    let values = c.len_values.ensures in
    let spelled = spelled-header header sizes c.stated_matrices.result.now c.len_values.result c.requires.sound c.requires.sizes stated.matrices values.values values.count stated.count in
    let word = prefix_word header sizes ++ alignment_word header in
    let start = midway-start word c.args.out.now c.new-writer.result c.new-writer.ensures.written c.new-writer.ensures.bits_after (c.requires.room ∙ ap length spelled) in
    let prefix = midway-step start c.put_prefix.ensures.appends in
    let aligned = midway-align word (length c.args.out.now) c.put_prefix.new.writer c.align.new.self (padding (155 + 25 * colour_flag header.colour)) prefix (omega arith) (c.requires.room ∙ ap length spelled) c.align.ensures.appends in
    let all : bits c.align.new.self.bytes.now ≡ frame_header_word header sizes = midway-done word c.align.new.self aligned ∙ sym spelled in
    grind (arith, all)
