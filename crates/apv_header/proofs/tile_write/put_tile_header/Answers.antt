use Rattle.std.proofs.Common.{◌∙◌, length, arith}
use Rattle.apv_header.proofs.TileWriteLemmas.{bytes_2, header-written}
use Rattle.apv_header.proofs.tile_write.put_tile_header.Goals as goal

pub returns : goal.returns
returns c = λ layout size e.
    header-written layout c.args.index size c.args.lengths.now c.args.qp.now c.args.out.now _ _ _ _ c.requires.pairs c.requires.some c.requires.room e (λ i. omega (arith, c.type_inv.qp i))
    (c.copy_from_slice.ensures.after ∙ c.to_be_bytes.ensures ∙ bytes_2 (length c.args.out.now)) (c.copy_from_slice-2.ensures.after ∙ c.to_be_bytes-2.ensures ∙ bytes_2 c.args.index) c.put_lengths.ensures c.copy_from_slice-3.ensures.after
