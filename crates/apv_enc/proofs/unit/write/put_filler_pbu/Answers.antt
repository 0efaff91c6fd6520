use Rattle.std.proofs.Common.{length, ap, arith}
use Rattle.apv_encoding.specs.AccessUnit.{filler_pbu}
use Rattle.apv_enc.proofs.PartSizeLemmas.{filler-size}
use Rattle.apv_enc.proofs.PartWriteLemmas.{filler-put}
use Rattle.apv_enc.proofs.unit.write.put_filler_pbu.Goals as goal

pub split_at_mut-header-requires : goal.split_at_mut-header-requires
split_at_mut-header-requires c = omega (arith, c.requires.room, ap (λ f. length (filler_pbu f)) c.in-Some.is, filler-size c.in-Some.count)

pub returns : goal.returns
returns c =
    rw c.in-Some.is
    (filler-put c.in-Some.count c.put_pbu_header.new.out c.put_filler.new.out c.put_pbu_header.ensures c.put_filler.ensures.bytes
    (omega (arith, c.put_filler.ensures.len, c.split_at_mut-header.ensures.back_len, c.requires.room, ap (λ f. length (filler_pbu f)) c.in-Some.is, filler-size c.in-Some.count)))
