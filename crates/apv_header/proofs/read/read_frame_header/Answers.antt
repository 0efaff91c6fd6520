use Rattle.std.proofs.Common.{◌/◌, ℕ, ap}
use Rattle.apv_header.proofs.FieldLemmas.{err-gives}
use Rattle.apv_header.proofs.HeaderLemmas.{prefix-whole, header-read, header-breaks, padding-breaks}
use Rattle.apv_header.proofs.read.read_frame_header.Goals as goal

pub returns-in_err-header-clause-err : goal.returns-in_err-header-clause-err
returns-in_err-header-clause-err c = err-gives _ _ _ c.from_residual.ensures.1 (header-breaks c.args.body.now c.new-reader.ensures c.in_err-header.ensures.err)

pub read_alignment-requires : goal.read_alignment-requires
read_alignment-requires c = prefix-whole c.args.body.now c.new-reader.ensures c.in_ok-header.ensures.ok

pub returns-in_err-read_alignment-clause-err : goal.returns-in_err-read_alignment-clause-err
returns-in_err-read_alignment-clause-err c =
    err-gives _ _ _ c.from_residual-in_err-read_alignment.ensures.1 (header-breaks c.args.body.now c.new-reader.ensures (
    padding-breaks c.in_ok-header.header c.in_ok-header.sizes.items c.args.body.now c.new-reader.ensures c.in_ok-header.ensures.ok c.in_err-read_alignment.ensures.err))

pub returns-clause-ok : goal.returns-clause-ok
returns-clause-ok c =
    let read = header-read c.in_ok-header.header c.in_ok-header.sizes.items c.args.body.now (c.place.result / 8) c.new-reader.ensures c.in_ok-header.ensures.ok c.in_ok-read_alignment.ensures.ok (ap (λ (n : ℕ). n / 8) c.place.ensures.place) in
    record {
      walked = read.0;
      inside = read.1;
      header = c.in_ok-header.ensures.sound;
      grid = c.in_ok-header.ensures.grid;
      present = c.in_ok-header.ensures.present;
      absent = c.in_ok-header.ensures.absent;
    }
