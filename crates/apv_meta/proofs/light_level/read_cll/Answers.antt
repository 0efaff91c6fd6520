use Rattle.std.proofs.Common.{rules, ◌≡◌, length, refl}
use Rattle.apv_base.specs.model.Bits.{be}
use Rattle.apv_meta.proofs.NumberBytes.{one-more, last-read}
use Rattle.apv_meta.proofs.light_level.read_cll.Goals as goal

pub returns-clause-found : goal.returns-clause-found
returns-clause-found c =
    let size : length c.args.payload.now.bytes.now ≡ 4 = search rules in
    record {
      right_kind = search rules;
      size = size;
      spelled = one-more c.args.payload.now.bytes.now (be 2 c.two_bytes_at.result) (be 2 c.two_bytes_at-2.result) 0 2 2 refl c.two_bytes_at.ensures (last-read c.args.payload.now.bytes.now (be 2 c.two_bytes_at-2.result) 2 4 size c.two_bytes_at-2.ensures);
    }
