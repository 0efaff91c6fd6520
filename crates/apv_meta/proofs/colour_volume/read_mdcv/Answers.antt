use Rattle.std.proofs.Common.{rules, ◌≡◌, length, refl, List, ℕ}
use Rattle.apv_meta.proofs.NumberBytes.{one-more, last-read}
use Rattle.apv_meta.proofs.colour_volume.read_mdcv.Goals as goal

pub returns-clause-found : goal.returns-clause-found
returns-clause-found c =
    let bytes : List ℕ = c.args.payload.now.bytes.now in
    let size : length c.args.payload.now.bytes.now ≡ 24 = search rules in
    record {
      right_kind = search rules;
      size = size;
      spelled = one-more bytes _ _ 0 4 4 refl c.point_at.ensures (one-more bytes _ _ 4 8 8 refl c.point_at-2.ensures (one-more bytes _ _ 8 12 12 refl c.point_at-3.ensures (one-more bytes _ _ 12 16 16 refl c.point_at-4.ensures (one-more bytes _ _ 16 20 20 refl c.four_bytes_at.ensures (last-read bytes _ 20 24 size c.four_bytes_at-2.ensures)))));
    }
