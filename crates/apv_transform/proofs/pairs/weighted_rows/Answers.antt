use Rattle.std.proofs.Common.{◌≡◌, arith, w32}
use mir.Syntax.{w16}
use mir.Val.{to_z, of_z}
use Rattle.apv_transform.proofs.LaneBits.{holds_result, holds_sum, kept_in, lane_is, lanes_within}
use Rattle.apv_transform.proofs.pairs.weighted_rows.Goals as goal

pub returns : goal.returns
returns c =
    let p : to_z w16 (of_z w16 c.args.p) ≡ c.args.p = kept_in w16 c.requires.p (omega arith) in
    let q : to_z w16 (of_z w16 c.args.q) ≡ c.args.q = kept_in w16 c.requires.q (omega arith) in
    let r : to_z w16 (of_z w16 c.args.r) ≡ c.args.r = kept_in w16 c.requires.r (omega arith) in
    let s : to_z w16 (of_z w16 c.args.s) ≡ c.args.s = kept_in w16 c.requires.s (omega arith) in
    let low = holds_result c.weighted_pair-low.result (omega arith) c.weighted_pair-low.ensures.bound (omega arith) c.weighted_pair-low.ensures.value in
    let high = holds_result c.weighted_pair-high.result (omega arith) c.weighted_pair-high.ensures.bound (omega arith) c.weighted_pair-high.ensures.value in
    let sum = holds_sum w32 low high (omega arith) in
    record {
      value = λ lane small. rw (p, q, r, s) at (lane_is w32 sum lane small);
      bound = lanes_within w32 sum;
    }
