use Rattle.std.proofs.Common.{◌≤◌, ◌-◌, length, slice_range}
use Rattle.apv_video.specs.Tokens.{HasNoSpace}
use Rattle.apv_video.proofs.tokens.token_end.Given as goal

-- no space so far
abbrev pub invariant-loop-end : goal.invariant-loop-end
invariant-loop-end l = record {
  from : l.first ≤ l.end;
  inside : l.end ≤ length l.bytes;
  token : HasNoSpace (slice_range l.bytes l.first l.end);
}

abbrev pub decreases-loop-end : goal.decreases-loop-end
decreases-loop-end l = length l.bytes - l.end
