use Rattle.std.proofs.Common.{◌≡◌, ◌≤◌, ◌+◌, ◌-◌, length, drop}
use Rattle.apv_video.specs.Tokens.{letter_tokens}
use Rattle.apv_video.proofs.tokens.find_token.Given as goal

-- the tokens so far begin with other letters
abbrev pub invariant-loop-place : goal.invariant-loop-place
invariant-loop-place l = record {
  inside : l.place ≤ length l.bytes + 1;
  tokens : letter_tokens l.letter (drop l.first l.bytes) ≡ letter_tokens l.letter (drop l.place l.bytes);
}

abbrev pub decreases-loop-place : goal.decreases-loop-place
decreases-loop-place l = length l.bytes + 1 - l.place
