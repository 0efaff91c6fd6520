use Rattle.std.proofs.Common.{◌≡◌, ◌+◌, ◌++◌, length, take}
use Rattle.apv_video.proofs.line.Line.push_text.Given as goal

-- the bytes so far follow those that were there before
abbrev pub invariant-loop-byte : goal.invariant-loop-byte
invariant-loop-byte l = record {
  text : l.self ≡ l.fn.self ++ take l.byte-index l.byte-items;
  size : length l.self ≡ length l.fn.self + l.byte-index;
}
