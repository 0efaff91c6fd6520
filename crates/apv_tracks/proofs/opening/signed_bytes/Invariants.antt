use Rattle.std.proofs.Common.{◌≡◌, map, take}
use Rattle.apv_encoding.specs.Answer.{signed_byte}
use Rattle.apv_tracks.proofs.opening.signed_bytes.Given as goal

-- the numbers so far
abbrev pub invariant-loop-byte : goal.invariant-loop-byte
invariant-loop-byte l = l.offsets.items ≡ map signed_byte (take l.byte-index l.bytes)
