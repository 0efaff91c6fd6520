use Rattle.std.proofs.Common.{◌≡◌, ◌++◌}
use Rattle.apv_encoding.specs.Generated.{generated_picture}
use Rattle.apv_generated.specs.Bytes.{row_bytes}
use Rattle.apv_generated.proofs.bytes.push_row.Given as goal

-- the samples so far are appended
abbrev pub invariant-loop-x : goal.invariant-loop-x
invariant-loop-x l = l.bytes.items ≡ l.initial.bytes.items ++ row_bytes (generated_picture l.seed l.number) l.comp l.x l.y
