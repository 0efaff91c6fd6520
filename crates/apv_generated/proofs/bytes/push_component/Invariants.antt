use Rattle.std.proofs.Common.{◌≡◌, ◌++◌}
use Rattle.apv_encoding.specs.Generated.{generated_picture}
use Rattle.apv_generated.specs.Bytes.{component_bytes}
use Rattle.apv_generated.proofs.bytes.push_component.Given as goal

-- the rows so far are appended
abbrev pub invariant-loop-y : goal.invariant-loop-y
invariant-loop-y l = l.bytes.items ≡ l.initial.bytes.items ++ component_bytes (generated_picture l.seed l.number) l.comp l.width l.y
