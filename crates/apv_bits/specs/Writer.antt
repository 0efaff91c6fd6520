-- What a writer of bits is seen as.
use Rattle.std.specs.Prelude.{◌≡◌, ℕ, List, ◌++◌, length, take, drop}
use base.Fml.{GName}
use Rattle.apv_base.specs.model.Bits.{bits}
use Rattle.apv_bits.specs.declared.writer.BitWriter.{BitWriter}

-- the bits written
abbrev pub written : BitWriter → List ℕ
written w = take w.place (bits w.bytes.now)

-- the bits of the slice after them: the room left
abbrev pub bits_after : BitWriter → List ℕ
bits_after w = drop w.place (bits w.bytes.now)

-- these bits more are written
pub record Appends (old new : BitWriter) (word : List ℕ) : Type 0 where
  pub written : written new ≡ written old ++ word
  pub after : bits_after new ≡ drop (length word) (bits_after old)

-- which slice it is: the same one while the name is the same
abbrev pub slice_name : BitWriter → GName
slice_name w = w.bytes.ghost_name
