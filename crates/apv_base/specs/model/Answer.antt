-- What the answers of a run mean.
use Rattle.std.specs.Prelude.{ℕ}
use Rattle.apv_base.specs.declared.rules.Place.{Place}
use Rattle.apv_base.specs.declared.exits.Exit.{Exit}
use Rattle.apv_base.specs.declared.exits.Exit.TheVariants.{Done, Memory, Usage, Broken, BadVideo, BadPayloads}
use Rattle.apv_base.specs.declared.exits.Exit.TheVariants.{BadTileQp}
use Rattle.apv_base.specs.declared.exits.Exit.TheVariants.{OpenFailed, ReadFailed, WriteFailed, LimitMet, FormatChange}
use Rattle.apv_base.specs.declared.exits.Exit.TheVariants.{NoTag, TooLarge}

-- the exit status of a program that ends with an answer
abbrev pub status_of : Exit → ℕ
status_of Done = 0
status_of Memory = 1
status_of (Usage kind) = 2
status_of (Broken break) = 3
status_of (BadVideo break) = 3
status_of (BadPayloads byte) = 3
status_of (BadTileQp byte) = 3
status_of (OpenFailed slot) = 4
status_of (ReadFailed slot) = 4
status_of (WriteFailed slot) = 5
status_of (LimitMet limit count) = 6
status_of (FormatChange first other) = 7
status_of (NoTag format) = 7
status_of (TooLarge frame smallest limit) = 8

-- the place of an access unit, or of a PBU in it
abbrev pub place_of : ℕ → ℕ → Place
place_of unit pbu = record { unit = unit; pbu = pbu; tile = 0; comp = 0 }
