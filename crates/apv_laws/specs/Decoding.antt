-- What decoding a file gives.
use Rattle.std.specs.Prelude.{◌≡◌, ℕ, List}
use Rattle.apv_base.specs.declared.exits.Exit.{Exit}
use Rattle.apv_base.specs.model.Judge.{DecodedUnit}
use Rattle.apv_base.specs.model.Output.{OutputSettings, DecodesTo, dec_out, dec_payloads}

-- the units, where the decoder stops, and the bytes of the picture output and of the payload output
pub record Decoding : Type 0 where
  pub units : List DecodedUnit
  pub exit : Exit
  pub pictures : List ℕ
  pub payloads : List ℕ

-- the file decodes so
pub record HasDecoding (settings : OutputSettings) (file : List ℕ) (decoding : Decoding) : Type 0 where
  pub run : DecodesTo settings file decoding.units decoding.exit
  pub pictures : decoding.pictures ≡ dec_out settings decoding.units
  pub payloads : decoding.payloads ≡ dec_payloads settings decoding.units
