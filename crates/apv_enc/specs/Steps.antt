-- What the steps of the loop over frames do.
use Rattle.std.specs.Prelude.{◌≡◌, ℕ, Option, IfSome}
use Rattle.apv_base.specs.declared.exits.Exit.{Exit}
use Rattle.apv_base.specs.declared.exits.Exit.TheVariants as exits
use Rattle.apv_base.specs.declared.rules.Limit.TheVariants.{L1}
use Rattle.apv_base.specs.model.Grid.{Grid}
use Rattle.apv_encoding.specs.Settings.{given_or}
use Rattle.apv_grid.specs.Buffer.{Buffer}
use Rattle.apv_words.specs.declared.encoder.EncSettings.{EncSettings}
use Rattle.apv_enc.specs.declared.unit.UnitFault.{UnitFault}
use Rattle.apv_enc.specs.declared.unit.UnitFault.TheVariants.{TooLarge, Limit, Memory}

-- the answer where no access unit of a frame was made
abbrev pub unit_exit : EncSettings → ℕ → UnitFault → Exit
unit_exit settings number (TooLarge smallest) =
    exits.TooLarge number smallest (given_or settings.limit 0)
unit_exit settings number (Limit size) = exits.LimitMet L1 size
unit_exit settings number Memory = exits.Memory

-- the frame of the reconstruction, where there is one, has this grid
abbrev pub HasReconGrid : Option (Buffer ℕ) → Grid → Type 0
HasReconGrid recon grid = IfSome recon (λ frame. frame.grid ≡ grid)
