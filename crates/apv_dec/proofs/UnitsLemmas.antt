-- What the outputs hold of units is a prefix of what they hold of more units.
use Rattle.std.proofs.Common.{◌≡◌, ℕ, List, [], ◌∷◌, ◌++◌, refl, sym, ap, ◌∙◌, Option, None, append_assoc, append-nil}
use Rattle.std.specs.Prelude.{if◌then◌else◌}
use Rattle.apv_base.specs.declared.format.Format.{Format}
use Rattle.apv_base.specs.model.Judge.{DecodedUnit}
use Rattle.apv_base.specs.model.Output.{OutputSettings, formats, wants_format, dec_out, dec_payloads}
use Rattle.apv_dec.specs.Outputs.{first_format, new_format, unit_pictures, unit_metadata}
use Rattle.apv_dec.proofs.OutputLemmas.{out-push, payloads-push}

-- bytes are these, and perhaps more
abbrev pub Extends : List ℕ → List ℕ → Type 0
Extends bytes all = (more : List ℕ) × (all ≡ bytes ++ more)

-- what is extended by each unit is extended by more units
module _ (all : List DecodedUnit → List ℕ) (push : (units : List DecodedUnit) (unit : DecodedUnit) → Extends (all units) (all (units ++ unit ∷ []))) where
  extended : (units more : List DecodedUnit) → Extends (all units) (all (units ++ more))
  extended units [] = ([], ap all (append-nil units) ∙ sym (append-nil (all units)))
  extended units (unit ∷ more) =
      let one = push units unit in
      let rest = extended (units ++ unit ∷ []) more in
      (one.0 ++ rest.0, ap all (sym (append_assoc units (unit ∷ []) more)) ∙ rest.1 ∙ ap (λ (xs : List ℕ). xs ++ rest.0) one.1 ∙ append_assoc (all units) one.0 rest.0)

module _ (settings : OutputSettings) where
  -- the format that the header line of units names, where there is one
  abbrev header_format : List DecodedUnit → Option Format
  header_format units = if wants_format settings then first_format (formats settings units) else None

  pub out-more : (units more : List DecodedUnit) → Extends (dec_out settings units) (dec_out settings (units ++ more))
  out-more = extended (dec_out settings) (λ units unit. (
    unit_pictures settings (new_format (header_format units) (header_format (units ++ unit ∷ []))) unit,
    out-push settings units unit (header_format units) (header_format (units ++ unit ∷ [])) _ refl refl refl,
  ))

  pub payloads-more : (units more : List DecodedUnit) → Extends (dec_payloads settings units) (dec_payloads settings (units ++ more))
  payloads-more = extended (dec_payloads settings) (λ units unit. (unit_metadata settings unit, payloads-push settings units unit))
