use Rattle.std.proofs.Common.{◌-◌, bit_and, sym, ap, ◌∙◌, arith}
use Rattle.apv_scan.specs.Places.{places_in}
use Rattle.apv_scan.proofs.PlacesLemmas.{none_in_zero, first_in}
use Rattle.apv_scan.proofs.block.places.Places.first.Goals as goal

pub returns-then-self-eq0-clause-none : goal.returns-then-self-eq0-clause-none
returns-then-self-eq0-clause-none c = sym c.self.view_is ∙ ap places_in c.if-self-eq0.true ∙ none_in_zero

pub returns-clause-some : goal.returns-clause-some
returns-clause-some c =
    (places_in (bit_and c.self.inside.mask (c.self.inside.mask - 1)), sym c.self.view_is ∙ first_in c.self.inside.mask (omega (arith, c.if-self-eq0.false)) c.self.invariant)
