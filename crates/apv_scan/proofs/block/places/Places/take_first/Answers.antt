use Rattle.std.proofs.Common.{sym, ◌∙◌, arith}
use Rattle.apv_scan.proofs.PlacesLemmas.{some_in, take_first_in}
use Rattle.apv_scan.proofs.block.places.Places.take_first.Goals as goal

pub overflow_sub-self : goal.overflow_sub-self
overflow_sub-self c = let some = some_in c.self.inside.mask c.in_ok-first.first c.in_ok-first.ensures.some.0 (c.self.view_is ∙ c.in_ok-first.ensures.some.1) in omega arith

pub returns-clause-some : goal.returns-clause-some
returns-clause-some c =
    sym c.self.view_is
    ∙ take_first_in c.self.inside.mask c.in_ok-first.first c.in_ok-first.ensures.some.0 c.self.invariant (c.self.view_is ∙ c.in_ok-first.ensures.some.1)
