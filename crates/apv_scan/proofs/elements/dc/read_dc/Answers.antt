use Rattle.std.proofs.Common.{◌≡◌, to_z, of_z, w16, arith}
use Rattle.std.proofs.lemmas.Int.{to_z-of_z}
use Rattle.apv_scan.proofs.ReadingLemmas.{takes_seen}
use Rattle.apv_scan.proofs.elements.dc.read_dc.Goals as goal

pub returns-in-Some-take_dc-clause-ok : goal.returns-in-Some-take_dc-clause-ok
returns-in-Some-take_dc-clause-ok c =
    let e : to_z w16 (of_z w16 c.in-Some-take_dc.level) ≡ c.in-Some-take_dc.level = grind (arith, to_z-of_z) in
    rw e (
      c.in-Some-take_dc.ensures.0,
      takes_seen c.taken.result c.args.reader.now c.skip.new.self c.in-Some.window c.take_dc.new.window _ c.in-Some.ensures.some c.taken.ensures c.in-Some-take_dc.ensures.1 c.skip.ensures,
    )
