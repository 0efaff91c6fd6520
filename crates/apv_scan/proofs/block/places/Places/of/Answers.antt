use Rattle.apv_base.specs.model.Scan.{level_at}
use Rattle.apv_scan.proofs.PlacesLemmas.{places_of_bits}
use Rattle.apv_scan.proofs.block.places.Places.of.Goals as goal

pub returns : goal.returns
returns c = places_of_bits (level_at c.args.levels.now) c.mask_of.result c.mask_of.ensures
