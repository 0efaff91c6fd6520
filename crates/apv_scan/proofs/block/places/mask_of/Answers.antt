use Rattle.apv_scan.proofs.MaskLemmas.{are_scan, bit_of_levels, scan_lanes}
use Rattle.apv_scan.proofs.block.places.mask_of.Goals as goal

pub returns : goal.returns
returns c = λ p within. bit_of_levels scan_lanes c.args.levels c.are_set.result p are_scan c.are_set.ensures c.well_formed.0.1.0.1 within
