use Rattle.std.proofs.Common.{◌-◌, refl, arith}
use Rattle.apv_base.specs.model.Scan.{scan_table}
use Rattle.apv_scan.proofs.ScanLemmas.{scan_below}
use Rattle.apv_scan.proofs.scan.place_before.Goals as goal

pub returns-clause-place : goal.returns-clause-place
unfolding scan_table
returns-clause-place c = refl

pub returns-clause-within : goal.returns-clause-within
unfolding scan_table
returns-clause-within c = scan_below (c.args.scan_place - 1) (omega arith)
