use Rattle.apv_scan.proofs.TableLemmas.{looked_up}
use Rattle.apv_scan.proofs.tables.step_table.look_up.Goals as goal

pub returns : goal.returns
returns c =
    looked_up c.args.entries.now c.args.context c.bits.result c.args.window.now _ c.requires.entries c.requires.context c.bits.type_inv
    c.bits.ensures c.requires.ahead
