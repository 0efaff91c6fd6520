use Rattle.std.proofs.Common.{◌∙◌, rules}
use Rattle.apv_files.proofs.Many.{only-at-trans}
use Rattle.apv_base.specs.declared.slot.Slot.TheVariants.{Input}
use Rattle.apv_dec.proofs.NextUnitLemmas.{into-more}
use Rattle.apv_dec.proofs.unit.read_bytes.Goals as goal

pub loop-done-preserved : goal.loop-done-preserved
loop-done-preserved g c =
    let room = c.in-Ok.ensures in
    record {
      here = into-more _ (g.F.Files.slot_view c.loop-done.files Input) _ c.args.count c.loop-done.done c.in_ok-taken.taken c.make_room.new.bytes.len c.loop-done.bytes.items room.more c.as_mut_slice.result.now c.read.new.buf _
          c.loop-done.invariant.here (c.as_mut_slice.ensures.value ∙ room.parts) (search rules) (search rules) (search rules) c.in_ok-taken.ensures.here;
      elsewhere = only-at-trans Input _ _ _ c.loop-done.invariant.elsewhere c.in_ok-taken.ensures.elsewhere;
      held = λ file. c.in_ok-taken.ensures.held file ∙ c.loop-done.invariant.held file;
    }
