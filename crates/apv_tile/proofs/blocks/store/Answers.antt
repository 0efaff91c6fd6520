use Rattle.std.proofs.Common.{◌+◌, ◌-◌, ◌*◌, length, ap, ◌∙◌, arith}
use Rattle.apv_tile.proofs.BlockLemmas.{stored_here, stored_others}
use Rattle.apv_tile.proofs.blocks.store.Goals as goal

pub returns-clause-here : goal.returns-clause-here
returns-clause-here g c =
    stored_here c.args.values.now c.copy_from_slice.new.self c.args.block (64 * c.args.block + 64 - 64 * c.args.block)
    (omega arith) (ap length c.copy_from_slice.ensures.after ∙ c.told-of_block) c.requires ∙ c.copy_from_slice.ensures.after

pub returns-clause-others : goal.returns-clause-others
returns-clause-others g c =
    stored_others c.args.values.now c.copy_from_slice.new.self c.args.block (64 * c.args.block + 64 - 64 * c.args.block)
    (omega arith) (ap length c.copy_from_slice.ensures.after ∙ c.told-of_block) c.requires
