use Rattle.std.proofs.Common.{◌∙◌, ap₂, ◌++◌, ℕ, List}
use Rattle.apv_unit.proofs.AuInfoWriteLemmas.{fields-written}
use Rattle.apv_unit.proofs.au_info.put_entry.Goals as goal

pub returns : goal.returns
returns c =
    ap₂ (λ (xs ys : List ℕ). xs ++ ys) c.copy_from_slice.ensures.after c.copy_from_slice-2.ensures.after
    ∙ fields-written c.args.entry.now.kind c.args.entry.now.group c.to_be_bytes-group.result c.args.entry.now.info c.to_be_bytes-group.ensures
