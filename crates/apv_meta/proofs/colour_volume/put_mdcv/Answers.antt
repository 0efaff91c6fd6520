use Rattle.std.proofs.Common.{◌∙◌}
use Rattle.apv_meta.proofs.NumberBytes.{joined, spelled-4}
use Rattle.apv_meta.proofs.colour_volume.put_mdcv.Goals as goal

pub returns : goal.returns
returns c =
    joined (c.copy_from_slice.ensures.after ∙ c.spelled_point.ensures)
    (joined (c.copy_from_slice-2.ensures.after ∙ c.spelled_point-2.ensures)
    (joined (c.copy_from_slice-3.ensures.after ∙ c.spelled_point-3.ensures)
    (joined (c.copy_from_slice-4.ensures.after ∙ c.spelled_point-4.ensures)
    (joined (c.copy_from_slice-5.ensures.after ∙ c.to_be_bytes.ensures ∙ spelled-4 c.args.value.now.greatest) (c.copy_from_slice-6.ensures.after ∙ c.to_be_bytes-2.ensures ∙ spelled-4 c.args.value.now.least)))))
