use Rattle.std.proofs.Common.{◌≡◌, ℕ, ◌<◌, ◌/◌, ◌%◌, ◌^◌, ◌∙◌, List, [], ◌∷◌, get_or, refl, arith, w16, w32}
use Rattle.std.specs.Int.{to_be_bytes}
use Rattle.apv_base.specs.model.Bits.{digits}
use Rattle.apv_base.specs.model.Pbu.{pbu_table}
use Rattle.apv_base.specs.model.Table.{spell}
use Rattle.apv_unit.proofs.write.put_pbu_header.Goals as goal

-- the bytes of the numbers are the digits of the fields
spelled : (size kind group : ℕ) (s g : List ℕ) → kind < 256 → s ≡ to_be_bytes w32 size → g ≡ to_be_bytes w16 group
    → get_or s 0 0 ∷ get_or s 1 0 ∷ get_or s 2 0 ∷ get_or s 3 0 ∷ kind ∷ get_or g 0 0 ∷ get_or g 1 0 ∷ 0 ∷ [] ≡ spell 256 pbu_table (size ∷ kind ∷ group ∷ 0 ∷ [])
unfolding spell digits
spelled size kind group s g lt e f =
    let low : size / 256 ^ 0 % 256 ≡ size % 256 = omega arith in
    let whole : kind / 256 ^ 0 % 256 ≡ kind = omega arith in
    let other : group / 256 ^ 0 % 256 ≡ group % 256 = omega arith in
    rw (e, f, low, whole, other) refl

pub returns : goal.returns
returns c = c.copy_from_slice.ensures.after ∙ spelled c.args.size c.args.kind c.args.group c.to_be_bytes-size.result c.to_be_bytes-group.result (omega (arith, c.ranges.kind)) c.to_be_bytes-size.ensures c.to_be_bytes-group.ensures
