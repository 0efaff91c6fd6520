use Rattle.std.proofs.Common.{◌+◌, ◌*◌, ◌/◌, ◌%◌, [], ◌∷◌, refl, arith, w32}
use Rattle.apv_transform.specs.Lanes.{lane_at}
use Rattle.apv_transform.proofs.LaneBits.{holds_any, eight_are}
use Rattle.apv_transform.proofs.LaneMoves.{holds_picked}
use Rattle.apv_transform.proofs.Places.{each_of_8}
use Rattle.apv_transform.proofs.kernel.interleaved.Goals as goal

pub returns : goal.returns
returns c =
    let block = c.args.block.now in
    let row_0 = holds_any block 0 c.element-row_0.result c.element-row_0.ensures (omega arith) (omega arith) c.element-row_0.type_inv.0 c.element-row_0.type_inv.1.1 in
    let row_1 = holds_any block 1 c.element-row_1.result c.element-row_1.ensures (omega arith) (omega arith) c.element-row_1.type_inv.0 c.element-row_1.type_inv.1.1 in
    let row_2 = holds_any block 2 c.element-row_2.result c.element-row_2.ensures (omega arith) (omega arith) c.element-row_2.type_inv.0 c.element-row_2.type_inv.1.1 in
    let row_3 = holds_any block 3 c.element-row_3.result c.element-row_3.ensures (omega arith) (omega arith) c.element-row_3.type_inv.0 c.element-row_3.type_inv.1.1 in
    let row_4 = holds_any block 4 c.element-row_4.result c.element-row_4.ensures (omega arith) (omega arith) c.element-row_4.type_inv.0 c.element-row_4.type_inv.1.1 in
    let row_5 = holds_any block 5 c.element-row_5.result c.element-row_5.ensures (omega arith) (omega arith) c.element-row_5.type_inv.0 c.element-row_5.type_inv.1.1 in
    let row_6 = holds_any block 6 c.element-row_6.result c.element-row_6.ensures (omega arith) (omega arith) c.element-row_6.type_inv.0 c.element-row_6.type_inv.1.1 in
    let row_7 = holds_any block 7 c.element-row_7.result c.element-row_7.ensures (omega arith) (omega arith) c.element-row_7.type_inv.0 c.element-row_7.type_inv.1.1 in
    eight_are w32 c.eight.result c.eight.ensures
    (holds_picked row_0 row_4 (0 ∷ 8 ∷ 1 ∷ 9 ∷ 2 ∷ 10 ∷ 3 ∷ 11 ∷ []) tt) (holds_picked row_0 row_4 (4 ∷ 12 ∷ 5 ∷ 13 ∷ 6 ∷ 14 ∷ 7 ∷ 15 ∷ []) tt)
    (holds_picked row_1 row_5 (0 ∷ 8 ∷ 1 ∷ 9 ∷ 2 ∷ 10 ∷ 3 ∷ 11 ∷ []) tt) (holds_picked row_1 row_5 (4 ∷ 12 ∷ 5 ∷ 13 ∷ 6 ∷ 14 ∷ 7 ∷ 15 ∷ []) tt)
    (holds_picked row_2 row_6 (0 ∷ 8 ∷ 1 ∷ 9 ∷ 2 ∷ 10 ∷ 3 ∷ 11 ∷ []) tt) (holds_picked row_2 row_6 (4 ∷ 12 ∷ 5 ∷ 13 ∷ 6 ∷ 14 ∷ 7 ∷ 15 ∷ []) tt)
    (holds_picked row_3 row_7 (0 ∷ 8 ∷ 1 ∷ 9 ∷ 2 ∷ 10 ∷ 3 ∷ 11 ∷ []) tt) (holds_picked row_3 row_7 (4 ∷ 12 ∷ 5 ∷ 13 ∷ 6 ∷ 14 ∷ 7 ∷ 15 ∷ []) tt)
    (λ u v. lane_at block (4 * (v % 2) + u / 2) (4 * (u % 2) + v / 2))
    (each_of_8 _ refl refl refl refl refl refl refl refl) (each_of_8 _ refl refl refl refl refl refl refl refl)
    (each_of_8 _ refl refl refl refl refl refl refl refl) (each_of_8 _ refl refl refl refl refl refl refl refl)
    (each_of_8 _ refl refl refl refl refl refl refl refl) (each_of_8 _ refl refl refl refl refl refl refl refl)
    (each_of_8 _ refl refl refl refl refl refl refl refl) (each_of_8 _ refl refl refl refl refl refl refl refl)
