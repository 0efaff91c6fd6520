use Rattle.std.proofs.Common.{refl, length, arith, length-drop, ℕ}
use Rattle.apv_meta.proofs.Spelled.{payload-length, payload-put}
use Rattle.apv_meta.proofs.write.put_payload.Goals as goal

pub split_at_mut-of_kind-requires : goal.split_at_mut-of_kind-requires
split_at_mut-of_kind-requires c = omega (arith, c.requires.room, payload-length c.args.kind c.args.bytes.now (length c.args.bytes.now) refl)

pub split_at_mut-of_size-requires : goal.split_at_mut-of_size-requires
split_at_mut-of_size-requires c = omega (arith, c.requires.room, payload-length c.args.kind c.args.bytes.now (length c.args.bytes.now) refl, length-drop {A = ℕ})

pub copy_from_slice-requires : goal.copy_from_slice-requires
copy_from_slice-requires c = omega (arith, c.requires.room, payload-length c.args.kind c.args.bytes.now (length c.args.bytes.now) refl, length-drop {A = ℕ})

pub returns : goal.returns
returns c = payload-put c.args.kind (length c.args.bytes.now) c.args.bytes.now c.put_number.new.out c.put_number-2.new.out c.copy_from_slice.new.self refl c.put_number.ensures c.put_number-2.ensures c.copy_from_slice.ensures.after
