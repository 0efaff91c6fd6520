use Rattle.std.proofs.Common.{◌<◌, length, arith, ◌∙◌, length-drop, ℕ}
use Rattle.std.proofs.lemmas.Bool.Decides.{nat_tests}
use Rattle.apv_header.proofs.TileWriteLemmas.{bytes_4}
use Rattle.apv_enc.proofs.PartWriteLemmas.{metadata-room, metadata-put}
use Rattle.apv_enc.proofs.unit.write.put_metadata.Goals as goal

pub split_at_mut-header-requires : goal.split_at_mut-header-requires
split_at_mut-header-requires c =
    let some : 0 < length c.args.payloads.now = grind (arith, nat_tests) in
    omega (arith, metadata-room c.args.payloads.now (length c.args.out.now) some c.requires.room)

pub split_at_mut-metadata_size-requires : goal.split_at_mut-metadata_size-requires
split_at_mut-metadata_size-requires c =
    let some : 0 < length c.args.payloads.now = grind (arith, nat_tests) in
    omega (arith, metadata-room c.args.payloads.now (length c.args.out.now) some c.requires.room, length-drop {A = ℕ})

pub copy_from_slice-requires-2 : goal.copy_from_slice-requires-2
copy_from_slice-requires-2 c =
    let some : 0 < length c.args.payloads.now = grind (arith, nat_tests) in
    omega (arith, metadata-room c.args.payloads.now (length c.args.out.now) some c.requires.room, length-drop {A = ℕ})

pub returns : goal.returns
returns c =
    let some : 0 < length c.args.payloads.now = grind (arith, nat_tests) in
    metadata-put c.args.payloads.now c.put_pbu_header.new.out c.copy_from_slice.new.self c.copy_from_slice-2.new.self some c.put_pbu_header.ensures (c.copy_from_slice.ensures.after ∙ c.to_be_bytes.ensures ∙ bytes_4 (length c.args.payloads.now)) c.copy_from_slice-2.ensures.after
