use Rattle.std.proofs.Common.{ℕ, List, ◌≡◌, ◌<◌, ◌+◌, ◌*◌, ◌∙◌, drop, take, ap, arith}
use Rattle.std.specs.Prelude.{slice_index}
use Rattle.apv_base.specs.model.Bits.{number}
use Rattle.apv_unit.proofs.AuEntryLemmas.{has-entry, kind-is, group-is, info-is}
use Rattle.apv_unit.proofs.au_info.au_entry.Goals as goal

pub split_at-requires : goal.split_at-requires
split_at-requires c =
    let sound = c.requires.sound in
    omega (arith, has-entry c.args.body.now sound.0 c.args.number sound.1 (c.requires.exists sound.0 sound.1), c.from.ensures)

pub split_at-requires-2 : goal.split_at-requires-2
split_at-requires-2 c =
    let sound = c.requires.sound in
    omega (arith, has-entry c.args.body.now sound.0 c.args.number sound.1 (c.requires.exists sound.0 sound.1), c.from.ensures, c.split_at.ensures.back_len)

pub split_at-requires-3 : goal.split_at-requires-3
split_at-requires-3 c =
    let sound = c.requires.sound in
    omega (arith, has-entry c.args.body.now sound.0 c.args.number sound.1 (c.requires.exists sound.0 sound.1), c.from.ensures, c.split_at.ensures.back_len)

pub split_at-requires-4 : goal.split_at-requires-4
split_at-requires-4 c =
    let sound = c.requires.sound in
    omega (arith, has-entry c.args.body.now sound.0 c.args.number sound.1 (c.requires.exists sound.0 sound.1), c.from.ensures, c.split_at.ensures.back_len, c.split_at-3.ensures.back_len)

pub be16-requires : goal.be16-requires
be16-requires c =
    let sound = c.requires.sound in
    omega (arith, has-entry c.args.body.now sound.0 c.args.number sound.1 (c.requires.exists sound.0 sound.1), c.from.ensures, c.split_at.ensures.back_len, c.split_at-2.ensures.back_len)

pub returns : goal.returns
returns c values is =
    let lt : c.args.number < slice_index values 0 = c.requires.exists values is in
    let place : 2 + 16 * c.from.result ≡ 2 + 16 * c.args.number = ap (λ (n : ℕ). 2 + 16 * n) c.from.ensures in
    let entry : c.split_at.result.1.now ≡ drop (2 + 16 * c.args.number) c.args.body.now = c.split_at.ensures.back ∙ ap (λ (n : ℕ). drop n c.args.body.now) place in
    let bytes : c.copy_from_slice.new.self ≡ take 12 (drop 4 c.split_at.result.1.now) = c.copy_from_slice.ensures.after ∙ c.split_at-4.ensures.front ∙ ap (take 12) c.split_at-3.ensures.back in
    record {
      kind = kind-is c.args.body.now values c.split_at.result.1.now c.args.number (λ i. omega (arith, c.type_inv.body i)) is lt entry;
      group = c.be16.ensures ∙ ap (λ (xs : List ℕ). number 256 (take 2 xs)) c.split_at-2.ensures.back ∙ group-is c.args.body.now values c.split_at.result.1.now c.args.number (λ i. omega (arith, c.type_inv.body i)) is lt entry;
      info = info-is c.args.body.now values c.split_at.result.1.now c.copy_from_slice.new.self c.args.number is lt entry bytes;
    }
