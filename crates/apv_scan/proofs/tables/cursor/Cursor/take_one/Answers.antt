use Rattle.std.proofs.Common.{◌≡◌, length, take, to_z, of_z, w16, refl, rules, arith}
use Rattle.std.proofs.lemmas.Int.{to_z-of_z, ints}
use Rattle.std.proofs.lemmas.List.{length-take-le}
use Rattle.apv_base.specs.model.Quant.{IsLevel}
use Rattle.apv_scan.specs.Walk.{IsSeen}
use Rattle.apv_scan.specs.Cursor.{progress_of}
use Rattle.apv_scan.proofs.CursorLemmas.{move_more}
use Rattle.apv_scan.proofs.tables.cursor.Cursor.take_one.Goals as goal

pub returns-clause-steps : goal.returns-clause-steps
returns-clause-steps c =
    let e : to_z w16 (of_z w16 c.from-2.result) ≡ c.args.step.level = grind (arith, to_z-of_z) in
    let ok : IsLevel c.args.step.level = search (rules, ints) in
    let count : length c.args.levels.now ≡ 64 = search rules in
    let seen : IsSeen (take 11 c.args.self.now.reader.left) c.args.self.now.reader.left = rw (length-take-le 11 c.args.self.now.reader.left c.requires.ahead) refl in
    rw (e, c.place_before.ensures.place, c.from.ensures, c.from-self.ensures)
    (move_more (progress_of c.args.self.now c.args.levels.now) (take 11 c.args.self.now.reader.left) c.args.step c.skip.new.self count (omega arith) (omega arith) ok seen
    (c.requires.step (omega arith)) (rw c.from-3.ensures at c.skip.ensures))
