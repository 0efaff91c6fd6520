use Rattle.std.proofs.Common.{◌≡◌, length, take, to_z, of_z, w16, ap, rules, arith}
use Rattle.std.proofs.lemmas.Int.{to_z-of_z, ints}
use Rattle.std.proofs.lemmas.List.{length-take, length-drop}
use Rattle.apv_base.specs.model.Quant.{IsLevel}
use Rattle.apv_scan.specs.Cursor.{progress_of}
use Rattle.apv_scan.proofs.CursorLemmas.{seen_prefix, seen_skip, spells_few, entry_more}
use Rattle.apv_scan.proofs.tables.cursor.Cursor.take_all.Goals as goal

pub returns-clause-goes : goal.returns-clause-goes
returns-clause-goes c =
    let e : to_z w16 (of_z w16 c.from-3.result) ≡ c.args.entry.first.level = grind (arith, to_z-of_z) in
    let f : to_z w16 (of_z w16 c.from-4.result) ≡ c.args.entry.all.level = grind (arith, to_z-of_z) in
    let ok : IsLevel c.args.entry.first.level = search (rules, ints) in
    let okay : IsLevel c.args.entry.all.level = search (rules, ints) in
    let count : length c.args.levels.now ≡ 64 = search rules in
    rw (e, f, c.place_before.ensures.place, c.place_before-2.ensures.place, c.from.ensures, c.from-2.ensures, c.from-self.ensures)
    (entry_more (progress_of c.args.self.now c.args.levels.now) (take 11 c.args.window.now) c.args.entry c.skip-2.new.self count (omega arith) (omega arith) ok okay
    (seen_prefix 11 c.args.window.now c.args.self.now.reader.left c.requires.seen c.requires.ahead) (c.requires.entry.all (omega arith)) (rw c.from-6.ensures at c.skip-2.ensures))

pub returns-clause-seen : goal.returns-clause-seen
returns-clause-seen c =
    let few = spells_few c.args.self.now.context (take 11 c.args.window.now) c.args.entry (c.requires.entry.all (omega arith)) in
    let same : c.from-6.result ≡ c.from-5.result = omega arith in
    seen_skip c.from-5.result c.args.window.now c.skip.new.self c.args.self.now.reader c.skip-2.new.self c.requires.seen (omega (arith, few, length-take 11 c.args.window.now))
    c.skip.ensures (rw same at c.skip-2.ensures)

pub returns-clause-ahead : goal.returns-clause-ahead
returns-clause-ahead c =
    let few = spells_few c.args.self.now.context (take 11 c.args.window.now) c.args.entry (c.requires.entry.all (omega arith)) in
    omega (arith, few, length-take 11 c.args.window.now, ap length c.skip.ensures, length-drop c.from-5.result c.args.window.now)
