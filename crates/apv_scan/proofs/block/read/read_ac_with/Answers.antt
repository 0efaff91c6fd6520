use Rattle.std.proofs.Common.{◌≡◌, length, refl, ◌∙◌, rules, arith}
use Rattle.std.proofs.lemmas.Result.{err_from_is_err_and}
use Rattle.apv_scan.specs.Cursor.{progress_of}
use Rattle.apv_scan.proofs.CursorLemmas.{walked_start, read_none, read_some, breaks_later}
use Rattle.apv_scan.proofs.block.read.read_ac_with.Goals as goal

pub returns-in_err-size : goal.returns-in_err-size
returns-in_err-size c =
    let count : length c.args.levels.now ≡ 64 = search rules in
    let w = walked_start c.args.first c.args.reader.now (progress_of c.new-cursor.result c.args.levels.now) count c.requires.ready.dc c.requires.ready.zeros c.new-cursor.ensures.place c.new-cursor.ensures.context
    (c.new-cursor.ensures.reader ∙ c.ahead.ensures) in
    let p = err_from_is_err_and c.from_residual.result c.from_residual.ensures.1 in
    rw (p.1, p.2) (c.in_err-size.ensures.err c.args.first c.args.reader.now 0 w)

pub returns-in_default : goal.returns-in_default
returns-in_default c =
    let count : length c.args.levels.now ≡ 64 = search rules in
    let w = walked_start c.args.first c.args.reader.now (progress_of c.new-cursor.result c.args.levels.now) count c.requires.ready.dc c.requires.ready.zeros c.new-cursor.ensures.place c.new-cursor.ensures.context
    (c.new-cursor.ensures.reader ∙ c.ahead.ensures) in
    rw (rw c.in_default.is at c.in_ok-size.ensures.same, c.reader.ensures)
    (record {
      read = read_none c.args.first c.args.reader.now c.begin.new.self.reader (progress_of c.new-cursor.result c.args.levels.now) (omega arith) w (rw c.in_default.is at c.in_ok-size.ensures.ends);
      dc = refl;
      small = c.requires.ready.size;
    })

pub returns-in_err-rest : goal.returns-in_err-rest
returns-in_err-rest c =
    let count : length c.args.levels.now ≡ 64 = search rules in
    let w = walked_start c.args.first c.args.reader.now (progress_of c.new-cursor.result c.args.levels.now) count c.requires.ready.dc c.requires.ready.zeros c.new-cursor.ensures.place c.new-cursor.ensures.context
    (c.new-cursor.ensures.reader ∙ c.ahead.ensures) in
    let p = err_from_is_err_and c.from_residual-in_err-rest.result c.from_residual-in_err-rest.ensures.1 in
    rw (p.1, p.2)
    (breaks_later c.args.first c.args.reader.now (progress_of c.new-cursor.result c.args.levels.now) (progress_of c.begin.new.self c.begin.new.levels) c.in-Some.size _ w
    (rw c.in-Some.is at c.in_ok-size.ensures.begins) c.in_err-rest.ensures.err)

pub returns : goal.returns
returns c =
    let count : length c.args.levels.now ≡ 64 = search rules in
    let w = walked_start c.args.first c.args.reader.now (progress_of c.new-cursor.result c.args.levels.now) count c.requires.ready.dc c.requires.ready.zeros c.new-cursor.ensures.place c.new-cursor.ensures.context
    (c.new-cursor.ensures.reader ∙ c.ahead.ensures) in
    rw c.reader-2.ensures
    (record {
      read = read_some c.args.first c.args.reader.now c.rest.new.self.reader (progress_of c.new-cursor.result c.args.levels.now) (progress_of c.begin.new.self c.begin.new.levels) c.in-Some.size c.rest.new.levels w
          (rw c.in-Some.is at c.in_ok-size.ensures.begins) c.in_ok-rest.ensures.ok;
      dc = c.in_ok-rest.ensures.ok.dc ∙ (rw c.in-Some.is at c.in_ok-size.ensures.begins).dc;
      small = rw c.in-Some.is at c.in_ok-size.ensures.small;
    })
