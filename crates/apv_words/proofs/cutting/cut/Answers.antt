use Rattle.std.proofs.Common.{rules, ◌≡◌, arith, refl, [], ◌∷◌, ◌++◌, Some, None}
use Rattle.apv_words.specs.FirstOption.{first_option, pair_at}
use Rattle.apv_words.specs.View.{table_view, texts_of}
use Rattle.apv_words.proofs.CutLoop.{cut_ends, cut_fails, cut_more, cut_repeats, first_within}
use Rattle.apv_words.proofs.cutting.cut.Goals as goal

pub returns-in_default-clause-refused : goal.returns-in_default-clause-refused
returns-in_default-clause-refused c = (
  refl,
  cut_fails (table_view c.args.table.now) c.args.words.now c.loop-taken.taken c.loop-taken.givens.items c.requires c.loop-taken.invariant.so_far c.split_at.result.1.now
      c.split_at.ensures.back (omega arith) (let begins : first_option (table_view c.args.table.now) (texts_of c.split_at.result.1.now) ≡ None = search rules in begins),
)

pub returns-then-is_among-clause-refused : goal.returns-then-is_among-clause-refused
returns-then-is_among-clause-refused c = (
  refl,
  cut_repeats (table_view c.args.table.now) c.args.words.now c.loop-taken.taken c.loop-taken.givens.items c.requires c.loop-taken.invariant.so_far c.split_at.result.1.now
      c.split_at.ensures.back c.in-Some.given c.in-Some.n (search rules) (search rules),
)

pub loop-taken-preserved : goal.loop-taken-preserved
loop-taken-preserved c =
    let begins : first_option (table_view c.args.table.now) (texts_of c.split_at.result.1.now) ≡ Some (pair_at c.in-Some.given, c.in-Some.n) = search rules in
    let inside = first_within (table_view c.args.table.now) c.args.words.now c.loop-taken.taken c.loop-taken.givens.items c.requires c.loop-taken.invariant.so_far c.split_at.result.1.now
    c.split_at.ensures.back c.in-Some.given c.in-Some.n begins in
    record {
      within = omega (arith, inside.1);
      so_far =
          let pushed : c.push.new.self.items ≡ c.loop-taken.givens.items ++ c.in-Some.given ∷ [] = search rules in
          rw pushed (cut_more (table_view c.args.table.now) c.args.words.now c.loop-taken.taken c.loop-taken.givens.items c.requires c.loop-taken.invariant.so_far c.split_at.result.1.now
          c.split_at.ensures.back c.in-Some.given c.in-Some.n begins (search rules));
    }

pub returns-clause-cut : goal.returns-clause-cut
returns-clause-cut c = cut_ends (table_view c.args.table.now) c.args.words.now c.loop-taken.taken c.loop-taken.givens.items c.requires c.loop-taken.invariant.so_far (omega arith)
