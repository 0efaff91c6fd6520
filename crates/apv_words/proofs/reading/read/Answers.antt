use Rattle.std.proofs.Common.{◌≡◌, refl, subst, List, drop}
use Rattle.std.specs.Borrow.{Bor}
use Rattle.std.proofs.lemmas.List.{drop-map}
use Rattle.std.proofs.lemmas.Result.{IfOk-weaker}
use Rattle.apv_words.specs.FirstOption.{pairs_at}
use Rattle.apv_words.specs.View.{texts_of}
use Rattle.apv_words.specs.Options.{HasPairs}
use Rattle.apv_words.specs.Table.{Text}
use Rattle.apv_words.proofs.Matched.{after_first}
use Rattle.apv_words.proofs.reading.read.Goals as goal

pub parse-requires-clause-cut : goal.parse-requires-clause-cut
parse-requires-clause-cut c = (
  texts_of c.split_at.result.1.now,
  pairs_at c.in_default.field-0.items,
  after_first c.args.words.now c.split_at.result.1.now c.requires.program c.split_at.ensures.back,
  c.in_default.ensures.cut,
)

pub returns-clause-found : goal.returns-clause-found
returns-clause-found c =
    let after = after_first c.args.words.now c.split_at.result.1.now c.requires.program c.split_at.ensures.back in
    let same : texts_of c.split_at.result.1.now ≡ drop 1 (texts_of c.args.words.now) =
    rw c.split_at.ensures.back (rw (drop-map (λ (w : Bor Text). w.now) 1 c.args.words.now) refl) in
    IfOk-weaker c.parse.result _ _ (λ o h. (
      pairs_at c.in_default.field-0.items,
      subst (λ (ws : List Text). HasPairs ws o (pairs_at c.in_default.field-0.items)) same
          (h _ _ after c.in_default.ensures.cut),
    )) c.parse.ensures.found
