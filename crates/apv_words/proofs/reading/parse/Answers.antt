use Rattle.std.proofs.Common.{◌≡◌, ◌∙◌, sym, true, true≢false}
use Rattle.clap.specs.declared.error.kind.ErrorKind.TheVariants.{OutOfMemory}
use Rattle.apv_words.specs.View.{table_view, texts_of}
use Rattle.apv_words.proofs.Matched.{matched, taken}
use Rattle.apv_words.proofs.reading.parse.Goals as goal

pub prove-unreachable-requires : goal.prove-unreachable-requires
prove-unreachable-requires c =
    let cut = c.requires.cut in
    let takes = taken _ (table_view c.args.table.now) (texts_of c.args.words.now) cut.0 cut.1 c.in-Ok.ensures c.requires.table cut.2 cut.3 in
    let kind : c.kind.result ≡ OutOfMemory = c.kind.ensures ∙ c.in-Err.ensures.passes takes in
    let is : c.eq-is_memory.result ≡ true = rw kind at c.eq-is_memory.ensures in
    true≢false (sym is ∙ c.if-prove.true)

pub returns-in-Ok-try_get_matches_from-clause-found : goal.returns-in-Ok-try_get_matches_from-clause-found
returns-in-Ok-try_get_matches_from-clause-found c =
    λ rest pairs after cut. matched _ (record { table = c.args.table; matches = c.in-Ok-try_get_matches_from.matches }) (texts_of c.args.words.now) rest pairs c.in-Ok.ensures
    c.requires.table after cut c.in-Ok-try_get_matches_from.ensures.matches
