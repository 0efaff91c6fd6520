use Rattle.std.proofs.Common.{◌∙◌, arith, rules}
use Rattle.apv_words.proofs.CommaLemmas.{only_number, others_bytes, others_count, others_within}
use Rattle.apv_words.proofs.values.+read_bytes.Goals as goal

pub read_bytes-requires : goal.read_bytes-requires
read_bytes-requires t c =
    let asked = c.requires.1.1 in
    let more = c.in-len1-up.len_at_least in (
      search rules,
      (
        others_within c.args.bounds.now c.args.text.now c.in-Some-halves.before.now c.in-Some-halves.after.now more asked.0 c.in-Some-halves.ensures,
        (others_bytes c.args.bounds.now more asked.1.0, others_count c.args.bounds.now _ more (c.in-Some.ensures.cases.1 ∙ asked.1.1)),
      ),
    )

pub returns-in-len1 : goal.returns-in-len1
returns-in-len1 t c =
    only_number c.args.bounds.now c.args.text.now c.byte.result c.in-Some.others.now (omega arith) (omega (arith, c.in-Some.ensures.cases.1, c.requires.1.1.1.1)) c.byte.ensures
