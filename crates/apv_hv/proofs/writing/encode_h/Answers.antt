use Rattle.std.proofs.Common.{◌∙◌, arith}
use Rattle.apv_hv.proofs.WritingLemmas.{Parts, parts_of, parts_few, parts_short, parts_small, parts_word}
use Rattle.apv_hv.proofs.writing.encode_h.Goals as goal

pub new-requires-clause-n : goal.new-requires-clause-n
new-requires-clause-n c =
    let p : Parts c.args.k c.args.value c.highest.result c.reaches-second.result c.reaches-further.result =
    parts_of c.least_count-count.ensures c.reaches-second.ensures.below c.reaches-second.ensures.reached c.reaches-further.ensures.below
    c.reaches-further.ensures.reached c.highest.ensures.least c.highest.ensures.low c.highest.ensures.high in
    omega (arith, parts_few c.requires.k c.requires.value p)

pub new-requires-clause-value : goal.new-requires-clause-value
new-requires-clause-value c =
    let p : Parts c.args.k c.args.value c.highest.result c.reaches-second.result c.reaches-further.result =
    parts_of c.least_count-count.ensures c.reaches-second.ensures.below c.reaches-second.ensures.reached c.reaches-further.ensures.below
    c.reaches-further.ensures.reached c.highest.ensures.least c.highest.ensures.low c.highest.ensures.high in
    rw (c.from.ensures, c.from-2.ensures, c.least_count-count.ensures) (parts_small c.requires.k c.requires.value p)

pub returns-clause-word : goal.returns-clause-word
returns-clause-word c =
    let p : Parts c.args.k c.args.value c.highest.result c.reaches-second.result c.reaches-further.result =
    parts_of c.least_count-count.ensures c.reaches-second.ensures.below c.reaches-second.ensures.reached c.reaches-further.ensures.below
    c.reaches-further.ensures.reached c.highest.ensures.least c.highest.ensures.low c.highest.ensures.high in
    rw (c.from.ensures, c.from-2.ensures, c.least_count-count.ensures) at c.new.ensures.bits ∙ parts_word c.requires.k c.requires.value p

pub returns-clause-few : goal.returns-clause-few
returns-clause-few c =
    let p : Parts c.args.k c.args.value c.highest.result c.reaches-second.result c.reaches-further.result =
    parts_of c.least_count-count.ensures c.reaches-second.ensures.below c.reaches-second.ensures.reached c.reaches-further.ensures.below
    c.reaches-further.ensures.reached c.highest.ensures.least c.highest.ensures.low c.highest.ensures.high in
    omega (arith, c.new.ensures.len, parts_few c.requires.k c.requires.value p)

pub returns-clause-short : goal.returns-clause-short
returns-clause-short c n above fits =
    let p : Parts c.args.k c.args.value c.highest.result c.reaches-second.result c.reaches-further.result =
    parts_of c.least_count-count.ensures c.reaches-second.ensures.below c.reaches-second.ensures.reached c.reaches-further.ensures.below
    c.reaches-further.ensures.reached c.highest.ensures.least c.highest.ensures.low c.highest.ensures.high in
    omega (arith, c.new.ensures.len, parts_short n above fits p)
