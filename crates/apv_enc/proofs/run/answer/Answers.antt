use Rattle.std.proofs.Common.{◌∙◌, ap, inl}
use Rattle.apv_base.specs.declared.exits.Exit.TheVariants.{Usage}
use Rattle.apv_run.proofs.OpenLemmas.{closed-unwritten}
use Rattle.apv_run.proofs.ToldLemmas.{untouched-none}
use Rattle.apv_enc.specs.Encoded.{EndsRun}
use Rattle.apv_enc.proofs.RunEndsLemmas.{memory-run}
use Rattle.apv_enc.proofs.RunWordsLemmas.{fault-of, files-given, no-fault, same-fault, with-settings}
use Rattle.apv_enc.proofs.run.answer.Goals as goal

pub returns-in-Ok-clause-usage : goal.returns-in-Ok-clause-usage
returns-in-Ok-clause-usage g c kind fault = absurd (no-fault c.args.words.now c.in-Ok.settings kind c.in-Ok.ensures.settings fault)

pub returns-in-Ok-clause-ends : goal.returns-in-Ok-clause-ends
returns-in-Ok-clause-ends g c =
    with-settings c.args.words.now c.in-Ok.settings (λ s. EndsRun s (g.F.Files.held c.args.files.now) c.run.result (g.F.Files.slot_view c.args.files.now) (g.F.Files.slot_view c.run.new.files)) c.in-Ok.ensures.settings c.run.ensures.ends

pub returns-in-Err-Usage-clause-usage : goal.returns-in-Err-Usage-clause-usage
returns-in-Err-Usage-clause-usage g c kind fault =
    rw c.of.ensures
    let here = fault-of c.args.words.now c.in-Err-Usage.field-0 c.in-Err-Usage.kind c.in-Err-Usage.field-0-is c.in-Err-Usage.ensures.refused in
    (inl (ap Usage (c.in-Err-Usage.kind-is ∙ same-fault c.args.words.now c.in-Err-Usage.kind kind here fault)), untouched-none (g.F.Files.slot_view c.args.files.now))

pub returns-in-Err-Usage-clause-ends : goal.returns-in-Err-Usage-clause-ends
returns-in-Err-Usage-clause-ends g c settings given =
    absurd (no-fault c.args.words.now settings c.in-Err-Usage.kind given (fault-of c.args.words.now c.in-Err-Usage.field-0 c.in-Err-Usage.kind c.in-Err-Usage.field-0-is c.in-Err-Usage.ensures.refused))

pub returns-in-Err-Memory-clause-ends : goal.returns-in-Err-Memory-clause-ends
returns-in-Err-Memory-clause-ends g c settings given =
    let start = g.F.Files.slot_view c.args.files.now in
    rw c.of-in-Err-Memory.ensures (memory-run settings (g.F.Files.held c.args.files.now) start c.requires (closed-unwritten start (g.met.F.Files.bare_where_closed c.args.files.now) c.requires) (files-given c.args.words.now settings given))

pub returns-in-Ok-clause-given : goal.returns-in-Ok-clause-given
returns-in-Ok-clause-given g c done = (c.in-Ok.settings, c.in-Ok.ensures.settings)
