use Rattle.std.proofs.Common.{refl, map, string_bytes, inl, inr}
use Rattle.apv_files.specs.Sure.{never_failed, sure_held, sure_view}
use Rattle.apv_words.specs.Decoder.{dec_table}
use Rattle.apv_dec.specs.Answer.{is_own_answer}
use Rattle.apv_dec.specs.Settings.{name_of}
use Rattle.program_tests.proofs.SureLemmas.{decodes-surely, never-fails, usage-never-fails}
use Rattle.program_tests.proofs.sure.decode_surely.Goals as goal

pub returns-clause-sure : goal.returns-clause-sure
returns-clause-sure g c = elim (c.one_answer.ensures.some dec_table refl (map string_bytes c.args.words.now)) [
  | inl is ↦ never-fails is_own_answer (name_of is.0) (sure_view c.args.files.now) (sure_view c.run_dec.new.files) (never_failed c.args.files.now) (never_failed c.run_dec.new.files) c.run_dec.result (c.run_dec.ensures.cause is.0 is.1)
  | inr is ↦ usage-never-fails is.0 c.run_dec.result (c.run_dec.ensures.usage is.0 is.1).0
]

pub returns-clause-decodes : goal.returns-clause-decodes
returns-clause-decodes g c settings given =
    decodes-surely settings (sure_held c.args.files.now) c.run_dec.result (sure_view c.run_dec.new.files) (returns-clause-sure g c) (c.run_dec.ensures.decodes settings given)
