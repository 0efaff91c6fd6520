use Rattle.std.proofs.Common.{refl, map, string_bytes, inl, inr}
use Rattle.apv_files.specs.Sure.{never_failed, sure_held, sure_view}
use Rattle.apv_words.specs.Encoder.{built_enc_table}
use Rattle.apv_enc.specs.Run.{is_own_answer, name_of}
use Rattle.program_tests.proofs.SureLemmas.{encodes-surely, never-fails, usage-never-fails}
use Rattle.program_tests.proofs.sure.encode_surely.Goals as goal

pub returns-clause-sure : goal.returns-clause-sure
returns-clause-sure g c = elim (c.one_answer_enc.ensures.some built_enc_table refl (map string_bytes c.args.words.now)) [
  | inl is ↦ never-fails is_own_answer (name_of is.0) (sure_view c.args.files.now) (sure_view c.run_enc.new.files) (never_failed c.args.files.now) (never_failed c.run_enc.new.files) c.run_enc.result (c.run_enc.ensures.cause is.0 is.1)
  | inr is ↦ usage-never-fails is.0 c.run_enc.result (c.run_enc.ensures.usage is.0 is.1).0
]

pub returns-clause-encodes : goal.returns-clause-encodes
returns-clause-encodes g c settings given =
    encodes-surely settings (sure_held c.args.files.now) c.run_enc.result (sure_view c.run_enc.new.files) (returns-clause-sure g c) (c.run_enc.ensures.encodes settings given)
