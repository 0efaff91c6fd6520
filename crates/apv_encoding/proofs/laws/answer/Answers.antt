use Rattle.apv_encoding.proofs.OneAnswerLemmas.{answer-once}
use Rattle.apv_encoding.proofs.SomeAnswerLemmas.{answer-some}
use Rattle.apv_encoding.proofs.laws.answer.Goals as goal

pub returns-clause-once : goal.returns-clause-once
returns-clause-once c = answer-once c.one_nearest.ensures

pub returns-clause-some : goal.returns-clause-some
returns-clause-some c = answer-some c.one_nearest.ensures
