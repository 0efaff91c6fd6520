use Rattle.apv_encoding.proofs.SomeTracksLemmas.{frame-some}
use Rattle.apv_encoding.proofs.TracksLemmas.{stop-once}
use Rattle.apv_encoding.proofs.laws.next_frame.Goals as goal

pub returns-clause-once : goal.returns-clause-once
returns-clause-once c = stop-once

pub returns-clause-some : goal.returns-clause-some
returns-clause-some c = frame-some
