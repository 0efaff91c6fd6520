use Rattle.std.proofs.Common.{drop}
use Rattle.std.specs.List.{AllByRecursion}
use Rattle.apv_base.specs.model.Header.{IsSoundHeader}
use Rattle.apv_enc.proofs.unit.sound_headers.Given as goal

-- where the headers from the place on break no rule, none does
abbrev pub invariant-loop-track : goal.invariant-loop-track
invariant-loop-track l = AllByRecursion (λ track. IsSoundHeader track.header) (drop l.track-index l.tracks) → AllByRecursion (λ track. IsSoundHeader track.header) l.tracks
