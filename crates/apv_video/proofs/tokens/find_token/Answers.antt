use Rattle.std.proofs.Common.{◌≡◌, ◌≢◌, ◌∙◌, get_or, arith, rules}
use Rattle.apv_video.specs.Tokens.{HasTokenAt}
use Rattle.apv_video.proofs.TokenLemmas.{token-found, token-other}
use Rattle.apv_video.proofs.tokens.find_token.Goals as goal

pub returns-then-bytes-place : goal.returns-then-bytes-place
returns-then-bytes-place c =
    let e = c.token_end-end.ensures in
    let is : get_or c.args.bytes.now c.loop-place.place 0 ≡ c.args.letter = search rules in
    let found : HasTokenAt c.args.letter c.args.bytes.now c.loop-place.place c.loop-place.place c.token_end-end.result =
    token-found c.args.letter c.args.bytes.now c.loop-place.place c.token_end-end.result (omega arith) (omega arith) e.from e.inside e.token e.end is (λ same. omega arith) in
    record { some = found.some; inside = found.inside; tokens = c.loop-place.invariant.tokens ∙ found.tokens }

pub loop-place-preserved : goal.loop-place-preserved
loop-place-preserved c =
    let e = c.token_end-end.ensures in
    let other : get_or c.args.bytes.now c.loop-place.place 0 ≢ c.args.letter = search rules in
    record {
      inside = omega arith;
      tokens = c.loop-place.invariant.tokens ∙ token-other c.args.letter c.args.bytes.now c.loop-place.place c.token_end-end.result (omega arith) (omega arith) e.from e.inside e.token e.end other;
    }
