use Rattle.std.proofs.Common.{◌≡◌, ℕ, ◌+◌, ◌-◌, ◌*◌, ◌≤◌, false, nat_lt, Option, Some, None, List, [], ◌∷◌, refl, ap, arith}
use Rattle.std.specs.Prelude.{IfSome}
use Rattle.std.proofs.lemmas.Bool.{le-ltb}
use Rattle.apv_base.specs.model.Quant.{max_qp}
use Rattle.apv_encoding.specs.Settings.{given_or}
use Rattle.apv_enc.specs.Coding.{HasPermittedQps}
use Rattle.apv_tracks.specs.Plain.{rate_by}
use Rattle.apv_words.specs.declared.encoder.EncSettings.{EncSettings}
use Rattle.apv_workers.specs.Track.{TrackState}
use Rattle.apv_enc.proofs.unit_tests.unit_of.Goals as goal

given-low : (qp : Option ℕ) → IfSome qp (λ q. q ≤ 51) → given_or qp 0 ≤ 51
given-low None low = omega arith
given-low (Some qp) low = low

not-large : (qp : Option ℕ) (depth : ℕ) → given_or qp 0 ≤ 51 → nat_lt (max_qp depth) (given_or qp 0) ≡ false
not-large qp depth low = le-ltb (max_qp depth) (given_or qp 0) (omega (arith, low))

none-large : (qp : Option ℕ) (depth : ℕ) → qp ≡ None → nat_lt (max_qp depth) (given_or qp 0) ≡ false
none-large qp depth e = not-large qp depth (omega (arith, ap (λ (given : Option ℕ). given_or given 0) e))

permitted : (settings : EncSettings) (limit : Option ℕ) (states : List TrackState) → IfSome settings.qp (λ qp. qp ≤ 51) → settings.qp_min ≡ None → settings.qp_max ≡ None → HasPermittedQps (rate_by settings limit) states
permitted settings limit [] low first last = tt
permitted settings None (state ∷ states) low first last = not-large settings.qp state.header.info.depth (given-low settings.qp low)
permitted settings (Some limit) (state ∷ states) low first last = rw (none-large settings.qp_min state.header.info.depth first, none-large settings.qp_max state.header.info.depth last) refl

pub encode_unit-chosen-requires-clause-qps : goal.encode_unit-chosen-requires-clause-qps
encode_unit-chosen-requires-clause-qps g c κs within =
    let settings : EncSettings = c.in_ok-settings.settings in
    let made = c.in_ok-settings.ensures in
    permitted settings settings.limit c.split_at_mut-used.result.0.now made.qp made.first made.last
