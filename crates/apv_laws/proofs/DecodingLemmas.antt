-- A file of bytes has exactly one decoding.
use Rattle.std.proofs.Common.{◌≡◌, ℕ, List, refl, sym, ap, ◌∙◌}
use Rattle.apv_base.specs.declared.exits.Exit.{Exit}
use Rattle.apv_base.specs.laws.Judge.{ComponentsHaveOne, ComponentsHaveSome}
use Rattle.apv_base.specs.laws.Run.{HasOneRun, HasSomeRun}
use Rattle.apv_base.specs.model.Bits.{AreBytes}
use Rattle.apv_base.specs.model.Judge.{DecodedUnit}
use Rattle.apv_base.specs.model.Output.{OutputSettings, by_content, dec_out, dec_payloads}
use Rattle.apv_base.specs.laws.Answer.{HasExactlyOne}
use Rattle.apv_laws.specs.Decoding.{Decoding, HasDecoding}
use Rattle.apv_laws.proofs.SomeJudgeLemmas.{by_content-runs}

same-decoding : (us vs : List DecodedUnit) (e f : Exit) (p q o r : List ℕ) → us ≡ vs → e ≡ f → p ≡ q → o ≡ r
    → ◌≡◌ {A = Decoding} (record { units = us; exit = e; pictures = p; payloads = o }) (record { units = vs; exit = f; pictures = q; payloads = r })
same-decoding us vs e f p q o r e1 e2 e3 e4 = rw (e1, e2, e3, e4) refl

one-decoding : (settings : OutputSettings) (file : List ℕ) → HasOneRun (by_content settings) file → (a b : Decoding) → HasDecoding settings file a → HasDecoding settings file b → a ≡ b
one-decoding settings file one a b p q =
    let same = one.one a.units b.units a.exit b.exit p.run q.run in
    same-decoding a.units b.units a.exit b.exit a.pictures b.pictures a.payloads b.payloads same.0 same.1 (p.pictures ∙ ap (dec_out settings) same.0 ∙ sym q.pictures) (p.payloads ∙ ap (dec_payloads settings) same.0 ∙ sym q.payloads)

decoding-of : (settings : OutputSettings) (file : List ℕ) → HasOneRun (by_content settings) file → HasSomeRun (by_content settings) file → HasExactlyOne (HasDecoding settings file)
decoding-of settings file one run =
    let decoding : Decoding = record { units = run.0; exit = run.1; pictures = dec_out settings run.0; payloads = dec_payloads settings run.0 } in
    let is : HasDecoding settings file decoding = record { run = run.2; pictures = refl; payloads = refl } in
    record { one = decoding; is = is; only = λ other has. one-decoding settings file one other decoding has is }

pub exactly-one-decoding : ComponentsHaveOne → ComponentsHaveSome → (settings : OutputSettings) (file : List ℕ) → AreBytes file → HasExactlyOne (HasDecoding settings file)
exactly-one-decoding once some settings file bytes =
    let runs = by_content-runs once some settings in decoding-of settings file (runs.one file) (runs.some file bytes)
