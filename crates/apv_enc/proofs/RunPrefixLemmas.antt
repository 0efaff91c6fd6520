-- The units of an encoding begin with those of the first frames.
use Rattle.std.proofs.Common.{◌≡◌, ℕ, suc, ◌+◌, ◌≤◌, List, [], ◌∷◌, ◌++◌, length, refl, sym, ap, ap₂, subst, arith}
use Rattle.apv_base.specs.declared.exits.Exit.{Exit}
use Rattle.apv_base.specs.declared.format.Format.{Format}
use Rattle.apv_base.specs.model.Run.{MAX_UNITS}
use Rattle.apv_quant.specs.Laws.{HasOneNearest}
use Rattle.apv_encoding.specs.AccessUnit.{Pictures, EncodedUnit}
use Rattle.apv_encoding.specs.Answer.{Inputs, HasOffsets, HasFormats, primary_tiles, from_first_frame, tracks_for, AreEncoded, EncodingStops, enc_out, recon_out, Encodes, before, encoded}
use Rattle.apv_encoding.specs.Laws.{AreSoundSettings, Encoding, HasEncoding}
use Rattle.apv_encoding.specs.Settings.{EncoderSettings, Track}
use Rattle.apv_encoding.specs.Tracks.{Contents, FramesAt}
use Rattle.apv_encoding.proofs.OneAnswerLemmas.{EncodedAfter, Run, alike-at, begins-or-stops, encoded-after, encoding-stop-along, next-units, one-formats, run-of, same-encoded, unit-or-stop}
use Rattle.apv_encoding.proofs.TracksLemmas.{after-same, frames-along}

-- the units are the first ones of these
abbrev pub BeginUnits : List EncodedUnit → List EncodedUnit → Type 0
BeginUnits units all = (more : List EncodedUnit) × (all ≡ units ++ more)

prefix-run : (settings : EncoderSettings) (inputs : Inputs) (format : Format) (n : ℕ) (left : Contents) (frames others : List Pictures) (a b : Contents) (us vs : List EncodedUnit) (f : Exit) → Run settings inputs format → n + length us ≤ MAX_UNITS
    → FramesAt settings.source (tracks_for settings inputs format) left frames a → AreEncoded settings inputs format frames us → EncodedAfter settings inputs format n left others b vs f → BeginUnits us vs
prefix-run settings inputs format n left [] others a b [] vs f run few at are q = (vs, refl)
prefix-run settings inputs format n left [] others a b (u ∷ us) vs f run few at are q = absurd (omega (arith, ap (length {A = EncodedUnit}) are))
prefix-run settings inputs format n left (x ∷ frames) others a b [] vs f run few at are q = absurd are
prefix-run settings inputs format n left (x ∷ frames) [] a b (u ∷ us) [] f run few at are q =
    let none : n + length {A = EncodedUnit} [] ≡ n = omega arith in
    let here : EncodingStops settings inputs format n left f = encoding-stop-along settings inputs format n b left f run (λ track in-them. sym (q.frames_at track in-them)) (subst (λ (k : ℕ). EncodingStops settings inputs format k b f) none q.stop) in
    unit-or-stop settings inputs format n left x at.0 u f run (omega (arith, few)) at.1 are.0 here
prefix-run settings inputs format n left (x ∷ frames) [] a b (u ∷ us) (v ∷ vs) f run few at are q = absurd (omega (arith, ap (length {A = EncodedUnit}) q.encoded_as))
prefix-run settings inputs format n left (x ∷ frames) (y ∷ others) a b (u ∷ us) [] f run few at are q = absurd q.encoded_as
prefix-run settings inputs format n left (x ∷ frames) (y ∷ others) a b (u ∷ us) (v ∷ vs) f run few at are q =
    let tracks : List Track = tracks_for settings inputs format in
    let same_after = after-same settings.source tracks left x y at.0 q.frames_at.0 at.1 q.frames_at.1 in
    let unit : u ≡ v = same-encoded settings inputs format x y u v run (alike-at settings.source tracks left x y at.0 q.frames_at.0 run.are at.1 q.frames_at.1) are.0 q.encoded_as.0 in
    let later = prefix-run settings inputs format (suc n) q.frames_at.0 frames others a b us vs f run (omega (arith, few)) (frames-along settings.source tracks at.0 q.frames_at.0 frames a same_after at.2) are.1
    (next-units settings inputs format n left q.frames_at.0 y others b v vs f q (λ track in-them. refl)) in
    (later.0, ap₂ (λ (w : EncodedUnit) (ws : List EncodedUnit). w ∷ ws) (sym unit) later.1)

-- what an encoding has, where its units begin with these
pub record BeginsSo (settings : EncoderSettings) (inputs : Inputs) (format : Format) (units : List EncodedUnit) (encoding : Encoding) : Type 0 where
  pub more : List EncodedUnit
  pub parts : encoding.units ≡ units ++ more
  pub output : encoding.output ≡ enc_out settings (units ++ more)
  pub recon : encoding.recon ≡ recon_out settings inputs format (units ++ more)

module _ (nearest : HasOneNearest) (settings : EncoderSettings) (sound : AreSoundSettings settings) (inputs : Inputs) (format : Format) (begin : List ℕ) (frames : List Pictures) (left : Contents) (units : List EncodedUnit) (has : HasFormats settings inputs format begin)
    (offsets : HasOffsets (primary_tiles settings format) inputs.offsets) (few : length units ≤ MAX_UNITS) (at : FramesAt settings.source (tracks_for settings inputs format) (from_first_frame inputs.contents begin) frames left) (are : AreEncoded settings inputs format frames units) where
  same-format : (other : Format) (rest : List ℕ) (others : List Pictures) (after : Contents) (us : List EncodedUnit) (e : Exit) → other ≡ format → rest ≡ begin → EncodedAfter settings inputs other 0 (from_first_frame inputs.contents rest) others after us e
      → EncodedAfter settings inputs format 0 (from_first_frame inputs.contents begin) others after us e
  same-format other rest others after us e h i p =
      subst (λ (k : Format). EncodedAfter settings inputs k 0 (from_first_frame inputs.contents begin) others after us e) h (subst (λ (z : List ℕ). EncodedAfter settings inputs other 0 (from_first_frame inputs.contents z) others after us e) i p)

  begins-by : (us : List EncodedUnit) (o r : List ℕ) (e : Exit) → Encodes settings inputs us o r e → BeginsSo settings inputs format units (record { units = us; output = o; recon = r; exit = e })
  begins-by us o r e (before x stops) = begins-or-stops settings inputs format begin x has offsets stops
  begins-by us o r e (encoded other rest others after us' x has' offsets' few' at' are' stop') =
      let formats = one-formats settings inputs other format rest begin has' has in
      let q = same-format other rest others after us' e formats.0 formats.1 (encoded-after settings inputs other rest others after us' e few' at' are' stop') in
      let p = prefix-run settings inputs format 0 (from_first_frame inputs.contents begin) frames others left after units us' e (run-of settings inputs format begin nearest sound has) (omega (arith, few)) at are q in
      record {
        more = p.0;
        parts = p.1;
        output = ap (enc_out settings) p.1;
        recon = ap₂ (recon_out settings inputs) formats.0 p.1;
      }

  pub begins-so : (encoding : Encoding) → HasEncoding settings inputs encoding → BeginsSo settings inputs format units encoding
  begins-so encoding made = begins-by encoding.units encoding.output encoding.recon encoding.exit made
