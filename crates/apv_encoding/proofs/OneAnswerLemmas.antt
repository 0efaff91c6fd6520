-- An encoder has one answer at most.
use Rattle.std.proofs.Common.{◌≡◌, ℕ, suc, ◌+◌, ◌-◌, ◌<◌, ◌≤◌, inl, inr, List, [], ◌∷◌, length, refl, sym, ap, ap₂, ◌∙◌, subst, arith, Option, Some, None}
use Rattle.std.proofs.lemmas.Bool.{cases_lt}
use Rattle.apv_base.specs.declared.exits.Exit.{Exit}
use Rattle.apv_base.specs.declared.exits.Exit.TheVariants.{LimitMet, BadPayloads, BadTileQp, TooLarge}
use Rattle.apv_base.specs.declared.format.Format.{Format}
use Rattle.apv_base.specs.declared.rules.Limit.TheVariants.{L1}
use Rattle.apv_base.specs.declared.rules.Rule.TheVariants.{V26}
use Rattle.apv_base.specs.declared.slot.Slot.TheVariants.{Input, Preview}
use Rattle.apv_base.specs.model.Header.{format_of}
use Rattle.apv_base.specs.model.Payload.{PayloadAt, HasPartialPayload}
use Rattle.apv_base.specs.model.Run.{MAX_UNIT, MAX_UNITS}
use Rattle.apv_base.specs.model.Video.{VideoFault, VideoHeaderAt, VideoHeaderBreaks}
use Rattle.apv_base.proofs.OneUnitLemmas.{one-payload, no-payload, whole-or-partial}
use Rattle.apv_base.proofs.SequenceLemmas.{sequence-one}
use Rattle.apv_quant.specs.Laws.{HasOneNearest}
use Rattle.apv_encoding.specs.AccessUnit.{Pictures, EncodedUnit, HasSizeAt, IsChosen, FitsNowhere}
use Rattle.apv_encoding.specs.Answer.{FormatAt, of_words, of_header, FormatStops, at_header, at_input, at_preview, Inputs, carried, HasPayloads, HasOffsets, IsBadOffset, HasBadOffset, primary_tiles, HasFormats, StopsBefore, long_payloads, partial_payload, at_formats, bad_offset, from_first_frame, tracks_for, tile_offsets, IsEncoded, AreEncoded, EncodingStops, by_frames, too_large, over_limit, enc_out, recon_out, Encodes, before, encoded}
use Rattle.apv_encoding.specs.Laws.{AreTracks, AreSoundSettings, FormatsPass, IsChosenUnit, IsTooLarge, Encoding, HasEncoding}
use Rattle.apv_encoding.specs.Settings.{EncoderSettings, Source, y4m, Track, RateControl, fixed, limited, check_input, check_preview}
use Rattle.apv_encoding.specs.Tracks.{Contents, form_of, video_exit, FrameAt, FramesAt}
use Rattle.apv_encoding.proofs.AlikeLemmas.{AreAlikeFor, AreAlike, all-tracks, size-alike, chosen-alike, nowhere-alike}
use Rattle.apv_encoding.proofs.ChosenLemmas.{size-is, chosen-once}
use Rattle.apv_encoding.proofs.OneHeaderLemmas.{one-video-header, header-or-fault, one-header-fault}
use Rattle.apv_encoding.proofs.PictureLemmas.{one-start, same-picture}
use Rattle.apv_encoding.proofs.SettingsLemmas.{are-tracks}
use Rattle.apv_encoding.proofs.TracksLemmas.{track-sound, frame-or-stop, one-stop, AreSameAt, stop-along, frame-along, frames-along, after-same}
use Rattle.apv_encoding.proofs.UnitLemmas.{same-size}

some-same : {A : Type 0} (x y : A) → ◌≡◌ {A = Option A} (Some x) (Some y) → x ≡ y
some-same x y e = cc

none-or-some : {A B : Type 0} (o : Option A) (x : A) → o ≡ None → o ≡ Some x → B
none-or-some o x p q = let both : None ≡ Some x = sym p ∙ q in absurd (let no : ⊥ = cc (both) in no)

-- ---- formats

one-format-at : (file : List ℕ) (source : Source) (f g : Format) (a b : List ℕ) → FormatAt file source f a → FormatAt file source g b → (f ≡ g) × (a ≡ b)
one-format-at file source f g a b (of_words format) (of_words other) = (refl, refl)
one-format-at file source f g a b (of_header format after p) (of_header other rest q) = one-video-header file format other after rest p q

header-of : (file : List ℕ) (format : Format) (after : List ℕ) → FormatAt file y4m format after → VideoHeaderAt file format after
header-of file format after (of_header f a p) = p

-- a format or a fault of the header
format-or-header : {A : Type 0} (file : List ℕ) (source : Source) (format : Format) (after : List ℕ) (fault : VideoFault) → FormatAt file source format after → source ≡ y4m → VideoHeaderBreaks file fault → A
format-or-header file source format after fault at e breaks = header-or-fault file format after fault (header-of file format after (subst (λ (s : Source). FormatAt file s format after) e at)) breaks

format-or-stop : {A : Type 0} (settings : EncoderSettings) (file : List ℕ) (format : Format) (after : List ℕ) (exit : Exit) → FormatAt file settings.source format after → FormatsPass settings format → FormatStops settings file exit → A
format-or-stop settings file format after exit at pass (at_header fault e breaks) = format-or-header file settings.source format after fault at e breaks
format-or-stop settings file format after exit at pass (at_input other rest fault at' check) =
    none-or-some (check_input settings format) fault pass.input (ap (check_input settings) (one-format-at file settings.source format other after rest at at').0 ∙ check)
format-or-stop settings file format after exit at pass (at_preview other rest fault at' check preview) = none-or-some (check_preview settings.preview) fault pass.preview preview

one-format-stop : (settings : EncoderSettings) (file : List ℕ) (e f : Exit) → FormatStops settings file e → FormatStops settings file f → e ≡ f
one-format-stop settings file e f (at_header fault is breaks) (at_header fault' is' breaks') = ap (video_exit Input 0) (one-header-fault file fault fault' breaks breaks')
one-format-stop settings file e f (at_header fault is breaks) (at_input format after fault' at check) = format-or-header file settings.source format after fault at is breaks
one-format-stop settings file e f (at_header fault is breaks) (at_preview format after fault' at check preview) = format-or-header file settings.source format after fault at is breaks
one-format-stop settings file e f (at_input format after fault at check) (at_header fault' is breaks) = format-or-header file settings.source format after fault' at is breaks
one-format-stop settings file e f (at_input format after fault at check) (at_input other rest fault' at' check') =
    ap (video_exit Input 0) (some-same fault fault' (sym check ∙ ap (check_input settings) (one-format-at file settings.source format other after rest at at').0 ∙ check'))
one-format-stop settings file e f (at_input format after fault at check) (at_preview other rest fault' at' check' preview) =
    none-or-some (check_input settings other) fault check' (ap (check_input settings) (sym (one-format-at file settings.source format other after rest at at').0) ∙ check)
one-format-stop settings file e f (at_preview format after fault at check preview) (at_header fault' is breaks) = format-or-header file settings.source format after fault' at is breaks
one-format-stop settings file e f (at_preview format after fault at check preview) (at_input other rest fault' at' check') =
    none-or-some (check_input settings format) fault' check (ap (check_input settings) (one-format-at file settings.source format other after rest at at').0 ∙ check')
one-format-stop settings file e f (at_preview format after fault at check preview) (at_preview other rest fault' at' check' preview') = ap (video_exit Preview 0) (some-same fault fault' (sym preview ∙ preview'))

-- ---- before the first frame

same-bytes : (o : Option (List ℕ)) (xs ys : List ℕ) → o ≡ Some xs → o ≡ Some ys → xs ≡ ys
same-bytes o xs ys p q = some-same xs ys (sym p ∙ q)

payloads-of : (o : Option (List ℕ)) (bytes : List ℕ) → HasPayloads o → o ≡ Some bytes → HasPayloads (Some bytes)
payloads-of o bytes has e = subst HasPayloads e has

good-or-long : {A : Type 0} (o : Option (List ℕ)) (bytes : List ℕ) → HasPayloads o → o ≡ Some bytes → MAX_UNIT < length bytes → A
good-or-long o bytes has e long = let good = payloads-of o bytes has e in absurd (omega (arith, good.0, long))

good-or-partial : {A : Type 0} (o : Option (List ℕ)) (bytes : List ℕ) (byte : ℕ) → HasPayloads o → o ≡ Some bytes → HasPartialPayload bytes byte → A
good-or-partial o bytes byte has e partial = let good = payloads-of o bytes has e in whole-or-partial bytes good.1.0 byte good.1.1 partial

one-partial : (xs : List ℕ) (a b : ℕ) → HasPartialPayload xs a → HasPartialPayload xs b → a ≡ b
one-partial xs a b p q =
    let same = sequence-one PayloadAt one-payload xs p.rest q.rest p.whole q.whole p.sequence q.sequence (λ payload after at. no-payload p.rest payload after V26 p.partial at) (λ payload after at. no-payload q.rest payload after V26 q.partial at) in
    p.place ∙ ap (λ (r : List ℕ). length xs - length r) same.1 ∙ sym q.place

one-bad-offset : (tiles : ℕ) (bytes : List ℕ) (a b : ℕ) → HasBadOffset tiles bytes a → HasBadOffset tiles bytes b → a ≡ b
one-bad-offset tiles bytes a b p q = elim (cases_lt a b) [
  | inl lt ↦ absurd (q.first a lt p.here)
  | inr ge ↦ elim (cases_lt b a) [
    | inl lt ↦ absurd (p.first b lt q.here)
    | inr also ↦ omega arith
  ]
]

pub formats-pass : (settings : EncoderSettings) (inputs : Inputs) (format : Format) (left : List ℕ) → HasFormats settings inputs format left → FormatsPass settings format
formats-pass settings inputs format left has = record { input = has.input; preview = has.preview }

formats-or-stop : {A : Type 0} (settings : EncoderSettings) (inputs : Inputs) (format : Format) (left : List ℕ) (exit : Exit) → HasFormats settings inputs format left → FormatStops settings (inputs.contents Input) exit → A
formats-or-stop settings inputs format left exit has stops = format-or-stop settings (inputs.contents Input) format left exit has.format_at (formats-pass settings inputs format left has) stops

pub one-formats : (settings : EncoderSettings) (inputs : Inputs) (f g : Format) (a b : List ℕ) → HasFormats settings inputs f a → HasFormats settings inputs g b → (f ≡ g) × (a ≡ b)
one-formats settings inputs f g a b p q = one-format-at (inputs.contents Input) settings.source f g a b p.format_at q.format_at

one-before : (settings : EncoderSettings) (inputs : Inputs) (e f : Exit) → StopsBefore settings inputs e → StopsBefore settings inputs f → e ≡ f
one-before settings inputs e f (long_payloads xs is long) (long_payloads ys is' long') = refl
one-before settings inputs e f (long_payloads xs is long) (partial_payload ys byte is' few partial) = absurd (omega (arith, long, few, ap (length {A = ℕ}) (same-bytes inputs.payloads xs ys is is')))
one-before settings inputs e f (long_payloads xs is long) (at_formats exit good stops) = good-or-long inputs.payloads xs good is long
one-before settings inputs e f (long_payloads xs is long) (bad_offset format left bytes byte has is' wrong) = good-or-long inputs.payloads xs has.payloads is long
one-before settings inputs e f (partial_payload xs byte is few partial) (long_payloads ys is' long) = absurd (omega (arith, long, few, ap (length {A = ℕ}) (same-bytes inputs.payloads xs ys is is')))
one-before settings inputs e f (partial_payload xs byte is few partial) (partial_payload ys byte' is' few' partial') =
    ap (λ (b : ℕ). BadPayloads b) (one-partial ys byte byte' (subst (λ (zs : List ℕ). HasPartialPayload zs byte) (same-bytes inputs.payloads xs ys is is') partial) partial')
one-before settings inputs e f (partial_payload xs byte is few partial) (at_formats exit good stops) = good-or-partial inputs.payloads xs byte good is partial
one-before settings inputs e f (partial_payload xs byte is few partial) (bad_offset format left bytes byte' has is' wrong) = good-or-partial inputs.payloads xs byte has.payloads is partial
one-before settings inputs e f (at_formats exit good stops) (long_payloads ys is long) = good-or-long inputs.payloads ys good is long
one-before settings inputs e f (at_formats exit good stops) (partial_payload ys byte is few partial) = good-or-partial inputs.payloads ys byte good is partial
one-before settings inputs e f (at_formats exit good stops) (at_formats exit' good' stops') = one-format-stop settings (inputs.contents Input) e f stops stops'
one-before settings inputs e f (at_formats exit good stops) (bad_offset format left bytes byte has is wrong) = formats-or-stop settings inputs format left exit has stops
one-before settings inputs e f (bad_offset format left bytes byte has is wrong) (long_payloads ys is' long) = good-or-long inputs.payloads ys has.payloads is' long
one-before settings inputs e f (bad_offset format left bytes byte has is wrong) (partial_payload ys byte' is' few partial) = good-or-partial inputs.payloads ys byte' has.payloads is' partial
one-before settings inputs e f (bad_offset format left bytes byte has is wrong) (at_formats exit good stops) = formats-or-stop settings inputs format left exit has stops
one-before settings inputs e f (bad_offset format left xs byte has is wrong) (bad_offset other rest ys byte' has' is' wrong') =
    let formats : format ≡ other = (one-formats settings inputs format other left rest has has').0 in
    let here : HasBadOffset (primary_tiles settings other) ys byte =
    subst (λ (g : Format). HasBadOffset (primary_tiles settings g) ys byte) formats (subst (λ (zs : List ℕ). HasBadOffset (primary_tiles settings format) zs byte) (same-bytes inputs.offsets xs ys is is') wrong) in
    ap (λ (b : ℕ). BadTileQp b) (one-bad-offset (primary_tiles settings other) ys byte byte' here wrong')

-- what begins to encode doesn't stop before
pub begins-or-stops : {A : Type 0} (settings : EncoderSettings) (inputs : Inputs) (format : Format) (left : List ℕ) (exit : Exit) → HasFormats settings inputs format left → HasOffsets (primary_tiles settings format) inputs.offsets → StopsBefore settings inputs exit → A
begins-or-stops settings inputs format left exit has offsets (long_payloads ys is long) = good-or-long inputs.payloads ys has.payloads is long
begins-or-stops settings inputs format left exit has offsets (partial_payload ys byte is few partial) = good-or-partial inputs.payloads ys byte has.payloads is partial
begins-or-stops settings inputs format left exit has offsets (at_formats e good stops) = formats-or-stop settings inputs format left e has stops
begins-or-stops settings inputs format left exit has offsets (bad_offset other rest ys byte has' is wrong) =
    let formats : other ≡ format = (one-formats settings inputs other format rest left has' has).0 in
    let good : HasOffsets (primary_tiles settings format) (Some ys) = subst (HasOffsets (primary_tiles settings format)) is offsets in
    absurd (good byte (subst (λ (g : Format). IsBadOffset (primary_tiles settings g) ys byte) formats wrong.here))

-- ---- a frame

-- two readings of a picture of each track have the same visible samples
pub alike-at : (source : Source) (tracks : List Track) (left : Contents) (p q : Pictures) (a b : Contents) → AreTracks tracks → FrameAt source tracks left p a → FrameAt source tracks left q b → AreAlike tracks p q
alike-at source tracks left p q a b are x y = all-tracks (AreAlikeFor p q) tracks (λ track in-them.
    (let x_at = x track in-them in
    let y_at = y track in-them in
    let starts : x_at.start ≡ y_at.start = one-start (left track.slot) (form_of source track.slot) x_at.start y_at.start x_at.prefix y_at.prefix in
    (track-sound tracks track are in-them, (same-picture (format_of track.header.info) (p track.slot) (q track.slot) (a track.slot) (b track.slot) (sym x_at.bytes ∙ starts ∙ y_at.bytes)).0)))

-- what is the same for all frames of a run
pub record Run (settings : EncoderSettings) (inputs : Inputs) (format : Format) : Type 0 where
  pub nearest : HasOneNearest
  pub are : AreTracks (tracks_for settings inputs format)

pub chosen-of : (settings : EncoderSettings) (inputs : Inputs) (format : Format) (pictures : Pictures) (unit : EncodedUnit) → IsEncoded settings inputs format pictures unit → IsChosenUnit settings format.depth (tracks_for settings inputs format) (carried inputs.payloads) pictures unit
chosen-of settings inputs format pictures unit is = record { unit_of = is.unit_of; chosen = is.chosen }

pub same-encoded : (settings : EncoderSettings) (inputs : Inputs) (format : Format) (p q : Pictures) (u v : EncodedUnit) → Run settings inputs format → AreAlike (tracks_for settings inputs format) p q → IsEncoded settings inputs format p u → IsEncoded settings inputs format q v → u ≡ v
same-encoded settings inputs format p q u v run alike x y =
    let tracks : List Track = tracks_for settings inputs format in
    let payloads : List ℕ = carried inputs.payloads in
    (chosen-once run.nearest settings format.depth tracks payloads q run.are.sound).accepted u v (chosen-alike settings format.depth tracks payloads p q u alike (chosen-of settings inputs format p u x)) (chosen-of settings inputs format q v y)

-- a frame's access unit that is too large
large-of : (settings : EncoderSettings) (inputs : Inputs) (format : Format) (pictures : Pictures) (limit smallest : ℕ) (first last : Option ℕ) → settings.rate ≡ limited limit first last → FitsNowhere settings format.depth (tracks_for settings inputs format) (carried inputs.payloads) pictures smallest
    → limit < smallest → IsTooLarge settings format.depth (tracks_for settings inputs format) (carried inputs.payloads) pictures smallest
large-of settings inputs format pictures limit smallest first last e nowhere above = record { limit = limit; first = first; last = last; rate = e; nowhere = nowhere; above = above }

encoded-or-large : {A : Type 0} (settings : EncoderSettings) (inputs : Inputs) (format : Format) (p q : Pictures) (u : EncodedUnit) (limit smallest : ℕ) (first last : Option ℕ) → Run settings inputs format → AreAlike (tracks_for settings inputs format) p q → IsEncoded settings inputs format p u
    → settings.rate ≡ limited limit first last → FitsNowhere settings format.depth (tracks_for settings inputs format) (carried inputs.payloads) q smallest → limit < smallest → A
encoded-or-large settings inputs format p q u limit smallest first last run alike x e nowhere above =
    let tracks : List Track = tracks_for settings inputs format in
    let payloads : List ℕ = carried inputs.payloads in
    absurd ((chosen-once run.nearest settings format.depth tracks payloads q run.are.sound).not_both u smallest (chosen-alike settings format.depth tracks payloads p q u alike (chosen-of settings inputs format p u x)) (large-of settings inputs format q limit smallest first last e nowhere above))

encoded-or-over : {A : Type 0} (settings : EncoderSettings) (inputs : Inputs) (format : Format) (p q : Pictures) (u : EncodedUnit) (qp size : ℕ) → Run settings inputs format → AreAlike (tracks_for settings inputs format) p q → IsEncoded settings inputs format p u → settings.rate ≡ fixed qp
    → HasSizeAt settings (tracks_for settings inputs format) (carried inputs.payloads) q qp size → MAX_UNIT < size → A
encoded-or-over settings inputs format p q u qp size run alike x e has above =
    let tracks : List Track = tracks_for settings inputs format in
    let payloads : List ℕ = carried inputs.payloads in
    let at : u.q ≡ qp = subst (λ (rate : RateControl). IsChosen settings format.depth tracks payloads p rate u) e x.chosen in
    let here : HasSizeAt settings tracks payloads q qp (length u.bytes) = subst (λ (k : ℕ). HasSizeAt settings tracks payloads q k (length u.bytes)) at (size-alike settings tracks payloads p q u.q (length u.bytes) alike (size-is settings tracks payloads p u x.unit_of)) in
    absurd (omega (arith, above, x.small, same-size run.nearest settings tracks payloads q qp size (length u.bytes) run.are.sound has here))

-- an access unit or a stop
pub unit-or-stop : {A : Type 0} (settings : EncoderSettings) (inputs : Inputs) (format : Format) (n : ℕ) (left : Contents) (p : Pictures) (after : Contents) (u : EncodedUnit) (exit : Exit) → Run settings inputs format → n < MAX_UNITS → FrameAt settings.source (tracks_for settings inputs format) left p after
    → IsEncoded settings inputs format p u → EncodingStops settings inputs format n left exit → A
unit-or-stop settings inputs format n left p after u exit run few at x (by_frames e stop) = frame-or-stop settings.source (tracks_for settings inputs format) n left e run.are (few, (p, after, at)) stop
unit-or-stop settings inputs format n left p after u exit run few at x (too_large q rest limit smallest first last lt at' rate nowhere above) =
    encoded-or-large settings inputs format p q u limit smallest first last run (alike-at settings.source (tracks_for settings inputs format) left p q after rest run.are at at') x rate nowhere above
unit-or-stop settings inputs format n left p after u exit run few at x (over_limit q rest qp size lt at' rate has above) =
    encoded-or-over settings inputs format p q u qp size run (alike-at settings.source (tracks_for settings inputs format) left p q after rest run.are at at') x rate has above

rates-differ : {A : Type 0} (rate : RateControl) (limit qp : ℕ) (first last : Option ℕ) → rate ≡ limited limit first last → rate ≡ fixed qp → A
rates-differ rate limit qp first last p q = let both : limited limit first last ≡ fixed qp = sym p ∙ q in absurd (let no : ⊥ = cc (both) in no)

limits-same : (rate : RateControl) (m n : ℕ) (a b c d : Option ℕ) → rate ≡ limited m a b → rate ≡ limited n c d → m ≡ n
limits-same rate m n a b c d p q = let both : limited m a b ≡ limited n c d = sym p ∙ q in let is : m ≡ n = cc (both) in is

qps-same : (rate : RateControl) (m n : ℕ) → rate ≡ fixed m → rate ≡ fixed n → m ≡ n
qps-same rate m n p q = let both : fixed m ≡ fixed n = sym p ∙ q in let is : m ≡ n = cc (both) in is

one-encoding-stop : (settings : EncoderSettings) (inputs : Inputs) (format : Format) (n : ℕ) (left : Contents) (e f : Exit) → Run settings inputs format → EncodingStops settings inputs format n left e → EncodingStops settings inputs format n left f → e ≡ f
one-encoding-stop settings inputs format n left e f run (by_frames x stop) (by_frames y stop') = one-stop settings.source (tracks_for settings inputs format) n left e f run.are stop stop'
one-encoding-stop settings inputs format n left e f run (by_frames x stop) (too_large q rest limit smallest first last lt at rate nowhere above) = frame-or-stop settings.source (tracks_for settings inputs format) n left x run.are (lt, (q, rest, at)) stop
one-encoding-stop settings inputs format n left e f run (by_frames x stop) (over_limit q rest qp size lt at rate has above) = frame-or-stop settings.source (tracks_for settings inputs format) n left x run.are (lt, (q, rest, at)) stop
one-encoding-stop settings inputs format n left e f run (too_large q rest limit smallest first last lt at rate nowhere above) (by_frames y stop) = frame-or-stop settings.source (tracks_for settings inputs format) n left y run.are (lt, (q, rest, at)) stop
one-encoding-stop settings inputs format n left e f run (too_large p after limit smallest first last lt at rate nowhere above) (too_large q rest limit' smallest' first' last' lt' at' rate' nowhere' above') =
    let tracks : List Track = tracks_for settings inputs format in
    let payloads : List ℕ = carried inputs.payloads in
    let alike = alike-at settings.source tracks left p q after rest run.are at at' in
    let here = large-of settings inputs format q limit smallest first last rate (nowhere-alike settings format.depth tracks payloads p q smallest alike nowhere) above in
    let least : smallest ≡ smallest' = (chosen-once run.nearest settings format.depth tracks payloads q run.are.sound).refused smallest smallest' here (large-of settings inputs format q limit' smallest' first' last' rate' nowhere' above') in
    ap₂ (λ (s l : ℕ). TooLarge n s l) least (limits-same settings.rate limit limit' first last first' last' rate rate')
one-encoding-stop settings inputs format n left e f run (too_large p after limit smallest first last lt at rate nowhere above) (over_limit q rest qp size lt' at' rate' has above') = rates-differ settings.rate limit qp first last rate rate'
one-encoding-stop settings inputs format n left e f run (over_limit q rest qp size lt at rate has above) (by_frames y stop) = frame-or-stop settings.source (tracks_for settings inputs format) n left y run.are (lt, (q, rest, at)) stop
one-encoding-stop settings inputs format n left e f run (over_limit p after qp size lt at rate has above) (too_large q rest limit smallest first last lt' at' rate' nowhere above') = rates-differ settings.rate limit qp first last rate' rate
one-encoding-stop settings inputs format n left e f run (over_limit p after qp size lt at rate has above) (over_limit q rest qp' size' lt' at' rate' has' above') =
    let tracks : List Track = tracks_for settings inputs format in
    let payloads : List ℕ = carried inputs.payloads in
    let alike = alike-at settings.source tracks left p q after rest run.are at at' in
    let here : HasSizeAt settings tracks payloads q qp' size = subst (λ (k : ℕ). HasSizeAt settings tracks payloads q k size) (qps-same settings.rate qp qp' rate rate') (size-alike settings tracks payloads p q qp size alike has) in
    ap (λ (s : ℕ). LimitMet L1 s) (same-size run.nearest settings tracks payloads q qp' size size' run.are.sound here has')

pub encoding-stop-along : (settings : EncoderSettings) (inputs : Inputs) (format : Format) (n : ℕ) (left other : Contents) (exit : Exit) → Run settings inputs format → AreSameAt (tracks_for settings inputs format) left other → EncodingStops settings inputs format n left exit → EncodingStops settings inputs format n other exit
encoding-stop-along settings inputs format n left other exit run alike (by_frames e stop) = by_frames e (stop-along settings.source (tracks_for settings inputs format) n left other e run.are alike stop)
encoding-stop-along settings inputs format n left other exit run alike (too_large q rest limit smallest first last lt at rate nowhere above) = too_large q rest limit smallest first last lt (frame-along settings.source (tracks_for settings inputs format) left other q rest alike at) rate nowhere above
encoding-stop-along settings inputs format n left other exit run alike (over_limit q rest qp size lt at rate has above) = over_limit q rest qp size lt (frame-along settings.source (tracks_for settings inputs format) left other q rest alike at) rate has above

-- ---- all frames

-- the access units after n of them, and why no further one follows
pub record EncodedAfter (settings : EncoderSettings) (inputs : Inputs) (format : Format) (n : ℕ) (left : Contents) (frames : List Pictures) (after : Contents) (units : List EncodedUnit) (exit : Exit) : Type 0 where
  pub few : n + length units ≤ MAX_UNITS
  pub frames_at : FramesAt settings.source (tracks_for settings inputs format) left frames after
  pub encoded_as : AreEncoded settings inputs format frames units
  pub stop : EncodingStops settings inputs format (n + length units) after exit

-- where an access unit follows, no stop is
no-unit : {A : Type 0} (settings : EncoderSettings) (inputs : Inputs) (format : Format) (n : ℕ) (left after end : Contents) (e f : Exit) (pictures : Pictures) (frames : List Pictures) (unit : EncodedUnit) (units : List EncodedUnit) → Run settings inputs format
    → EncodedAfter settings inputs format n left [] after [] e → EncodedAfter settings inputs format n left (pictures ∷ frames) end (unit ∷ units) f → A
no-unit settings inputs format n left after end e f pictures frames unit units run p q =
    let none : n + length {A = EncodedUnit} [] ≡ n = omega arith in
    let here : EncodingStops settings inputs format n left e = encoding-stop-along settings inputs format n after left e run (λ track in-them. sym (p.frames_at track in-them)) (subst (λ (k : ℕ). EncodingStops settings inputs format k after e) none p.stop) in
    unit-or-stop settings inputs format n left pictures q.frames_at.0 unit e run (omega (arith, q.few)) q.frames_at.1 q.encoded_as.0 here

pub next-units : (settings : EncoderSettings) (inputs : Inputs) (format : Format) (n : ℕ) (left mid : Contents) (pictures : Pictures) (frames : List Pictures) (after : Contents) (unit : EncodedUnit) (units : List EncodedUnit) (exit : Exit)
    (p : EncodedAfter settings inputs format n left (pictures ∷ frames) after (unit ∷ units) exit) → AreSameAt (tracks_for settings inputs format) p.frames_at.0 mid → EncodedAfter settings inputs format (suc n) mid frames after units exit
next-units settings inputs format n left mid pictures frames after unit units exit p alike =
    let count : n + suc (length units) ≡ suc n + length units = omega arith in
    record {
      few = omega (arith, p.few);
      frames_at = frames-along settings.source (tracks_for settings inputs format) p.frames_at.0 mid frames after alike p.frames_at.2;
      encoded_as = p.encoded_as.1;
      stop = subst (λ (k : ℕ). EncodingStops settings inputs format k after exit) count p.stop;
    }

one-run : (settings : EncoderSettings) (inputs : Inputs) (format : Format) (n : ℕ) (left : Contents) (frames others : List Pictures) (a b : Contents) (us vs : List EncodedUnit) (e f : Exit) → Run settings inputs format
    → EncodedAfter settings inputs format n left frames a us e → EncodedAfter settings inputs format n left others b vs f → (us ≡ vs) × (e ≡ f)
one-run settings inputs format n left [] [] a b [] [] e f run p q =
    (refl, one-encoding-stop settings inputs format (n + length {A = EncodedUnit} []) b e f run (encoding-stop-along settings inputs format (n + length {A = EncodedUnit} []) a b e run (λ track in-them. sym (p.frames_at track in-them) ∙ q.frames_at track in-them) p.stop) q.stop)
one-run settings inputs format n left [] others a b (u ∷ us) vs e f run p q = absurd (omega (arith, ap (length {A = EncodedUnit}) p.encoded_as))
one-run settings inputs format n left frames [] a b us (v ∷ vs) e f run p q = absurd (omega (arith, ap (length {A = EncodedUnit}) q.encoded_as))
one-run settings inputs format n left (x ∷ frames) others a b [] vs e f run p q = absurd p.encoded_as
one-run settings inputs format n left frames (y ∷ others) a b us [] e f run p q = absurd q.encoded_as
one-run settings inputs format n left [] (y ∷ others) a b [] (v ∷ vs) e f run p q = no-unit settings inputs format n left a b e f y others v vs run p q
one-run settings inputs format n left (x ∷ frames) [] a b (u ∷ us) [] e f run p q = no-unit settings inputs format n left b a f e x frames u us run q p
one-run settings inputs format n left (x ∷ frames) (y ∷ others) a b (u ∷ us) (v ∷ vs) e f run p q =
    let tracks : List Track = tracks_for settings inputs format in
    let same_after = after-same settings.source tracks left x y p.frames_at.0 q.frames_at.0 p.frames_at.1 q.frames_at.1 in
    let unit : u ≡ v = same-encoded settings inputs format x y u v run (alike-at settings.source tracks left x y p.frames_at.0 q.frames_at.0 run.are p.frames_at.1 q.frames_at.1) p.encoded_as.0 q.encoded_as.0 in
    let later = one-run settings inputs format (suc n) q.frames_at.0 frames others a b us vs e f run (next-units settings inputs format n left q.frames_at.0 x frames a u us e p same_after) (next-units settings inputs format n left q.frames_at.0 y others b v vs f q (λ track in-them. refl)) in
    (ap₂ (λ (w : EncodedUnit) (ws : List EncodedUnit). w ∷ ws) unit later.0, later.1)

-- ---- the answer

same-encoding : (us vs : List EncodedUnit) (o p r s : List ℕ) (e f : Exit) → us ≡ vs → o ≡ p → r ≡ s → e ≡ f → ◌≡◌ {A = Encoding} (record { units = us; output = o; recon = r; exit = e }) (record { units = vs; output = p; recon = s; exit = f })
same-encoding us vs o p r s e f a b c d = rw (a, b, c, d) refl

pub run-of : (settings : EncoderSettings) (inputs : Inputs) (format : Format) (left : List ℕ) → HasOneNearest → AreSoundSettings settings → HasFormats settings inputs format left → Run settings inputs format
run-of settings inputs format left nearest sound has = record { nearest = nearest; are = are-tracks settings format (tile_offsets inputs.offsets) sound (formats-pass settings inputs format left has) }

-- the access units of one format
same-run : (settings : EncoderSettings) (inputs : Inputs) (f g : Format) (x y : List ℕ) (frames others : List Pictures) (a b : Contents) (us vs : List EncodedUnit) (e e' : Exit) → Run settings inputs g → f ≡ g → x ≡ y
    → EncodedAfter settings inputs f 0 (from_first_frame inputs.contents x) frames a us e → EncodedAfter settings inputs g 0 (from_first_frame inputs.contents y) others b vs e' → (us ≡ vs) × (e ≡ e')
same-run settings inputs f g x y frames others a b us vs e e' run h i p q =
    let here : EncodedAfter settings inputs g 0 (from_first_frame inputs.contents y) frames a us e =
    subst (λ (k : Format). EncodedAfter settings inputs k 0 (from_first_frame inputs.contents y) frames a us e) h (subst (λ (z : List ℕ). EncodedAfter settings inputs f 0 (from_first_frame inputs.contents z) frames a us e) i p) in
    one-run settings inputs g 0 (from_first_frame inputs.contents y) frames others a b us vs e e' run here q

pub encoded-after : (settings : EncoderSettings) (inputs : Inputs) (format : Format) (begin : List ℕ) (frames : List Pictures) (left : Contents) (units : List EncodedUnit) (exit : Exit) → length units ≤ MAX_UNITS
    → FramesAt settings.source (tracks_for settings inputs format) (from_first_frame inputs.contents begin) frames left → AreEncoded settings inputs format frames units → EncodingStops settings inputs format (length units) left exit
    → EncodedAfter settings inputs format 0 (from_first_frame inputs.contents begin) frames left units exit
encoded-after settings inputs format begin frames left units exit few at are stop =
    let count : length units ≡ 0 + length units = omega arith in
    record { few = omega (arith, few); frames_at = at; encoded_as = are; stop = subst (λ (k : ℕ). EncodingStops settings inputs format k left exit) count stop }

one-encoding : HasOneNearest → (settings : EncoderSettings) (inputs : Inputs) (us vs : List EncodedUnit) (o p r s : List ℕ) (e f : Exit) → AreSoundSettings settings → Encodes settings inputs us o r e → Encodes settings inputs vs p s f
    → ◌≡◌ {A = Encoding} (record { units = us; output = o; recon = r; exit = e }) (record { units = vs; output = p; recon = s; exit = f })
one-encoding nearest settings inputs us vs o p r s e f sound (before x stops) (before y stops') = same-encoding [] [] [] [] [] [] e f refl refl refl (one-before settings inputs e f stops stops')
one-encoding nearest settings inputs us vs o p r s e f sound (before x stops) (encoded format begin frames left units y has offsets few at are stop) = begins-or-stops settings inputs format begin x has offsets stops
one-encoding nearest settings inputs us vs o p r s e f sound (encoded format begin frames left units x has offsets few at are stop) (before y stops) = begins-or-stops settings inputs format begin y has offsets stops
one-encoding nearest settings inputs us vs o p r s e f sound (encoded format begin frames left units x has offsets few at are stop) (encoded format' begin' frames' left' units' y has' offsets' few' at' are' stop') =
    let formats = one-formats settings inputs format format' begin begin' has has' in
    let same = same-run settings inputs format format' begin begin' frames frames' left left' units units' e f (run-of settings inputs format' begin' nearest sound has') formats.0 formats.1
    (encoded-after settings inputs format begin frames left units e few at are stop) (encoded-after settings inputs format' begin' frames' left' units' f few' at' are' stop') in
    same-encoding units units' (enc_out settings units) (enc_out settings units') (recon_out settings inputs format units) (recon_out settings inputs format' units') e f same.0 (ap (enc_out settings) same.0)
    (ap₂ (recon_out settings inputs) formats.0 same.0) same.1

pub answer-once : HasOneNearest → (settings : EncoderSettings) (inputs : Inputs) → AreSoundSettings settings → (a b : Encoding) → HasEncoding settings inputs a → HasEncoding settings inputs b → a ≡ b
answer-once nearest settings inputs sound a b p q = one-encoding nearest settings inputs a.units b.units a.output b.output a.recon b.recon a.exit b.exit sound p q
