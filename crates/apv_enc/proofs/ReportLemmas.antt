-- The report of access units, and of one more.
use Rattle.std.proofs.Common.{◌≡◌, ℕ, zero, suc, ◌+◌, ◌-◌, ◌*◌, ◌<◌, ◌≤◌, List, [], ◌∷◌, ◌++◌, length, refl, sym, ap, ◌∙◌, subst, arith, Option, Some, None, IfSome, length-append}
use Rattle.std.proofs.lemmas.Grind.{flat_map-append}
use Rattle.std.specs.List.{flat_map}
use Rattle.apv_base.proofs.BitsLemmas.{length-be}
use Rattle.apv_base.specs.declared.format.Format.{Format}
use Rattle.apv_base.specs.model.Format.{comps_of, component_width}
use Rattle.apv_base.specs.model.Grid.{Grid}
use Rattle.apv_base.specs.model.Header.{format_of}
use Rattle.apv_base.specs.model.Judge.{DecodedFrame}
use Rattle.apv_base.specs.model.Picture.{Samples, joined, sample}
use Rattle.apv_base.specs.model.Bits.{be}
use Rattle.apv_base.specs.model.Run.{sized}
use Rattle.apv_console.specs.declared.report.Report.{Report}
use Rattle.apv_encoding.specs.AccessUnit.{EncodedUnit, Pictures}
use Rattle.apv_encoding.specs.Answer.{AreEncoded, Inputs, primary_levels}
use Rattle.apv_encoding.specs.DecodedUnit.{decoded_frame}
use Rattle.apv_encoding.specs.Difference.{distance, larger, maximum, peak_difference}
use Rattle.apv_encoding.specs.Generated.{generated_picture}
use Rattle.apv_encoding.specs.Settings.{EncoderSettings, Track}
use Rattle.apv_search.specs.declared.choice.Chosen.{Chosen}
use Rattle.apv_enc.specs.Added.{HasFirstFrame, IsAddedTo, report_with}
use Rattle.apv_enc.specs.Check.{IsCheckOf, report_by, report_in}
use Rattle.apv_enc.specs.declared.check.Check.{Check}
use Rattle.apv_generated.proofs.ListLemmas.{pieces-same}
use Rattle.apv_frame.proofs.PictureLemmas.{visible-filled}
use Rattle.apv_frame.specs.Unit.{IsBufferOf}
use Rattle.apv_grid.specs.Buffer.{Buffer, samples_of}
use Rattle.apv_enc.specs.Report.{IsReported, added, decoded_samples, empty_report, file_of, minimum, peaks_from, report_of, smaller, unit_qps}

-- ---- the peak difference

abbrev sample_apart : Samples → Samples → ℕ → ℕ → ℕ → List ℕ
sample_apart a s comp y x = distance (a comp x y) (s comp x y) ∷ []

abbrev row_apart : Format → Samples → Samples → ℕ → ℕ → List ℕ
row_apart format a s comp y = joined (component_width format comp) (sample_apart a s comp y)

abbrev rows_apart : Format → Samples → Samples → ℕ → List ℕ
rows_apart format a s comp = joined format.height (row_apart format a s comp)

-- a picture of the same visible samples is as far from another one
pub peak-same : (format : Format) (a b c : Samples) → ((comp x y : ℕ) → comp < comps_of format.chroma → x < component_width format comp → y < format.height → b comp x y ≡ c comp x y) → peak_difference format a b ≡ peak_difference format a c
peak-same format a b c same = ap maximum (
    pieces-same (comps_of format.chroma) 0 0 (rows_apart format a b) (rows_apart format a c) (λ comp known.
    let k : 0 + comp < comps_of format.chroma = omega (arith, known) in
    pieces-same format.height 0 0 (row_apart format a b (0 + comp)) (row_apart format a c (0 + comp)) (λ y low.
    let l : 0 + y < format.height = omega (arith, low) in
    pieces-same (component_width format (0 + comp)) 0 0 (sample_apart a b (0 + comp) (0 + y)) (sample_apart a c (0 + comp) (0 + y)) (λ x left.
    let w : 0 + x < component_width format (0 + comp) = omega (arith, left) in
    ap (λ (s : ℕ). distance (a (0 + comp) (0 + x) (0 + y)) s ∷ []) (same (0 + comp) (0 + x) (0 + y) k w l)))))

-- the buffer of a decoded frame is as far from a picture as its samples
pub peak-of-decoded : (first : DecodedFrame) (buffer : Buffer ℕ) (other : Samples) → IsBufferOf first buffer
    → peak_difference buffer.grid.format other (samples_of buffer) ≡ peak_difference (format_of first.frame.header.info) other (sample first.frame first.levels)
peak-of-decoded first buffer other is =
    peak-same buffer.grid.format other (samples_of buffer) (sample first.frame first.levels) (λ comp x y known left low. is.samples comp x y (visible-filled buffer.grid comp x y known left low))
    ∙ ap (λ (g : Grid). peak_difference g.format other (sample first.frame first.levels)) is.grid

-- ---- lists of one element more

minimum-next : (xs : List ℕ) (x : ℕ) → x ≤ 255 → minimum (xs ++ x ∷ []) ≡ smaller (minimum xs) x
unfolding minimum
minimum-next [] x few = omega (arith, few)
minimum-next (y ∷ ys) x few = ap (smaller y) (minimum-next ys x few) ∙ smaller-smaller y (minimum ys) x
  where
    smaller-smaller : (a b c : ℕ) → smaller a (smaller b c) ≡ smaller (smaller a b) c
    smaller-smaller a b c = omega arith

maximum-next : (xs : List ℕ) (x : ℕ) → maximum (xs ++ x ∷ []) ≡ larger (maximum xs) x
unfolding maximum
maximum-next [] x = omega arith
maximum-next (y ∷ ys) x = ap (larger y) (maximum-next ys x) ∙ larger-larger y (maximum ys) x
  where
    larger-larger : (a b c : ℕ) → larger a (larger b c) ≡ larger (larger a b) c
    larger-larger a b c = omega arith

qps-next : (units : List EncodedUnit) (unit : EncodedUnit) → unit_qps (units ++ unit ∷ []) ≡ unit_qps units ++ unit.q ∷ []
qps-next [] unit = refl
qps-next (first ∷ more) unit = ap (λ (xs : List ℕ). first.q ∷ xs) (qps-next more unit)

peaks-next : (seed : ℕ) (primary : Track) (first : ℕ) (units : List EncodedUnit) (unit : EncodedUnit)
    → peaks_from seed primary first (units ++ unit ∷ []) ≡ peaks_from seed primary first units ++ peak_difference (format_of primary.header.info) (generated_picture seed (first + length units)) (decoded_samples primary unit) ∷ []
peaks-next seed primary first [] unit = ap (λ (n : ℕ). peak_difference (format_of primary.header.info) (generated_picture seed n) (decoded_samples primary unit) ∷ []) (let e : first ≡ first + 0 = omega arith in e)
peaks-next seed primary first (next ∷ more) unit =
    let e : suc first + length more ≡ first + suc (length more) = omega arith in
    ap (λ (xs : List ℕ). peak_difference (format_of primary.header.info) (generated_picture seed first) (decoded_samples primary next) ∷ xs) (peaks-next seed primary (suc first) more unit
    ∙ ap (λ (n : ℕ). peaks_from seed primary (suc first) more ++ peak_difference (format_of primary.header.info) (generated_picture seed n) (decoded_samples primary unit) ∷ []) e)

sized-length : (bytes : List ℕ) → length (sized bytes) ≡ 4 + length bytes
sized-length bytes = length-append (be 4 (length bytes)) bytes ∙ ap (λ (n : ℕ). n + length bytes) (length-be 4 (length bytes))

file-next : (units : List EncodedUnit) (unit : EncodedUnit) → length (file_of (units ++ unit ∷ [])) ≡ length (file_of units) + (4 + length unit.bytes)
file-next units unit =
    let f = λ (u : EncodedUnit). sized u.bytes in
    ap length (flat_map-append f units (unit ∷ [])) ∙ length-append (flat_map f units) (flat_map f (unit ∷ []))
    ∙ ap (λ (n : ℕ). length (file_of units) + n) (length-append (sized unit.bytes) [] ∙ ap (λ (n : ℕ). n + 0) (sized-length unit.bytes) ∙ (let e : 4 + length unit.bytes + 0 ≡ 4 + length unit.bytes = omega arith in e))

-- ---- the report

abbrev report_with_parts : ℕ → ℕ → ℕ → ℕ → ℕ → ℕ → Report
report_with_parts seed frames bytes least greatest peak = record { seed = seed; frames = frames; bytes = bytes; least_qp = least; greatest_qp = greatest; peak = peak }

pub parts-same : (seed f g b c l m h i p q : ℕ) → f ≡ g → b ≡ c → l ≡ m → h ≡ i → p ≡ q → report_with_parts seed f b l h p ≡ report_with_parts seed g c m i q
parts-same seed f g b c l m h i p q e1 e2 e3 e4 e5 =
    ap (λ (x : ℕ). report_with_parts seed x b l h p) e1 ∙ ap (λ (x : ℕ). report_with_parts seed g x l h p) e2 ∙ ap (λ (x : ℕ). report_with_parts seed g c x h p) e3
    ∙ ap (λ (x : ℕ). report_with_parts seed g c m x p) e4 ∙ ap (λ (x : ℕ). report_with_parts seed g c m i x) e5

pub none-reported : (seed : ℕ) (primary : Track) → empty_report seed ≡ report_of seed primary []
unfolding minimum maximum
none-reported seed primary = refl

-- of one access unit more
pub report-next : (seed : ℕ) (primary : Track) (units : List EncodedUnit) (unit : EncodedUnit) (size : ℕ) → unit.q ≤ 255 → size ≡ length unit.bytes
    → added (report_of seed primary units) unit.q size (peak_difference (format_of primary.header.info) (generated_picture seed (length units)) (decoded_samples primary unit)) ≡ report_of seed primary (units ++ unit ∷ [])
report-next seed primary units unit size few is =
    let frames : length units + 1 ≡ length (units ++ unit ∷ []) = sym (length-append units (unit ∷ [])) in
    let bytes : length (file_of units) + (4 + size) ≡ length (file_of (units ++ unit ∷ [])) = ap (λ (n : ℕ). length (file_of units) + (4 + n)) is ∙ sym (file-next units unit) in
    let least : smaller (minimum (unit_qps units)) unit.q ≡ minimum (unit_qps (units ++ unit ∷ [])) = sym (ap minimum (qps-next units unit) ∙ minimum-next (unit_qps units) unit.q few) in
    let greatest : larger (maximum (unit_qps units)) unit.q ≡ maximum (unit_qps (units ++ unit ∷ [])) = sym (ap maximum (qps-next units unit) ∙ maximum-next (unit_qps units) unit.q) in
    let here = peak_difference (format_of primary.header.info) (generated_picture seed (length units)) (decoded_samples primary unit) in
    let zero : 0 + length units ≡ length units = omega arith in
    let peaks : peaks_from seed primary 0 (units ++ unit ∷ []) ≡ peaks_from seed primary 0 units ++ here ∷ [] = peaks-next seed primary 0 units unit
    ∙ ap (λ (n : ℕ). peaks_from seed primary 0 units ++ peak_difference (format_of primary.header.info) (generated_picture seed n) (decoded_samples primary unit) ∷ []) zero in
    let peak : larger (maximum (peaks_from seed primary 0 units)) here ≡ maximum (peaks_from seed primary 0 (units ++ unit ∷ [])) = sym (ap maximum peaks ∙ maximum-next (peaks_from seed primary 0 units) here) in
    parts-same seed (length units + 1) (length (units ++ unit ∷ [])) (length (file_of units) + (4 + size)) (length (file_of (units ++ unit ∷ []))) _ _ _ _ _ _ frames bytes least greatest peak

-- at most as many bytes as its frames may have
pub report-few : (settings : EncoderSettings) (inputs : Inputs) (format : Format) (frames : List Pictures) (units : List EncodedUnit) → AreEncoded settings inputs format frames units → length (file_of units) ≤ length units * 536870916
report-few settings inputs format [] units e = subst (λ (us : List EncodedUnit). length (file_of us) ≤ length us * 536870916) (sym e) (omega arith)
report-few settings inputs format (pictures ∷ frames) [] e = absurd e
report-few settings inputs format (pictures ∷ frames) (unit ∷ units) e =
    few-more (length (file_of (unit ∷ units))) (length (file_of units)) (length unit.bytes) (length units) (file-first unit units) (report-few settings inputs format frames units e.1) e.0.small
  where
    file-first : (unit : EncodedUnit) (more : List EncodedUnit) → length (file_of (unit ∷ more)) ≡ 4 + length unit.bytes + length (file_of more)
    file-first unit more = length-append (sized unit.bytes) (file_of more) ∙ ap (λ (n : ℕ). n + length (file_of more)) (sized-length unit.bytes)

    few-more : (all rest here n : ℕ) → all ≡ 4 + here + rest → rest ≤ n * 536870916 → here ≤ 536870912 → all ≤ suc n * 536870916
    few-more all rest here n is few small = omega (arith, is, few, small)

-- ---- checks

-- of one access unit more
pub check-next : (generate : Option ℕ) (primary : Track) (units : List EncodedUnit) (unit : EncodedUnit) (old new : Option Check) (chosen : Chosen) → unit.q ≡ chosen.qp → chosen.size ≡ length unit.bytes → HasFirstFrame unit.bytes (decoded_frame primary unit.q (primary_levels unit))
    → IsCheckOf generate primary units old → IsAddedTo old chosen unit.bytes new → IsCheckOf generate primary (units ++ unit ∷ []) new
check-next None primary units unit None new chosen qp size has is add = add
check-next None primary units unit (Some old) new chosen qp size has is add = absurd (let no : ⊥ = cc (is) in no)
check-next (Some seed) primary units unit None new chosen qp size has is add = absurd is
check-next (Some seed) primary units unit (Some old) None chosen qp size has is add = absurd add
check-next (Some seed) primary units unit (Some old) (Some new) chosen qp size has is add =
    let first : DecodedFrame = decoded_frame primary unit.q (primary_levels unit) in
    let peak : ℕ = peak_difference (format_of primary.header.info) (generated_picture seed (length units)) (decoded_samples primary unit) in
    let one : report_in new ≡ report_with (report_of seed primary units) chosen first = add.0 first has ∙ ap (λ (r : Report). report_with r chosen first) is in
    let two : report_with (report_of seed primary units) chosen first ≡ added (report_of seed primary units) unit.q chosen.size peak = ap (λ (q : ℕ). added (report_of seed primary units) q chosen.size peak) (sym qp) in
    one ∙ two ∙ report-next seed primary units unit chosen.size (subst (λ (q : ℕ). q ≤ 255) (sym qp) add.1) size

-- the report that a check gives
pub check-reported : (generate : Option ℕ) (primary : Track) (units : List EncodedUnit) (check : Option Check) (report : Option Report) → IsCheckOf generate primary units check → report ≡ report_by check → IsReported generate primary units report
check-reported None primary units None report is e = e
check-reported None primary units (Some check) report is e = absurd (let no : ⊥ = cc (is) in no)
check-reported (Some seed) primary units None report is e = absurd is
check-reported (Some seed) primary units (Some check) report is e = e ∙ ap Some is

-- what is asked of a check before it takes up an access unit
pub check-few : (generate : Option ℕ) (primary : Track) (units : List EncodedUnit) (check : Option Check) → IsCheckOf generate primary units check → length units < 4294967295 → IfSome check (λ c. (report_in c).frames < 4294967295)
check-few generate primary units None is few = tt
check-few None primary units (Some check) is few = absurd (let no : ⊥ = cc (is) in no)
check-few (Some seed) primary units (Some check) is few = subst (λ (r : Report). r.frames < 4294967295) (sym is) few

pub check-bytes : (generate : Option ℕ) (primary : Track) (units : List EncodedUnit) (check : Option Check) → IsCheckOf generate primary units check → length (file_of units) ≤ length units * 536870916
    → IfSome check (λ c. (report_in c).bytes ≤ (report_in c).frames * 536870916)
check-bytes generate primary units None is few = tt
check-bytes None primary units (Some check) is few = absurd (let no : ⊥ = cc (is) in no)
check-bytes (Some seed) primary units (Some check) is few = subst (λ (r : Report). r.bytes ≤ r.frames * 536870916) (sym is) few
