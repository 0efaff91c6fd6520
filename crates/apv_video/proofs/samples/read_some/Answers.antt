use Rattle.std.proofs.Common.{◌≡◌, ℕ, ◌+◌, ◌*◌, ◌%◌, ◌<◌, ◌≤◌, length, ap, sym, ◌∙◌, refl, arith, rules}
use Rattle.std.proofs.lemmas.Nat.{mod_below}
use Rattle.apv_base.specs.model.Format.{component_width}
use Rattle.apv_grid.specs.Buffer.{samples_of}
use Rattle.apv_video.proofs.SampleLemmas.{wide-enough, rows-fit, rows-inside, row-then, band-then}
use Rattle.apv_video.proofs.samples.read_some.Goals as goal

pub returns-then-x-gt0-clause-samples : goal.returns-then-x-gt0-clause-samples
returns-then-x-gt0-clause-samples c =
    let frame = c.args.frame.now in
    let width : ℕ = component_width frame.grid.format c.args.comp in
    let wide : 0 < width = wide-enough frame.grid.format.height width c.args.first (omega (arith, c.requires.inside, c.requires.some)) in
    let same : c.width-width.result ≡ width = c.width-width.ensures in
    let column : c.args.first % c.width-width.result < c.width-width.result = mod_below c.args.first c.width-width.result (omega arith) in
    row-then (samples_of frame c.args.comp) width c.width-width.result c.args.first c.min-count.result c.row_into.new.row _ same (omega (arith, c.min-count.ensures)) (search rules) (λ i less. c.row_into.ensures i (search rules))

pub rows_into-requires-clause-y : goal.rows_into-requires-clause-y
rows_into-requires-clause-y c =
    let format = c.args.frame.now.grid.format in
    let width : ℕ = component_width format c.args.comp in
    let wide : 0 < width = wide-enough format.height width c.args.first (omega (arith, c.requires.inside, c.requires.some)) in
    let same : c.width-width.result ≡ width = c.width-width.ensures in
    let all : format.height * c.width-width.result ≡ format.height * width = ap (λ (w : ℕ). format.height * w) same in
    rows-inside format.height c.width-width.result c.args.first (length c.args.samples.now) c.min-rows.result (omega arith) (omega (arith, c.if-x-gt0.false)) (omega (arith, c.requires.inside))
    (rows-fit c.min-rows.result (length c.args.samples.now) c.width-width.result (omega (arith, c.min-rows.ensures)))

pub returns-clause-samples : goal.returns-clause-samples
returns-clause-samples c =
    let frame = c.args.frame.now in
    let width : ℕ = component_width frame.grid.format c.args.comp in
    let wide : 0 < width = wide-enough frame.grid.format.height width c.args.first (omega (arith, c.requires.inside, c.requires.some)) in
    let same : c.width-width.result ≡ width = c.width-width.ensures in
    band-then (samples_of frame c.args.comp) width c.width-width.result c.args.first c.min-rows.result (c.min-rows.result * c.width-width.result) c.rows_into.new.rows _ same wide (omega (arith, c.if-x-gt0.false)) refl
    (search rules) c.rows_into.ensures
