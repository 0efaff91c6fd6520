use Rattle.std.proofs.Common.{ℕ, List, length, ◌∙◌, ◌+◌, ◌<◌, arith, refl, subst, sym}
use Rattle.apv_encoding.specs.Generated.{generated_picture}
use Rattle.apv_frame.specs.Unit.{AreBuffersOf, IsBufferOf}
use Rattle.apv_grid.specs.Buffer.{Buffer}
use Rattle.apv_enc.proofs.OwnUnitLemmas.{first-buffer, has-buffer}
use Rattle.apv_enc.proofs.ReportLemmas.{parts-same, peak-of-decoded}
use Rattle.apv_enc.proofs.check.Check.add.Goals as goal

pub bounds-frames-0 : goal.bounds-frames-0
bounds-frames-0 g c =
    let w = c.requires.first in
    subst (λ (buffers : List (Buffer ℕ)). 0 < length buffers) (sym c.frames.ensures)
    (has-buffer c.args.unit.now w.0 w.1 c.decode_own.new.frames (c.in_ok-decode_own.ensures w.1.unit w.1.of_bytes w.1.valid))

pub returns-clause-report : goal.returns-clause-report
returns-clause-report g c first has =
    let report = c.args.self.now.report in
    let buffer = c.index-frames-0.result in
    let held = subst (AreBuffersOf has.unit.frames) (sym c.frames.ensures) (c.in_ok-decode_own.ensures has.unit has.of_bytes has.valid) in
    let is = subst (IsBufferOf first) (sym c.index-frames-0.is) (first-buffer c.args.unit.now first has c.frames.result.now _ held) in
    let peak = c.peak_difference-peak.ensures ∙ peak-of-decoded first buffer (generated_picture report.seed report.frames) is in
    parts-same report.seed (report.frames + 1) (report.frames + 1) (report.bytes + (4 + c.args.chosen.now.size)) (report.bytes + (4 + c.args.chosen.now.size)) _ _ _ _ _ _ refl refl (omega (arith, c.min.ensures)) (omega (arith, c.max.ensures)) (omega (arith, c.max-2.ensures, peak))
