use Rattle.std.proofs.Common.{arith, rules, ◌<◌, []}
use Rattle.apv_base.specs.model.Run.{MAX_UNITS}
use Rattle.apv_base.specs.declared.slot.Slot.TheVariants.{Input}
use Rattle.apv_files.specs.Loops.{TookMore}
use Rattle.apv_dec.proofs.NextUnitLemmas.{is-full, is-no_size, head-taken, is-large, is-cut, is-taken, unit-fails, HasHead}
use Rattle.apv_dec.proofs.unit.next_unit.Goals as goal

pub returns-then-number-eq4294967295-clause-here : goal.returns-then-number-eq4294967295-clause-here
returns-then-number-eq4294967295-clause-here g c =
    is-full c.args.number c.in_ok-count.count _ _ c.fill.new.buf c.in_ok-count.ensures.here (search rules) c.if-count-eq0.false c.if-number-eq4294967295.true

pub returns-then-count-lt4-clause-here : goal.returns-then-count-lt4-clause-here
returns-then-count-lt4-clause-here g c =
    rw c.broken.ensures (is-no_size c.args.number c.in_ok-count.count _ _ c.fill.new.buf c.in_ok-count.ensures.here (search rules) c.if-count-eq0.false (omega (arith, c.if-number-eq4294967295.false, c.ranges.number.fits)) c.if-count-lt4.true)

pub returns-then-size-gt-MAX_UNIT_BYTES-clause-here : goal.returns-then-size-gt-MAX_UNIT_BYTES-clause-here
returns-then-size-gt-MAX_UNIT_BYTES-clause-here g c =
    let head : HasHead (g.F.Files.slot_view c.args.files.now Input) c.fill.new.buf c.size_of-size.result (g.F.Files.slot_view c.fill.new.files Input) = head-taken c.in_ok-count.count c.size_of-size.result _ _ c.fill.new.buf c.in_ok-count.ensures.here (search rules) c.if-count-lt4.false c.size_of-size.ensures.value c.size_of-size.ensures.spelled in
    let few : c.args.number < MAX_UNITS = omega (arith, c.if-number-eq4294967295.false, c.ranges.number.fits) in
    rw c.from.ensures (is-large c.args.number c.size_of-size.result _ _ c.fill.new.buf head few c.if-size-gt-MAX_UNIT_BYTES.true)

pub returns-in_err-read_bytes-clause-here : goal.returns-in_err-read_bytes-clause-here
returns-in_err-read_bytes-clause-here g c =
    let head : HasHead (g.F.Files.slot_view c.args.files.now Input) c.fill.new.buf c.size_of-size.result (g.F.Files.slot_view c.fill.new.files Input) = head-taken c.in_ok-count.count c.size_of-size.result _ _ c.fill.new.buf c.in_ok-count.ensures.here (search rules) c.if-count-lt4.false c.size_of-size.ensures.value c.size_of-size.ensures.spelled in
    unit-fails c.args.number c.size_of-size.result _ (g.F.Files.slot_view c.fill.new.files Input) _ c.fill.new.buf _ c.read_bytes.new.bytes.items c.in_err-read_bytes.field-0.0 c.from_residual-in_err-read_bytes.result head c.if-size-gt-MAX_UNIT_BYTES.false
    c.in_err-read_bytes.ensures.here (search rules)

pub returns-then-len-size-clause-here : goal.returns-then-len-size-clause-here
returns-then-len-size-clause-here g c =
    let head : HasHead (g.F.Files.slot_view c.args.files.now Input) c.fill.new.buf c.size_of-size.result (g.F.Files.slot_view c.fill.new.files Input) = head-taken c.in_ok-count.count c.size_of-size.result _ _ c.fill.new.buf c.in_ok-count.ensures.here (search rules) c.if-count-lt4.false c.size_of-size.ensures.value c.size_of-size.ensures.spelled in
    let few : c.args.number < MAX_UNITS = omega (arith, c.if-number-eq4294967295.false, c.ranges.number.fits) in
    let taken : TookMore (g.F.Files.slot_view c.fill.new.files Input) c.size_of-size.result [] c.read_bytes.new.bytes.items (g.F.Files.slot_view c.read_bytes.new.files Input) = c.in_ok-read_bytes.ensures.here in
    rw c.broken-then-len-size.ensures (is-cut c.args.number c.size_of-size.result _ (g.F.Files.slot_view c.fill.new.files Input) _ c.fill.new.buf c.read_bytes.new.bytes.items head few c.if-size-gt-MAX_UNIT_BYTES.false taken (omega (arith, c.if-len-size.true, c.len.ensures)))

pub returns-clause-here : goal.returns-clause-here
returns-clause-here g c =
    let head : HasHead (g.F.Files.slot_view c.args.files.now Input) c.fill.new.buf c.size_of-size.result (g.F.Files.slot_view c.fill.new.files Input) = head-taken c.in_ok-count.count c.size_of-size.result _ _ c.fill.new.buf c.in_ok-count.ensures.here (search rules) c.if-count-lt4.false c.size_of-size.ensures.value c.size_of-size.ensures.spelled in
    let few : c.args.number < MAX_UNITS = omega (arith, c.if-number-eq4294967295.false, c.ranges.number.fits) in
    let taken : TookMore (g.F.Files.slot_view c.fill.new.files Input) c.size_of-size.result [] c.read_bytes.new.bytes.items (g.F.Files.slot_view c.read_bytes.new.files Input) = c.in_ok-read_bytes.ensures.here in
    is-taken c.args.number c.size_of-size.result _ (g.F.Files.slot_view c.fill.new.files Input) _ c.fill.new.buf c.read_bytes.new.bytes.items head few c.if-size-gt-MAX_UNIT_BYTES.false taken (omega (arith, c.if-len-size.false, c.len.ensures))
