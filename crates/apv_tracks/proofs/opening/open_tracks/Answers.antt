use Rattle.std.proofs.Common.{rules, ◌≡◌, ◌∙◌, ap}
use Rattle.apv_tracks.proofs.ErrorLemmas.{err-gives}
use Rattle.apv_tracks.proofs.OpeningLemmas.{ends-at-format, ends-at-list, ends-at-map, first-is, first-set, memory-at-tracks, opens}
use Rattle.apv_tracks.proofs.opening.open_tracks.Goals as goal

pub returns-in_err-payloads-clause-err : goal.returns-in_err-payloads-clause-err
returns-in_err-payloads-clause-err g c =
    err-gives _ _ _ c.from_residual.ensures.1
    (ends-at-list c.args.settings.now _ _ c.in_err-payloads.field-0.0 c.in_err-payloads.ensures.elsewhere c.in_err-payloads.ensures.err)

pub returns-in_err-formats-clause-err : goal.returns-in_err-formats-clause-err
returns-in_err-formats-clause-err g c =
    err-gives _ _ _ c.from_residual-in_err-formats.ensures.1
    (ends-at-format c.args.settings.now _ _ _ c.in_ok-payloads.payloads.items c.in_ok-payloads.ensures.elsewhere c.in_err-formats.ensures.elsewhere c.in_ok-payloads.ensures.ok
    c.in_err-formats.field-0.0 c.in_err-formats.ensures.err)

pub returns-in-Err-clause-err : goal.returns-in-Err-clause-err
returns-in-Err-clause-err g c =
    memory-at-tracks c.args.settings.now _ _ _ c.in_ok-payloads.payloads.items c.in_ok-payloads.ensures.elsewhere c.in_ok-formats.ensures.elsewhere c.in_ok-payloads.ensures.ok
    c.in_ok-formats.formats.format c.in_ok-formats.ensures.ok.format_at

pub returns-in_err-set_offsets-clause-err : goal.returns-in_err-set_offsets-clause-err
returns-in_err-set_offsets-clause-err g c =
    let first = first-is c.args.settings.now c.in_ok-formats.formats _ c.in-Ok.tracks.items c.in-Ok.ensures c.index_mut.result.now c.index_mut.ensures.value in
    err-gives _ _ _ c.from_residual-in_err-set_offsets.ensures.1
    (ends-at-map c.args.settings.now _ _ _ _ c.in_ok-payloads.payloads.items c.in_ok-formats.formats c.in_ok-payloads.ensures.elsewhere c.in_ok-formats.ensures.elsewhere c.in_err-set_offsets.ensures.elsewhere
    c.in_ok-payloads.ensures.ok c.in_ok-formats.ensures.ok c.index_mut.result.now c.in_err-set_offsets.field-0.0 first c.in_err-set_offsets.ensures.err)

pub returns-clause-ok : goal.returns-clause-ok
returns-clause-ok g c =
    let first = first-is c.args.settings.now c.in_ok-formats.formats _ c.in-Ok.tracks.items c.in-Ok.ensures c.index_mut.result.now c.index_mut.ensures.value in
    let set = first-set c.args.settings.now c.in_ok-formats.formats _ c.in-Ok.tracks.items c.in-Ok.ensures c.set_offsets.new.track in (
      c.in_ok-formats.formats.format,
      opens c.args.settings.now _ _ _ _ c.in_ok-payloads.payloads.items c.in_ok-formats.formats c.in_ok-payloads.ensures.elsewhere c.in_ok-formats.ensures.elsewhere c.in_ok-set_offsets.ensures.elsewhere
          c.in_ok-payloads.ensures.ok c.in_ok-formats.ensures.ok c.index_mut.result.now c.set_offsets.new.track _ first c.in_ok-set_offsets.ensures.ok set,
    )
