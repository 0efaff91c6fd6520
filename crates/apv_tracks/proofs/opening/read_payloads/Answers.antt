use Rattle.std.proofs.Common.{rules, ◌≡◌, is_some, true}
use Rattle.apv_tracks.proofs.OpeningLemmas.{list-end, list-read}
use Rattle.apv_tracks.proofs.opening.read_payloads.Goals as goal

pub returns-in-Ok-clause-ok : goal.returns-in-Ok-clause-ok
returns-in-Ok-clause-ok g c =
    let given : is_some c.args.settings.now.metadata ≡ true = search rules in
    list-read c.args.settings.now _ _ c.read_payload_file.new.list.items given c.in-Ok.ensures.here

pub returns-in-Err-clause-err : goal.returns-in-Err-clause-err
returns-in-Err-clause-err g c =
    let given : is_some c.args.settings.now.metadata ≡ true = search rules in
    rw c.list_end.ensures (list-end c.args.settings.now _ _ c.read_payload_file.new.list.items c.in-Err.end given c.in-Err.ensures.here)
