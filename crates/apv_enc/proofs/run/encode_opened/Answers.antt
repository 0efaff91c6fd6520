use Rattle.std.proofs.Common.{None}
use Rattle.apv_base.specs.declared.slot.Slot.TheVariants.{Input}
use Rattle.apv_enc.specs.Encoded.{among_frames, before_frames}
use Rattle.apv_enc.proofs.RunCauseLemmas.{some-tracks, stay-open, tracks-along, tracks-reading}
use Rattle.apv_enc.proofs.RunOutcomeLemmas.{none-before}
use Rattle.apv_enc.proofs.run.encode_opened.Goals as goal

pub returns-in_default-clause-views : goal.returns-in_default-clause-views
returns-in_default-clause-views g c = rw c.of.ensures (none-before c.args.settings.now (g.F.Files.slot_view c.args.files.now) None)

pub returns-in_default-new-clause-views : goal.returns-in_default-new-clause-views
returns-in_default-new-clause-views g c = rw c.of-in_default-new.ensures (none-before c.args.settings.now (g.F.Files.slot_view c.args.files.now) None)

pub encode_frames-requires-clause-reading : goal.encode_frames-requires-clause-reading
encode_frames-requires-clause-reading g c lifetimes lives =
    let opening = c.in-Ok-open_tracks.opening in
    let opened = c.in-Ok-open_tracks.ensures.ok in
    tracks-reading c.args.settings.now (g.F.Files.slot_view c.args.files.now) (g.F.Files.slot_view c.open_tracks.new.files) opened.0 opening.payloads.items opening.tracks.items opened.1 c.requires.reading

pub encode_frames-requires-clause-tracks : goal.encode_frames-requires-clause-tracks
encode_frames-requires-clause-tracks g c lifetimes lives =
    let opening = c.in-Ok-open_tracks.opening in
    let opened = c.in-Ok-open_tracks.ensures.ok in
    let old = g.F.Files.slot_view c.args.files.now in
    let mid = g.F.Files.slot_view c.open_tracks.new.files in
    some-tracks c.args.settings.now old mid opened.0 c.deref.result.now c.as_mut_slice-tracks.result.now
    (tracks-along c.args.settings.now old mid opened.0 opening.payloads.items c.deref.result.now opening.tracks.items c.as_mut_slice-tracks.result.now c.deref.ensures.value c.as_mut_slice-tracks.ensures.value opened.1)

pub returns-in-Ok-open_tracks-clause-views : goal.returns-in-Ok-open_tracks-clause-views
returns-in-Ok-open_tracks-clause-views g c =
    let opening = c.in-Ok-open_tracks.opening in
    let opened = c.in-Ok-open_tracks.ensures.ok in
    let old = g.F.Files.slot_view c.args.files.now in
    let mid = g.F.Files.slot_view c.open_tracks.new.files in
    among_frames opened.0 c.deref.result.now c.as_mut_slice-tracks.result.now mid
    (tracks-along c.args.settings.now old mid opened.0 opening.payloads.items c.deref.result.now opening.tracks.items c.as_mut_slice-tracks.result.now c.deref.ensures.value c.as_mut_slice-tracks.ensures.value opened.1)
    (λ inputs for. c.encode_frames.ensures.views inputs opened.0 for)

pub returns-in-Ok-open_tracks-clause-lender : goal.returns-in-Ok-open_tracks-clause-lender
returns-in-Ok-open_tracks-clause-lender g c =
    let opening = c.in-Ok-open_tracks.opening in
    let opened = c.in-Ok-open_tracks.ensures.ok in
    let old = g.F.Files.slot_view c.args.files.now in
    let mid = g.F.Files.slot_view c.open_tracks.new.files in
    (stay-open c.args.settings.now old (g.F.Files.slot_view c.encode_frames.new.files) c.encode_frames.result (among_frames opened.0 c.deref.result.now c.as_mut_slice-tracks.result.now mid
    (tracks-along c.args.settings.now old mid opened.0 opening.payloads.items c.deref.result.now opening.tracks.items c.as_mut_slice-tracks.result.now c.deref.ensures.value c.as_mut_slice-tracks.ensures.value opened.1)
    (λ inputs for. c.encode_frames.ensures.views inputs opened.0 for)) Input).lender

pub returns-clause-lender : goal.returns-clause-lender
returns-clause-lender g c =
    (stay-open c.args.settings.now (g.F.Files.slot_view c.args.files.now) (g.F.Files.slot_view c.open_tracks.new.files) (record { exit = c.in-Err.exit; report = None }) (before_frames c.in-Err.ensures.err) Input).lender
