use Rattle.std.proofs.Common.{◌≡◌, ◌<◌, ◌^◌, ◌∙◌, ℕ, List, length, ap, sym, arith}
use Rattle.apv_base.specs.declared.header.FrameHeader.{FrameHeader}
use Rattle.apv_enc.specs.UnitParts.{unit_bytes}
use Rattle.apv_search.specs.declared.choice.QpRange.{QpRange}
use Rattle.apv_words.specs.declared.encoder.EncSettings.{EncSettings}
use Rattle.apv_workers.specs.Track.{TrackState}
use Rattle.apv_enc.proofs.ChosenUnitLemmas.{IsPrepared, IsSearch, above-limit, first-depth, search-by, too-large, unit-made}
use Rattle.apv_enc.proofs.CodedTrackLemmas.{all-at, all-coded, all-lengths, same-headers}
use Rattle.apv_enc.proofs.unit.encode_unit.Goals as goal

pub returns-in-Err-clause-coded : goal.returns-in-Err-clause-coded
returns-in-Err-clause-coded g c = all-coded c.args.tracks.now c.transform_all.new.tracks c.least_qp.new.tracks c.transform_all.ensures c.least_qp.ensures.others

pub returns-in-Err-clause-err : goal.returns-in-Err-clause-err
returns-in-Err-clause-err g c format tile_offset pictures ready =
    let words : EncSettings = c.args.settings.now in
    let olds : List TrackState = c.args.tracks.now in
    let mids : List TrackState = c.transform_all.new.tracks in
    let fixed : ℕ = c.len_unit_fixed-fixed.result in
    let range : QpRange = c.permitted_qps-range.result in
    let prepared : IsPrepared words format tile_offset c.args.payloads.now pictures fixed olds mids =
    record { one = c.unit.ensures; ready = ready; sound = c.sound_headers.ensures; transformed = c.transform_all.ensures; size = c.len_unit_fixed-fixed.ensures.size } in
    let same : c.header.result.now.info.depth ≡ format.depth =
    ap (λ (h : FrameHeader). h.info.depth) c.header.ensures.header ∙ first-depth words format tile_offset olds c.index-tracks-0.result ready.kept in
    let search : IsSearch words words.limit format.depth range c.size_limit.result =
    search-by words c.header.result.now.info.depth format.depth range c.size_limit.result same c.permitted_qps-range.ensures.permits c.permitted_qps-range.ensures.permitted c.size_limit.ensures in
    let few : c.in-Err.large.smallest < 2 ^ 64 = omega arith in
    too-large words format tile_offset c.args.payloads.now pictures fixed olds mids range c.size_limit.result c.in-Err.large prepared search c.in-Err.ensures.large few

pub returns-then-chosen-from-clause-coded : goal.returns-then-chosen-from-clause-coded
returns-then-chosen-from-clause-coded g c = all-coded c.args.tracks.now c.transform_all.new.tracks c.least_qp.new.tracks c.transform_all.ensures c.least_qp.ensures.others

pub returns-then-chosen-from-clause-err : goal.returns-then-chosen-from-clause-err
returns-then-chosen-from-clause-err g c format tile_offset pictures ready =
    let words : EncSettings = c.args.settings.now in
    let olds : List TrackState = c.args.tracks.now in
    let mids : List TrackState = c.transform_all.new.tracks in
    let fixed : ℕ = c.len_unit_fixed-fixed.result in
    let range : QpRange = c.permitted_qps-range.result in
    let prepared : IsPrepared words format tile_offset c.args.payloads.now pictures fixed olds mids =
    record { one = c.unit.ensures; ready = ready; sound = c.sound_headers.ensures; transformed = c.transform_all.ensures; size = c.len_unit_fixed-fixed.ensures.size } in
    let same : c.header.result.now.info.depth ≡ format.depth =
    ap (λ (h : FrameHeader). h.info.depth) c.header.ensures.header ∙ first-depth words format tile_offset olds c.index-tracks-0.result ready.kept in
    let search : IsSearch words words.limit format.depth range c.size_limit.result =
    search-by words c.header.result.now.info.depth format.depth range c.size_limit.result same c.permitted_qps-range.ensures.permits c.permitted_qps-range.ensures.permitted c.size_limit.ensures in
    above-limit words format tile_offset c.args.payloads.now pictures fixed olds mids range c.size_limit.result c.in-Ok.chosen prepared c.requires.bounds.limit search c.in-Ok.ensures.least (omega arith)

pub write_unit-requires-clause-lengths : goal.write_unit-requires-clause-lengths
write_unit-requires-clause-lengths g c κs within = all-lengths c.in-Ok.chosen.qp c.transform_all.new.tracks c.least_qp.new.tracks c.in-Ok.ensures.at_qp.at

pub write_unit-requires-clause-size : goal.write_unit-requires-clause-size
write_unit-requires-clause-size g c κs within =
    let coded = all-coded c.args.tracks.now c.transform_all.new.tracks c.least_qp.new.tracks c.transform_all.ensures c.least_qp.ensures.others in
    c.in-Ok.ensures.at_qp.size ∙ sym (c.len_unit_fixed-fixed.ensures.size c.least_qp.new.tracks (same-headers c.args.tracks.now c.least_qp.new.tracks coded))

pub returns-in-Ok-write_unit-clause-coded : goal.returns-in-Ok-write_unit-clause-coded
returns-in-Ok-write_unit-clause-coded g c = all-coded c.args.tracks.now c.transform_all.new.tracks c.least_qp.new.tracks c.transform_all.ensures c.least_qp.ensures.others

pub returns-in-Ok-write_unit-clause-at_qp : goal.returns-in-Ok-write_unit-clause-at_qp
returns-in-Ok-write_unit-clause-at_qp g c = all-at c.in-Ok.chosen.qp c.transform_all.new.tracks c.least_qp.new.tracks c.in-Ok.ensures.at_qp.at

pub returns-in-Ok-write_unit-clause-ok : goal.returns-in-Ok-write_unit-clause-ok
returns-in-Ok-write_unit-clause-ok g c format tile_offset pictures ready =
    let words : EncSettings = c.args.settings.now in
    let olds : List TrackState = c.args.tracks.now in
    let mids : List TrackState = c.transform_all.new.tracks in
    let fixed : ℕ = c.len_unit_fixed-fixed.result in
    let range : QpRange = c.permitted_qps-range.result in
    let prepared : IsPrepared words format tile_offset c.args.payloads.now pictures fixed olds mids =
    record { one = c.unit.ensures; ready = ready; sound = c.sound_headers.ensures; transformed = c.transform_all.ensures; size = c.len_unit_fixed-fixed.ensures.size } in
    let same : c.header.result.now.info.depth ≡ format.depth =
    ap (λ (h : FrameHeader). h.info.depth) c.header.ensures.header ∙ first-depth words format tile_offset olds c.index-tracks-0.result ready.kept in
    let search : IsSearch words words.limit format.depth range c.size_limit.result =
    search-by words c.header.result.now.info.depth format.depth range c.size_limit.result same c.permitted_qps-range.ensures.permits c.permitted_qps-range.ensures.permitted c.size_limit.ensures in
    let news : List TrackState = c.least_qp.new.tracks in
    let coded = all-coded olds mids news c.transform_all.ensures c.least_qp.ensures.others in
    let bytes : List ℕ = c.write_unit.new.unit.items in
    let are : bytes ≡ unit_bytes words news c.args.payloads.now = c.in-Ok-write_unit.ensures in
    let size : c.in-Ok.chosen.size ≡ length bytes = c.in-Ok.ensures.at_qp.size ∙ sym (c.len_unit_fixed-fixed.ensures.size news (same-headers olds news coded)) ∙ sym (ap length are) in
    unit-made words format tile_offset c.args.payloads.now pictures fixed olds mids news range c.size_limit.result c.in-Ok.chosen bytes prepared search c.in-Ok.ensures.least c.in-Ok.ensures.at_qp.at are size (omega arith)

pub returns-in-Err-write_unit-clause-coded : goal.returns-in-Err-write_unit-clause-coded
returns-in-Err-write_unit-clause-coded g c = all-coded c.args.tracks.now c.transform_all.new.tracks c.least_qp.new.tracks c.transform_all.ensures c.least_qp.ensures.others
