use Rattle.std.proofs.Common.{◌≡◌, ◌+◌, ℕ, List, ◌<◌, length, ap, ◌∙◌, arith}
use Rattle.std.specs.List.{concat}
use Rattle.apv_base.specs.model.CodedFrame.{blocks_at}
use Rattle.apv_base.specs.model.Component.{component_bytes}
use Rattle.apv_base.specs.model.Encode.{each}
use Rattle.apv_base.specs.model.Header.{header_comps}
use Rattle.apv_frame.proofs.CodedLemmas.{few-data, length-more}
use Rattle.apv_workers.specs.Track.{TrackState, levels_of, qps_of}
use Rattle.apv_enc.proofs.unit.sizes.len_tile.Goals as goal

pub loop-comp-preserved : goal.loop-comp-preserved
loop-comp-preserved c =
    let track : TrackState = c.args.track.now in
    let comp : ℕ = c.loop-comp.comp in
    let part : ℕ → List ℕ = λ comp. component_bytes (blocks_at (levels_of track) c.args.tile comp) in
    let less : comp < header_comps track.header = omega (arith, c.loop-comp-test.true, c.comps-comp-end.ensures, ap header_comps c.header.ensures.header) in
    let size : c.loop-comp.size + c.data_len-size.result ≡ length (concat (each (comp + 1) part)) =
    omega (arith, c.loop-comp.invariant.size, c.data_len-size.ensures, c.requires.bytes.lengths c.args.tile comp c.requires.tile less, length-more comp part) in
    record {
      size = size;
      few = omega (arith, size, few-data track.header (qps_of track) (levels_of track) c.args.tile (comp + 1) c.requires.tile (omega (arith, less)), c.requires.bytes.few);
    }

pub overflow_add-size : goal.overflow_add-size
overflow_add-size c =
    let track : TrackState = c.args.track.now in
    let comp : ℕ = c.loop-comp.comp in
    let part : ℕ → List ℕ = λ comp. component_bytes (blocks_at (levels_of track) c.args.tile comp) in
    let less : comp < header_comps track.header = omega (arith, c.loop-comp-test.true, c.comps-comp-end.ensures, ap header_comps c.header.ensures.header) in
    omega (
      arith,
      c.loop-comp.invariant.size,
      c.data_len-size.ensures,
      c.requires.bytes.lengths c.args.tile comp c.requires.tile less,
      length-more comp part,
      few-data track.header (qps_of track) (levels_of track) c.args.tile (comp + 1) c.requires.tile (omega (arith, less)),
      c.requires.bytes.few,
    )

pub returns-clause-size : goal.returns-clause-size
returns-clause-size c =
    let track : TrackState = c.args.track.now in
    let part : ℕ → List ℕ = λ comp. component_bytes (blocks_at (levels_of track) c.args.tile comp) in
    let all : c.loop-comp.comp ≡ header_comps track.header = omega (arith, c.loop-comp.auto.comp-end, c.loop-comp-test.false, c.comps-comp-end.ensures, ap header_comps c.header.ensures.header) in
    c.loop-comp.invariant.size ∙ ap (λ (n : ℕ). length (concat (each n part))) all
