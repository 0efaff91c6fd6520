use Rattle.std.proofs.Common.{◌≡◌, ℕ, List, ◌+◌, ◌<◌, length, ap, ◌∙◌, arith}
use Rattle.std.specs.List.{concat}
use Rattle.apv_base.specs.model.CodedFrame.{blocks_at}
use Rattle.apv_base.specs.model.Component.{component_bytes}
use Rattle.apv_base.specs.model.Encode.{each}
use Rattle.apv_base.specs.model.Header.{header_comps}
use Rattle.apv_workers.specs.Track.{TrackState, qps_of, levels_of}
use Rattle.apv_base.specs.model.Tile.{tile_header_size}
use Rattle.apv_base.proofs.HeaderLemmas.{comps-few}
use Rattle.apv_frame.proofs.CodedLemmas.{length-more, few-data}
use Rattle.apv_frame.proofs.encode.tile_size.Goals as goal

pub loop-comp-preserved : goal.loop-comp-preserved
loop-comp-preserved c =
    let track : TrackState = c.args.track.now in
    let comp : ℕ = c.loop-comp.comp in
    let part : ℕ → List ℕ = λ comp. component_bytes (blocks_at (levels_of track) c.args.tile comp) in
    let less : comp < header_comps track.header = omega (arith, c.loop-comp-test.true, c.comps-comps.ensures, ap header_comps c.header.ensures.header) in
    let more = length-more comp part in
    record {
      size = omega (arith, c.loop-comp.invariant.size, c.data_len-size.ensures, c.requires.bytes.lengths c.args.tile comp c.requires.tile less, more);
      few = omega (arith, few-data track.header (qps_of track) (levels_of track) c.args.tile (comp + 1) c.requires.tile (omega arith), c.requires.bytes.few);
    }

pub overflow_add-size-in-loop-comp : goal.overflow_add-size-in-loop-comp
overflow_add-size-in-loop-comp c =
    let track : TrackState = c.args.track.now in
    let comp : ℕ = c.loop-comp.comp in
    let part : ℕ → List ℕ = λ comp. component_bytes (blocks_at (levels_of track) c.args.tile comp) in
    let less : comp < header_comps track.header = omega (arith, c.loop-comp-test.true, c.comps-comps.ensures, ap header_comps c.header.ensures.header) in
    let more = length-more comp part in
    omega (
      arith,
      c.loop-comp.invariant.size,
      c.data_len-size.ensures,
      c.requires.bytes.lengths c.args.tile comp c.requires.tile less,
      more,
      few-data track.header (qps_of track) (levels_of track) c.args.tile (comp + 1) c.requires.tile (omega arith),
      c.requires.bytes.few,
      comps-few track.header.info.chroma,
    )

pub returns-clause-size : goal.returns-clause-size
returns-clause-size c =
    let track : TrackState = c.args.track.now in
    let part : ℕ → List ℕ = λ comp. component_bytes (blocks_at (levels_of track) c.args.tile comp) in
    let all : c.loop-comp.comp ≡ header_comps track.header = omega (arith, c.loop-comp.auto.comp-end, c.loop-comp-test.false, c.comps-comps.ensures, ap header_comps c.header.ensures.header) in
    c.loop-comp.invariant.size ∙ ap (λ (n : ℕ). tile_header_size (header_comps track.header) + length (concat (each n part))) all
