use Rattle.std.proofs.Common.{◌≡◌, ℕ, List, ◌<◌, ◌∙◌, ◌++◌, length, get_or, take, ap, arith, length-append}
use Rattle.std.specs.List.{sum}
use Rattle.std.proofs.lemmas.List.{take_more}
use Rattle.apv_base.specs.model.Header.{grid_of, header_comps}
use Rattle.apv_header.proofs.NumbersLemmas.{sum-push}
use Rattle.apv_workers.specs.Lengths.{level_bytes}
use Rattle.apv_workers.proofs.Coded.{length-each, get_or-each}
use Rattle.apv_workers.proofs.Written.{put-more, put-all}
use Rattle.apv_workers.proofs.encode.put.Putting.put_data.Goals as goal

pub put_component-requires-clause-room : goal.put_component-requires-clause-room
put_component-requires-clause-room c =
    let header = c.args.self.now.head.now.header in
    let bytes : ℕ → List ℕ = level_bytes (grid_of header) c.args.self.now.levels.now.values c.args.tile in
    let low : c.loop-comp.comp < header_comps header = omega (arith, c.loop-comp-test.true, c.comps-comp-end.ensures) in
    c.split_at_mut-bytes.ensures.front_len ∙ ap (λ (xs : List ℕ). get_or xs c.loop-comp.comp 0) c.requires.lengths ∙ get_or-each (header_comps header) (λ comp. length (bytes comp)) c.loop-comp.comp 0 low

pub loop-comp-preserved : goal.loop-comp-preserved
loop-comp-preserved c =
    let header = c.args.self.now.head.now.header in
    let bytes : ℕ → List ℕ = level_bytes (grid_of header) c.args.self.now.levels.now.values c.args.tile in
    let before : List ℕ = c.split_at_mut-after.result.0.now in
    let new : List ℕ = c.put_component.new.out in
    let rest : List ℕ = c.split_at_mut-bytes.result.1.now in
    let there : c.loop-comp.comp < length c.args.lengths.now =
    omega (arith, c.loop-comp-test.true, c.comps-comp-end.ensures, ap length c.requires.lengths, length-each (header_comps header) (λ comp. length (bytes comp))) in
    record {
      len = omega (
        arith,
        c.loop-comp.invariant.len,
        ap length c.split_at_mut-after.ensures.value,
        ap length c.split_at_mut-bytes.ensures.value,
        c.put_component.auto.out,
        length-append before c.split_at_mut-after.result.1.now,
        length-append c.split_at_mut-bytes.result.0.now rest,
        length-append before (new ++ rest),
        length-append new rest,
      );
      place = omega (arith, c.loop-comp.invariant.place, ap sum (take_more c.args.lengths.now c.loop-comp.comp 0 there), sum-push (take c.loop-comp.comp c.args.lengths.now) (get_or c.args.lengths.now c.loop-comp.comp 0));
      bytes = put-more before c.split_at_mut-after.result.1.now new rest c.loop-comp.out c.loop-comp.place _ c.loop-comp.comp bytes c.split_at_mut-after.ensures.value c.split_at_mut-after.ensures.front_len
          (c.put_component.auto.out ∙ c.split_at_mut-bytes.ensures.front_len) c.loop-comp.invariant.bytes c.put_component.ensures;
    }

pub returns : goal.returns
returns c =
    let header = c.args.self.now.head.now.header in
    let bytes : ℕ → List ℕ = level_bytes (grid_of header) c.args.self.now.levels.now.values c.args.tile in
    let count : length c.args.lengths.now ≡ header_comps header = ap length c.requires.lengths ∙ length-each (header_comps header) (λ comp. length (bytes comp)) in
    let all : c.loop-comp.comp ≡ header_comps header = omega (arith, c.loop-comp-test.false, c.loop-comp.auto.comp-end, c.comps-comp-end.ensures) in
    put-all c.loop-comp.out c.args.lengths.now c.loop-comp.place c.loop-comp.comp (header_comps header) bytes c.loop-comp.invariant.len count all c.loop-comp.invariant.place c.loop-comp.invariant.bytes
