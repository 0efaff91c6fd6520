use Rattle.std.proofs.Common.{◌≡◌, ◌*◌, ℕ, List, length, ap, ◌∙◌, subst}
use Rattle.std.specs.List.{sum}
use Rattle.std.proofs.lemmas.List.{take_at}
use Rattle.apv_base.specs.model.Encode.{each}
use Rattle.apv_base.specs.model.Grid.{tile_count}
use Rattle.apv_base.specs.model.Header.{grid_of, header_comps}
use Rattle.apv_workers.specs.Least.{IsLeastTotal}
use Rattle.apv_workers.specs.Lengths.{tile_lengths}
use Rattle.apv_workers.specs.Track.{TrackState}
use Rattle.apv_workers.specs.declared.track.TrackHead.{TrackHead}
use Rattle.apv_workers.proofs.LeastLemmas.{least-total}
use Rattle.apv_workers.proofs.encode.least.least_len_tiles.Goals as goal

pub returns-clause-least : goal.returns-clause-least
returns-clause-least g c =
    let head : TrackHead = record c.track.inside.head { q = c.args.q } in
    let coeffs = c.track.inside.coeffs in
    let four : length c.count_all.new.lengths ≡ 4 * tile_count (grid_of head.header) = c.count_all.auto.lengths ∙ ap length c.as_mut_slice.ensures.value ∙ c.track.invariant.four_each in
    let same = c.as_slice.ensures.value ∙ take_at c.count_all.new.lengths _ c.track.inside.lengths.len (c.count_all.auto.lengths ∙ c.as_mut_slice.ensures.len) in
    let total = c.sum_of_all.ensures.sum ∙ ap (λ (xs : List ℕ). sum (each (tile_count (grid_of head.header)) (λ tile. sum (tile_lengths xs (header_comps head.header) tile)))) same in
    subst (λ (track : TrackState). IsLeastTotal track c.args.q c.sum_of_all.result) c.track.view_is
    (least-total head coeffs c.count_all.new.lengths c.track.inside.frame c.track.inside.levels.values c.track.inside.lengths.items c.track.inside.head.q c.sum_of_all.result four c.count_all.ensures total)
