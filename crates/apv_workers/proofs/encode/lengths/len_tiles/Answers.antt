use Rattle.std.proofs.Common.{◌≡◌, ◌*◌, ℕ, List, length, get_or, ap, ◌∙◌}
use Rattle.std.specs.List.{sum}
use Rattle.std.proofs.lemmas.List.{take_at}
use Rattle.apv_base.specs.model.Encode.{each}
use Rattle.apv_base.specs.model.Grid.{tile_count}
use Rattle.apv_base.specs.model.Header.{grid_of, header_comps}
use Rattle.apv_workers.specs.Lengths.{tile_lengths}
use Rattle.apv_workers.specs.Track.{length_place, levels_in}
use Rattle.apv_workers.specs.TrackFields.{head_qps}
use Rattle.apv_workers.proofs.Counted.{total-is, counted-has}
use Rattle.apv_workers.proofs.encode.lengths.len_tiles.Goals as goal

pub returns-clause-lengths : goal.returns-clause-lengths
returns-clause-lengths g c tile comp lt less =
    let head = c.track.inside.head in
    ap (λ (xs : List ℕ). get_or xs (length_place tile comp) 0) (take_at c.count_all.new.lengths _ c.track.inside.lengths.len (c.count_all.auto.lengths ∙ c.as_mut_slice.ensures.len))
    ∙ counted-has head c.track.inside.levels c.count_all.new.lengths c.count_all.ensures tile comp lt less

pub returns-clause-sum : goal.returns-clause-sum
returns-clause-sum g c =
    let head = c.track.inside.head in
    let four : length c.count_all.new.lengths ≡ 4 * tile_count (grid_of head.header) = c.count_all.auto.lengths ∙ ap length c.as_mut_slice.ensures.value ∙ c.track.invariant.four_each in
    c.sum_of_all.ensures.sum
    ∙ ap (λ (xs : List ℕ). sum (each (tile_count (grid_of head.header)) (λ tile. sum (tile_lengths xs (header_comps head.header) tile))))
    (c.as_slice.ensures.value ∙ take_at c.count_all.new.lengths _ c.track.inside.lengths.len (c.count_all.auto.lengths ∙ c.as_mut_slice.ensures.len))
    ∙ total-is head.header (head_qps head) (levels_in (grid_of head.header) c.track.inside.levels.values) c.count_all.new.lengths four (counted-has head c.track.inside.levels c.count_all.new.lengths c.count_all.ensures)
