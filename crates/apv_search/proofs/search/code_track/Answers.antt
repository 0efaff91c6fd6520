use Rattle.apv_search.proofs.SearchLemmas.{track-at}
use Rattle.apv_search.proofs.search.code_track.Goals as goal

pub returns-clause-at_qp : goal.returns-clause-at_qp
returns-clause-at_qp g c =
    track-at c.args.qp c.args.track.now c.quantise_tiles.new.track c.len_tiles.new.track c.quantise_tiles.ensures.others c.len_tiles.ensures.others
    c.quantise_tiles.ensures.nearest c.quantise_tiles.ensures.picture c.len_tiles.ensures.lengths
