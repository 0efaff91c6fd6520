use Rattle.std.proofs.Common.{◌-◌, ◌∙◌, length, take, ap, arith, ℕ}
use Rattle.apv_header.proofs.TileWriteLemmas.{bytes_4}
use Rattle.apv_workers.proofs.PutTiles.{data-lengths, piece-is}
use Rattle.apv_workers.proofs.encode.put.Putting.put_tile.Goals as goal

pub put_data-requires-clause-lengths : goal.put_data-requires-clause-lengths
put_data-requires-clause-lengths c =
    c.lengths_of-lengths.ensures.lengths ∙ data-lengths c.args.self.now.head.now c.args.self.now.levels.now c.args.self.now.lengths.now c.requires.ready c.args.tile c.requires.tile_exists

pub returns : goal.returns
returns c =
    piece-is c.args.self.now.head.now c.args.self.now.levels.now c.args.self.now.lengths.now c.requires.ready c.args.tile (length c.args.out.now - 4) c.copy_from_slice.new.self c.put_tile_header.new.out c.put_data.new.out c.lengths_of-lengths.result.now
    (take c.from-comps.result c.qps-qps.result) c.qps-qps.result c.requires.tile_exists (c.copy_from_slice.ensures.after ∙ c.to_be_bytes.ensures ∙ bytes_4 (length c.args.out.now - 4)) (omega (arith, c.requires.room)) c.lengths_of-lengths.ensures.lengths
    (ap (λ (k : ℕ). take k c.qps-qps.result) (c.from-comps.ensures ∙ c.comps.ensures))
    c.qps-qps.ensures.four c.qps-qps.ensures.each c.put_tile_header.ensures c.put_data.ensures
