use Rattle.std.proofs.Common.{◌≡◌, ◌≢◌, ℕ, ◌<◌, ◌∙◌, length, get_or, set, length-set, get_or-set_same, get_or-set_other, subst, arith, inl, inr}
use Rattle.std.proofs.lemmas.Bool.{cases_lt}
use Rattle.apv_frame.specs.Coded.{track_tile_size}
use Rattle.apv_frame.proofs.encode.tile_sizes.Goals as goal

pub loop-tile-preserved : goal.loop-tile-preserved
loop-tile-preserved c =
    let size : ℕ = c.tile_size.result in
    let there : c.loop-tile.tile < length c.loop-tile.sizes = omega (arith, c.loop-tile.invariant.len, c.loop-tile-test.true, c.tiles-tile-end.ensures.few) in
    record {
      len = length-set c.loop-tile.sizes c.loop-tile.tile size ∙ c.loop-tile.invariant.len;
      each = λ t lt. elim (cases_lt t c.loop-tile.tile) [
        | inl h ↦ (let ne : t ≢ c.loop-tile.tile = omega arith in get_or-set_other c.loop-tile.sizes c.loop-tile.tile t size 0 ne ∙ c.loop-tile.invariant.each t h)
        | inr h ↦ (let e : c.loop-tile.tile ≡ t = omega arith in
            subst (λ (k : ℕ). get_or (set c.loop-tile.sizes c.loop-tile.tile size) k 0 ≡ track_tile_size c.args.track.now k) e (get_or-set_same c.loop-tile.sizes c.loop-tile.tile size 0 there ∙ c.tile_size.ensures.size))
      ];
    }
