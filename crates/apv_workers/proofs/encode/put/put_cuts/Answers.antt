use Rattle.std.proofs.Common.{◌≡◌, ◌≢◌, ℕ, ◌+◌, ◌*◌, ◌<◌, ◌∙◌, length, get_or, set, length-set, get_or-set_same, get_or-set_other, ap, subst, arith, inl, inr}
use Rattle.std.specs.List.{sum}
use Rattle.std.proofs.lemmas.Bool.{cases_lt}
use Rattle.apv_base.proofs.HeaderLemmas.{comps-few}
use Rattle.apv_base.specs.model.Header.{header_comps}
use Rattle.apv_workers.specs.Lengths.{tile_lengths}
use Rattle.apv_workers.specs.Put.{put_start}
use Rattle.apv_workers.proofs.Written.{start-more}
use Rattle.apv_workers.proofs.encode.put.put_cuts.Goals as goal

pub loop-tile-preserved : goal.loop-tile-preserved
loop-tile-preserved c =
    let comps : ℕ = header_comps c.args.head.now.header in
    let tile : ℕ = c.loop-tile.tile in
    let few = comps-few c.args.head.now.header.info.chroma in
    let known : c.from.result ≡ comps = c.from.ensures ∙ c.comps.ensures in
    let total : c.sum_of.result ≡ sum (tile_lengths c.args.lengths.now comps tile) = c.sum_of.ensures.sum ∙ ap sum c.lengths_of.ensures.lengths in
    let next : ℕ = c.loop-tile.end + (5 * c.from.result + 5 + 4 + c.sum_of.result) in
    let end : next ≡ put_start c.args.lengths.now comps (tile + 1) = omega (arith, known, total, c.loop-tile.invariant.end, start-more c.args.lengths.now comps tile) in
    let there : tile + 1 < length c.loop-tile.cuts = omega (arith, c.loop-tile.invariant.len, c.loop-tile-test.true, c.tiles-tile-end.ensures.few) in
    record {
      len = length-set c.loop-tile.cuts (tile + 1) next ∙ c.loop-tile.invariant.len;
      end = end;
      few = omega (arith, known, few, c.loop-tile.invariant.few, c.sum_of.ensures.few);
      each = λ t le. elim (cases_lt t (tile + 1)) [
        | inl h ↦ (let ne : t ≢ tile + 1 = omega arith in get_or-set_other c.loop-tile.cuts (tile + 1) t next 0 ne ∙ c.loop-tile.invariant.each t (omega arith))
        | inr h ↦ (let e : tile + 1 ≡ t = omega arith in
            subst (λ (k : ℕ). get_or (set c.loop-tile.cuts (tile + 1) next) k 0 ≡ put_start c.args.lengths.now comps k) e (get_or-set_same c.loop-tile.cuts (tile + 1) next 0 there ∙ end))
      ];
    }
