use Rattle.std.proofs.Common.{◌≡◌, ℕ, ◌<◌, ◌≤◌, sym, ap, ◌∙◌, subst, arith}
use Rattle.apv_base.specs.model.Header.{grid_of}
use Rattle.apv_base.proofs.CodeWordLemmas.{pow_le}
use Rattle.apv_grid.specs.Buffer.{Buffer, sample_place}
use Rattle.apv_workers.specs.Track.{TrackState}
use Rattle.apv_search.proofs.tests.track_of.Goals as goal

pub returns : goal.returns
returns c =
    let track : TrackState = c.in_ok-track.track in
    let e = c.in_ok-track.ensures in
    let low : 10 ≤ track.header.info.depth = subst (λ (t : TrackState). 10 ≤ t.header.info.depth) (sym e) c.in-Ok.ensures.ok.header.info.format.low in (
      c.fill_frame.ensures.grid ∙ ap (λ (f : Buffer ℕ). f.grid) c.frame_mut.ensures.frame ∙ ap (λ (t : TrackState). t.frame.grid) e ∙ sym (ap (λ (t : TrackState). grid_of t.header) e),
      (λ comp x y filled. omega (arith, c.fill_frame.ensures.below (sample_place (grid_of track.header) comp x y), pow_le 10 track.header.info.depth low)),
    )
