use Rattle.std.proofs.Common.{◌≡◌, ℕ, ◌+◌, ◌*◌, ◌<◌, List, [], ◌∷◌, ◌++◌, length, get_or, take, sym, ap, ◌∙◌, arith}
use Rattle.std.proofs.lemmas.List.{take_more, append-nil}
use Rattle.std.proofs.lemmas.Grind.{flat_map-append}
use Rattle.std.proofs.lemmas.Slice.{take-put_mid}
use Rattle.std.specs.List.{flat_map}
use borrow.Rule.Slice.PartMut.{put_mid}
use Rattle.apv_base.specs.model.Bits.{be}
use Rattle.apv_header.proofs.TileWriteLemmas.{bytes_4, length-be}
use Rattle.apv_header.proofs.tile_write.put_lengths.Goals as goal

more-lengths : (lengths out written : List ℕ) (comp n : ℕ) → comp < length lengths → length out ≡ 4 * length lengths → written ≡ be 4 (get_or lengths comp 0) → take (4 * comp) out ≡ flat_map (be 4) (take comp lengths)
    → take (4 * (comp + 1)) (put_mid (4 * comp) n out written) ≡ flat_map (be 4) (take (comp + 1) lengths)
more-lengths lengths out written comp n lt room w prefix =
    let value : ℕ = get_or lengths comp 0 in
    let end : 4 * (comp + 1) ≡ 4 * comp + length written = omega (arith, ap length w, length-be 4 (get_or lengths comp 0)) in
    take-put_mid (4 * comp) n out written (4 * (comp + 1)) end (omega arith)
    ∙ ap (λ (ys : List ℕ). ys ++ written) prefix
    ∙ ap (λ (ys : List ℕ). flat_map (be 4) (take comp lengths) ++ ys) (w ∙ sym (append-nil (be 4 value)))
    ∙ sym (ap (flat_map (be 4)) (take_more lengths comp 0 lt) ∙ flat_map-append (be 4) (take comp lengths) (value ∷ []))

pub loop-comp-preserved : goal.loop-comp-preserved
loop-comp-preserved c =
    more-lengths c.args.lengths.now c.loop-comp.out c.copy_from_slice.new.self c.loop-comp.comp _ c.loop-comp-test.true (omega arith)
    (c.copy_from_slice.ensures.after ∙ c.to_be_bytes.ensures ∙ bytes_4 (get_or c.args.lengths.now c.loop-comp.comp 0)) c.loop-comp.invariant
