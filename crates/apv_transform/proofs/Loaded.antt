-- A row of eight samples, loaded as a vector.
use Rattle.std.proofs.Common.{◌≡◌, ℕ, ◌+◌, ◌-◌, ◌*◌, ◌<◌, List, length, get_or, ap, ◌∙◌, arith}
use Rattle.std.specs.Prelude.{pos, map}
use Rattle.std.specs.Int.RustNames.{FitsSigned}
use Rattle.std.proofs.lemmas.Int.{to_z_pos}
use Rattle.std.proofs.lemmas.List.{get_or-map, length-map}
use Rattle.std.proofs.lemmas.Simd.{get_or-chunk, length-chunk, Each1-from_get_or}
use borrow.Rule.Slice.PartMut.{mid_of}
use lib.Lanes.{chunk, Each1}
use mir.Syntax.{w16}
use Rattle.apv_transform.proofs.LaneBits.{Holds}

module _ (xs : List ℕ) (row : ℕ) (long : length xs ≡ 64) (small : row < 8) where
  abbrev Loaded : List ℕ
  Loaded = chunk 0 8 (mid_of (8 * row) (8 * row + 8 - 8 * row) xs)

  loaded_long : length Loaded ≡ 8
  loaded_long =
      let part : length (mid_of (8 * row) (8 * row + 8 - 8 * row) xs) ≡ 8 * row + 8 - 8 * row = length-chunk (8 * row) (8 * row + 8 - 8 * row) xs (omega arith) in
      length-chunk 0 8 (mid_of (8 * row) (8 * row + 8 - 8 * row) xs) (omega (arith, part))

  loaded_at : (x : ℕ) → x < 8 → get_or Loaded x 0 ≡ get_or xs (8 * row + x) 0
  loaded_at x h =
      let none : 0 + x ≡ x = omega arith in
      get_or-chunk 0 8 (mid_of (8 * row) (8 * row + 8 - 8 * row) xs) x 0 h
      ∙ ap (λ x. get_or (mid_of (8 * row) (8 * row + 8 - 8 * row) xs) x 0) none
      ∙ get_or-chunk (8 * row) (8 * row + 8 - 8 * row) xs x 0 (omega arith)

  module _ (below : (place : ℕ) → place < 64 → get_or xs place 0 < 4096) where
    below_4096 : (x : ℕ) → x < 8 → get_or Loaded x 0 < 4096
    below_4096 x h = rw (loaded_at x h) (below (8 * row + x) (omega arith))

    pub loaded_asks : Each1 (λ x. FitsSigned w16 (pos x)) Loaded
    loaded_asks =
        Each1-from_get_or (λ x. FitsSigned w16 (pos x)) Loaded 0 (λ i h. let b = below_4096 i (omega (arith, loaded_long)) in record { sfits = omega arith })

    pub holds_loaded : Holds w16 8 4095 (map (λ x. x) Loaded) (λ x. pos (get_or xs (8 * row + x) 0))
    holds_loaded =
        let at : (x : ℕ) → x < 8 → get_or (map (λ x. x) Loaded) x 0 ≡ get_or Loaded x 0 = λ x h. get_or-map (λ x. x) Loaded x 0 0 (omega (arith, loaded_long)) in
        record {
          long = length-map Loaded (λ x. x) ∙ loaded_long;
          small = λ x h. rw (at x h) (let b = below_4096 x h in omega arith);
          value = λ x h. rw (at x h) (let b = below_4096 x h in to_z_pos w16 (get_or Loaded x 0) (omega arith) ∙ ap pos (loaded_at x h));
          within = λ x h. let b = below (8 * row + x) (omega arith) in record { size = omega arith };
        }
