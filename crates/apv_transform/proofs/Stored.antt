-- Rows of eight written into a block of 64.
use Rattle.std.proofs.Common.{◌≡◌, ℕ, ◌+◌, ◌-◌, ◌*◌, ◌<◌, ◌≤◌, List, ◌++◌, length, get_or, take, drop, sym, refl, ap, ◌∙◌, arith, length-take-le, length-drop}
use Rattle.std.proofs.lemmas.List.{get_or_append_left, get_or-append_right, get_or-take}
use Rattle.std.proofs.lemmas.Bool.{cases_lt}
use mathlib.Core.Logic.{inl, inr}
use Rattle.std.proofs.lemmas.Simd.{put_chunk_whole}
use borrow.Rule.Slice.PartMut.{mid_of, put_mid, post_of}
use lib.Lanes.{put_chunk}

module _ {X : Type 0} (d : X) (row : ℕ) (xs ys : List X) (long : length xs ≡ 64) (small : row < 8) (eight : length ys ≡ 8) where
  abbrev Put : List X
  Put = put_mid (8 * row) (8 * row + 8 - 8 * row) xs (put_chunk 0 (mid_of (8 * row) (8 * row + 8 - 8 * row) xs) ys)

  prefix : length (take (8 * row) xs) ≡ 8 * row
  prefix = length-take-le (8 * row) xs (omega arith)

  whole : put_chunk 0 (mid_of (8 * row) (8 * row + 8 - 8 * row) xs) ys ≡ ys
  whole =
      let rest : 8 * row + 8 - 8 * row ≤ length (drop (8 * row) xs) = omega (arith, length-drop (8 * row) xs) in
      put_chunk_whole (mid_of (8 * row) (8 * row + 8 - 8 * row) xs) ys (omega (arith, length-take-le (8 * row + 8 - 8 * row) (drop (8 * row) xs) rest))

  pub row_written : (x : ℕ) → x < 8 → get_or Put (8 * row + x) d ≡ get_or ys x d
  row_written x h =
      let after : 8 * row + x - 8 * row ≡ x = omega arith in
      ap (λ zs. get_or (take (8 * row) xs ++ (zs ++ post_of (8 * row) (8 * row + 8 - 8 * row) xs)) (8 * row + x) d) whole
      ∙ get_or-append_right (take (8 * row) xs) (ys ++ post_of (8 * row) (8 * row + 8 - 8 * row) xs) (8 * row) (8 * row + x) d prefix (omega arith)
      ∙ ap (λ i. get_or (ys ++ post_of (8 * row) (8 * row + 8 - 8 * row) xs) i d) after
      ∙ get_or_append_left ys (post_of (8 * row) (8 * row + 8 - 8 * row) xs) d x (omega arith)

  pub row_kept : (place : ℕ) → place < 8 * row → get_or Put place d ≡ get_or xs place d
  row_kept place h =
      get_or_append_left (take (8 * row) xs) _ d place (omega (arith, prefix)) ∙ get_or-take (8 * row) xs place d h

-- the first k rows of a block are written
abbrev pub Filled : {X : Type 0} → X → (ℕ → ℕ → X) → ℕ → List X → Type 0
Filled d F k block = (y x : ℕ) → y < k → x < 8 → get_or block (8 * y + x) d ≡ F y x

-- the next row written
pub filled_more : {X : Type 0} (d : X) (F : ℕ → ℕ → X) (k : ℕ) (before after : List X) → Filled d F k before
    → ((place : ℕ) → place < 8 * k → get_or after place d ≡ get_or before place d)
    → ((x : ℕ) → x < 8 → get_or after (8 * k + x) d ≡ F k x) → Filled d F (k + 1) after
filled_more d F k before after filled kept written y x hy hx =
    elim (cases_lt y k) [
      | inl near ↦ kept (8 * y + x) (omega arith) ∙ filled y x near hx
      | inr far ↦
          let same : k ≡ y = omega arith in
          ap (λ y. get_or after (8 * y + x) d) (sym same) ∙ written x hx ∙ ap (λ y. F y x) same
    ]

pub filled_first : {X : Type 0} (d : X) (F : ℕ → ℕ → X) (block : List X) → ((x : ℕ) → x < 8 → get_or block (8 * 0 + x) d ≡ F 0 x) → Filled d F 1 block
filled_first d F block written = filled_more d F 0 block block (λ y x hy hx. absurd (omega arith)) (λ place h. refl) written
