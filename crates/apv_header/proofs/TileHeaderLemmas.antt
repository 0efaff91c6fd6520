-- Walks over the fields of a tile header.
use Rattle.std.proofs.Common.{◌≡◌, ◌≢◌, ℕ, suc, ◌+◌, ◌-◌, ◌*◌, ◌<◌, ◌≤◌, List, [], ◌∷◌, ◌++◌, length, get_or, take, drop, refl, sym, ap, ◌∙◌, arith, Bool, true, false, not, Some, None, nat_lt, cond, length-drop}
use Rattle.std.proofs.lemmas.Bool.{lt-ltb, le-ltb, eq-eqb, ne_eqb}
use Rattle.std.proofs.lemmas.List.{drop-drop}
use Rattle.std.specs.List.{sum, list_all}
use Rattle.apv_base.specs.declared.rules.Rule.TheVariants.{V14, V20, V21, V22, V24}
use Rattle.apv_base.specs.declared.rules.TileBreak.{TileBreak}
use Rattle.apv_base.specs.model.Bits.{number}
use Rattle.apv_base.specs.model.Quant.{max_qp}
use Rattle.apv_base.specs.model.Table.{Table, no_check, must_be_zero}
use Rattle.apv_base.specs.model.Tile.{tile_header_size, tile_header_values, check_is, check_data, check_qp, at_tile, tile_field, tile_numbers}
use Rattle.apv_base.proofs.WalkLemmas.{Onward, Fails, onward-onward, onward-fails, field-passes, field-fault}
use Rattle.apv_header.specs.Walks.{numbers, broken_at, header_fields}
use Rattle.apv_header.proofs.NumbersLemmas.{number_of_1, numbers-push, sum-push, free-fields, tested-fields, fault-fields}

-- ---- the fields from each on

abbrev from_reserved : ℕ → Table TileBreak → Table TileBreak
from_reserved tile next = tile_field tile 1 (must_be_zero V14) (λ reserved. next)

abbrev from_qps : ℕ → ℕ → ℕ → Table TileBreak → Table TileBreak
from_qps comps depth tile next = tile_numbers tile comps 1 (check_qp depth) (λ qps. from_reserved tile next)

abbrev from_last : ℕ → ℕ → ℕ → ℕ → List ℕ → Table TileBreak → Table TileBreak
from_last comps depth tile size prefix next = tile_field tile 4 (check_data comps size prefix) (λ last. from_qps comps depth tile next)

abbrev from_lengths : ℕ → ℕ → ℕ → ℕ → Table TileBreak → Table TileBreak
from_lengths comps depth tile size next = tile_numbers tile (comps - 1) 4 no_check (λ prefix. from_last comps depth tile size prefix next)

abbrev from_index : ℕ → ℕ → ℕ → ℕ → Table TileBreak → Table TileBreak
from_index comps depth tile size next = tile_field tile 2 (check_is tile) (λ index. from_lengths comps depth tile size next)

-- ---- the bytes at which they begin

-- the bytes of a tile header of comps components, and those from tile_index, tile_data_size, tile_qp and the reserved byte on
pub record Header (comps : ℕ) (xs index lengths qps reserved : List ℕ) : Type 0 where
  pub some : 0 < comps
  pub long : tile_header_size comps ≤ length xs
  pub to_index : index ≡ drop 2 xs
  pub to_lengths : lengths ≡ drop 2 index
  pub to_qps : qps ≡ drop (4 * comps) lengths
  pub to_reserved : reserved ≡ drop comps qps

-- how many bytes there are from each on
record Lengths (comps : ℕ) (xs index lengths qps reserved : List ℕ) : Type 0 where
  at_index : length index + 2 ≡ length xs
  at_lengths : length lengths + 4 ≡ length xs
  at_qps : length qps + (4 * comps + 4) ≡ length xs
  at_reserved : length reserved + (5 * comps + 4) ≡ length xs

lengths_of : (comps : ℕ) (xs index lengths qps reserved : List ℕ) → Header comps xs index lengths qps reserved → Lengths comps xs index lengths qps reserved
lengths_of comps xs index lengths qps reserved h =
    let a : length index + 2 ≡ length xs = omega (arith, ap length h.to_index, length-drop 2 xs, h.long) in
    let b : length lengths + 4 ≡ length xs = omega (arith, ap length h.to_lengths, length-drop 2 index, h.long, a) in
    let c : length qps + (4 * comps + 4) ≡ length xs = omega (arith, ap length h.to_qps, length-drop (4 * comps) lengths, h.long, b) in
    let d : length reserved + (5 * comps + 4) ≡ length xs = omega (arith, ap length h.to_reserved, length-drop comps qps, h.long, c) in
    record { at_index = a; at_lengths = b; at_qps = c; at_reserved = d }

after_header : (comps : ℕ) (xs index lengths qps reserved : List ℕ) → Header comps xs index lengths qps reserved → drop 1 reserved ≡ drop (tile_header_size comps) xs
after_header comps xs index lengths qps reserved h =
    let a : lengths ≡ drop 4 xs = h.to_lengths ∙ ap (drop 2) h.to_index ∙ drop-drop 2 2 xs in
    let b : qps ≡ drop (4 + 4 * comps) xs = h.to_qps ∙ ap (drop (4 * comps)) a ∙ drop-drop (4 * comps) 4 xs in
    let c : reserved ≡ drop (4 + 4 * comps + comps) xs = h.to_reserved ∙ ap (drop comps) b ∙ drop-drop comps (4 + 4 * comps) xs in
    let e : 4 + 4 * comps + comps + 1 ≡ tile_header_size comps = omega arith in
    ap (drop 1) c ∙ drop-drop 1 (4 + 4 * comps + comps) xs ∙ ap (λ (i : ℕ). drop i xs) e

-- the last length after the others
all_lengths : (comps : ℕ) (lengths : List ℕ) → 0 < comps → numbers 4 (comps - 1) lengths ++ number 256 (take 4 (drop (4 * (comps - 1)) lengths)) ∷ [] ≡ numbers 4 comps lengths
all_lengths comps lengths lt =
    let e : suc (comps - 1) ≡ comps = omega arith in
    sym (numbers-push 4 (comps - 1) lengths) ∙ ap (λ (n : ℕ). numbers 4 n lengths) e

all_bytes : (comps : ℕ) (lengths : List ℕ) → 0 < comps → sum (numbers 4 (comps - 1) lengths) + number 256 (take 4 (drop (4 * (comps - 1)) lengths)) ≡ sum (numbers 4 comps lengths)
all_bytes comps lengths lt =
    sym (sum-push (numbers 4 (comps - 1) lengths) (number 256 (take 4 (drop (4 * (comps - 1)) lengths)))) ∙ ap sum (all_lengths comps lengths lt)

-- ---- a walk over the fields in order

module _ (comps depth tile size : ℕ) (next : Table TileBreak) (xs index lengths qps reserved : List ℕ) (h : Header comps xs index lengths qps reserved) where
  -- the lengths but for the last, and the last
  abbrev prefix : List ℕ
  prefix = numbers 4 (comps - 1) lengths

  abbrev last : ℕ
  last = number 256 (take 4 (drop (4 * (comps - 1)) lengths))

  past_size : number 256 (take 2 xs) ≡ tile_header_size comps → Onward 256 (header_fields comps depth tile size next) xs (tile_header_size comps ∷ []) (from_index comps depth tile size next) index
  past_size e =
      field-passes 256 2 (broken_at tile V20) (λ value left. at_tile tile (check_is (tile_header_size comps) value left)) (λ header_size. from_index comps depth tile size next) xs (tile_header_size comps) (length xs - 2) index
      (omega (arith, h.long)) refl e (rw (eq-eqb (tile_header_size comps) (tile_header_size comps) refl) refl) (sym h.to_index)

  past_index : number 256 (take 2 index) ≡ tile → Onward 256 (from_index comps depth tile size next) index (tile ∷ []) (from_lengths comps depth tile size next) lengths
  past_index e =
      let n = lengths_of comps xs index lengths qps reserved h in
      field-passes 256 2 (broken_at tile V20) (λ value left. at_tile tile (check_is tile value left)) (λ number. from_lengths comps depth tile size next) index tile (length index - 2) lengths
      (omega (arith, h.long, n.at_index)) refl e (rw (eq-eqb tile tile refl) refl) (sym h.to_lengths)

  past_prefix : Onward 256 (from_lengths comps depth tile size next) lengths prefix (from_last comps depth tile size prefix next) (drop (4 * (comps - 1)) lengths)
  past_prefix =
      let n = lengths_of comps xs index lengths qps reserved h in
      free-fields (comps - 1) 4 (broken_at tile V20) (λ value left. at_tile tile (no_check value left)) (λ prefix. from_last comps depth tile size prefix next) lengths
      (omega (arith, h.long, n.at_lengths, h.some)) (λ value left. refl)

  last_fits : 4 ≤ length (drop (4 * (comps - 1)) lengths)
  last_fits =
      let n = lengths_of comps xs index lengths qps reserved h in
      omega (arith, length-drop (4 * (comps - 1)) lengths, h.long, n.at_lengths, h.some)

  past_last : sum (numbers 4 comps lengths) ≤ size - tile_header_size comps → Onward 256 (from_last comps depth tile size prefix next) (drop (4 * (comps - 1)) lengths) (last ∷ []) (from_qps comps depth tile next) qps
  past_last le =
      let few : sum prefix + last ≤ size - tile_header_size comps = rw (all_bytes comps lengths h.some) le in
      let e : 4 * (comps - 1) + 4 ≡ 4 * comps = omega (arith, h.some) in
      field-passes 256 4 (broken_at tile V20) (λ value left. at_tile tile (check_data comps size prefix value left)) (λ last. from_qps comps depth tile next) (drop (4 * (comps - 1)) lengths) last (length (drop (4 * (comps - 1)) lengths) - 4) qps
      last_fits refl refl (rw (le-ltb (size - tile_header_size comps) (sum prefix + last) few) refl) (drop-drop 4 (4 * (comps - 1)) lengths ∙ ap (λ (i : ℕ). drop i lengths) e ∙ sym h.to_qps)

  -- the two numbers that must be before
  pub record Numbered : Type 0 where
    pub size_is : number 256 (take 2 xs) ≡ tile_header_size comps
    pub index_is : number 256 (take 2 index) ≡ tile

  to_lengths : Numbered → Onward 256 (header_fields comps depth tile size next) xs (tile_header_size comps ∷ tile ∷ []) (from_lengths comps depth tile size next) lengths
  to_lengths e =
      onward-onward 256 (header_fields comps depth tile size next) xs (tile_header_size comps ∷ []) (from_index comps depth tile size next) index (tile ∷ []) (from_lengths comps depth tile size next) lengths
      (past_size e.size_is) (past_index e.index_is)

  to_last : Numbered → Onward 256 (header_fields comps depth tile size next) xs (tile_header_size comps ∷ tile ∷ prefix) (from_last comps depth tile size prefix next) (drop (4 * (comps - 1)) lengths)
  to_last e =
      onward-onward 256 (header_fields comps depth tile size next) xs (tile_header_size comps ∷ tile ∷ []) (from_lengths comps depth tile size next) lengths prefix (from_last comps depth tile size prefix next) (drop (4 * (comps - 1)) lengths)
      (to_lengths e) past_prefix

  to_qps : Numbered → sum (numbers 4 comps lengths) ≤ size - tile_header_size comps
      → Onward 256 (header_fields comps depth tile size next) xs (tile_header_size comps ∷ tile ∷ numbers 4 comps lengths) (from_qps comps depth tile next) qps
  to_qps e le =
      rw (← all_lengths comps lengths h.some)
      (onward-onward 256 (header_fields comps depth tile size next) xs (tile_header_size comps ∷ tile ∷ prefix) (from_last comps depth tile size prefix next) (drop (4 * (comps - 1)) lengths) (last ∷ []) (from_qps comps depth tile next) qps
      (to_last e) (past_last le))

  -- no QP is above the maximum
  abbrev permitted : ℕ → Bool
  permitted qp = not (nat_lt (max_qp depth) qp)

  checked : (above : Bool) → not above ≡ true → at_tile tile (cond above (Some V22) None) ≡ None
  checked false e = refl
  checked true e = absurd (let no : ⊥ = cc in no)

  faulted : (above : Bool) → not above ≡ false → at_tile tile (cond above (Some V22) None) ≡ Some (broken_at tile V22)
  faulted true e = refl
  faulted false e = absurd (let no : ⊥ = cc in no)

  qps_fit : comps ≤ length qps
  qps_fit = let n = lengths_of comps xs index lengths qps reserved h in omega (arith, h.long, n.at_qps)

  past_qps : list_all permitted (take comps qps) ≡ true → Onward 256 (from_qps comps depth tile next) qps (take comps qps) (from_reserved tile next) reserved
  past_qps all =
      rw (h.to_reserved)
      (tested-fields comps (broken_at tile V20) (λ value left. at_tile tile (check_qp depth value left)) (λ qps. from_reserved tile next) qps permitted qps_fit all
      (λ value left t. checked (nat_lt (max_qp depth) value) t))

  to_reserved : Numbered → sum (numbers 4 comps lengths) ≤ size - tile_header_size comps → list_all permitted (take comps qps) ≡ true
      → Onward 256 (header_fields comps depth tile size next) xs (tile_header_size comps ∷ tile ∷ numbers 4 comps lengths ++ take comps qps) (from_reserved tile next) reserved
  to_reserved e le all =
      onward-onward 256 (header_fields comps depth tile size next) xs (tile_header_size comps ∷ tile ∷ numbers 4 comps lengths) (from_qps comps depth tile next) qps (take comps qps) (from_reserved tile next) reserved
      (to_qps e le) (past_qps all)

  reserved_fits : 1 ≤ length reserved
  reserved_fits = let n = lengths_of comps xs index lengths qps reserved h in omega (arith, h.long, n.at_reserved)

  past_reserved : get_or reserved 0 0 ≡ 0 → Onward 256 (from_reserved tile next) reserved (0 ∷ []) next (drop (tile_header_size comps) xs)
  past_reserved z =
      field-passes 256 1 (broken_at tile V20) (λ value left. at_tile tile (must_be_zero V14 value left)) (λ reserved. next) reserved 0 (length reserved - 1) (drop (tile_header_size comps) xs)
      reserved_fits refl (number_of_1 reserved reserved_fits ∙ z) refl (after_header comps xs index lengths qps reserved h)

  -- a header that breaks no rule
  pub header-good : Numbered → sum (numbers 4 comps lengths) ≤ size - tile_header_size comps → list_all permitted (take comps qps) ≡ true → get_or reserved 0 0 ≡ 0
      → Onward 256 (header_fields comps depth tile size next) xs (tile_header_values comps tile (numbers 4 comps lengths) (take comps qps)) next (drop (tile_header_size comps) xs)
  header-good e le all z =
      onward-onward 256 (header_fields comps depth tile size next) xs (tile_header_size comps ∷ tile ∷ numbers 4 comps lengths ++ take comps qps) (from_reserved tile next) reserved (0 ∷ []) next (drop (tile_header_size comps) xs)
      (to_reserved e le all) (past_reserved z)

  -- ---- the rules that a header breaks

  pub breaks-size : number 256 (take 2 xs) ≢ tile_header_size comps → Fails 256 (header_fields comps depth tile size next) xs (broken_at tile V21)
  breaks-size ne =
      field-fault 256 2 (broken_at tile V20) (λ value left. at_tile tile (check_is (tile_header_size comps) value left)) (λ header_size. from_index comps depth tile size next) xs (number 256 (take 2 xs)) (length xs - 2) (broken_at tile V21)
      (omega (arith, h.long)) refl refl (rw (ne_eqb (number 256 (take 2 xs)) (tile_header_size comps) ne) refl)

  pub breaks-index : number 256 (take 2 xs) ≡ tile_header_size comps → number 256 (take 2 index) ≢ tile → Fails 256 (header_fields comps depth tile size next) xs (broken_at tile V21)
  breaks-index e ne =
      let n = lengths_of comps xs index lengths qps reserved h in
      onward-fails 256 (header_fields comps depth tile size next) xs (tile_header_size comps ∷ []) (from_index comps depth tile size next) index (broken_at tile V21) (past_size e)
      (field-fault 256 2 (broken_at tile V20) (λ value left. at_tile tile (check_is tile value left)) (λ number. from_lengths comps depth tile size next) index (number 256 (take 2 index)) (length index - 2) (broken_at tile V21)
      (omega (arith, h.long, n.at_index)) refl refl (rw (ne_eqb (number 256 (take 2 index)) tile ne) refl))

  pub breaks-data : Numbered → size - tile_header_size comps < sum (numbers 4 comps lengths) → Fails 256 (header_fields comps depth tile size next) xs (broken_at tile V24)
  breaks-data e lt =
      let many : size - tile_header_size comps < sum prefix + last = rw (all_bytes comps lengths h.some) lt in
      onward-fails 256 (header_fields comps depth tile size next) xs (tile_header_size comps ∷ tile ∷ prefix) (from_last comps depth tile size prefix next) (drop (4 * (comps - 1)) lengths) (broken_at tile V24) (to_last e)
      (field-fault 256 4 (broken_at tile V20) (λ value left. at_tile tile (check_data comps size prefix value left)) (λ last. from_qps comps depth tile next) (drop (4 * (comps - 1)) lengths) last (length (drop (4 * (comps - 1)) lengths) - 4) (broken_at tile V24)
      last_fits refl refl (rw (lt-ltb (size - tile_header_size comps) (sum prefix + last) many) refl))

  pub breaks-qps : Numbered → sum (numbers 4 comps lengths) ≤ size - tile_header_size comps → list_all permitted (take comps qps) ≡ false → Fails 256 (header_fields comps depth tile size next) xs (broken_at tile V22)
  breaks-qps e le some =
      onward-fails 256 (header_fields comps depth tile size next) xs (tile_header_size comps ∷ tile ∷ numbers 4 comps lengths) (from_qps comps depth tile next) qps (broken_at tile V22) (to_qps e le)
      (fault-fields comps (broken_at tile V20) (λ value left. at_tile tile (check_qp depth value left)) (λ qps. from_reserved tile next) qps permitted (broken_at tile V22) qps_fit some
      (λ value left t. checked (nat_lt (max_qp depth) value) t) (λ value left f. faulted (nat_lt (max_qp depth) value) f))

  pub breaks-reserved : Numbered → sum (numbers 4 comps lengths) ≤ size - tile_header_size comps → list_all permitted (take comps qps) ≡ true → get_or reserved 0 0 ≢ 0
      → Fails 256 (header_fields comps depth tile size next) xs (broken_at tile V14)
  breaks-reserved e le all ne =
      onward-fails 256 (header_fields comps depth tile size next) xs (tile_header_size comps ∷ tile ∷ numbers 4 comps lengths ++ take comps qps) (from_reserved tile next) reserved (broken_at tile V14) (to_reserved e le all)
      (field-fault 256 1 (broken_at tile V20) (λ value left. at_tile tile (must_be_zero V14 value left)) (λ reserved. next) reserved (get_or reserved 0 0) (length reserved - 1) (broken_at tile V14)
      reserved_fits refl (number_of_1 reserved reserved_fits) (rw (ne_eqb (get_or reserved 0 0) 0 ne) refl))
