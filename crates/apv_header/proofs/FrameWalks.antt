-- The walk over the tiles of a frame whose header was read.
use Rattle.std.proofs.Common.{◌≡◌, ℕ, ◌-◌, ◌*◌, ◌/◌, ◌≤◌, List, length, drop, ap, ap₂, ◌∙◌, Result, length-drop, arith}
use Rattle.apv_base.specs.declared.rules.TileBreak.{TileBreak}
use Rattle.apv_base.specs.model.Bits.{bits}
use Rattle.apv_base.specs.model.Frame.{bytes_left}
use Rattle.apv_base.specs.model.Header.{header_values}
use Rattle.apv_base.specs.model.Table.{walk}
use Rattle.apv_base.specs.model.Tile.{Layout, tiles_table, layout_in, layout_of}
use Rattle.apv_base.proofs.BitsLemmas.{length-bits}
use Rattle.apv_base.proofs.HeaderLemmas.{layout-values}
use Rattle.apv_header.specs.declared.head.HeaderRead.{HeaderRead}
use Rattle.apv_header.specs.Read.{IsReadFrom}

-- the bytes of which all bits are left
pub bytes-left : (body : List ℕ) (len : ℕ) → len ≤ length body → bytes_left body (bits (drop len body)) ≡ drop len body
bytes-left body len le =
    let all : length (bits (drop len body)) ≡ 8 * (length body - len) = length-bits (drop len body) ∙ ap (λ (n : ℕ). 8 * n) (length-drop len body) in
    let place : length body - length (bits (drop len body)) / 8 ≡ len = omega (arith, all) in
    ap (λ (n : ℕ). drop n body) place

-- the walk over the tiles by the values of the header is the walk by what the header says
pub tiles-by-values : (body : List ℕ) (head : HeaderRead) → IsReadFrom body head
    → ◌≡◌ {A = Result (List ℕ × List ℕ) TileBreak} (walk 256 (tiles_table (layout_in (header_values head.header head.sizes.items))) (bytes_left body (bits (drop head.len body))))
    (walk 256 (tiles_table (layout_of head.header head.sizes.items)) (drop head.len body))
tiles-by-values body head is =
    ap₂ (λ (layout : Layout) (xs : List ℕ). walk 256 (tiles_table layout) xs) (layout-values head.header head.sizes.items is.header is.present) (bytes-left body head.len is.inside)
