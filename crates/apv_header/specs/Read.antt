-- What was read from the start of a frame's body.
use Rattle.std.specs.Prelude.{◌≡◌, ◌≤◌, ℕ, List, [], drop, length, true, false, Result, Ok, Err}
use Rattle.apv_base.specs.declared.rules.HeadEnd.{HeadEnd}
use Rattle.apv_base.specs.model.Bits.{bits}
use Rattle.apv_base.specs.model.Grid.{tile_count}
use Rattle.apv_base.specs.model.Header.{header_table, header_values, grid_of, IsSoundHeader}
use Rattle.apv_base.specs.model.Table.{walk}
use Rattle.apv_header.specs.declared.head.HeaderRead.{HeaderRead}

-- the walk over the fields of a header at the start of a body gives these values, and the header ends at a whole byte
pub record IsReadFrom (body : List ℕ) (head : HeaderRead) : Type 0 where
  pub walked : ◌≡◌ {A = Result (List ℕ × List ℕ) HeadEnd} (walk 2 header_table (bits body))
      (Ok (header_values head.header head.sizes.items, bits (drop head.len body)))
  pub inside : head.len ≤ length body
  pub header : IsSoundHeader head.header
  pub grid : head.grid ≡ grid_of head.header
  pub present : head.header.sizes_present ≡ true → length head.sizes.items ≡ tile_count (grid_of head.header)
  pub absent : head.header.sizes_present ≡ false → head.sizes.items ≡ []

-- the walk over the fields of a header at the start of a body ends at this fault
abbrev pub FrameHeaderBreaks : List ℕ → HeadEnd → Type 0
FrameHeaderBreaks body end =
    ◌≡◌ {A = Result (List ℕ × List ℕ) HeadEnd} (walk 2 header_table (bits body)) (Err end)
