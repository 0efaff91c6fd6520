-- Access unit information: au_info() of the RFC, of which the length and the reserved bits alone are judged.
use Rattle.std.specs.Prelude.{◌≡◌, ℕ, zero, suc, ◌<◌, true, false, List, [], ◌∷◌, ◌++◌, length, Result, Ok, Err}
use Rattle.std.specs.List.{flat_map}
use Rattle.apv_base.specs.declared.format.FrameInfo.{FrameInfo}
use Rattle.apv_base.specs.declared.rules.Rule.TheVariants.{V23}
use Rattle.apv_base.specs.declared.rules.HeadEnd.{HeadEnd}
use Rattle.apv_base.specs.declared.rules.HeadEnd.TheVariants.{Rule as breaks}
use Rattle.apv_base.specs.model.Bits.{be, bits}
use Rattle.apv_base.specs.model.Component.{bytes_of_bits}
use Rattle.apv_base.specs.model.Frame.{bytes_left}
use Rattle.apv_base.specs.model.Pbu.{is_filler}
use Rattle.apv_base.specs.model.Header.{free, reserved, info_fields, info_table, info_values, IsSoundInfo}
use Rattle.apv_base.specs.model.Table.{Table, done, spell, walk}

-- a frame of the access unit: pbu_type, group_id and its frame_info()
abbrev pub entry_fields : Table HeadEnd → Table HeadEnd
entry_fields next = free 8 (λ kind. free 16 (λ group. reserved 8 (info_fields false (λ format. next))))

-- count frames, one after another
unfoldable pub entries_fields : ℕ → Table HeadEnd → Table HeadEnd
entries_fields zero next = next
entries_fields (suc count) next = entry_fields (entries_fields count next)

-- num_frames, the frames and a reserved byte
abbrev pub au_info_table : Table HeadEnd
au_info_table = free 16 (λ count. entries_fields count (reserved 8 done))

-- the values of the fields at the start of the body, and the bits after them
abbrev pub WalksAuInfo : List ℕ → List ℕ → List ℕ → Type 0
WalksAuInfo body values left =
    ◌≡◌ {A = Result (List ℕ × List ℕ) HeadEnd} (walk 2 au_info_table (bits body)) (Ok (values, left))

-- the body breaks no rule, and these are its values
pub record IsAuInfo (body values : List ℕ) : Type 0 where
  pub left : List ℕ
  pub walked : WalksAuInfo body values left
  pub filler : is_filler (bytes_left body left) ≡ true

-- the first rule that the body breaks
pub data AuInfoBreaks (body : List ℕ) : HeadEnd → Type 0 where
  in_fields : (end : HeadEnd) → ◌≡◌ {A = Result (List ℕ × List ℕ) HeadEnd} (walk 2 au_info_table (bits body)) (Err end)
      → AuInfoBreaks body end
  in_filler : (values left : List ℕ) → WalksAuInfo body values left → is_filler (bytes_left body left) ≡ false
      → AuInfoBreaks body (breaks V23)

-- ---- what is written

-- a frame as access unit information lists it: pbu_type, group_id and frame_info()
pub record ListedFrame : Type 0 where
  pub kind : ℕ
  pub group : ℕ
  pub info : FrameInfo

-- its numbers have one byte and two bytes, and its frame_info() breaks no rule
pub record IsListable (frame : ListedFrame) : Type 0 where
  pub kind : frame.kind < 256
  pub group : frame.group < 65536
  pub info : IsSoundInfo frame.info

-- the values of its fields
abbrev pub listed_values : ListedFrame → List ℕ
listed_values frame = frame.kind ∷ frame.group ∷ 0 ∷ info_values frame.info

-- the body of access unit information that lists these frames, without filler: num_frames, the frames and a reserved byte
abbrev pub au_info_body : List ListedFrame → List ℕ
au_info_body frames =
    bytes_of_bits (spell 2 au_info_table (length frames ∷ flat_map listed_values frames ++ 0 ∷ []))

-- the 12 bytes of frame_info()
abbrev pub info_bytes : FrameInfo → List ℕ
info_bytes info = bytes_of_bits (spell 2 info_table (info_values info))

-- its 16 bytes
abbrev pub listed_bytes : ListedFrame → List ℕ
listed_bytes frame = frame.kind ∷ (be 2 frame.group ++ 0 ∷ info_bytes frame.info)
