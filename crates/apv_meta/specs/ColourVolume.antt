-- The colour volume of the mastering display: metadata_mdcv() of the RFC.
use Rattle.std.specs.Prelude.{◌≡◌, ℕ, List, ◌++◌, length, slice_index_or}
use Rattle.apv_base.specs.model.Bits.{be}
use Rattle.apv_meta.specs.Point.{point_bytes}
use Rattle.apv_meta.specs.declared.colour_volume.Mdcv.{Mdcv}

-- how the primary of that number is spelled
abbrev pub primary_bytes : Mdcv → ℕ → List ℕ
primary_bytes value number = point_bytes (slice_index_or value.primaries number (0, 0))

-- how the maximum and the minimum luminance are spelled
abbrev pub luminance_bytes : Mdcv → List ℕ
luminance_bytes value = be 4 value.greatest ++ be 4 value.least

-- how a colour volume is spelled: the three primaries, the white point and the luminances
abbrev pub mdcv_bytes : Mdcv → List ℕ
mdcv_bytes value =
    primary_bytes value 0
    ++ (primary_bytes value 1 ++ (primary_bytes value 2 ++ (point_bytes value.white ++ luminance_bytes value)))

-- a payload of that type with these bytes is that colour volume
pub record IsMdcv (kind : ℕ) (bytes : List ℕ) (value : Mdcv) : Type 0 where
  pub right_kind : kind ≡ 5
  pub size : length bytes ≡ 24
  pub spelled : bytes ≡ mdcv_bytes value
