-- Content light levels: metadata_cll() of the RFC.
use Rattle.std.specs.Prelude.{◌≡◌, ℕ, List, ◌++◌, length}
use Rattle.apv_base.specs.model.Bits.{be}
use Rattle.apv_meta.specs.declared.light_level.Cll.{Cll}

-- how content light levels are spelled: the maximum of the content, then that of the frames' averages
abbrev pub cll_bytes : Cll → List ℕ
cll_bytes value = be 2 value.cll ++ be 2 value.fall

-- a payload of that type with these bytes is those content light levels
pub record IsCll (kind : ℕ) (bytes : List ℕ) (value : Cll) : Type 0 where
  pub right_kind : kind ≡ 6
  pub size : length bytes ≡ 4
  pub spelled : bytes ≡ cll_bytes value
