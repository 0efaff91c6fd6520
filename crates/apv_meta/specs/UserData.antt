-- User data: metadata_itu_t_t35() and metadata_user_defined() of the RFC.
use Rattle.std.specs.Prelude.{◌≡◌, ◌≢◌, ℕ, List, [], ◌∷◌, ◌++◌, length, Option, Some, None}
use Rattle.apv_meta.specs.declared.user_data.T35.{T35}
use Rattle.apv_meta.specs.declared.user_data.User.{User}

-- the bytes of an extension, which may be missing
abbrev pub extension_bytes : Option ℕ → List ℕ
extension_bytes None = []
extension_bytes (Some extension) = extension ∷ []

-- the extension is there exactly where the country is 255
abbrev pub IsExtended : ℕ → Option ℕ → Type 0
IsExtended country None = country ≢ 255
IsExtended country (Some extension) = country ≡ 255

-- a payload of that type with these bytes is that data registered by ITU-T T.35
pub record IsT35 (kind : ℕ) (bytes : List ℕ) (value : T35) : Type 0 where
  pub right_kind : kind ≡ 4
  pub extended : IsExtended value.country value.extension
  pub spelled : bytes ≡ value.country ∷ (extension_bytes value.extension ++ value.rest.now)

-- the bytes end before the country or before its extension
pub data IsNoT35 (bytes : List ℕ) : Type 0 where
  no_country : bytes ≡ [] → IsNoT35 bytes
  no_extension : bytes ≡ 255 ∷ [] → IsNoT35 bytes

-- a payload of that type with these bytes is that data under a UUID
pub record IsUser (kind : ℕ) (bytes : List ℕ) (value : User) : Type 0 where
  pub right_kind : kind ≡ 170
  pub size : length value.uuid ≡ 16
  pub spelled : bytes ≡ value.uuid ++ value.rest.now
