-- The profiles, each with its chroma formats and bit depths.
use Rattle.std.specs.Prelude.{ℕ, Bool, ◌&&◌, ◌||◌, Option, Some, None, List, [], ◌∷◌, nat_le, if◌then◌else◌, ◌==◌}
use Rattle.std.specs.List.{list_any}
use Rattle.apv_base.specs.declared.format.Chroma.{Chroma}
use Rattle.apv_base.specs.declared.format.Chroma.TheVariants.{C400, C422, C444, C4444}
use Rattle.apv_base.specs.model.Format.{idc_of}

-- a profile_idc, the chroma formats that it is written with, and its maximum bit depth; the least is 10
pub record Profile : Type 0 where
  pub idc : ℕ
  pub chroma : List Chroma
  pub depth : ℕ

-- all of them
abbrev pub profiles : List Profile
profiles =
    record { idc = 33; chroma = C422 ∷ []; depth = 10 }
    ∷ record { idc = 44; chroma = C422 ∷ []; depth = 12 }
    ∷ record { idc = 55; chroma = C422 ∷ C444 ∷ []; depth = 10 }
    ∷ record { idc = 66; chroma = C422 ∷ C444 ∷ []; depth = 12 }
    ∷ record { idc = 77; chroma = C422 ∷ C444 ∷ C4444 ∷ []; depth = 10 }
    ∷ record { idc = 88; chroma = C422 ∷ C444 ∷ C4444 ∷ []; depth = 12 }
    ∷ record { idc = 99; chroma = C400 ∷ []; depth = 10 }
    ∷ []

-- the chroma formats are one
abbrev pub same_chroma : Chroma → Chroma → Bool
same_chroma a b = idc_of a == idc_of b

-- the depth is one of the profile's
abbrev pub has_depth : Profile → ℕ → Bool
has_depth p depth = nat_le 10 depth && nat_le depth p.depth

-- there is such a profile_idc
abbrev pub is_known : ℕ → Bool
is_known profile = list_any (λ p. p.idc == profile) profiles

-- a frame of the profile may be written with this chroma format and bit depth
abbrev pub is_writable : ℕ → Chroma → ℕ → Bool
is_writable profile chroma depth =
    list_any (λ p. p.idc == profile && has_depth p depth && list_any (same_chroma chroma) p.chroma) profiles

-- what is written, and 4:0:0 at each depth of the profile
abbrev pub is_readable : ℕ → Chroma → ℕ → Bool
is_readable profile chroma depth = is_writable profile chroma depth || list_any
    (λ p. p.idc == profile && has_depth p depth && same_chroma chroma C400) profiles

-- the first profile in the order of the list that is written with the chroma format and the depth
abbrev pub first_writable : List Profile → Chroma → ℕ → Option ℕ
first_writable [] chroma depth = None
first_writable (p ∷ ps) chroma depth =
    if is_writable p.idc chroma depth then Some p.idc else first_writable ps chroma depth

-- the profile that is written where none is asked for
abbrev pub default_of : Chroma → ℕ → Option ℕ
default_of chroma depth = first_writable profiles chroma depth
