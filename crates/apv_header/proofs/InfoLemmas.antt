-- The checks of frame_info().
use Rattle.std.specs.Prelude.{IfOk}
use Rattle.std.proofs.Common.{◌≡◌, ℕ, List, Result, Ok, Err, subst, ◌+◌, ◌-◌, ◌<◌, ◌≤◌, refl, ap, ap₂, ◌∙◌, Option, Some, None, true, false, nat_eq, cond, ◌⊎◌, inl, inr, arith}
use Rattle.std.proofs.lemmas.Bool.{eqb-true, le-ltb, lt-ltb}
use Rattle.apv_base.specs.declared.rules.HeadEnd.{HeadEnd}
use Rattle.apv_base.specs.declared.rules.HeadEnd.TheVariants.{Rule as breaks}
use Rattle.apv_base.specs.declared.rules.Rule.TheVariants.{V9, V10, V12, V13}
use Rattle.apv_base.specs.declared.format.Chroma.{Chroma}
use Rattle.apv_base.specs.declared.format.Chroma.TheVariants.{C400, C422, C444, C4444}
use Rattle.apv_base.specs.model.Format.{idc_of, chroma_of, or_grey}
use Rattle.apv_base.specs.declared.format.Format.{Format}
use Rattle.apv_base.specs.declared.format.FrameInfo.{FrameInfo}
use Rattle.apv_base.specs.model.Header.{check_profile, check_size, check_chroma, check_depth, info_fields, info_table, info_values, format_of}
use Rattle.apv_base.specs.model.Profile.{is_known, is_readable}
use Rattle.apv_base.specs.model.Table.{Table, done, walk, spell}
use Rattle.apv_base.proofs.TableLemmas.{chosen}
use Rattle.apv_bits.specs.Reader.{Unread, Takes}
use Rattle.apv_header.specs.Fields.{WalksBits}
use Rattle.apv_header.specs.Info.{HasInfo, HasFrameInfo, frame_info_word}
use Rattle.apv_header.proofs.FieldLemmas.{walks-gives, walks-taken}

pub profile-passes : (profile : ℕ) → is_known profile ≡ true → (left : ℕ) → check_profile profile left ≡ None
profile-passes profile e left = rw e refl

pub profile-fault : (profile : ℕ) → is_known profile ≡ false → (left : ℕ) → check_profile profile left ≡ Some (breaks V9)
profile-fault profile e left = rw e refl

-- ---- the chroma format

pub chroma-unknown : (width height idc : ℕ) → chroma_of idc ≡ None → (left : ℕ) → check_chroma width height idc left ≡ Some (breaks V10)
chroma-unknown width height idc e left = rw e refl

-- what is found of the size is found of the code
pub chroma-same : (width height idc : ℕ) (chroma : Chroma) (found : Option HeadEnd) → chroma_of idc ≡ Some chroma
    → check_size (record { width = width; height = height; chroma = chroma; depth = 0 }) ≡ found → (left : ℕ) → check_chroma width height idc left ≡ found
chroma-same width height idc chroma found e f left = rw e f

some-same : {A : Type 0} {a b : A} → ◌≡◌ {A = Option A} (Some a) (Some b) → a ≡ b
some-same {A} {a} {b} e = cc

abbrev from_4444 : ℕ → Option Chroma
from_4444 idc = cond (nat_eq idc 4) (Some C4444) None

abbrev from_444 : ℕ → Option Chroma
from_444 idc = cond (nat_eq idc 3) (Some C444) (from_4444 idc)

abbrev from_422 : ℕ → Option Chroma
from_422 idc = cond (nat_eq idc 2) (Some C422) (from_444 idc)

code-4444 : (idc : ℕ) (chroma : Chroma) → from_4444 idc ≡ Some chroma → idc ≡ idc_of chroma
code-4444 idc chroma e = elim (chosen (nat_eq idc 4) (Some C4444) None (Some chroma) e) [
  | inl is ↦ eqb-true idc 4 is.0 ∙ ap idc_of (some-same is.1)
  | inr other ↦ absurd (let none : ⊥ = cc (other.1) in none)
]

code-444 : (idc : ℕ) (chroma : Chroma) → from_444 idc ≡ Some chroma → idc ≡ idc_of chroma
code-444 idc chroma e = elim (chosen (nat_eq idc 3) (Some C444) (from_4444 idc) (Some chroma) e) [
  | inl is ↦ eqb-true idc 3 is.0 ∙ ap idc_of (some-same is.1)
  | inr other ↦ code-4444 idc chroma other.1
]

code-422 : (idc : ℕ) (chroma : Chroma) → from_422 idc ≡ Some chroma → idc ≡ idc_of chroma
code-422 idc chroma e = elim (chosen (nat_eq idc 2) (Some C422) (from_444 idc) (Some chroma) e) [
  | inl is ↦ eqb-true idc 2 is.0 ∙ ap idc_of (some-same is.1)
  | inr other ↦ code-444 idc chroma other.1
]

-- the code that has a chroma format
pub code-of : (idc : ℕ) (chroma : Chroma) → chroma_of idc ≡ Some chroma → idc ≡ idc_of chroma
code-of idc chroma e = elim (chosen (nat_eq idc 0) (Some C400) (from_422 idc) (Some chroma) e) [
  | inl is ↦ eqb-true idc 0 is.0 ∙ ap idc_of (some-same is.1)
  | inr other ↦ code-422 idc chroma other.1
]

of-code : (chroma : Chroma) → chroma_of (idc_of chroma) ≡ Some chroma
of-code C400 = refl
of-code C422 = refl
of-code C444 = refl
of-code C4444 = refl

pub grey-of : (chroma : Chroma) → or_grey (chroma_of (idc_of chroma)) ≡ chroma
grey-of chroma = ap or_grey (of-code chroma)

-- ---- the bit depth

pub depth-outside : (profile idc value : ℕ) → (value < 2) ⊎ ((2 ≤ value) × (4 < value)) → (left : ℕ) → check_depth profile idc value left ≡ Some (breaks V12)
depth-outside profile idc value (inl low) left = rw (lt-ltb value 2 low) refl
depth-outside profile idc value (inr high) left = rw (le-ltb value 2 high.0, lt-ltb 4 value high.1) refl

pub depth-refused : (profile value : ℕ) (chroma : Chroma) → 2 ≤ value → value ≤ 4 → is_readable profile chroma (value + 8) ≡ false
    → (left : ℕ) → check_depth profile (idc_of chroma) value left ≡ Some (breaks V13)
depth-refused profile value chroma low high e left = rw (le-ltb value 2 low, le-ltb 4 value high, grey-of chroma, e) refl

pub depth-passes : (profile value : ℕ) (chroma : Chroma) → 2 ≤ value → value ≤ 4 → is_readable profile chroma (value + 8) ≡ true
    → (left : ℕ) → check_depth profile (idc_of chroma) value left ≡ None
depth-passes profile value chroma low high e left = rw (le-ltb value 2 low, le-ltb 4 value high, grey-of chroma, e) refl

-- ---- the whole

-- the format of the fields' values is the one that was read
same-format : (width height depth : ℕ) (chroma : Chroma) → 8 ≤ depth
    → ◌≡◌ {A = Format} (record { width = width; height = height; chroma = or_grey (chroma_of (idc_of chroma)); depth = depth - 8 + 8 }) (record { width = width; height = height; chroma = chroma; depth = depth })
same-format width height depth chroma deep =
    ap₂ (λ (c : Chroma) (d : ℕ). record { width = width; height = height; chroma = c; depth = d }) (grey-of chroma) (omega arith)

pub info-format : {table : Table HeadEnd} {old new : Unread} {bits : ℕ} {values : List ℕ} (width height depth : ℕ) (chroma : Chroma) (next : Format → Table HeadEnd) → 8 ≤ depth
    → WalksBits table old bits values (next (record { width = width; height = height; chroma = or_grey (chroma_of (idc_of chroma)); depth = depth - 8 + 8 })) new
    → WalksBits table old bits values (next (record { width = width; height = height; chroma = chroma; depth = depth })) new
info-format {table} {old} {new} {bits} {values} width height depth chroma next deep all =
    subst (λ (format : Format). WalksBits table old bits values (next format) new) (same-format width height depth chroma deep) all

pub info-gives : (old new : Unread) (read : Result FrameInfo HeadEnd) → IfOk read (λ info. HasInfo old info new)
    → IfOk read (λ info. HasFrameInfo old info new)
info-gives old new (Ok info) all = walks-gives (all (λ format. done))
info-gives old new (Err end) all = tt

pub info-taken : (old new : Unread) (read : Result FrameInfo HeadEnd) → IfOk read (λ info. HasInfo old info new)
    → IfOk read (λ info. Takes old new (frame_info_word info))
info-taken old new (Ok info) all = walks-taken (all (λ format. done))
info-taken old new (Err end) all = tt
