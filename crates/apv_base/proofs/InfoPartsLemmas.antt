-- Values that pass the fields of frame_info() are those of a sound one.
use Rattle.std.proofs.Common.{◌≡◌, ℕ, ◌+◌, ◌-◌, ◌^◌, ◌<◌, ◌≤◌, List, ◌∷◌, ◌++◌, refl, sym, ap, ◌∙◌, subst, arith, Option, Some, None, Bool, true, false, ◌||◌, nat_eq, nat_lt, inl, inr}
use Rattle.std.proofs.lemmas.Bool.{ltb-false, eqb-true}
use Rattle.apv_base.specs.declared.rules.Rule.TheVariants.{V8, V10, V11, V12, V13, V14}
use Rattle.apv_base.specs.declared.rules.HeadEnd.{HeadEnd}
use Rattle.apv_base.specs.declared.rules.HeadEnd.TheVariants.{Rule as breaks, Wide}
use Rattle.apv_base.specs.declared.format.Chroma.{Chroma}
use Rattle.apv_base.specs.declared.format.Chroma.TheVariants.{C400, C422, C444, C4444}
use Rattle.apv_base.specs.declared.format.Format.{Format}
use Rattle.apv_base.specs.declared.format.FrameInfo.{FrameInfo}
use Rattle.apv_base.specs.model.Format.{idc_of, chroma_of, or_grey, is_bad_size, macroblocks, MAX_MACROBLOCKS}
use Rattle.apv_base.specs.model.Header.{check_profile, check_size, check_chroma_of, check_chroma, check_depth, free, reserved, info_fields, info_values, format_of, IsSoundInfo}
use Rattle.apv_base.specs.model.Profile.{is_readable}
use Rattle.apv_base.specs.model.Table.{Table, field, must_be_zero, no_check}
use Rattle.apv_base.specs.laws.Table.{Passes}
use Rattle.apv_base.proofs.PassesLemmas.{field-is}
use Rattle.apv_base.proofs.TableLemmas.{chosen}

-- ---- the checks

-- no fault is none
not-none : {A E : Type 0} (fault : E) → ◌≡◌ {A = Option E} (Some fault) None → A
not-none fault e = absurd (let no : ⊥ = cc in no)

pub zero-checked : {E : Type 0} (fault : E) (value left : ℕ) → must_be_zero fault value left ≡ None → value ≡ 0
zero-checked fault value left e = elim (chosen (nat_eq value 0) _ _ _ e) [
  | inl t ↦ eqb-true value 0 t.0
  | inr t ↦ not-none fault t.1
]

pub neither : (a b : Bool) → (a || b) ≡ false → (a ≡ false) × (b ≡ false)
neither true b e = absurd (let no : ⊥ = cc in no)
neither false b e = (refl, e)

size-checked : (format : Format) → check_size format ≡ None → (is_bad_size format ≡ false) × (macroblocks format ≤ MAX_MACROBLOCKS)
size-checked format e = elim (chosen (is_bad_size format) _ _ _ e) [
  | inl t ↦ not-none (breaks V11) t.1
  | inr t ↦ elim (chosen (nat_lt MAX_MACROBLOCKS (macroblocks format)) _ _ _ t.1) [
    | inl u ↦ not-none (Wide (macroblocks format)) u.1
    | inr u ↦ (t.0, ltb-false MAX_MACROBLOCKS (macroblocks format) u.0)
  ]
]

-- a code that has a chroma format, for which the size is good
record ChromaIs (width height idc : ℕ) (found : Option Chroma) : Type 0 where
  chroma : Chroma
  is : found ≡ Some chroma
  size : check_size (record { width = width; height = height; chroma = chroma; depth = 0 }) ≡ None

chroma-checked : (width height idc : ℕ) (found : Option Chroma) → check_chroma_of width height found ≡ None → ChromaIs width height idc found
chroma-checked width height idc None e = not-none (breaks V10) e
chroma-checked width height idc (Some chroma) e = record { chroma = chroma; is = refl; size = e }

some-idc : (a b : Chroma) (idc code : ℕ) → idc ≡ code → idc_of a ≡ code → ◌≡◌ {A = Option Chroma} (Some a) (Some b) → idc ≡ idc_of b
some-idc a b idc code e f g = let same : a ≡ b = cc in e ∙ sym f ∙ ap idc_of same

-- the code of the chroma format that a code has
pub idc-of-chroma : (idc : ℕ) (chroma : Chroma) → chroma_of idc ≡ Some chroma → idc ≡ idc_of chroma
idc-of-chroma idc chroma e = elim (chosen (nat_eq idc 0) _ _ _ e) [
  | inl t ↦ some-idc C400 chroma idc 0 (eqb-true idc 0 t.0) refl t.1
  | inr t ↦ elim (chosen (nat_eq idc 2) _ _ _ t.1) [
    | inl u ↦ some-idc C422 chroma idc 2 (eqb-true idc 2 u.0) refl u.1
    | inr u ↦ elim (chosen (nat_eq idc 3) _ _ _ u.1) [
      | inl v ↦ some-idc C444 chroma idc 3 (eqb-true idc 3 v.0) refl v.1
      | inr v ↦ elim (chosen (nat_eq idc 4) _ _ _ v.1) [
        | inl w ↦ some-idc C4444 chroma idc 4 (eqb-true idc 4 w.0) refl w.1
        | inr w ↦ absurd (let no : ⊥ = cc (w.1) in no)
      ]
    ]
  ]
]

-- a bit depth that the profile takes
record DepthIs (profile idc value : ℕ) : Type 0 where
  low : 2 ≤ value
  high : value ≤ 4
  readable : is_readable profile (or_grey (chroma_of idc)) (value + 8) ≡ true

depth-checked : (profile idc value left : ℕ) → check_depth profile idc value left ≡ None → DepthIs profile idc value
depth-checked profile idc value left e = elim (chosen (nat_lt value 2 || nat_lt 4 value) _ _ _ e) [
  | inl t ↦ not-none (breaks V12) t.1
  | inr t ↦ (let within = neither (nat_lt value 2) (nat_lt 4 value) t.0 in
      elim (chosen (is_readable profile (or_grey (chroma_of idc)) (value + 8)) _ _ _ t.1) [
        | inl u ↦ record { low = ltb-false value 2 within.0; high = ltb-false 4 value within.1; readable = u.0 }
        | inr u ↦ not-none (breaks V13) u.1
      ])
]

-- ---- the fields

-- frame_info() that is sound, and the values after it
pub record InfoIs (next : Format → Table HeadEnd) (values : List ℕ) (left : ℕ) : Type 0 where
  pub info : FrameInfo
  pub sound : IsSoundInfo info
  pub later : List ℕ
  pub all : values ≡ info_values info ++ later
  pub passes : Passes 2 (next (format_of info)) later left

-- what follows each field of frame_info()
abbrev capture_next : (Format → Table HeadEnd) → ℕ → ℕ → ℕ → ℕ → ℕ → Table HeadEnd
capture_next next width height idc depth capture = reserved 8 (next (record { width = width; height = height; chroma = or_grey (chroma_of idc); depth = depth + 8 }))

abbrev depth_next : (Format → Table HeadEnd) → ℕ → ℕ → ℕ → ℕ → Table HeadEnd
depth_next next width height idc depth = free 8 (capture_next next width height idc depth)

abbrev idc_next : (Format → Table HeadEnd) → ℕ → ℕ → ℕ → ℕ → Table HeadEnd
idc_next next profile width height idc = field 4 (breaks V8) (check_depth profile idc) (depth_next next width height idc)

abbrev height_next : (Format → Table HeadEnd) → ℕ → ℕ → ℕ → Table HeadEnd
height_next next profile width height = field 4 (breaks V8) (check_chroma width height) (idc_next next profile width height)

abbrev width_next : (Format → Table HeadEnd) → ℕ → ℕ → Table HeadEnd
width_next next profile width = free 24 (height_next next profile width)

abbrev band_next : (Format → Table HeadEnd) → ℕ → ℕ → Table HeadEnd
band_next next profile band = reserved 5 (free 24 (width_next next profile))

abbrev level_next : (Format → Table HeadEnd) → ℕ → ℕ → Table HeadEnd
level_next next profile level = free 3 (band_next next profile)

abbrev profile_next : (Format → Table HeadEnd) → ℕ → Table HeadEnd
profile_next next profile = free 8 (level_next next profile)

-- the numbers of frame_info() as values
record InfoNumbers (next : Format → Table HeadEnd) (values : List ℕ) (left : ℕ) : Type 0 where
  profile : ℕ
  level : ℕ
  band : ℕ
  width : ℕ
  height : ℕ
  idc : ℕ
  depth : ℕ
  capture : ℕ
  later : List ℕ
  all : values ≡ profile ∷ level ∷ band ∷ 0 ∷ width ∷ height ∷ idc ∷ depth ∷ capture ∷ 0 ∷ later
  level_small : level < 256
  band_small : band ≤ 7
  width_small : width < 2 ^ 24
  height_small : height < 2 ^ 24
  capture_small : capture < 256
  chroma_good : ChromaIs width height idc (chroma_of idc)
  depth_good : DepthIs profile idc depth
  passes : Passes 2 (next (record { width = width; height = height; chroma = or_grey (chroma_of idc); depth = depth + 8 })) later left

ten : (v v1 v2 v3 v4 v5 v6 v7 v8 v9 v10 : List ℕ) (a b c d e f g h i j : ℕ) → v ≡ a ∷ v1 → v1 ≡ b ∷ v2 → v2 ≡ c ∷ v3 → v3 ≡ d ∷ v4 → v4 ≡ e ∷ v5 → v5 ≡ f ∷ v6 → v6 ≡ g ∷ v7 → v7 ≡ h ∷ v8 → v8 ≡ i ∷ v9 → v9 ≡ j ∷ v10
    → d ≡ 0 → j ≡ 0 → v ≡ a ∷ b ∷ c ∷ 0 ∷ e ∷ f ∷ g ∷ h ∷ i ∷ 0 ∷ v10
ten v v1 v2 v3 v4 v5 v6 v7 v8 v9 v10 a b c d e f g h i j e1 e2 e3 e4 e5 e6 e7 e8 e9 e10 z y = cc

info-numbers : (next : Format → Table HeadEnd) (values : List ℕ) (left : ℕ) → Passes 2 (info_fields true next) values left → InfoNumbers next values left
info-numbers next values left p =
    let profile = field-is 2 8 (breaks V8) check_profile (profile_next next) values left p in
    let level = field-is 2 8 (breaks V8) no_check (level_next next profile.value) profile.later left profile.passes in
    let band = field-is 2 3 (breaks V8) no_check (band_next next profile.value) level.later left level.passes in
    let reserved = field-is 2 5 (breaks V8) (must_be_zero (breaks V14)) (λ zero. free 24 (width_next next profile.value)) band.later left band.passes in
    let width = field-is 2 24 (breaks V8) no_check (width_next next profile.value) reserved.later left reserved.passes in
    let height = field-is 2 24 (breaks V8) no_check (height_next next profile.value width.value) width.later left width.passes in
    let idc = field-is 2 4 (breaks V8) (check_chroma width.value height.value) (idc_next next profile.value width.value height.value) height.later left height.passes in
    let depth = field-is 2 4 (breaks V8) (check_depth profile.value idc.value) (depth_next next width.value height.value idc.value) idc.later left idc.passes in
    let capture = field-is 2 8 (breaks V8) no_check (capture_next next width.value height.value idc.value depth.value) depth.later left depth.passes in
    let last = field-is 2 8 (breaks V8) (must_be_zero (breaks V14)) (λ zero. next (record { width = width.value; height = height.value; chroma = or_grey (chroma_of idc.value); depth = depth.value + 8 })) capture.later left capture.passes in
    record {
      profile = profile.value;
      level = level.value;
      band = band.value;
      width = width.value;
      height = height.value;
      idc = idc.value;
      depth = depth.value;
      capture = capture.value;
      later = last.later;
      all = ten values profile.later level.later band.later reserved.later width.later height.later idc.later depth.later capture.later last.later profile.value level.value band.value reserved.value width.value height.value idc.value depth.value
          capture.value last.value profile.all level.all band.all reserved.all width.all height.all idc.all depth.all capture.all last.all (zero-checked (breaks V14) reserved.value reserved.after reserved.checked)
          (zero-checked (breaks V14) last.value last.after last.checked);
      level_small = level.below;
      band_small = omega (arith, band.below);
      width_small = width.below;
      height_small = height.below;
      capture_small = capture.below;
      chroma_good = chroma-checked width.value height.value idc.value (chroma_of idc.value) idc.checked;
      depth_good = depth-checked profile.value idc.value depth.value depth.after depth.checked;
      passes = last.passes;
    }

info-found : (next : Format → Table HeadEnd) (values : List ℕ) (left : ℕ) (n : InfoNumbers next values left) (chroma : Chroma) → chroma_of n.idc ≡ Some chroma → check_size (record { width = n.width; height = n.height; chroma = chroma; depth = 0 }) ≡ None
    → or_grey (chroma_of n.idc) ≡ chroma → InfoIs next values left
info-found next values left n chroma is size grey =
    let sizes = size-checked (record { width = n.width; height = n.height; chroma = chroma; depth = 0 }) size in
    let code : n.idc ≡ idc_of chroma = idc-of-chroma n.idc chroma is in
    let bits : n.depth ≡ n.depth + 8 - 8 = omega arith in
    record {
      info = record {
        profile = n.profile;
        level = n.level;
        band = n.band;
        width = n.width;
        height = n.height;
        chroma = chroma;
        depth = n.depth + 8;
        capture = n.capture;
      };
      sound = record {
        format = record {
          size = sizes.0;
          width = n.width_small;
          height = n.height_small;
          few = sizes.1;
          low = omega (arith, n.depth_good.low);
          high = omega (arith, n.depth_good.high);
        };
        level = n.level_small;
        band = n.band_small;
        capture = n.capture_small;
        readable = subst (λ (c : Chroma). is_readable n.profile c (n.depth + 8) ≡ true) grey n.depth_good.readable;
      };
      later = n.later;
      all = n.all ∙ cc (code, bits);
      passes = subst (λ (c : Chroma). Passes 2 (next (record { width = n.width; height = n.height; chroma = c; depth = n.depth + 8 })) n.later left) grey n.passes;
    }

-- values that pass the fields of frame_info() are those of a sound one, and others
pub info-is : (next : Format → Table HeadEnd) (values : List ℕ) (left : ℕ) → Passes 2 (info_fields true next) values left → InfoIs next values left
info-is next values left p =
    let n = info-numbers next values left p in
    let c = n.chroma_good in info-found next values left n c.chroma c.is c.size (ap or_grey c.is)
