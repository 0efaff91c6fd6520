-- The headers of the tracks of sound settings break no rule, where the formats pass.
use Rattle.std.proofs.Common.{◌≡◌, ℕ, zero, suc, ◌+◌, ◌-◌, ◌*◌, ◌%◌, ◌^◌, ◌<◌, ◌≤◌, ◌⊎◌, inl, inr, List, [], ◌∷◌, ◌++◌, length, get_or, map, take, replicate, refl, sym, ap, ◌∙◌, subst, arith, lit<, lit≤, Option, Some, None, Bool, true, false, cond, ◌||◌, ◌&&◌, nat_lt, nat_le, nat_eq, length-append, append-nil, append_assoc}
use Rattle.std.specs.Prelude.{ℤ, Contains, not, is_some, IfSome}
use Rattle.std.specs.List.{AllByRecursion, list_any}
use Rattle.std.proofs.Math.Nat.{mod-lt, mul-le-mul_right}
use Rattle.std.proofs.lemmas.Bool.{and_parts, or_parts, or_cases, cases_lt, cond_both, not-false, ltb-false, leb-true, le-ltb, ltb-true}
use Rattle.std.proofs.lemmas.List.{length-map, length-replicate, length-take-le, get_or-replicate}
use Rattle.std.proofs.lemmas.Nat.{div-add-mod'}
use Rattle.apv_base.specs.declared.format.Chroma.{Chroma}
use Rattle.apv_base.specs.declared.format.Format.{Format}
use Rattle.apv_base.specs.declared.slot.Slot.TheVariants.{Depth, Alpha}
use Rattle.apv_base.specs.model.Format.{comps_of, is_bad_size, is_halved, parts, macroblock_columns, macroblock_rows, macroblocks, MAX_MACROBLOCKS}
use Rattle.apv_base.specs.model.Grid.{Grid, grid_with, tile_columns, tile_rows, tile_rule, default_size}
use Rattle.apv_base.specs.model.Header.{IsSoundHeader, flat}
use Rattle.apv_base.specs.model.Profile.{Profile, profiles, has_depth, same_chroma, is_writable, is_readable}
use Rattle.apv_base.specs.model.Quant.{IsMatrix}
use Rattle.apv_base.specs.model.Slot.{slot_number}
use Rattle.apv_base.specs.model.Video.{is_bad_video_size}
use Rattle.apv_base.proofs.HeaderLemmas.{comps-few, flat-is-matrix}
use Rattle.apv_encoding.specs.Laws.{AreSoundSettings, IsTileSize, FormatsPass, HaveSoundHeaders, AreTracks}
use Rattle.apv_encoding.specs.Settings.{EncoderSettings, given_or, first_given, profile_of, tile_width_of, tile_height_of, uses_matrix, primary_header, further_header, preview_format, preview_header, grey_format, grey_header, check_size_of, is_written, has_many_tiles, check_input, check_preview, Track, primary_track, grey_track, preview_tracks, where_asked, tracks_of}

-- ---- the checks

pub first-none : {A : Type 0} (a b : Option A) → first_given a b ≡ None → (a ≡ None) × (b ≡ None)
first-none (Some x) b e = absurd (let no : ⊥ = cc in no)
first-none None b e = (refl, e)

-- what passes a check that names a fault
pub passed : {A : Type 0} (b : Bool) (x : A) (rest : Option A) → cond b (Some x) rest ≡ None → (b ≡ false) × (rest ≡ None)
passed true x rest e = absurd (let no : ⊥ = cc in no)
passed false x rest e = (refl, e)

-- a size that passes
pub record PassesSize (format : Format) : Type 0 where
  pub size : is_bad_size format ≡ false
  pub width : format.width < 2 ^ 24
  pub height : format.height < 2 ^ 24
  pub few : macroblocks format ≤ MAX_MACROBLOCKS

pub size-passes : (format : Format) → check_size_of format ≡ None → PassesSize format
size-passes format e =
    let first = passed (is_bad_video_size format) _ _ e in
    let second = passed (nat_lt MAX_MACROBLOCKS (macroblocks format)) _ _ first.1 in
    let outer = or_parts (is_bad_size format || nat_lt 16777215 format.width) (nat_lt 16777215 format.height) first.0 in
    let inner = or_parts (is_bad_size format) (nat_lt 16777215 format.width) outer.0 in
    record {
      size = inner.0;
      width = omega (arith, ltb-false 16777215 format.width inner.1);
      height = omega (arith, ltb-false 16777215 format.height outer.1);
      few = ltb-false MAX_MACROBLOCKS (macroblocks format) second.0;
    }

-- ---- profiles

-- a test of a profile
abbrev writes : ℕ → Chroma → ℕ → Profile → Bool
writes profile chroma depth p = nat_eq p.idc profile && has_depth p depth && list_any (same_chroma chroma) p.chroma

depth-by : (profile : ℕ) (chroma : Chroma) (depth : ℕ) (p : Profile) → p.depth ≤ 12 → writes profile chroma depth p ≡ true → (10 ≤ depth) × (depth ≤ 12)
depth-by profile chroma depth p high e =
    let outer = and_parts (nat_eq p.idc profile && has_depth p depth) (list_any (same_chroma chroma) p.chroma) e in
    let inner = and_parts (nat_eq p.idc profile) (has_depth p depth) outer.0 in
    let both = and_parts (nat_le 10 depth) (nat_le depth p.depth) inner.1 in
    (leb-true 10 depth both.0, omega (arith, leb-true depth p.depth both.1, high))

any-depth : (profile : ℕ) (chroma : Chroma) (depth : ℕ) (ps : List Profile) → AllByRecursion (λ (p : Profile). p.depth ≤ 12) ps → list_any (writes profile chroma depth) ps ≡ true → (10 ≤ depth) × (depth ≤ 12)
any-depth profile chroma depth [] all e = absurd (let no : ⊥ = cc in no)
any-depth profile chroma depth (p ∷ ps) all e = elim (or_cases (writes profile chroma depth p) (list_any (writes profile chroma depth) ps) e) [
  | inl here ↦ depth-by profile chroma depth p all.0 here
  | inr later ↦ any-depth profile chroma depth ps all.1 later
]

pub written-depth : (profile : ℕ) (chroma : Chroma) (depth : ℕ) → is_writable profile chroma depth ≡ true → (10 ≤ depth) × (depth ≤ 12)
written-depth profile chroma depth e = any-depth profile chroma depth profiles (lit≤ tt, (lit≤ tt, (lit≤ tt, (lit≤ tt, (lit≤ tt, (lit≤ tt, (lit≤ tt, tt))))))) e

written-is : (profile : Option ℕ) (format : Format) → is_written profile format ≡ true → is_writable (given_or profile 0) format.chroma format.depth ≡ true
written-is None format e = absurd (let no : ⊥ = cc in no)
written-is (Some profile) format e = e

-- ---- tiles

parts-few : (n : ℕ) → n < 2 ^ 24 → parts n 16 ≤ 2 ^ 20
parts-few n lt = omega (arith, lt)

default-is : (n : ℕ) → n ≤ 2 ^ 20 → IsTileSize 16 (default_size n)
default-is n le = cond_both (nat_lt 16 (parts n 20)) (parts n 20) 16 (IsTileSize 16) (λ e. (omega (arith, ltb-true 16 (parts n 20) e), omega (arith, le))) (λ e. (lit≤ tt, lit< tt))

-- the default makes 20 columns at most
default-above : (n : ℕ) → parts n 20 ≤ default_size n
default-above n = cond_both (nat_lt 16 (parts n 20)) (parts n 20) 16 (λ (d : ℕ). parts n 20 ≤ d) (λ e. omega arith) (λ e. omega (arith, ltb-false 16 (parts n 20) e))

twenty-parts : (n d : ℕ) → 1 ≤ d → parts n 20 ≤ d → parts n d ≤ 20
twenty-parts n d some le =
    let whole = div-add-mod' (n + (d - 1)) d in
    let rest : (n + (d - 1)) % d < d = mod-lt (n + (d - 1)) (omega arith) in
    elim (cases_lt 20 (parts n d)) [
      | inr ge ↦ ge
      | inl lt ↦ (let most : 21 * d ≤ parts n d * d = mul-le-mul_right d lt in absurd (omega (arith, whole, most, le)))
    ]

tile-size-of : (size : Option ℕ) (least other : ℕ) → IfSome size (IsTileSize least) → IsTileSize least other → IsTileSize least (given_or size other)
tile-size-of None least other sound is = is
tile-size-of (Some size) least other sound is = sound

no-tile-rule : (grid : Grid) → 16 ≤ grid.tile_width → 8 ≤ grid.tile_height → (nat_lt 20 (tile_columns grid) || nat_lt 20 (tile_rows grid)) ≡ false → tile_rule grid ≡ None
no-tile-rule grid wide high few =
    let a : nat_lt grid.tile_width 16 ≡ false = le-ltb grid.tile_width 16 wide in
    let b : nat_lt grid.tile_height 8 ≡ false = le-ltb grid.tile_height 8 high in
    rw (a, b, few) refl

-- ---- matrices

given-matrix : (matrix : Option (List ℕ)) → IfSome matrix IsMatrix → IsMatrix (given_or matrix flat)
given-matrix None sound = flat-is-matrix
given-matrix (Some matrix) sound = sound

flat-matrices : (n : ℕ) → AllByRecursion IsMatrix (replicate n flat)
flat-matrices zero = tt
flat-matrices (suc n) = (flat-is-matrix, flat-matrices n)

abbrev given_matrices : ℕ → List (Option (List ℕ)) → List (List ℕ)
given_matrices n matrices = map (λ (matrix : Option (List ℕ)). given_or matrix flat) (take n matrices)

all-matrices : (n rest : ℕ) (matrices : List (Option (List ℕ))) → AllByRecursion (λ (matrix : Option (List ℕ)). IfSome matrix IsMatrix) matrices → AllByRecursion IsMatrix (given_matrices n matrices ++ replicate rest flat)
all-matrices zero rest matrices all = flat-matrices rest
all-matrices (suc n) rest [] all = flat-matrices rest
all-matrices (suc n) rest (matrix ∷ matrices) all = (given-matrix matrix all.0, all-matrices n rest matrices all.1)

none-given : (matrix : Option (List ℕ)) → is_some matrix ≡ false → given_or matrix flat ≡ flat
none-given None e = refl
none-given (Some matrix) e = absurd (let no : ⊥ = cc in no)

flat-at : (n rest comp : ℕ) (matrices : List (Option (List ℕ))) → n ≤ length matrices → comp < n + rest → (n ≤ comp) ⊎ (list_any is_some (take n matrices) ≡ false) → get_or (given_matrices n matrices ++ replicate rest flat) comp [] ≡ flat
flat-at zero rest comp matrices le lt why = get_or-replicate rest comp flat [] (omega (arith, lt))
flat-at (suc n) rest comp [] le lt why = absurd (omega (arith, le))
flat-at (suc n) rest zero (matrix ∷ matrices) le lt (inl ge) = absurd (omega (arith, ge))
flat-at (suc n) rest zero (matrix ∷ matrices) le lt (inr none) = none-given matrix (or_parts (is_some matrix) (list_any is_some (take n matrices)) none).0
flat-at (suc n) rest (suc comp) (matrix ∷ matrices) le lt (inl ge) = flat-at n rest comp matrices (omega (arith, le)) (omega (arith, lt)) (inl (omega (arith, ge)))
flat-at (suc n) rest (suc comp) (matrix ∷ matrices) le lt (inr none) = flat-at n rest comp matrices (omega (arith, le)) (omega (arith, lt)) (inr (or_parts (is_some matrix) (list_any is_some (take n matrices)) none).1)

length-matrices : (n : ℕ) (matrices : List (Option (List ℕ))) → n ≤ 4 → length matrices ≡ 4 → length (given_matrices n matrices ++ replicate (4 - n) flat) ≡ 4
length-matrices n matrices le four =
    omega (arith, length-append (given_matrices n matrices) (replicate (4 - n) flat), length-map (take n matrices) (λ (matrix : Option (List ℕ)). given_or matrix flat), length-take-le n matrices (omega (arith, le, four)), length-replicate (4 - n) flat, le)

-- what isn't above a number of components, where matrices are used
flat-why : (used : Bool) (comps comp : ℕ) → (used ≡ true → comps ≤ comp) → (comps ≤ comp) ⊎ (used ≡ false)
flat-why true comps comp without = inl (without refl)
flat-why false comps comp without = inr refl

-- ---- headers

-- what the format of the primary frames passes
record PassesInput (settings : EncoderSettings) (format : Format) : Type 0 where
  size : PassesSize format
  written : is_writable (given_or (profile_of settings format) 0) format.chroma format.depth ≡ true
  tiles : has_many_tiles settings format ≡ false

input-passes : (settings : EncoderSettings) (format : Format) → check_input settings format ≡ None → PassesInput settings format
input-passes settings format e =
    let first = first-none (check_size_of format) _ e in
    let second = passed (not (is_written (profile_of settings format) format)) _ _ first.1 in
    let third = passed (has_many_tiles settings format) _ _ second.1 in
    record { size = size-passes format first.0; written = written-is (profile_of settings format) format (not-false (is_written (profile_of settings format) format) second.0); tiles = third.0 }

readable-as : (profile : ℕ) (chroma : Chroma) (depth : ℕ) → is_writable profile chroma depth ≡ true → is_readable profile chroma depth ≡ true
readable-as profile chroma depth e = rw e refl

-- the default sizes of tiles of a format that passes
default-width : (format : Format) → PassesSize format → IsTileSize 16 (default_size (macroblock_columns format))
default-width format passes = default-is (macroblock_columns format) (parts-few format.width passes.width)

default-height : (format : Format) → PassesSize format → IsTileSize 8 (default_size (macroblock_rows format))
default-height format passes = let is = default-is (macroblock_rows format) (parts-few format.height passes.height) in (omega (arith, is.0), is.1)

-- those of settings
settings-width : (settings : EncoderSettings) (format : Format) → AreSoundSettings settings → PassesSize format → IsTileSize 16 (tile_width_of settings format)
settings-width settings format sound passes = tile-size-of settings.tile_width 16 (default_size (macroblock_columns format)) sound.tile_width (default-width format passes)

settings-height : (settings : EncoderSettings) (format : Format) → AreSoundSettings settings → PassesSize format → IsTileSize 8 (tile_height_of settings format)
settings-height settings format sound passes = tile-size-of settings.tile_height 8 (default_size (macroblock_rows format)) sound.tile_height (default-height format passes)

primary-sound : (settings : EncoderSettings) (format : Format) → AreSoundSettings settings → PassesInput settings format → IsSoundHeader (primary_header settings format)
primary-sound settings format sound passes =
    let profile : ℕ = given_or (profile_of settings format) 0 in
    let depth = written-depth profile format.chroma format.depth passes.written in
    let width = settings-width settings format sound passes.size in
    let height = settings-height settings format sound passes.size in
    let comps : ℕ = comps_of format.chroma in
    let few : comps ≤ 4 = comps-few format.chroma in
    record {
      info = record {
        format = record { size = passes.size.size; width = passes.size.width; height = passes.size.height; few = passes.size.few; low = depth.0; high = depth.1 };
        level = sound.level;
        band = sound.band;
        capture = lit< tt;
        readable = readable-as profile format.chroma format.depth passes.written;
      };
      colour = sound.colour;
      width = width.1;
      height = height.1;
      tiles = no-tile-rule (grid_with format (tile_width_of settings format) (tile_height_of settings format)) width.0 height.0 passes.tiles;
      four = length-matrices comps settings.matrices few sound.four;
      each = all-matrices comps (4 - comps) settings.matrices sound.each;
      matrices = λ comp lt without. flat-at comps (4 - comps) comp settings.matrices (omega (arith, few, sound.four)) (omega (arith, lt, few)) (flat-why (uses_matrix settings format) comps comp without);
    }

-- a header of a preview, depth or alpha frame
further-sound : (settings : EncoderSettings) (profile : ℕ) (format : Format) (tile_width tile_height : ℕ) → AreSoundSettings settings → PassesSize format → (10 ≤ format.depth) × (format.depth ≤ 12) → is_readable profile format.chroma format.depth ≡ true
    → IsTileSize 16 tile_width → IsTileSize 8 tile_height → (nat_lt 20 (tile_columns (grid_with format tile_width tile_height)) || nat_lt 20 (tile_rows (grid_with format tile_width tile_height))) ≡ false
    → IsSoundHeader (further_header settings profile format tile_width tile_height)
further-sound settings profile format tile_width tile_height sound size depth readable width height few = record {
  info = record {
    format = record { size = size.size; width = size.width; height = size.height; few = size.few; low = depth.0; high = depth.1 };
    level = sound.level;
    band = sound.band;
    capture = lit< tt;
    readable = readable;
  };
  colour = tt;
  width = width.1;
  height = height.1;
  tiles = no-tile-rule (grid_with format tile_width tile_height) width.0 height.0 few;
  four = refl;
  each = flat-matrices 4;
  matrices = λ comp lt without. get_or-replicate 4 comp flat [] lt;
}

neither-more : (a b : ℕ) → a ≤ 20 → b ≤ 20 → (nat_lt 20 a || nat_lt 20 b) ≡ false
neither-more a b p q = let x : nat_lt 20 a ≡ false = le-ltb 20 a p in let y : nat_lt 20 b ≡ false = le-ltb 20 b q in rw (x, y) refl

or-nothing : (b : Bool) → b ≡ false → (b || false) ≡ false
or-nothing b e = rw e refl

preview-sound : (settings : EncoderSettings) (size : ℕ × ℕ) → AreSoundSettings settings → check_preview (Some size) ≡ None → IsSoundHeader (preview_header settings size)
preview-sound settings size sound e =
    let format : Format = preview_format size in
    let passes = size-passes format e in
    let width : ℕ = default_size (macroblock_columns format) in
    let height : ℕ = default_size (macroblock_rows format) in
    let wide = default-width format passes in
    let high = default-height format passes in
    further-sound settings 33 format width height sound passes (lit≤ tt, lit≤ tt) refl wide high
    (neither-more (tile_columns (grid_with format width height)) (tile_rows (grid_with format width height)) (twenty-parts (macroblock_columns format) width (omega (arith, wide.0)) (default-above (macroblock_columns format)))
    (twenty-parts (macroblock_rows format) height (omega (arith, high.0)) (default-above (macroblock_rows format))))

grey-size : (format : Format) → PassesSize format → PassesSize (grey_format format)
grey-size format passes =
    let some = or_parts (nat_eq format.width 0 || nat_eq format.height 0) (is_halved format.chroma && nat_eq (format.width % 2) 1) passes.size in
    record { size = or-nothing (nat_eq format.width 0 || nat_eq format.height 0) some.0; width = passes.width; height = passes.height; few = passes.few }

grey-sound : (settings : EncoderSettings) (format : Format) → AreSoundSettings settings → PassesInput settings format → IsSoundHeader (grey_header settings format)
grey-sound settings format sound passes =
    further-sound settings 99 (grey_format format) (tile_width_of settings format) (tile_height_of settings format) sound (grey-size format passes.size) (lit≤ tt, lit≤ tt) refl
    (settings-width settings format sound passes.size) (settings-height settings format sound passes.size) passes.tiles

-- ---- tracks

-- the numbers of the slots rise, from one on
abbrev Rise : ℕ → List Track → Type 0
Rise n [] = Unit {0}
Rise n (track ∷ tracks) = (n ≤ slot_number track.slot) × Rise (suc (slot_number track.slot)) tracks

rise-less : (m n : ℕ) (tracks : List Track) → m ≤ n → Rise n tracks → Rise m tracks
rise-less m n [] le rise = tt
rise-less m n (track ∷ tracks) le rise = (omega (arith, le, rise.0), rise.1)

contains-cases : (track : Track) (tracks : List Track) (x : Track) → Contains (track ∷ tracks) x → (track ≡ x) ⊎ Contains tracks x
contains-cases track tracks x (zero, lt, e) = inl e
contains-cases track tracks x (suc k, lt, e) = inr (k, omega (arith, lt), e)

rise-above : (n : ℕ) (tracks : List Track) (x : Track) → Rise n tracks → Contains tracks x → n ≤ slot_number x.slot
rise-above n [] x rise in-them = absurd (omega (arith, in-them.1))
rise-above n (track ∷ tracks) x rise in-them = elim (contains-cases track tracks x in-them) [
  | inl e ↦ subst (λ (t : Track). n ≤ slot_number t.slot) e rise.0
  | inr later ↦ omega (arith, rise.0, rise-above (suc (slot_number track.slot)) tracks x rise.1 later)
]

-- of tracks whose slots rise two with one slot are one
rise-one : (n : ℕ) (tracks : List Track) → Rise n tracks → (a b : Track) → Contains tracks a → Contains tracks b → a.slot ≡ b.slot → a ≡ b
rise-one n [] rise a b p q e = absurd (omega (arith, p.1))
rise-one n (track ∷ tracks) rise a b p q e = elim (contains-cases track tracks a p) [
  | inl here ↦ elim (contains-cases track tracks b q) [
    | inl also ↦ sym here ∙ also
    | inr later ↦ absurd (omega (arith, rise-above (suc (slot_number track.slot)) tracks b rise.1 later, ap (λ (t : Track). slot_number t.slot) here, ap slot_number e))
  ]
  | inr later ↦ elim (contains-cases track tracks b q) [
    | inl here ↦ absurd (omega (arith, rise-above (suc (slot_number track.slot)) tracks a rise.1 later, ap (λ (t : Track). slot_number t.slot) here, ap slot_number e))
    | inr also ↦ rise-one (suc (slot_number track.slot)) tracks rise.1 a b later also e
  ]
]

rise-asked : (n : ℕ) (asked : Bool) (track : Track) (more : List Track) → n ≤ slot_number track.slot → Rise (suc (slot_number track.slot)) more → Rise n (where_asked asked track ++ more)
rise-asked n true track more le rise = (le, rise)
rise-asked n false track more le rise = rise-less n (suc (slot_number track.slot)) more (omega (arith, le)) rise

sound-asked : (asked : Bool) (track : Track) (more : List Track) → IsSoundHeader track.header → HaveSoundHeaders more → HaveSoundHeaders (where_asked asked track ++ more)
sound-asked true track more sound all = (sound, all)
sound-asked false track more sound all = all

rise-preview : (settings : EncoderSettings) (preview : Option (ℕ × ℕ)) (more : List Track) → Rise 2 more → Rise 1 (preview_tracks settings preview ++ more)
rise-preview settings None more rise = rise-less 1 2 more (omega arith) rise
rise-preview settings (Some size) more rise = (lit≤ tt, rise)

sound-preview : (settings : EncoderSettings) (preview : Option (ℕ × ℕ)) (more : List Track) → AreSoundSettings settings → check_preview preview ≡ None → HaveSoundHeaders more → HaveSoundHeaders (preview_tracks settings preview ++ more)
sound-preview settings None more sound e all = all
sound-preview settings (Some size) more sound e all = (preview-sound settings size sound e, all)

-- the tracks of sound settings are those of an encoder
pub are-tracks : (settings : EncoderSettings) (format : Format) (tile_offset : ℕ → ℤ) → AreSoundSettings settings → FormatsPass settings format → AreTracks (tracks_of settings format tile_offset)
are-tracks settings format tile_offset sound pass =
    let passes = input-passes settings format pass.input in
    let depth : Track = grey_track settings format Depth 26 in
    let alpha : Track = grey_track settings format Alpha 27 in
    let last : List Track = where_asked settings.alpha alpha in
    let grey : IsSoundHeader (grey_header settings format) = grey-sound settings format sound passes in
    let same : last ++ [] ≡ last = append-nil last in
    let rise_last : Rise 3 last = subst (Rise 3) same (rise-asked 3 settings.alpha alpha [] (lit≤ tt) tt) in
    let sound_last : HaveSoundHeaders last = subst HaveSoundHeaders same (sound-asked settings.alpha alpha [] grey tt) in
    let further : List Track = preview_tracks settings settings.preview ++ where_asked settings.depth depth ++ last in
    let parted : preview_tracks settings settings.preview ++ (where_asked settings.depth depth ++ last) ≡ further = sym (append_assoc (preview_tracks settings settings.preview) (where_asked settings.depth depth) last) in
    let rise_further : Rise 1 further = subst (Rise 1) parted (rise-preview settings settings.preview (where_asked settings.depth depth ++ last) (rise-asked 2 settings.depth depth last (lit≤ tt) rise_last)) in
    let sound_further : HaveSoundHeaders further = subst HaveSoundHeaders parted (sound-preview settings settings.preview (where_asked settings.depth depth ++ last) sound pass.preview (sound-asked settings.depth depth last grey sound_last)) in
    let rise : Rise 0 (tracks_of settings format tile_offset) = (lit≤ tt, rise_further) in
    record {
      first = primary_track settings format tile_offset;
      more = further;
      parts = refl;
      input = refl;
      one_each = rise-one 0 (tracks_of settings format tile_offset) rise;
      sound = (primary-sound settings format sound passes, sound_further);
    }
