-- Strict judging: three more rules of an access unit whose PBUs pass the others.
use Rattle.std.specs.Prelude.{◌≡◌, ℕ, ◌+◌, ◌^◌, Bool, true, false, ◌&&◌, ◌||◌, not, List, ◌∷◌, ◌++◌, length, take}
use Rattle.std.specs.Prelude.{nat_lt, bytes_eq, ◌==◌}
use Rattle.std.specs.List.{flat_map, filter, list_all}
use Rattle.apv_base.specs.declared.rules.Rule.{Rule}
use Rattle.apv_base.specs.declared.rules.Rule.TheVariants.{V32, V33, V34}
use Rattle.apv_base.specs.model.Bits.{be}
use Rattle.apv_base.specs.model.Pbu.{Pbu, AU_INFO, is_frame}

-- ---- the first PBU that passes a test

-- a test of a PBU, by those before it
abbrev pub PbuTest : Type 0
PbuTest = List Pbu → Pbu → Bool

-- none passes
abbrev pub HoldsNowhere : PbuTest → List Pbu → Type 0
HoldsNowhere test pbus =
    (before : List Pbu) (pbu : Pbu) (later : List Pbu) → pbus ≡ before ++ pbu ∷ later → test before pbu ≡ false

-- the nth is the first that passes
pub record HoldsFirstAt (test : PbuTest) (pbus : List Pbu) (n : ℕ) : Type 0 where
  pub before : List Pbu
  pub pbu : Pbu
  pub later : List Pbu
  pub parts : pbus ≡ before ++ pbu ∷ later
  pub count : length before ≡ n
  pub passes : test before pbu ≡ true
  pub none : HoldsNowhere test before

-- ---- the tests

-- one of the PBUs is such a one
abbrev pub has_some : (Pbu → Bool) → List Pbu → Bool
has_some is pbus = not (list_all (λ pbu. not (is pbu)) pbus)

-- a primary frame
abbrev pub is_primary : Pbu → Bool
is_primary pbu = pbu.kind == 1

-- a primary or non-primary frame
abbrev pub is_main : Pbu → Bool
is_main pbu = pbu.kind == 1 || pbu.kind == 2

-- a primary frame after another one
abbrev pub is_further_primary : PbuTest
is_further_primary before pbu = is_primary pbu && has_some is_primary before

-- a primary or non-primary frame with the group of one before it
abbrev pub repeats_group : PbuTest
repeats_group before pbu = is_main pbu && has_some (λ other. is_main other && other.group == pbu.group) before

-- how access unit information lists a frame: its type, its group, a reserved byte and the 12 bytes of its frame_info()
abbrev pub list_entry : Pbu → List ℕ
list_entry pbu = pbu.kind ∷ (be 2 pbu.group ++ 0 ∷ take 12 pbu.body)

-- the bytes with which access unit information lists these frames: their number and an entry for each
abbrev pub frame_list : List Pbu → List ℕ
frame_list frames = be 2 (length frames) ++ flat_map list_entry frames

-- the body lists these frames
abbrev pub lists : List Pbu → List ℕ → Bool
lists frames body =
    nat_lt (length frames) (2 ^ 16)
    && bytes_eq (take (2 + length (flat_map list_entry frames)) body) (frame_list frames)

-- access unit information with another list than that of the frames among the PBUs of the unit
abbrev pub lists_others : List Pbu → PbuTest
lists_others pbus before pbu = pbu.kind == AU_INFO && not (lists (filter (λ frame. is_frame frame.kind) pbus) pbu.body)

-- ---- the rules

-- exactly one PBU is a primary frame, no two primary or non-primary frames have the same group, and all access unit
-- information lists the frames
pub record IsStrict (pbus : List Pbu) : Type 0 where
  pub primary : has_some is_primary pbus ≡ true
  pub one_primary : HoldsNowhere is_further_primary pbus
  pub groups : HoldsNowhere repeats_group pbus
  pub lists : HoldsNowhere (lists_others pbus) pbus

-- the first of the rules that is broken, and the PBU
pub data StrictBreaks (pbus : List Pbu) : Rule × ℕ → Type 0 where
  no_primary : has_some is_primary pbus ≡ false → StrictBreaks pbus (V32, 0)
  more_primaries : (n : ℕ) → has_some is_primary pbus ≡ true → HoldsFirstAt is_further_primary pbus n
      → StrictBreaks pbus (V32, n)
  same_group : (n : ℕ) → has_some is_primary pbus ≡ true → HoldsNowhere is_further_primary pbus
      → HoldsFirstAt repeats_group pbus n
      → StrictBreaks pbus (V33, n)
  other_list : (n : ℕ) → has_some is_primary pbus ≡ true → HoldsNowhere is_further_primary pbus
      → HoldsNowhere repeats_group pbus
      → HoldsFirstAt (lists_others pbus) pbus n → StrictBreaks pbus (V34, n)
