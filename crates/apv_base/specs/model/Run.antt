-- A file of access units: raw_bitstream_access_unit() of the RFC. Its units are the longest prefix of accepted units,
-- whatever accepts a unit; the run says too why no further one follows.
use Rattle.std.specs.Prelude.{◌≡◌, ◌≢◌, ℕ, ◌+◌, ◌<◌, ◌≤◌, List, [], ◌∷◌, ◌++◌, length, take}
use Rattle.std.specs.List.{flat_map}
use Rattle.apv_base.specs.declared.rules.Rule.TheVariants.{V1, V2}
use Rattle.apv_base.specs.declared.rules.UnitEnd.{UnitEnd}
use Rattle.apv_base.specs.declared.rules.UnitEnd.TheVariants.{Broken as BrokenUnit, Limit}
use Rattle.apv_base.specs.declared.rules.Limit.TheVariants.{L1, L2, L3}
use Rattle.apv_base.specs.declared.exits.Exit.{Exit}
use Rattle.apv_base.specs.declared.exits.Exit.TheVariants.{Done, Broken, LimitMet}
use Rattle.apv_base.specs.model.Answer.{place_of}
use Rattle.apv_base.specs.model.Bits.{be, number}

-- the maximum number of bytes of a unit, which is the limit L1
abbrev pub MAX_UNIT : ℕ
MAX_UNIT = 536870912

-- the maximum number of units of a run, which is the limit L3
abbrev pub MAX_UNITS : ℕ
MAX_UNITS = 4294967295

-- ---- sizes

-- a unit as it is in a file: its size in four bytes, and the unit
abbrev pub sized : List ℕ → List ℕ
sized unit = be 4 (length unit) ++ unit

-- a unit of a permitted size is at the start of xs
pub record SizedAt (xs unit after : List ℕ) : Type 0 where
  pub bytes : xs ≡ sized unit ++ after
  pub small : length unit ≤ MAX_UNIT

-- at least four bytes, and the number that they spell: au_size
pub record HasAuSize (xs : List ℕ) (size : ℕ) : Type 0 where
  pub long : 4 ≤ length xs
  pub is : size ≡ number 256 (take 4 xs)

-- why no unit of a permitted size is at the start of xs, after n units, in this order: 1. the file ends; 2. as many
-- units were read as a run has (L3); 3. the size is cut short (V1); 4. it is above the limit (L1); 5. the unit is cut
-- short (V2). A judgement refuses only what passes these.
pub data SizeStops (n : ℕ) (xs : List ℕ) : Exit → Type 0 where
  at_end : xs ≡ [] → SizeStops n xs Done
  full : xs ≢ [] → n ≡ MAX_UNITS → SizeStops n xs (LimitMet L3 (MAX_UNITS + 1))
  no_size : xs ≢ [] → n < MAX_UNITS → length xs < 4
      → SizeStops n xs (Broken (record { rule = V1; place = place_of n 0 }))
  large : (size : ℕ) → n < MAX_UNITS → HasAuSize xs size → MAX_UNIT < size → SizeStops n xs (LimitMet L1 size)
  cut : (size : ℕ) → n < MAX_UNITS → HasAuSize xs size → size ≤ MAX_UNIT → length xs < 4 + size
      → SizeStops n xs (Broken (record { rule = V2; place = place_of n 0 }))

-- ---- units of any judgement

-- How the units of a file are judged. After units that were accepted, Accepts says that a unit is accepted too, and
-- Refuses that bytes are no such unit, with the answer of a run that ends there. bytes are those of a unit.
-- An editor judges by structure (by_structure) and changes accepted units one by one. A decoder of a region accepts a
-- unit whose structure is sound and in which the components of the tiles that meet the region are whole; it is one more
-- value of this type, between by_structure and by_content.
pub record Judgement (A : Type 0) : Type 1 where
  pub bytes : A → List ℕ
  pub Accepts : List A → A → Type 0
  pub Refuses : List A → List ℕ → Exit → Type 0

-- each of the units has a permitted size, and is accepted after those before it
abbrev pub AreAccepted : {A : Type 0} → Judgement A → List A → Type 0
AreAccepted {A} judgement units =
    (before : List A) (unit : A) (later : List A) → units ≡ before ++ unit ∷ later
    → (length (judgement.bytes unit) ≤ MAX_UNIT) × judgement.Accepts before unit

-- the units as they are in a file
abbrev pub spelled : {A : Type 0} → Judgement A → List A → List ℕ
spelled judgement units = flat_map (λ unit. sized (judgement.bytes unit)) units

-- accepted units are at the start of a file, and rest after them
pub record AcceptedPrefix {A : Type 0} (judgement : Judgement A) (file : List ℕ) (units : List A) (rest : List ℕ)
    : Type 0 where
  pub parts : file ≡ spelled judgement units ++ rest
  pub count : length units ≤ MAX_UNITS
  pub accepted : AreAccepted judgement units

-- why no further unit is at the start of rest, after these
pub data StopsAfter {A : Type 0} (judgement : Judgement A) (units : List A) (rest : List ℕ) : Exit → Type 0 where
  by_size : (exit : Exit) → SizeStops (length units) rest exit → StopsAfter judgement units rest exit
  refused : (exit : Exit) (bytes after : List ℕ) → length units < MAX_UNITS → SizedAt rest bytes after
      → judgement.Refuses units bytes exit → StopsAfter judgement units rest exit

-- the units of a file, and what stops a reader after them
pub record HasRun {A : Type 0} (judgement : Judgement A) (file : List ℕ) (units : List A) (exit : Exit) : Type 0 where
  pub rest : List ℕ
  pub prefix : AcceptedPrefix judgement file units rest
  pub stops : StopsAfter judgement units rest exit

-- what a unit that isn't sound makes of a run
abbrev pub exit_of : UnitEnd → Exit
exit_of (BrokenUnit break) = Broken break
exit_of (Limit count) = LimitMet L2 count
