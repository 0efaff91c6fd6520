-- Laws of the runs of a file of access units.
use Rattle.std.specs.Prelude.{◌≡◌, ℕ, ◌≤◌, List, ◌++◌, length}
use Rattle.apv_base.specs.declared.exits.Exit.{Exit}
use Rattle.apv_base.specs.laws.Answer.{HasOneAnswer, HasSomeAnswer}
use Rattle.apv_base.specs.model.Bits.{AreBytes}
use Rattle.apv_base.specs.model.Run.{MAX_UNIT, Judgement, AreAccepted, AcceptedPrefix, HasRun}

-- the bytes are an accepted unit, after these
abbrev pub IsUnit : {A : Type 0} → Judgement A → List A → List ℕ → A → Type 0
IsUnit judgement before bytes unit = (judgement.bytes unit ≡ bytes) × judgement.Accepts before unit

-- after accepted units, bytes are one unit at most, or refused with one answer at most, and not both
abbrev pub JudgesOnce : {A : Type 0} → Judgement A → Type 0
JudgesOnce {A} judgement =
    (before : List A) (bytes : List ℕ) → AreAccepted judgement before
    → HasOneAnswer (IsUnit judgement before bytes) (judgement.Refuses before bytes)

-- after accepted units, bytes of a permitted size are a unit or refused
abbrev pub JudgesAll : {A : Type 0} → Judgement A → Type 0
JudgesAll {A} judgement =
    (before : List A) (bytes : List ℕ) → AreAccepted judgement before → AreBytes bytes → length bytes ≤ MAX_UNIT
    → HasSomeAnswer (IsUnit judgement before bytes) (judgement.Refuses before bytes)

-- a file has one run at most, and its units are the longest list of accepted units at the start of the file: each other
-- one is a prefix of it
pub record HasOneRun {A : Type 0} (judgement : Judgement A) (file : List ℕ) : Type 0 where
  pub one : (us vs : List A) (e f : Exit) → HasRun judgement file us e → HasRun judgement file vs f
      → (us ≡ vs) × (e ≡ f)
  pub longest : (units others : List A) (exit : Exit) (rest : List ℕ) → HasRun judgement file units exit
      → AcceptedPrefix judgement file others rest
      → (more : List A) × (units ≡ others ++ more)

-- a file has a run: its units, and what stops a reader after them
abbrev pub HasSomeRun : {A : Type 0} → Judgement A → List ℕ → Type 0
HasSomeRun {A} judgement file = (units : List A) × (exit : Exit) × HasRun judgement file units exit

-- a judgement that judges in one way gives each file one run at most, and one that judges all bytes gives each file of
-- bytes a run
pub record GivesRuns {A : Type 0} (judgement : Judgement A) : Type 0 where
  pub one : (file : List ℕ) → HasOneRun judgement file
  pub some : (file : List ℕ) → AreBytes file → HasSomeRun judgement file
