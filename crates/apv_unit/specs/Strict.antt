-- What strict judging finds among the PBUs of an access unit.
use Rattle.std.specs.Prelude.{◌≡◌, ℕ, ◌/◌, ◌%◌, ◌^◌, ◌<◌, Bool, List, length, slice_index, true, ◌==◌}
use Rattle.std.specs.List.{filter}
use Rattle.std.specs.Int.{bit_at}
use Rattle.apv_base.specs.declared.rules.Break.{Break}
use Rattle.apv_base.specs.model.Answer.{place_of}
use Rattle.apv_base.specs.model.Pbu.{Pbu, is_frame}
use Rattle.apv_base.specs.model.Body.{with_bodies}
use Rattle.apv_base.specs.model.Unit.{Structure}
use Rattle.apv_base.specs.model.Strict.{HoldsNowhere, has_some, is_primary, is_further_primary}
use Rattle.apv_base.specs.model.Strict.{frame_list, StrictBreaks}

-- a rule of strict judging that the PBUs of the nth access unit break first, at one of them
pub record IsStrictBreak (pbus : List Pbu) (n : ℕ) (broken : Break) : Type 0 where
  pub first : StrictBreaks pbus (broken.rule, broken.place.pbu)
  pub place : broken.place ≡ place_of n broken.place.pbu

-- exactly one PBU is a primary frame
pub record HasOnePrimary (pbus : List Pbu) : Type 0 where
  pub some : has_some is_primary pbus ≡ true
  pub no_further : HoldsNowhere is_further_primary pbus

-- whether a group is in a set of groups, which has a bit for each
abbrev pub has_group : List ℕ → ℕ → Bool
has_group words group = bit_at (slice_index words (group / 64)) (group % 64) == 1

-- the frames among PBUs
abbrev pub frames_of : List Pbu → List Pbu
frames_of pbus = filter (λ frame. is_frame frame.kind) pbus

-- the list of these frames, of which there are fewer than 65,536
pub record IsFrameList (frames : List Pbu) (list : List ℕ) : Type 0 where
  pub few : length frames < 2 ^ 16
  pub bytes : list ≡ frame_list frames

-- the list of the frames of an access unit
abbrev pub IsListOf : List ℕ → List ℕ → Type 0
IsListOf unit list = (pbus : List Pbu) → Structure with_bodies unit pbus → IsFrameList (frames_of pbus) list
