-- The frames of an access unit along its PBUs, and how many there are.
use Rattle.std.proofs.Common.{◌≡◌, ℕ, suc, ◌+◌, ◌-◌, ◌<◌, ◌≤◌, List, [], ◌∷◌, ◌++◌, length, take, drop, get_or, refl, sym, ap, subst, ◌∙◌, arith, Bool, true, false, append_assoc, append-nil, length-append, Option, Ok, nat_lt, inl, inr}
use Rattle.std.proofs.lemmas.Bool.{ltb-false}
use Rattle.std.proofs.lemmas.List.{append_cancel_left, drop-drop, length-drop, get_or-drop}
use Rattle.apv_base.specs.declared.rules.Rule.{Rule}
use Rattle.apv_base.specs.declared.rules.Rule.TheVariants.{V4, V6, V7}
use Rattle.apv_base.specs.model.Bits.{number}
use Rattle.apv_base.specs.model.Body.{with_bodies}
use Rattle.apv_base.specs.model.Judge.{DecodedFrame, DecodedUnit, AreDecodedFrames, none, other, decoded}
use Rattle.apv_base.specs.model.Pbu.{Pbu, is_frame, check_pbu_size}
use Rattle.apv_base.specs.model.Run.{MAX_UNIT}
use Rattle.apv_base.specs.model.Sequence.{Sequence}
use Rattle.apv_base.specs.model.Table.{Table, done, field, walk, with_values, no_check, must_be_zero}
use Rattle.apv_base.specs.model.Unit.{PbuAt, HasPbuHeader}
use Rattle.apv_base.proofs.TableLemmas.{chosen, pair_of-Ok, unless_fault-Ok, with_values-Ok}
use Rattle.apv_frame.specs.Unit.{IsBufferOf, AreBuffersOf, none as no_buffers, more as more_buffers}
use Rattle.apv_grid.specs.Buffer.{Buffer}
use Rattle.apv_unit.proofs.PbusWalk.{Midway, midway-next, midway-end}
use Rattle.apv_unit.specs.GivesPbu.{GivesNext}
use Rattle.apv_unit.specs.Pbus.{PbusLeft}
use Rattle.apv_unit.specs.declared.pbus.SoundPbu.{SoundPbu}
use Rattle.apv_dec.specs.Judged.{IsJudged}

-- ---- along the PBUs

-- the first frame among PBUs, in the first of them and in the first buffer
record FirstFrame (pbu : Pbu) (pbus : List Pbu) (frames : List DecodedFrame) (buffers : List (Buffer ℕ)) : Type 0 where
  pub frame : DecodedFrame
  pub buffer : Buffer ℕ
  pub later : List DecodedFrame
  pub later_buffers : List (Buffer ℕ)
  pub parts : frames ≡ frame ∷ later
  pub parts_buffers : buffers ≡ buffer ∷ later_buffers
  pub kind : pbu.kind ≡ frame.kind
  pub group : pbu.group ≡ frame.group
  pub is : IsBufferOf frame buffer
  pub content : AreDecodedFrames pbus later
  pub held : AreBuffersOf later later_buffers

first-frame : (pbu : Pbu) (pbus : List Pbu) (frames : List DecodedFrame) (buffers : List (Buffer ℕ)) → is_frame pbu.kind ≡ true → AreDecodedFrames (pbu ∷ pbus) frames → AreBuffersOf frames buffers → FirstFrame pbu pbus frames buffers
first-frame pbu pbus frames buffers is (other _ _ fs not all) held = absurd (let differ : true ≡ false = sym is ∙ not in let nothing : ⊥ = cc in nothing)
first-frame pbu pbus frames buffers is (decoded _ _ f fs e here all) (more_buffers _ _ b bs one held) =
    record { frame = f; buffer = b; later = fs; later_buffers = bs; parts = refl; parts_buffers = refl; kind = here.kind; group = here.group; is = one; content = all; held = held }

other-next : (pbu : Pbu) (pbus : List Pbu) (frames : List DecodedFrame) → is_frame pbu.kind ≡ false → AreDecodedFrames (pbu ∷ pbus) frames → AreDecodedFrames pbus frames
other-next pbu pbus frames not (other _ _ fs e all) = all
other-next pbu pbus frames not (decoded _ _ f fs is here all) = absurd (let differ : true ≡ false = sym is ∙ not in let nothing : ⊥ = cc in nothing)

-- of the PBUs that were passed these are the frames, and the buffers from index on are those of the other frames
pub record FramesSoFar (unit : DecodedUnit) (buffers : List (Buffer ℕ)) (now : PbusLeft) (index : ℕ) (before : List DecodedFrame) : Type 0 where
  pub passed : List Pbu
  pub midway : Midway unit.pbus passed now
  pub later : List DecodedFrame
  pub parts : unit.frames ≡ before ++ later
  pub content : (others : List Pbu) → unit.pbus ≡ passed ++ others → AreDecodedFrames others later
  pub held : AreBuffersOf later (drop index buffers)

pub frames-start : (unit : DecodedUnit) (buffers : List (Buffer ℕ)) (now : PbusLeft) → Midway unit.pbus [] now → AreDecodedFrames unit.pbus unit.frames → AreBuffersOf unit.frames buffers → FramesSoFar unit buffers now 0 []
frames-start unit buffers now at content held = record {
  passed = [];
  midway = at;
  later = unit.frames;
  parts = refl;
  content = λ others e. subst (λ (ps : List Pbu). AreDecodedFrames ps unit.frames) e content;
  held = held;
}

-- what is left after the PBU that was passed
left-after : (pbus passed later others : List Pbu) (pbu : Pbu) → pbus ≡ passed ++ pbu ∷ later → pbus ≡ (passed ++ pbu ∷ []) ++ others → later ≡ others
left-after pbus passed later others pbu e f = append_cancel_left (passed ++ pbu ∷ []) later others (append_assoc passed (pbu ∷ []) later ∙ sym e ∙ f)

-- the PBU that was passed isn't a frame
pub frames-other : (unit : DecodedUnit) (buffers : List (Buffer ℕ)) (now next : PbusLeft) (index : ℕ) (given : SoundPbu) (before : List DecodedFrame) → FramesSoFar unit buffers now index before
    → GivesNext now given next → is_frame given.kind ≡ false → FramesSoFar unit buffers next index before
frames-other unit buffers now next index given before so steps not =
    let step = midway-next unit.pbus so.passed now next given so.midway steps in
    let all : AreDecodedFrames step.later so.later = other-next step.pbu step.later so.later (ap is_frame (sym step.is.kind) ∙ not) (so.content (step.pbu ∷ step.later) step.parts) in
    record {
      passed = so.passed ++ step.pbu ∷ [];
      midway = step.midway;
      later = so.later;
      parts = so.parts;
      content = λ others e. subst (λ (ps : List Pbu). AreDecodedFrames ps so.later) (left-after unit.pbus so.passed step.later others step.pbu step.parts e) all;
      held = so.held;
    }

-- the place of the next buffer
record AtNext (buffers : List (Buffer ℕ)) (index : ℕ) (buffer : Buffer ℕ) (later : List (Buffer ℕ)) : Type 0 where
  pub within : index < length buffers
  pub after : drop (index + 1) buffers ≡ later
  pub item : (default : Buffer ℕ) → get_or buffers index default ≡ buffer

at-next : (buffers : List (Buffer ℕ)) (index : ℕ) (buffer : Buffer ℕ) (later : List (Buffer ℕ)) → drop index buffers ≡ buffer ∷ later → AtNext buffers index buffer later
at-next buffers index buffer later e = record {
  within = omega (arith, length-drop index buffers, ap (length {A = Buffer ℕ}) e);
  after = sym (drop-drop 1 index buffers) ∙ ap (λ (xs : List (Buffer ℕ)). drop 1 xs) e;
  item = λ default. (let same : index + 0 ≡ index = omega arith in
      ap (λ (k : ℕ). get_or buffers k default) (sym same) ∙ sym (get_or-drop index buffers 0 default) ∙ ap (λ (xs : List (Buffer ℕ)). get_or xs 0 default) e);
}

-- the next frame, which is in the PBU that comes next and in the buffer at index
pub record NextFrame (unit : DecodedUnit) (buffers : List (Buffer ℕ)) (next : PbusLeft) (index : ℕ) (given : SoundPbu) (before : List DecodedFrame) : Type 0 where
  pub frame : DecodedFrame
  pub buffer : Buffer ℕ
  pub later : List DecodedFrame
  pub parts : unit.frames ≡ before ++ frame ∷ later
  pub kind : given.kind ≡ frame.kind
  pub group : given.group ≡ frame.group
  pub is : IsBufferOf frame buffer
  pub within : index < length buffers
  pub item : (default : Buffer ℕ) → get_or buffers index default ≡ buffer
  pub after : (n : ℕ) → n ≡ index + 1 → FramesSoFar unit buffers next n (before ++ frame ∷ [])

pub frames-next : (unit : DecodedUnit) (buffers : List (Buffer ℕ)) (now next : PbusLeft) (index : ℕ) (given : SoundPbu) (before : List DecodedFrame) → FramesSoFar unit buffers now index before
    → GivesNext now given next → is_frame given.kind ≡ true → NextFrame unit buffers next index given before
frames-next unit buffers now next index given before so steps is =
    let step = midway-next unit.pbus so.passed now next given so.midway steps in
    let f = first-frame step.pbu step.later so.later (drop index buffers) (ap is_frame (sym step.is.kind) ∙ is) (so.content (step.pbu ∷ step.later) step.parts) so.held in
    let place = at-next buffers index f.buffer f.later_buffers f.parts_buffers in
    record {
      frame = f.frame;
      buffer = f.buffer;
      later = f.later;
      parts = so.parts ∙ ap (λ (fs : List DecodedFrame). before ++ fs) f.parts;
      kind = step.is.kind ∙ f.kind;
      group = step.is.group ∙ f.group;
      is = f.is;
      within = place.within;
      item = place.item;
      after = λ n e. record {
        passed = so.passed ++ step.pbu ∷ [];
        midway = step.midway;
        later = f.later;
        parts = so.parts ∙ ap (λ (fs : List DecodedFrame). before ++ fs) f.parts ∙ sym (append_assoc before (f.frame ∷ []) f.later);
        content = λ others g. subst (λ (ps : List Pbu). AreDecodedFrames ps f.later) (left-after unit.pbus so.passed step.later others step.pbu step.parts g) f.content;
        held = subst (λ (bs : List (Buffer ℕ)). AreBuffersOf f.later bs) (sym (ap (λ (k : ℕ). drop k buffers) e ∙ place.after)) f.held;
      };
    }

no-frames : (frames : List DecodedFrame) → AreDecodedFrames [] frames → frames ≡ []
no-frames frames none = refl

-- all PBUs were passed
pub frames-end : (unit : DecodedUnit) (buffers : List (Buffer ℕ)) (now : PbusLeft) (index : ℕ) (before : List DecodedFrame) → now.bytes ≡ [] → FramesSoFar unit buffers now index before → unit.frames ≡ before
frames-end unit buffers now index before end so =
    let ends : AreDecodedFrames [] so.later = so.content [] (midway-end unit.pbus so.passed now so.midway end ∙ sym (append-nil so.passed)) in
    so.parts ∙ ap (λ (fs : List DecodedFrame). before ++ fs) (no-frames so.later ends) ∙ append-nil before

-- ---- how many frames there are

-- a field of a walk, and what is walked after it
field-taken : {E : Type 0} (r n : ℕ) (short : E) (check : ℕ → ℕ → Option E) (next : ℕ → Table E) (xs values rest : List ℕ) → walk r (field n short check next) xs ≡ Ok (values, rest)
    → (n ≤ length xs) × (later : List ℕ) × (walk r (next (number r (take n xs))) (drop n xs) ≡ Ok (later, rest))
unfolding walk
field-taken r n short check next xs values rest e = elim (chosen (nat_lt (length xs) n) _ _ _ e) [
  | inl t ↦ absurd (let no : ⊥ = cc (t.1) in no)
  | inr t ↦ (let value : ℕ = number r (take n xs) in
      let sound = unless_fault-Ok (check value (length xs - n)) (with_values (value ∷ []) (walk r (next value) (drop n xs))) (values, rest) t.1 in
      let b = with_values-Ok (value ∷ []) (walk r (next value) (drop n xs)) values rest sound.1 in
      (ltb-false (length xs) n t.0, b.later, b.is))
]

-- a walk over no field takes nothing
done-takes : (r : ℕ) (xs values rest : List ℕ) → walk {E = Rule} r done xs ≡ Ok (values, rest) → xs ≡ rest
unfolding walk
done-takes r xs values rest e = (pair_of-Ok e).1

-- the fields of a PBU's header after its size, its type, its group and all of them
abbrev after_size : ℕ → Table Rule
after_size size = field 1 V6 no_check (λ kind. field 2 V6 no_check (λ group. field 1 V6 (must_be_zero V7) (λ reserved. done)))

abbrev after_kind : ℕ → Table Rule
after_kind kind = field 2 V6 no_check (λ group. field 1 V6 (must_be_zero V7) (λ reserved. done))

abbrev after_group : ℕ → Table Rule
after_group group = field 1 V6 (must_be_zero V7) (λ reserved. done)

abbrev after_header : ℕ → Table Rule
after_header reserved = done

-- a PBU takes bytes
pbu-takes : (xs : List ℕ) (kind group : ℕ) (body after : List ℕ) → HasPbuHeader xs kind group body after → length after < length xs
pbu-takes xs kind group body after e =
    let values : List ℕ = (length body + 4) ∷ kind ∷ group ∷ 0 ∷ [] in
    let a = field-taken 256 4 V4 check_pbu_size after_size xs values (body ++ after) e in
    let b = field-taken 256 1 V6 no_check after_kind (drop 4 xs) a.1 (body ++ after) a.2 in
    let c = field-taken 256 2 V6 no_check after_group (drop 1 (drop 4 xs)) b.1 (body ++ after) b.2 in
    let d = field-taken 256 1 V6 (must_be_zero V7) after_header (drop 2 (drop 1 (drop 4 xs))) c.1 (body ++ after) c.2 in
    let end : drop 1 (drop 2 (drop 1 (drop 4 xs))) ≡ body ++ after = done-takes 256 (drop 1 (drop 2 (drop 1 (drop 4 xs)))) d.1 (body ++ after) d.2 in
    let long : 4 ≤ length xs = a.0 in
    omega (arith, long, ap (length {A = ℕ}) end, length-append body after, length-drop 1 (drop 2 (drop 1 (drop 4 xs))), length-drop 2 (drop 1 (drop 4 xs)), length-drop 1 (drop 4 xs), length-drop 4 xs)

pbus-few : (xs rest : List ℕ) (pbus : List Pbu) → Sequence (PbuAt with_bodies) xs pbus rest → length pbus ≤ length xs
pbus-few xs rest [] s = omega arith
pbus-few xs rest (pbu ∷ pbus) s = omega (arith, pbu-takes xs pbu.kind pbu.group pbu.body s.0 s.1.header, pbus-few s.0 rest pbus s.2)

frames-few : (pbus : List Pbu) (frames : List DecodedFrame) → AreDecodedFrames pbus frames → length frames ≤ length pbus
frames-few pbus frames none = omega arith
frames-few pbus frames (other _ ps fs e all) = omega (arith, frames-few ps fs all)
frames-few pbus frames (decoded _ ps _ fs is here all) = omega (arith, frames-few ps fs all)

buffers-same : (frames : List DecodedFrame) (buffers : List (Buffer ℕ)) → AreBuffersOf frames buffers → length frames ≡ length buffers
buffers-same frames buffers no_buffers = refl
buffers-same frames buffers (more_buffers _ fs _ bs one all) = ap suc (buffers-same fs bs all)

pub buffers-few : (strict : Bool) (bytes : List ℕ) (buffers : List (Buffer ℕ)) (unit : DecodedUnit) → length bytes ≤ MAX_UNIT → IsJudged strict bytes buffers unit → length buffers ≤ MAX_UNIT
buffers-few strict bytes buffers unit small is =
    omega (arith, small, length-drop 4 bytes, pbus-few (drop 4 bytes) [] unit.pbus is.rules.structure.sequence, frames-few unit.pbus unit.frames is.content, buffers-same unit.frames buffers is.held)

-- the next frame has a buffer, and the buffers are few
pub frame-within : (strict : Bool) (bytes : List ℕ) (buffers : List (Buffer ℕ)) (now next : PbusLeft) (index : ℕ) (given : SoundPbu) → length bytes ≤ MAX_UNIT
    → (unit : DecodedUnit) × IsJudged strict bytes buffers unit → ((unit : DecodedUnit) → IsJudged strict bytes buffers unit → (before : List DecodedFrame) × FramesSoFar unit buffers now index before)
    → GivesNext now given next → is_frame given.kind ≡ true → (index < length buffers) × (length buffers ≤ MAX_UNIT)
frame-within strict bytes buffers now next index given small judged all steps is =
    let unit = judged.0 in
    let so = all unit judged.1 in
    let f = frames-next unit buffers now next index given so.0 so.1 steps is in
    (f.within, buffers-few strict bytes buffers unit small judged.1)
