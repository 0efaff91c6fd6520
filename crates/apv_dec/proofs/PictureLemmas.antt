-- The picture of a decoded frame, and the pictures of the frames among PBUs, written one after another.
use Rattle.std.proofs.Common.{◌≡◌, ℕ, ◌+◌, List, [], ◌∷◌, ◌++◌, get_or, refl, sym, ap, ap₂, subst, ◌∙◌, Bool, true, false, append-nil, Option, Result, Ok, Err}
use Rattle.std.specs.Prelude.{if◌then◌else◌, ◌&&◌}
use Rattle.std.specs.List.{flat_map, filter}
use Rattle.std.proofs.lemmas.Grind.{flat_map-append}
use Rattle.apv_base.specs.declared.format.Format.{Format}
use Rattle.apv_base.specs.model.Judge.{DecodedFrame, DecodedUnit, AreDecodedFrames}
use Rattle.apv_base.specs.model.Output.{OutputSettings, is_y4m, has_kind, has_group, is_selected, picture_of}
use Rattle.apv_base.specs.model.Pbu.{is_frame}
use Rattle.apv_base.specs.model.Video.{frame_line}
use Rattle.apv_files.specs.Loops.{WroteAll, WritesAll}
use Rattle.apv_files.specs.declared.files.Failed.{Failed}
use Rattle.apv_files.specs.SlotView.{SlotView}
use Rattle.apv_files.proofs.Many.{wrote-wrote, wrote-none}
use Rattle.apv_frame.proofs.PictureLemmas.{picture-of}
use Rattle.apv_frame.specs.Unit.{IsBufferOf, AreBuffersOf}
use Rattle.apv_grid.specs.Buffer.{Buffer}
use Rattle.apv_unit.proofs.PbusWalk.{Midway}
use Rattle.apv_unit.specs.GivesPbu.{GivesNext}
use Rattle.apv_unit.specs.Pbus.{PbusLeft}
use Rattle.apv_unit.specs.declared.pbus.SoundPbu.{SoundPbu}
use Rattle.apv_dec.specs.Outputs.{picture_if, header_text, selected_pictures, unit_pictures}
use Rattle.apv_dec.proofs.FrameLemmas.{FramesSoFar, NextFrame, frames-start, frames-other, frames-next, frames-end}
use Rattle.apv_dec.proofs.WritingLemmas.{err-then}

-- ---- the pictures of selected frames

-- the picture of a frame where it is selected, or nothing
abbrev pub picture_where : OutputSettings → DecodedFrame → List ℕ
picture_where settings frame = if is_selected settings frame then picture_of settings frame else []

-- those of frames, one after another
abbrev pub pictures_where : OutputSettings → List DecodedFrame → List ℕ
pictures_where settings frames = flat_map (picture_where settings) frames

one-selected : (b : Bool) (f : DecodedFrame → List ℕ) (frame : DecodedFrame) (frames : List DecodedFrame) → flat_map f (if b then frame ∷ frames else frames) ≡ (if b then f frame else []) ++ flat_map f frames
one-selected true f frame frames = refl
one-selected false f frame frames = refl

pub all-selected : (settings : OutputSettings) (frames : List DecodedFrame) → flat_map (picture_of settings) (filter (is_selected settings) frames) ≡ pictures_where settings frames
all-selected settings [] = refl
all-selected settings (frame ∷ frames) =
    one-selected (is_selected settings frame) (picture_of settings) frame (filter (is_selected settings) frames) ∙ ap (λ (xs : List ℕ). picture_where settings frame ++ xs) (all-selected settings frames)

-- what is written of a buffer of a frame
picture-if : (settings : OutputSettings) (selected : Bool) (frame : DecodedFrame) (buffer : Buffer ℕ) → IsBufferOf frame buffer → selected ≡ is_selected settings frame → picture_if settings.form selected buffer ≡ picture_where settings frame
picture-if settings selected frame buffer is e =
    ap₂ (λ (b : Bool) (xs : List ℕ). if b then (if is_y4m settings.form then frame_line else []) ++ xs else []) e (picture-of frame.frame frame.levels buffer is.grid is.samples)

-- ---- along the PBUs

-- of the PBUs that were passed the pictures of the selected frames are written
pub record WrittenSoFar (settings : OutputSettings) (unit : DecodedUnit) (buffers : List (Buffer ℕ)) (now : PbusLeft) (index : ℕ) (old new : SlotView) : Type 0 where
  pub before : List DecodedFrame
  pub at : FramesSoFar unit buffers now index before
  pub wrote : WroteAll old (pictures_where settings before) new

pub start-written : (settings : OutputSettings) (unit : DecodedUnit) (buffers : List (Buffer ℕ)) (now : PbusLeft) (view : SlotView) → Midway unit.pbus [] now → AreDecodedFrames unit.pbus unit.frames → AreBuffersOf unit.frames buffers
    → WrittenSoFar settings unit buffers now 0 view view
start-written settings unit buffers now view at content held = record { before = []; at = frames-start unit buffers now at content held; wrote = wrote-none view }

-- the PBU that was passed isn't a frame
pub other-written : (settings : OutputSettings) (unit : DecodedUnit) (buffers : List (Buffer ℕ)) (now next : PbusLeft) (index : ℕ) (old new : SlotView) (given : SoundPbu) → WrittenSoFar settings unit buffers now index old new
    → GivesNext now given next → is_frame given.kind ≡ false → WrittenSoFar settings unit buffers next index old new
other-written settings unit buffers now next index old new given so steps not = record { before = so.before; at = frames-other unit buffers now next index given so.before so.at steps not; wrote = so.wrote }

pictures-push : (settings : OutputSettings) (frames : List DecodedFrame) (frame : DecodedFrame) → pictures_where settings frames ++ picture_where settings frame ≡ pictures_where settings (frames ++ frame ∷ [])
pictures-push settings frames frame =
    sym (flat_map-append (picture_where settings) frames (frame ∷ []) ∙ ap (λ (xs : List ℕ). pictures_where settings frames ++ xs) (append-nil (picture_where settings frame)))

-- the pictures of the unit, around that of the next frame
pictures-split : (settings : OutputSettings) (unit : DecodedUnit) (before more : List DecodedFrame) (frame : DecodedFrame) (bytes : List ℕ) → unit.frames ≡ before ++ frame ∷ more → bytes ≡ picture_where settings frame
    → selected_pictures settings unit ≡ pictures_where settings before ++ (bytes ++ pictures_where settings more)
pictures-split settings unit before more frame bytes parts is =
    all-selected settings unit.frames ∙ ap (pictures_where settings) parts ∙ flat_map-append (picture_where settings) before (frame ∷ more)
    ∙ ap (λ (xs : List ℕ). pictures_where settings before ++ (xs ++ pictures_where settings more)) (sym is)

-- all PBUs were passed
pub all-written : (settings : OutputSettings) (unit : DecodedUnit) (buffers : List (Buffer ℕ)) (now : PbusLeft) (index : ℕ) (old new : SlotView) → now.bytes ≡ [] → WrittenSoFar settings unit buffers now index old new
    → WroteAll old (selected_pictures settings unit) new
all-written settings unit buffers now index old new end so =
    subst (λ (xs : List ℕ). WroteAll old xs new) (sym (all-selected settings unit.frames ∙ ap (pictures_where settings) (frames-end unit buffers now index so.before end so.at))) so.wrote

-- the frame of a PBU is selected
abbrev pub Chosen : OutputSettings → Bool → SoundPbu → Type 0
Chosen settings selected given = selected ≡ (has_kind settings.select given.kind && has_group settings.group given.group)

pub chosen-frame : (settings : OutputSettings) (selected : Bool) (given : SoundPbu) (frame : DecodedFrame) → given.kind ≡ frame.kind → given.group ≡ frame.group → Chosen settings selected given → selected ≡ is_selected settings frame
chosen-frame settings selected given frame k g chosen = chosen ∙ ap₂ (λ (kind group : ℕ). has_kind settings.select kind && has_group settings.group group) k g

-- the picture that is written is that of the next frame
next-picture : (settings : OutputSettings) (unit : DecodedUnit) (buffers : List (Buffer ℕ)) (next : PbusLeft) (index : ℕ) (given : SoundPbu) (before : List DecodedFrame) (f : NextFrame unit buffers next index given before) (selected : Bool) (buffer : Buffer ℕ)
    → Chosen settings selected given → buffer ≡ f.buffer → picture_if settings.form selected buffer ≡ picture_where settings f.frame
next-picture settings unit buffers next index given before f selected buffer chosen same =
    ap (λ (b : Buffer ℕ). picture_if settings.form selected b) same
    ∙ picture-if settings selected f.frame f.buffer f.is (chosen-frame settings selected given f.frame f.kind f.group chosen)

-- the buffer is the one at index
abbrev pub IsAtIndex : List (Buffer ℕ) → ℕ → Buffer ℕ → Type 0
IsAtIndex buffers index buffer = (b : Buffer ℕ) → ((default : Buffer ℕ) → get_or buffers index default ≡ b) → buffer ≡ b

-- a write failed while the picture of the next frame was written
pub frame-failed : (T U : Type 0) (settings : OutputSettings) (unit : DecodedUnit) (buffers : List (Buffer ℕ)) (now next : PbusLeft) (index : ℕ) (old mid new : SlotView) (given : SoundPbu) → WrittenSoFar settings unit buffers now index old mid
    → GivesNext now given next → is_frame given.kind ≡ true → (selected : Bool) (buffer : Buffer ℕ) (failed : Failed) → Chosen settings selected given → IsAtIndex buffers index buffer
    → WritesAll {T = T} mid (picture_if settings.form selected buffer) (Err failed) new → WritesAll {T = U} old (selected_pictures settings unit) (Err failed) new
frame-failed T U settings unit buffers now next index old mid new given so steps is selected buffer failed chosen same wrote =
    let f = frames-next unit buffers now next index given so.before so.at steps is in
    let picture = next-picture settings unit buffers next index given so.before f selected buffer chosen (same f.buffer f.item) in
    err-then T U old mid new (pictures_where settings so.before) (picture_if settings.form selected buffer) (pictures_where settings f.later) (selected_pictures settings unit) failed
    (pictures-split settings unit so.before f.later f.frame (picture_if settings.form selected buffer) f.parts picture) so.wrote wrote

-- the picture of the next frame was written
pub frame-done : (settings : OutputSettings) (unit : DecodedUnit) (buffers : List (Buffer ℕ)) (now next : PbusLeft) (index after : ℕ) (old mid new : SlotView) (given : SoundPbu) → WrittenSoFar settings unit buffers now index old mid
    → GivesNext now given next → is_frame given.kind ≡ true → (selected : Bool) (buffer : Buffer ℕ) → Chosen settings selected given → IsAtIndex buffers index buffer
    → after ≡ index + 1 → WroteAll mid (picture_if settings.form selected buffer) new → WrittenSoFar settings unit buffers next after old new
frame-done settings unit buffers now next index after old mid new given so steps is selected buffer chosen same e wrote =
    let f = frames-next unit buffers now next index given so.before so.at steps is in
    let picture = next-picture settings unit buffers next index given so.before f selected buffer chosen (same f.buffer f.item) in
    record {
      before = so.before ++ f.frame ∷ [];
      at = f.after after e;
      wrote = subst (λ (xs : List ℕ). WroteAll old xs new) (pictures-push settings so.before f.frame)
          (wrote-wrote old mid new (pictures_where settings so.before) (picture_where settings f.frame) so.wrote (subst (λ (xs : List ℕ). WroteAll mid xs new) picture wrote));
    }

-- the pictures of the frames of a unit are written after its header line
then-written : (T : Type 0) (old mid new : SlotView) (header bytes : List ℕ) (result : Result T Failed) → WroteAll old header mid → WritesAll {T = T} mid bytes result new → WritesAll {T = T} old (header ++ bytes) result new
then-written T old mid new header bytes (Ok value) a w = wrote-wrote old mid new header bytes a w
then-written T old mid new header bytes (Err failed) a w = err-then T T old mid new header bytes [] (header ++ bytes) failed (ap (λ (xs : List ℕ). header ++ xs) (sym (append-nil bytes))) a w

if-wanted : (wanted : Bool) (bytes : List ℕ) → wanted ≡ true → bytes ≡ (if wanted then bytes else [])
if-wanted true bytes e = refl
if-wanted false bytes e = absurd (let no : ⊥ = cc in no)

-- where pictures are wanted
pub pictures-after : (T : Type 0) (settings : OutputSettings) (header : Option Format) (unit : DecodedUnit) (old mid new : SlotView) (result : Result T Failed) → settings.output ≡ true → WroteAll old (header_text settings header) mid
    → WritesAll {T = T} mid (selected_pictures settings unit) result new → WritesAll {T = T} old (unit_pictures settings header unit) result new
pictures-after T settings header unit old mid new result wanted a w =
    let bytes : List ℕ = header_text settings header ++ selected_pictures settings unit in
    subst (λ (xs : List ℕ). WritesAll {T = T} old xs result new) (if-wanted settings.output bytes wanted) (then-written T old mid new (header_text settings header) (selected_pictures settings unit) result a w)
