-- One step of the loop over frames after another: the tracks, the access unit of a frame, and what is written.
use Rattle.std.proofs.Common.{◌≡◌, ℕ, ◌+◌, List, [], ◌∷◌, ◌++◌, length, take, refl, sym, ap, ◌∙◌, subst, arith, Bool, true, false, Result, Ok, Err, length-append}
use Rattle.std.specs.Prelude.{slice_index_or, if◌then◌else◌}
use Rattle.std.specs.Bool.{OnTrue}
use Rattle.std.specs.List.{AllByRecursion}
use Rattle.std.proofs.Math.Seq.{take-append-add}
use Rattle.std.proofs.lemmas.List.{take-append-le}
use Rattle.apv_base.specs.declared.format.Format.{Format}
use Rattle.apv_base.specs.declared.slot.Slot.{Slot}
use Rattle.apv_base.specs.model.Bits.{be}
use Rattle.apv_base.specs.model.Picture.{frame_picture}
use Rattle.apv_base.specs.model.Run.{sized}
use Rattle.apv_files.specs.SlotView.{SlotView}
use Rattle.apv_files.specs.Loops.{WroteAll, WritesAll}
use Rattle.apv_files.specs.declared.files.Failed.{Failed}
use Rattle.apv_files.specs.declared.files.Failed.TheVariants.{Device, Memory as FilesMemory}
use Rattle.apv_files.specs.declared.files.Mode.TheVariants.{Writing}
use Rattle.apv_files.proofs.Many.{wrote-wrote, wrote-failed}
use Rattle.apv_search.specs.declared.choice.Chosen.{Chosen}
use Rattle.apv_workers.specs.Track.{TrackState, frame_of, levels_of}
use Rattle.apv_encoding.specs.AccessUnit.{Pictures, IsUnitOf, IsChosen}
use Rattle.apv_encoding.specs.Answer.{Inputs, IsEncoded, carried, tile_offsets, tracks_for}
use Rattle.apv_encoding.specs.Settings.{EncoderSettings, primary_header}
use Rattle.apv_tracks.specs.Pictures.{TookPictures}
use Rattle.apv_tracks.specs.States.{AreReady, AreSameButFrames, HaveOwnGrids}
use Rattle.apv_enc.specs.Coding.{AreCoded, HasFrameToCode, IsUnitMade, unit_of_states}
use Rattle.apv_enc.specs.Frames.{AreTracksFor}
use Rattle.apv_enc.proofs.FramesLemmas.{one_out, one_recon, reconstruction-is}
use Rattle.apv_enc.proofs.StatesLemmas.{coded-states, frames-to-code, read-states, sizes-pass}

-- ---- the tracks

-- other samples
pub read-tracks : (e : EncoderSettings) (inputs : Inputs) (format : Format) (payloads : List ℕ) (olds news : List TrackState) → AreSameButFrames olds news → AreTracksFor e inputs format payloads olds → AreTracksFor e inputs format payloads news
read-tracks e inputs format payloads olds news same are = record {
  carries = are.carries;
  whole = are.whole;
  kept = read-states (tracks_for e inputs format) olds news same are.kept;
  passes = are.passes;
  preview_passes = are.preview_passes;
}

-- other levels
pub coded-tracks : (e : EncoderSettings) (inputs : Inputs) (format : Format) (payloads : List ℕ) (olds news : List TrackState) → AreCoded olds news → AreTracksFor e inputs format payloads olds → AreTracksFor e inputs format payloads news
coded-tracks e inputs format payloads olds news same are = record {
  carries = are.carries;
  whole = are.whole;
  kept = coded-states (tracks_for e inputs format) olds news same are.kept;
  passes = are.passes;
  preview_passes = are.preview_passes;
}

-- the header of the first track
pub first-header : (e : EncoderSettings) (inputs : Inputs) (format : Format) (payloads : List ℕ) (states : List TrackState) (other : TrackState) → AreTracksFor e inputs format payloads states → (slice_index_or states 0 other).header ≡ primary_header e format
first-header e inputs format payloads [] other are = absurd are.kept
first-header e inputs format payloads (first ∷ more) other are = are.kept.0.header

-- ---- the access unit of a frame

-- the frames of the tracks can be coded
pub read-to-code : (e : EncoderSettings) (inputs : Inputs) (format : Format) (payloads : List ℕ) (n : ℕ) (old new : Slot → SlotView) (states : List TrackState) → AreTracksFor e inputs format payloads states → HaveOwnGrids states
    → TookPictures e.source (tracks_for e inputs format) n old states new → AllByRecursion HasFrameToCode states
read-to-code e inputs format payloads n old new states are own took =
    frames-to-code e.source (tracks_for e inputs format) (λ slot. took.taken slot ++ []) (λ slot. []) took.pictures states (sizes-pass e format (tile_offsets inputs.offsets) are.passes are.preview_passes)
    (took.frame_at (λ slot. took.taken slot ++ []) (λ slot. []) (λ track in-them. refl)) are.kept took.have own

-- they are those of the pictures that were read
pub read-ready : (e : EncoderSettings) (inputs : Inputs) (format : Format) (payloads : List ℕ) (n : ℕ) (old new : Slot → SlotView) (states : List TrackState) → AreTracksFor e inputs format payloads states
    → (took : TookPictures e.source (tracks_for e inputs format) n old states new) → AreReady (tracks_for e inputs format) took.pictures states
read-ready e inputs format payloads n old new states are took = record { kept = are.kept; frames = took.have }

-- the access unit that is made is that of an encoder
pub unit-encoded : (e : EncoderSettings) (inputs : Inputs) (format : Format) (pictures : Pictures) (payloads : List ℕ) (chosen : Chosen) (states : List TrackState) (bytes : List ℕ) → payloads ≡ carried inputs.payloads
    → IsUnitMade e format.depth (tracks_for e inputs format) payloads pictures chosen states bytes → IsEncoded e inputs format pictures (unit_of_states chosen.qp states bytes)
unit-encoded e inputs format pictures payloads chosen states bytes carries made = record {
  unit_of = subst (λ (p : List ℕ). IsUnitOf e (tracks_for e inputs format) p pictures (unit_of_states chosen.qp states bytes)) carries made.unit_of;
  chosen = subst (λ (p : List ℕ). IsChosen e format.depth (tracks_for e inputs format) p pictures e.rate (unit_of_states chosen.qp states bytes)) carries made.chosen_qp;
  small = made.small;
}

-- the QP of the first track
pub first-qp : (e : EncoderSettings) (inputs : Inputs) (format : Format) (payloads : List ℕ) (states : List TrackState) (other : TrackState) (q : ℕ) → AreTracksFor e inputs format payloads states → AllByRecursion (λ (track : TrackState). track.q ≡ q) states → (slice_index_or states 0 other).q ≡ q
first-qp e inputs format payloads [] other q are at = absurd are.kept
first-qp e inputs format payloads (first ∷ more) other q are at = at.0

-- ---- writes

-- a slot of the same mode is still open for writing, where it was
pub still-writing : (wanted : Bool) (old new : SlotView) → new.mode ≡ old.mode → OnTrue wanted (old.mode ≡ Writing) → OnTrue wanted (new.mode ≡ Writing)
still-writing true old new same open_for = same ∙ open_for
still-writing false old new same open_for = tt

-- after bytes, other ones
writes-then : {T : Type 0} (old mid new : SlotView) (done part : List ℕ) (r : Result T Failed) → WroteAll old done mid → WritesAll {T = T} mid part r new → WritesAll {T = T} old (done ++ part) r new
writes-then old mid new done part (Ok _) w h = wrote-wrote old mid new done part w h
writes-then old mid new done part (Err Device) w h = record {
  count = length done + h.count;
  short = omega (arith, h.short, length-append done part);
  failed = rw (take-append-add done part h.count) (wrote-failed old mid new done (take h.count part) w h.failed);
}
writes-then old mid new done part (Err FilesMemory) w h = record {
  count = length done + h.count;
  short = omega (arith, h.short, length-append done part);
  wrote = rw (take-append-add done part h.count) (wrote-wrote old mid new done (take h.count part) w h.wrote);
}

-- a part of bytes was written in part, so longer ones are
fails-longer : (T U : Type 0) (old new : SlotView) (part rest : List ℕ) (failed : Failed) → WritesAll {T = T} old part (Err failed) new → WritesAll {T = U} old (part ++ rest) (Err failed) new
fails-longer T U old new part rest Device h = record {
  count = h.count;
  short = omega (arith, h.short, length-append part rest);
  failed = rw (take-append-le h.count part rest (omega (arith, h.short))) h.failed;
}
fails-longer T U old new part rest FilesMemory h = record {
  count = h.count;
  short = omega (arith, h.short, length-append part rest);
  wrote = rw (take-append-le h.count part rest (omega (arith, h.short))) h.wrote;
}

-- the size of an access unit was written, and then the unit
pub unit-writes : {T : Type 0} (old mid new : SlotView) (wanted : Bool) (size unit : List ℕ) (r : Result T Failed) → wanted ≡ true → size ≡ be 4 (length unit) → WroteAll old size mid → WritesAll {T = T} mid unit r new → WritesAll {T = T} old (if wanted then sized unit else []) r new
unit-writes {T} old mid new wanted size unit r is e w h =
    subst (λ (b : Bool). WritesAll {T = T} old (if b then sized unit else []) r new) (sym is)
    (subst (λ (xs : List ℕ). WritesAll {T = T} old (xs ++ unit) r new) e (writes-then {T = T} old mid new size unit r w h))

pub size-fails : (T U : Type 0) (old new : SlotView) (wanted : Bool) (size unit : List ℕ) (failed : Failed) → wanted ≡ true → size ≡ be 4 (length unit) → WritesAll {T = T} old size (Err failed) new → WritesAll {T = U} old (if wanted then sized unit else []) (Err failed) new
size-fails T U old new wanted size unit failed is e h =
    subst (λ (b : Bool). WritesAll {T = U} old (if b then sized unit else []) (Err failed) new) (sym is)
    (subst (λ (xs : List ℕ). WritesAll {T = U} old (xs ++ unit) (Err failed) new) e (fails-longer T U old new size unit failed h))

-- what was written to Output is that of the unit
pub out-is : (e : EncoderSettings) (q : ℕ) (states : List TrackState) (given bytes : List ℕ) → given ≡ bytes → (if e.output then sized given else []) ≡ one_out e (unit_of_states q states bytes)
out-is e q states given bytes same = ap (λ (xs : List ℕ). if e.output then sized xs else []) same

-- what was written to Recon too
pub recon-is : (e : EncoderSettings) (inputs : Inputs) (format : Format) (payloads : List ℕ) (wanted : Bool) (states : List TrackState) (other : TrackState) (q : ℕ) (bytes : List ℕ) → AreTracksFor e inputs format payloads states → AllByRecursion (λ (track : TrackState). track.q ≡ q) states → wanted ≡ e.recon
    → (let first = slice_index_or states 0 other in (if wanted then frame_picture (frame_of first) (levels_of first) else []) ≡ one_recon e inputs format (unit_of_states q states bytes))
recon-is e inputs format payloads wanted states other q bytes are at same =
    let first : TrackState = slice_index_or states 0 other in
    ap (λ (b : Bool). if b then frame_picture (frame_of first) (levels_of first) else []) same
    ∙ ap (λ (xs : List ℕ). if e.recon then xs else []) (reconstruction-is e inputs format states q bytes other are.kept (first-qp e inputs format payloads states other q are at))
