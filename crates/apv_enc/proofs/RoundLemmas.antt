-- One round of the loop over frames: a picture of each track is read, and the access unit is made and written.
use Rattle.std.proofs.Common.{◌≡◌, ℕ, ℤ, ◌+◌, ◌<◌, ◌≤◌, List, [], length, sym, ap, ◌∙◌, subst, Option, Bool}
use Rattle.std.specs.Prelude.{slice_index_or, if◌then◌else◌}
use Rattle.std.specs.List.{AllByRecursion}
use Rattle.apv_base.specs.declared.format.Format.{Format}
use Rattle.apv_base.specs.declared.header.FrameHeader.{FrameHeader}
use Rattle.apv_base.specs.declared.slot.Slot.{Slot}
use Rattle.apv_base.specs.declared.slot.Slot.TheVariants.{Output, Recon}
use Rattle.apv_base.specs.model.Header.{grid_of}
use Rattle.apv_base.specs.model.Picture.{frame_picture}
use Rattle.apv_base.specs.model.Run.{MAX_UNIT, MAX_UNITS, sized}
use Rattle.apv_files.specs.SlotView.{SlotView, OnlyAt}
use Rattle.apv_files.specs.Loops.{WroteAll}
use Rattle.apv_grid.specs.Buffer.{Buffer}
use Rattle.apv_search.specs.declared.choice.Chosen.{Chosen}
use Rattle.apv_words.specs.Encoder.{HasEncBounds}
use Rattle.apv_words.specs.declared.encoder.EncSettings.{EncSettings}
use Rattle.apv_workers.specs.Track.{TrackState, frame_of, levels_of}
use Rattle.apv_encoding.specs.AccessUnit.{IsUnitOf, Pictures}
use Rattle.apv_encoding.specs.Answer.{Inputs, IsEncoded, carried, primary_levels, tile_offsets, tracks_for}
use Rattle.apv_encoding.specs.DecodedUnit.{decoded_frame}
use Rattle.apv_encoding.specs.Settings.{EncoderSettings, Track, primary_header, primary_track, tracks_of}
use Rattle.apv_tracks.proofs.HeaderLemmas.{plain-sound}
use Rattle.apv_tracks.specs.Kinds.{OnlyAtTracks, kinds_of}
use Rattle.apv_tracks.specs.Pictures.{TookPictures}
use Rattle.apv_tracks.specs.Plain.{plain_settings}
use Rattle.apv_tracks.specs.States.{AreReady, AreSameButFrames, AreStatesOf, HaveOwnGrids}
use Rattle.apv_enc.specs.Added.{HasFirstFrame}
use Rattle.apv_enc.specs.Coding.{AreCoded, HasFrameToCode, HasPermittedQps, IsUnitMade, unit_of_states}
use Rattle.apv_enc.specs.Frames.{AreTracksFor}
use Rattle.apv_enc.specs.Check.{IsCheckOf}
use Rattle.apv_enc.specs.declared.check.Check.{Check}
use Rattle.apv_enc.specs.Steps.{HasReconGrid}
use Rattle.apv_enc.proofs.LoopLemmas.{none-so-far, SoFar, FrameRead, FrameCoded, UnitWritten, frame-coded, frame-written, unit-written}
use Rattle.apv_enc.proofs.OwnUnitLemmas.{HasValidUnits, unit-first}
use Rattle.apv_enc.proofs.SlotsLemmas.{output-stays, recon-stays}
use Rattle.apv_enc.proofs.StatesLemmas.{permitted-qps, states-count}
use Rattle.apv_enc.proofs.StepLemmas.{coded-tracks, first-header, out-is, read-ready, read-to-code, read-tracks, recon-is, unit-encoded}

-- n frames were read and coded and their outputs written, and the tracks and the frame of the reconstruction serve the
-- next one
pub record GoesOn (s : EncSettings) (inputs : Inputs) (format : Format) (payloads : List ℕ) (old now : Slot → SlotView) (states : List TrackState) (frame : Option (Buffer ℕ)) (n : ℕ) : Type 0 where
  pub so_far : SoFar s inputs format old now n
  pub tracks : AreTracksFor (plain_settings s) inputs format payloads states
  pub recon : HasReconGrid frame (grid_of (primary_header (plain_settings s) format))

-- what a call that reads a frame says of it, and one that makes its access unit
abbrev pub Takes : EncSettings → ℕ → (Slot → SlotView) → List TrackState → List TrackState → (Slot → SlotView) → Type 0
Takes s n mid before states new =
    (format : Format) (offset : ℕ → ℤ) → AreStatesOf (tracks_of (plain_settings s) format offset) before → TookPictures (plain_settings s).source (tracks_of (plain_settings s) format offset) n mid states new

abbrev pub Makes : EncSettings → List ℕ → List TrackState → Chosen → List TrackState → List ℕ → Type 0
Makes s payloads before chosen states bytes =
    (format : Format) (offset : ℕ → ℤ) (pictures : Pictures) → AreReady (tracks_of (plain_settings s) format offset) pictures before
    → IsUnitMade (plain_settings s) format.depth (tracks_of (plain_settings s) format offset) payloads pictures chosen states bytes

-- and one more frame was read into the tracks
pub record ReadNext (s : EncSettings) (inputs : Inputs) (format : Format) (payloads : List ℕ) (old mid new : Slot → SlotView) (states : List TrackState) (frame : Option (Buffer ℕ)) (n : ℕ) : Type 0 where
  pub read : FrameRead s inputs format old mid new n states
  pub tracks : AreTracksFor (plain_settings s) inputs format payloads states
  pub recon : HasReconGrid frame (grid_of (primary_header (plain_settings s) format))

-- and its access unit was made
pub record MadeNext (s : EncSettings) (inputs : Inputs) (format : Format) (payloads : List ℕ) (old new : Slot → SlotView) (chosen : Chosen) (states : List TrackState) (frame : Option (Buffer ℕ)) (bytes : List ℕ) (n : ℕ) : Type 0 where
  pub coded : FrameCoded s inputs format old new n (unit_of_states chosen.qp states bytes)
  pub tracks : AreTracksFor (plain_settings s) inputs format payloads states
  pub recon : HasReconGrid frame (grid_of (primary_header (plain_settings s) format))
  pub at_qp : AllByRecursion (λ (track : TrackState). track.q ≡ chosen.qp) states
  pub few : n < MAX_UNITS
  pub pictures : Pictures
  pub unit_of : IsUnitOf (plain_settings s) (tracks_for (plain_settings s) inputs format) (carried inputs.payloads) pictures (unit_of_states chosen.qp states bytes)
  pub small : length bytes ≤ MAX_UNIT
  pub size : chosen.size ≡ length bytes

-- a check of no access unit
pub start-check : (s : EncSettings) (inputs : Inputs) (format : Format) (old : Slot → SlotView) (check : Option Check) → ((primary : Track) → IsCheckOf s.generate primary [] check)
    → IsCheckOf s.generate (primary_track (plain_settings s) format (tile_offsets inputs.offsets)) (none-so-far s inputs format old).units check
unfolding none-so-far
start-check s inputs format old check none = none (primary_track (plain_settings s) format (tile_offsets inputs.offsets))

module _ (s : EncSettings) (inputs : Inputs) (format : Format) (payloads : List ℕ) (old : Slot → SlotView) where
  abbrev settings : EncoderSettings
  settings = plain_settings s

  abbrev offset : ℕ → ℤ
  offset = tile_offsets inputs.offsets

  -- the outputs are open as they were
  pub output-mode : (mid new : Slot → SlotView) (n : ℕ) → SoFar s inputs format old mid n → OnlyAtTracks s mid new → (new Output).mode ≡ (old Output).mode
  output-mode mid new n p elsewhere = ap (λ (v : SlotView). v.mode) (output-stays s mid new elsewhere) ∙ ap (λ (v : SlotView). v.mode) p.written.output

  pub recon-mode : (mid read new : Slot → SlotView) (n : ℕ) → SoFar s inputs format old mid n → OnlyAtTracks s mid read → OnlyAt Output read new → (new Recon).mode ≡ (old Recon).mode
  recon-mode mid read new n p elsewhere only =
      ap (λ (v : SlotView). v.mode) (only Recon) ∙ ap (λ (v : SlotView). v.mode) (recon-stays s mid read elsewhere) ∙ ap (λ (v : SlotView). v.mode) p.written.recon

  -- ---- the steps

  unfoldable pub read-next : (mid new : Slot → SlotView) (before states : List TrackState) (frame : Option (Buffer ℕ)) (n : ℕ) → GoesOn s inputs format payloads old mid before frame n → AreSameButFrames before states → Takes s n mid before states new → OnlyAtTracks s mid new
      → ReadNext s inputs format payloads old mid new states frame n
  read-next mid new before states frame n go same takes elsewhere = record {
    read = record { so_far = go.so_far; took = takes format offset go.tracks.kept; elsewhere = elsewhere };
    tracks = read-tracks settings inputs format payloads before states same go.tracks;
    recon = go.recon;
  }

  -- what is asked of tracks before they are coded
  pub next-count : (mid new : Slot → SlotView) (states : List TrackState) (frame : Option (Buffer ℕ)) (n : ℕ) → ReadNext s inputs format payloads old mid new states frame n → length states ≡ length (kinds_of s)
  next-count mid new states frame n r = states-count s format offset states r.tracks.kept

  pub next-qps : (mid new : Slot → SlotView) (states : List TrackState) (frame : Option (Buffer ℕ)) (n : ℕ) → ReadNext s inputs format payloads old mid new states frame n → HasPermittedQps settings.rate states
  next-qps mid new states frame n r = permitted-qps settings format offset states r.tracks.passes r.tracks.kept

  pub next-frames : (mid new : Slot → SlotView) (states : List TrackState) (frame : Option (Buffer ℕ)) (n : ℕ) → HaveOwnGrids states → ReadNext s inputs format payloads old mid new states frame n → AllByRecursion HasFrameToCode states
  next-frames mid new states frame n own r = read-to-code settings inputs format payloads n mid new states r.tracks own r.read.took

  pub next-ready : (mid new : Slot → SlotView) (states : List TrackState) (frame : Option (Buffer ℕ)) (n : ℕ) (r : ReadNext s inputs format payloads old mid new states frame n) → AreReady (tracks_for settings inputs format) r.read.took.pictures states
  next-ready mid new states frame n r = read-ready settings inputs format payloads n mid new states r.tracks r.read.took

  unfoldable pub made-next : (mid new : Slot → SlotView) (before states : List TrackState) (frame : Option (Buffer ℕ)) (n : ℕ) (chosen : Chosen) (bytes : List ℕ) → ReadNext s inputs format payloads old mid new before frame n → AreCoded before states
      → AllByRecursion (λ (track : TrackState). track.q ≡ chosen.qp) states → Makes s payloads before chosen states bytes → MadeNext s inputs format payloads old new chosen states frame bytes n
  made-next mid new before states frame n chosen bytes r same at_qp makes =
      let made : IsUnitMade settings format.depth (tracks_for settings inputs format) payloads r.read.took.pictures chosen states bytes = makes format offset r.read.took.pictures (next-ready mid new before frame n r) in
      let is : IsEncoded settings inputs format r.read.took.pictures (unit_of_states chosen.qp states bytes) = unit-encoded settings inputs format r.read.took.pictures payloads chosen states bytes r.tracks.carries made in
      record {
        coded = frame-coded s inputs format old mid new n before (unit_of_states chosen.qp states bytes) r.read is;
        tracks = coded-tracks settings inputs format payloads before states same r.tracks;
        recon = r.recon;
        at_qp = at_qp;
        few = r.read.took.few;
        pictures = r.read.took.pictures;
        unit_of = is.unit_of;
        small = made.small;
        size = made.size;
      }

  -- the access unit has a first frame, that of the primary track
  pub next-first : (law : HasValidUnits) (bounds : HasEncBounds s) (new : Slot → SlotView) (chosen : Chosen) (states : List TrackState) (frame : Option (Buffer ℕ)) (bytes : List ℕ) (n : ℕ) → MadeNext s inputs format payloads old new chosen states frame bytes n
      → HasFirstFrame bytes (decoded_frame (primary_track settings format offset) chosen.qp (primary_levels (unit_of_states chosen.qp states bytes)))
  next-first law bounds new chosen states frame bytes n m =
      unit-first law settings inputs format m.pictures states chosen.qp bytes (plain-sound s bounds) (record { input = m.tracks.passes; preview = m.tracks.preview_passes }) m.tracks.whole m.tracks.kept m.unit_of m.small

  -- the frame of the reconstruction has the grid of the first track
  pub next-recon : (new : Slot → SlotView) (chosen : Chosen) (states : List TrackState) (other : TrackState) (frame : Option (Buffer ℕ)) (bytes : List ℕ) (n : ℕ) → MadeNext s inputs format payloads old new chosen states frame bytes n → HasReconGrid frame (grid_of (slice_index_or states 0 other).header)
  next-recon new chosen states other frame bytes n m = subst (λ (header : FrameHeader). HasReconGrid frame (grid_of header)) (sym (first-header settings inputs format payloads states other m.tracks)) m.recon

  unfoldable pub written-next : (mid new : Slot → SlotView) (chosen : Chosen) (states : List TrackState) (frame : Option (Buffer ℕ)) (bytes given : List ℕ) (n : ℕ) → MadeNext s inputs format payloads old mid chosen states frame bytes n → given ≡ bytes → OnlyAt Output mid new
      → WroteAll (mid Output) (if settings.output then sized given else []) (new Output) → UnitWritten s inputs format old new n (unit_of_states chosen.qp states bytes)
  written-next mid new chosen states frame bytes given n m same elsewhere wrote =
      unit-written s inputs format old mid new n (unit_of_states chosen.qp states bytes) m.coded elsewhere (subst (λ (xs : List ℕ). WroteAll (mid Output) xs (new Output)) (out-is settings chosen.qp states given bytes same) wrote)

  -- and then its picture, which ends the round
  unfoldable pub round-done : (made mid new : Slot → SlotView) (chosen : Chosen) (states : List TrackState) (other : TrackState) (wanted : Bool) (frame next : Option (Buffer ℕ)) (bytes : List ℕ) (n : ℕ) → MadeNext s inputs format payloads old made chosen states frame bytes n
      → UnitWritten s inputs format old mid n (unit_of_states chosen.qp states bytes) → wanted ≡ settings.recon → OnlyAt Recon mid new
      → (let first = slice_index_or states 0 other in WroteAll (mid Recon) (if wanted then frame_picture (frame_of first) (levels_of first) else []) (new Recon)) → HasReconGrid next (grid_of (slice_index_or states 0 other).header)
      → GoesOn s inputs format payloads old new states next (n + 1)
  round-done made mid new chosen states other wanted frame next bytes n m u same elsewhere wrote grid = record {
    so_far = frame-written s inputs format old mid new n (unit_of_states chosen.qp states bytes) u elsewhere
        (subst (λ (xs : List ℕ). WroteAll (mid Recon) xs (new Recon)) (recon-is settings inputs format payloads wanted states other chosen.qp bytes m.tracks m.at_qp same) wrote);
    tracks = m.tracks;
    recon = subst (λ (header : FrameHeader). HasReconGrid next (grid_of header)) (first-header settings inputs format payloads states other m.tracks) grid;
  }
