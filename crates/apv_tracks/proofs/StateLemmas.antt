-- New tracks as those that the settings ask for.
use Rattle.std.proofs.Common.{◌≡◌, ℕ, ◌<◌, ◌≤◌, inl, inr, List, [], ◌∷◌, ◌++◌, length, map, replicate, refl, sym, ap, ◌∙◌, subst, arith, Bool, true, false, Option, Some, None, is_some}
use Rattle.std.specs.Prelude.{ℤ, pos, ◌+ℤ◌, slice_index, slice_index_or}
use Rattle.std.proofs.lemmas.Bool.{cases_lt}
use Rattle.std.proofs.lemmas.List.{get_or-map, get_or-replicate, get_or_past, length-replicate}
use Rattle.apv_base.specs.declared.format.Format.{Format}
use Rattle.apv_base.specs.declared.header.FrameHeader.{FrameHeader}
use Rattle.apv_base.specs.model.Grid.{tile_count}
use Rattle.apv_base.specs.model.Header.{grid_of, header_comps}
use Rattle.apv_base.specs.model.Nearest.{plain_qps}
use Rattle.apv_base.specs.model.Quant.{qp_with}
use Rattle.apv_base.proofs.HeaderPartsLemmas.{all-append}
use Rattle.apv_words.specs.declared.encoder.EncSettings.{EncSettings}
use Rattle.apv_workers.specs.Track.{TrackState, new_track}
use Rattle.apv_encoding.specs.Answer.{primary_tiles, signed_byte, tile_offsets}
use Rattle.apv_encoding.specs.Settings.{EncoderSettings, Track, grey_header, grey_track, offset_of, preview_header, preview_track, preview_tracks, primary_header, primary_track, tracks_of, where_asked}
use Rattle.apv_base.specs.declared.slot.Slot.TheVariants.{Depth, Alpha}
use Rattle.apv_tracks.specs.Format.{IsPreviewHeader}
use Rattle.apv_tracks.specs.Opening.{component_offsets, plain_state, primary_state, state_of, state_where, states_with}
use Rattle.apv_tracks.specs.Plain.{plain_settings}
use Rattle.apv_tracks.specs.States.{AreStatesOf, HasOwnGrid, HaveOwnGrids, IsStateOf, kept_qps}
use Rattle.apv_tracks.specs.declared.opening.Formats.{Formats}

-- ---- offsets

-- offsets of 0 have 0 at each place
pub no-offset : (n place : ℕ) → slice_index_or (replicate n (pos 0)) place (pos 0) ≡ pos 0
no-offset n place = elim (cases_lt place n) [
  | inl lt ↦ get_or-replicate n place (pos 0) (pos 0) lt
  | inr ge ↦ get_or_past (replicate n (pos 0)) place (pos 0) (subst (λ (m : ℕ). m ≤ place) (sym (length-replicate n (pos 0))) ge)
]

-- the offset of a tile in a file
pub byte-offset : (bytes : List ℕ) (tile : ℕ) → tile < length bytes → slice_index_or (map signed_byte bytes) tile (pos 0) ≡ signed_byte (slice_index bytes tile)
byte-offset bytes tile lt = get_or-map signed_byte bytes tile 0 (pos 0) lt

-- ---- one track

-- a track without offsets has the QPs of a track without offsets
plain-qps : (header : FrameHeader) (q tile comp : ℕ) → kept_qps (plain_state header) q tile comp ≡ plain_qps header.info.depth q tile comp
plain-qps header q tile comp =
    ap (λ (z : ℤ). qp_with q (z +ℤ slice_index_or (replicate (tile_count (grid_of header)) (pos 0)) tile (pos 0)) header.info.depth) (no-offset 4 comp)
    ∙ ap (λ (z : ℤ). qp_with q (pos 0 +ℤ z) header.info.depth) (no-offset (tile_count (grid_of header)) tile)

plain-kept : (track : Track) → track.qps ≡ plain_qps track.header.info.depth → IsStateOf track (plain_state track.header)
plain-kept track e = record {
  header = refl;
  qps = λ q tile comp lt exists.
      plain-qps track.header q tile comp ∙ ap (λ (qps : ℕ → ℕ → ℕ → ℕ). qps q tile comp) (sym e);
}

-- the track of the primary frames, with these offsets of its tiles
abbrev pub primary_with : EncSettings → FrameHeader → List ℤ → TrackState
primary_with settings header of_tiles = record (primary_state settings header) { tile_offsets = of_tiles }

module _ (settings : EncSettings) (format : Format) (header : FrameHeader) (e : header ≡ primary_header (plain_settings settings) format) where
  -- the track of the primary frames, where its offsets are those of a file or 0
  pub primary-kept : (of_tiles : List ℤ) (offsets : Option (List ℕ))
      → ((tile : ℕ) → tile < primary_tiles (plain_settings settings) format → slice_index_or of_tiles tile (pos 0) ≡ tile_offsets offsets tile)
      → IsStateOf (primary_track (plain_settings settings) format (tile_offsets offsets)) (primary_with settings header of_tiles)
  primary-kept of_tiles offsets each =
      let whole : primary_with settings header of_tiles ≡ primary_with settings (primary_header (plain_settings settings) format) of_tiles = ap (λ (h : FrameHeader). primary_with settings h of_tiles) e in
      record {
        header = e;
        qps = λ q tile comp lt exists.
            ap (λ (s : TrackState). kept_qps s q tile comp) whole
            ∙ ap (λ (z : ℤ). qp_with q (offset_of (plain_settings settings) comp +ℤ z) format.depth) (each tile lt);
      }

  pub tiles-are : tile_count (grid_of header) ≡ primary_tiles (plain_settings settings) format
  tiles-are = ap (λ (h : FrameHeader). tile_count (grid_of h)) e

-- ---- lists of tracks

are-append : (tracks more : List Track) (states later : List TrackState) → AreStatesOf tracks states → AreStatesOf more later → AreStatesOf (tracks ++ more) (states ++ later)
are-append [] more states later e are = subst (λ (begin : List TrackState). AreStatesOf more (begin ++ later)) (sym e) are
are-append (track ∷ tracks) more [] later h are = absurd h
are-append (track ∷ tracks) more (state ∷ states) later (kept, rest) are = (kept, are-append tracks more states later rest are)

are-where : (asked : Bool) (track : Track) → IsStateOf track (plain_state track.header) → AreStatesOf (where_asked asked track) (state_where asked track.header)
are-where true track kept = (kept, refl)
are-where false track kept = refl

are-preview : (settings : EncSettings) (size : Option (ℕ × ℕ)) (header : Option FrameHeader) → IsPreviewHeader settings size header → AreStatesOf (preview_tracks (plain_settings settings) size) (state_of header)
are-preview settings None header e = ap state_of e
are-preview settings (Some size) None h = absurd h
are-preview settings (Some size) (Some header) (is, sound) =
    subst (λ (h : FrameHeader). AreStatesOf (preview_tracks (plain_settings settings) (Some size)) (plain_state h ∷ [])) (sym is)
    (plain-kept (preview_track (plain_settings settings) size) refl, refl)

grids-of : (header : Option FrameHeader) → HaveOwnGrids (state_of header)
grids-of None = tt
grids-of (Some header) = (refl, tt)

grids-where : (asked : Bool) (header : FrameHeader) → HaveOwnGrids (state_where asked header)
grids-where true header = (refl, tt)
grids-where false header = tt

-- all tracks are those that the settings ask for, where that of the primary frames is
module _ (settings : EncSettings) (formats : Formats) (primary : TrackState) where
  abbrev grey : FrameHeader
  grey = grey_header (plain_settings settings) formats.format

  abbrev depth_track : Track
  depth_track = grey_track (plain_settings settings) formats.format Depth 26

  abbrev alpha_track : Track
  alpha_track = grey_track (plain_settings settings) formats.format Alpha 27

  pub all-kept : (tile_offset : ℕ → ℤ) → IsPreviewHeader settings (plain_settings settings).preview formats.preview
      → IsStateOf (primary_track (plain_settings settings) formats.format tile_offset) primary
      → AreStatesOf (tracks_of (plain_settings settings) formats.format tile_offset) (states_with settings formats primary)
  all-kept tile_offset preview kept =
      let plain : EncoderSettings = plain_settings settings in
      let first = are-preview settings plain.preview formats.preview preview in
      let second = are-where plain.depth depth_track (plain-kept depth_track refl) in
      let third = are-where plain.alpha alpha_track (plain-kept alpha_track refl) in
      let two = are-append (preview_tracks plain plain.preview) (where_asked plain.depth depth_track) (state_of formats.preview) (state_where plain.depth grey) first second in
      (kept, are-append (preview_tracks plain plain.preview ++ where_asked plain.depth depth_track) (where_asked plain.alpha alpha_track) (state_of formats.preview ++ state_where plain.depth grey) (state_where plain.alpha grey) two third)

  pub all-grids : HasOwnGrid primary → HaveOwnGrids (states_with settings formats primary)
  all-grids own =
      let plain : EncoderSettings = plain_settings settings in
      let first = grids-of formats.preview in
      let second = grids-where plain.depth grey in
      let two = all-append HasOwnGrid (state_of formats.preview) (state_where plain.depth grey) first second in
      (own, all-append HasOwnGrid (state_of formats.preview ++ state_where plain.depth grey) (state_where plain.alpha grey) two (grids-where plain.alpha grey))
