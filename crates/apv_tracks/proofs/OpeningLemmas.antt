-- What was done before the first frame: why no tracks were made, and the tracks.
use Rattle.std.proofs.Common.{◌≡◌, ℕ, ◌+◌, ◌<◌, inl, inr, List, [], ◌∷◌, ◌++◌, length, map, replicate, refl, sym, ap, ◌∙◌, subst, arith, length-append, Option, Some, None, Err, is_some, true, false}
use Rattle.std.specs.Prelude.{ℤ, pos, slice_index_or, slice_set}
use Rattle.std.specs.Io.KnownBytes.{IsAtEnd}
use Rattle.std.proofs.lemmas.List.{length-map}
use Rattle.apv_base.specs.declared.exits.Exit.{Exit}
use Rattle.apv_base.specs.declared.exits.Exit.TheVariants.{BadTileQp, Memory}
use Rattle.apv_base.specs.declared.format.Format.{Format}
use Rattle.apv_base.specs.declared.header.FrameHeader.{FrameHeader}
use Rattle.apv_base.specs.declared.options.Form.{Form}
use Rattle.apv_base.specs.declared.options.Form.TheVariants.{Planar, Y4m}
use Rattle.apv_base.specs.declared.slot.Slot.{Slot}
use Rattle.apv_base.specs.declared.slot.Slot.TheVariants.{Input, Metadata, TileQp}
use Rattle.apv_base.specs.model.Grid.{tile_count}
use Rattle.apv_base.specs.model.Header.{grid_of}
use Rattle.apv_base.specs.model.Run.{MAX_UNIT}
use Rattle.apv_files.specs.SlotView.{SlotView, OnlyAt}
use Rattle.apv_files.specs.Loops.{TookAll, TookFailed}
use Rattle.apv_run.specs.Known.{IsKnownAs}
use Rattle.apv_run.proofs.ThreeSlotsLemmas.{at-three-none, at-three-first, at-three-second, at-three-third}
use Rattle.apv_run.proofs.WrittenLemmas.{none-took}
use Rattle.apv_words.specs.declared.encoder.EncSettings.{EncSettings}
use Rattle.apv_workers.specs.Track.{TrackState}
use Rattle.apv_encoding.specs.Answer.{FormatStops, HasBadOffset, HasOffsets, Inputs, StopsBefore, long_payloads, partial_payload, at_formats, bad_offset, primary_tiles, signed_byte, tile_offsets}
use Rattle.apv_encoding.specs.Settings.{primary_header, primary_track, tracks_of}
use Rattle.apv_tracks.specs.Format.{FormatAnswered, FormatEnds, IsWithinHeader, TookFormat, format_memory, format_fault, format_answer}
use Rattle.apv_tracks.specs.Opening.{AreInputs, ListEnds, MapEnds, OnlyAtInputs, OpensTracks, SetsOffsets, SetsWhereGiven, TookBefore, TookFile, TookFormats, TookList, TookWhereGiven, TracksEnd, by_memory, by_metadata, by_input, by_tile_qp, by_answer, primary_state, states_with}
use Rattle.apv_tracks.specs.PayloadFile.{PayloadsEnd, ReadsPayloads, TookPayloads, list_exit, payloads_fault, payloads_long, payloads_memory, payloads_partial}
use Rattle.apv_tracks.specs.Plain.{plain_settings}
use Rattle.apv_tracks.specs.States.{AreStatesOf, HasOwnGrid, HaveOwnGrids, IsStateOf}
use Rattle.apv_tracks.specs.TileMap.{HasNoBadOffset, OffsetsEnd, ReadsTileMap, TileMapStops, map_exit, offsets_bad, offsets_fault, offsets_memory}
use Rattle.apv_tracks.specs.declared.opening.Formats.{Formats}
use Rattle.apv_tracks.specs.declared.payload_file.ListEnd.{ListEnd}
use Rattle.apv_tracks.specs.declared.payload_file.ListEnd.TheVariants as list_ends
use Rattle.apv_tracks.specs.declared.tile_map.MapEnd.{MapEnd}
use Rattle.apv_tracks.specs.declared.tile_map.MapEnd.TheVariants as map_ends
use Rattle.apv_tracks.proofs.InputLemmas.{contents_with, contents-known, contents-self, file-all, file-given, file-none, file-where, given_content, given-as, given-known, known_or_none, known-all, known-more, took-same, took-where}
use Rattle.apv_tracks.proofs.StateLemmas.{all-grids, all-kept, byte-offset, no-offset, primary-kept, primary_with, tiles-are}
use Rattle.apv_tracks.proofs.TileMapLemmas.{right-length}

-- ---- slots

only-list : (old new : Slot → SlotView) → OnlyAt Metadata old new → OnlyAtInputs old new
only-list old new only = at-three-second Input Metadata TileQp old old new (at-three-none Input Metadata TileQp old) only

only-two : (old mid new : Slot → SlotView) → OnlyAt Metadata old mid → OnlyAt Input mid new → OnlyAtInputs old new
only-two old mid new only then = at-three-first Input Metadata TileQp old mid new (only-list old mid only) then

only-three : (old first second new : Slot → SlotView) → OnlyAt Metadata old first → OnlyAt Input first second → OnlyAt TileQp second new → OnlyAtInputs old new
only-three old first second new only then last = at-three-third Input Metadata TileQp old second new (only-two old first second only then) last

-- ---- the file of payloads

-- why it wasn't read
pub list-end : (settings : EncSettings) (old new : SlotView) (list : List ℕ) (end : ListEnd) → is_some settings.metadata ≡ true → ReadsPayloads {T = Unit {0}} old (Err end) list new → ListEnds settings old new (list_exit end)
list-end settings old new list (list_ends.Bad byte) given s = record { given = given; end = payloads_partial byte s }
list-end settings old new list (list_ends.Limit count) given l = record { given = given; end = rw l.count_is (payloads_long (record { taken = l.taken; took = l.took; long = l.long; count_is = refl })) }
list-end settings old new list list_ends.Read given f = record { given = given; end = payloads_fault f.taken f.failed }
list-end settings old new list list_ends.Memory given s = record { given = given; end = payloads_memory s.taken s.took }

-- it is right
pub list-read : (settings : EncSettings) (old new : SlotView) (list : List ℕ) → is_some settings.metadata ≡ true → TookPayloads old list new → TookList settings old list new
list-read settings old new list given t = record {
  payloads = Some list;
  took = file-all settings.metadata old new list given t.took t.end;
  whole = (t.few, t.whole);
  carries = refl;
}

-- it isn't named
pub list-none : (settings : EncSettings) (view : SlotView) (list : List ℕ) → is_some settings.metadata ≡ false → list ≡ [] → TookList settings view list view
list-none settings view list given e = record {
  payloads = None;
  took = file-none settings.metadata view view given refl;
  whole = tt;
  carries = e;
}

nothing-within : (form : Form) → IsWithinHeader form []
nothing-within Planar = refl
nothing-within Y4m = inl refl

module _ (settings : EncSettings) (old new : Slot → SlotView) (only : OnlyAt Metadata old new) (given : is_some settings.metadata ≡ true) where
  before-list : (taken : List ℕ) → TookAll (old Metadata) taken (new Metadata) → TookBefore settings old new
  before-list taken took = record {
    taken = [];
    within = nothing-within settings.form;
    input = subst (λ (view : SlotView). TookAll (old Input) [] view) (sym (only Input)) (none-took (old Input));
    metadata = took-where settings.metadata (old Metadata) (new Metadata) taken given took;
    tile_qp = took-same settings.tile_qp (old TileQp) (new TileQp) (only TileQp);
    others = only-list old new only;
  }

  abbrev inputs_with : List ℕ → Inputs
  inputs_with list = record {
    contents = contents_with old (known_or_none (old Input).left);
    payloads = Some list;
    offsets = given_content settings.tile_qp (old TileQp).left;
  }

  list-answered : (taken list : List ℕ) (exit : Exit) → TookAll (old Metadata) taken (new Metadata) → IsKnownAs (old Metadata).left list → StopsBefore (plain_settings settings) (inputs_with list) exit → TracksEnd settings old new exit
  list-answered taken list exit took known stops = by_answer exit (record {
    inputs = inputs_with list;
    are = record {
      contents = contents-self old;
      payloads = given-as settings.metadata (old Metadata).left list given known;
      offsets = given-known settings.tile_qp (old TileQp).left;
    };
    stops = stops;
    took = before-list taken took;
  })

  list-ends : (exit : Exit) → PayloadsEnd (old Metadata) (new Metadata) exit → TracksEnd settings old new exit
  list-ends exit (payloads_memory taken took) = by_memory (before-list taken took)
  list-ends exit (payloads_fault taken failed) = by_metadata (record {
    given = given;
    taken = taken;
    failed = failed;
    input = only Input;
    tile_qp = only TileQp;
    others = only-list old new only;
  })
  list-ends exit (payloads_long l) =
      let list : List ℕ = l.taken ++ known_or_none (new Metadata).left in
      let long : MAX_UNIT < length list = omega (arith, length-append l.taken (known_or_none (new Metadata).left), l.long) in
      list-answered l.taken list exit l.took (known-more l.taken (old Metadata).left (new Metadata).left l.took.prefix) (long_payloads list refl long)
  list-ends exit (payloads_partial byte s) =
      list-answered s.taken s.taken exit s.took (known-all s.taken (old Metadata).left (new Metadata).left s.took.prefix s.end) (partial_payload s.taken byte refl s.few s.partial)

-- the file of payloads wasn't read or isn't right
pub ends-at-list : (settings : EncSettings) (old new : Slot → SlotView) (exit : Exit) → OnlyAt Metadata old new → ListEnds settings (old Metadata) (new Metadata) exit → TracksEnd settings old new exit
ends-at-list settings old new exit only e = list-ends settings old new only e.given exit e.end

-- ---- the formats, after the file of payloads

module _ (settings : EncSettings) (old mid new : Slot → SlotView) (list : List ℕ) (only : OnlyAt Metadata old mid) (then : OnlyAt Input mid new) (p : TookList settings (old Metadata) list (mid Metadata)) where
  from-input : (P : SlotView → Type 0) → P (mid Input) → P (old Input)
  from-input P h = subst P (only Input) h

  list-then : TookFile settings.metadata (old Metadata) p.payloads (new Metadata)
  list-then = subst (λ (view : SlotView). TookFile settings.metadata (old Metadata) p.payloads view) (sym (then Metadata)) p.took

  metadata-where : TookWhereGiven settings.metadata (old Metadata) (new Metadata)
  metadata-where = file-where settings.metadata (old Metadata) (new Metadata) p.payloads list-then

  tile-qp-same : new TileQp ≡ old TileQp
  tile-qp-same = then TileQp ∙ only TileQp

  before-format : (taken : List ℕ) → IsWithinHeader settings.form taken → TookAll (mid Input) taken (new Input) → TookBefore settings old new
  before-format taken within took = record {
    taken = taken;
    within = within;
    input = from-input (λ view. TookAll view taken (new Input)) took;
    metadata = metadata-where;
    tile_qp = took-same settings.tile_qp (old TileQp) (new TileQp) tile-qp-same;
    others = only-two old mid new only then;
  }

  format-answered : (exit : Exit) (a : FormatAnswered settings (mid Input) exit (new Input)) (file : List ℕ) → IsKnownAs (mid Input).left file → FormatStops (plain_settings settings) file exit → TracksEnd settings old new exit
  format-answered exit a file known stops = by_answer exit (record {
    inputs = record { contents = contents_with old file; payloads = p.payloads; offsets = given_content settings.tile_qp (old TileQp).left };
    are = record {
      contents = contents-known old file (from-input (λ view. IsKnownAs view.left file) known);
      payloads = file-given settings.metadata (old Metadata) (mid Metadata) p.payloads p.took;
      offsets = given-known settings.tile_qp (old TileQp).left;
    };
    stops = at_formats exit p.whole stops;
    took = before-format a.taken a.within a.took;
  })

  -- a format wasn't read or doesn't pass
  pub ends-at-format : (exit : Exit) → FormatEnds settings (mid Input) (new Input) exit → TracksEnd settings old new exit
  ends-at-format exit (format_memory taken within took) = by_memory (before-format taken within took)
  ends-at-format exit (format_fault f) = by_input (record {
    metadata = metadata-where;
    input = record { taken = f.taken; y4m = f.y4m; within = f.within; failed = from-input (λ view. TookFailed view f.taken (new Input)) f.failed };
    tile_qp = tile-qp-same;
    others = only-two old mid new only then;
  })
  ends-at-format exit (format_answer e a) = elim a.stops [
    | inl all ↦ format-answered exit a (a.taken ++ known_or_none (new Input).left) (known-more a.taken (mid Input).left (new Input).left a.took.prefix) (all (known_or_none (new Input).left))
    | inr here ↦ format-answered exit a a.taken (known-all a.taken (mid Input).left (new Input).left a.took.prefix here.0) here.1
  ]

  -- memory ran out
  pub memory-at-tracks : (format : Format) → TookFormat settings (mid Input) format (new Input) → TracksEnd settings old new Memory
  memory-at-tracks format t = by_memory (before-format t.taken t.within t.took)

-- ---- the file of QP offsets

-- why it wasn't read
pub offsets-end : (tiles n : ℕ) (old new : SlotView) (bytes : List ℕ) (end : MapEnd) → n ≡ tiles → ReadsTileMap {T = Unit {0}} n old (Err end) bytes new → OffsetsEnd tiles old new (map_exit end)
offsets-end tiles n old new bytes (map_ends.Bad place) e stops = offsets_bad place (subst (λ (m : ℕ). TileMapStops m old place new) e stops)
offsets-end tiles n old new bytes map_ends.Read e f = offsets_fault f.taken f.failed
offsets-end tiles n old new bytes map_ends.Memory e s = offsets_memory s.taken s.took

-- there is an offset for each tile
pub offsets-long : (tiles n : ℕ) (bytes : List ℕ) (offsets : List ℤ) → n ≡ tiles → HasNoBadOffset n bytes → offsets ≡ map signed_byte bytes → length offsets ≡ tiles
offsets-long tiles n bytes offsets same right e = ap length e ∙ length-map bytes signed_byte ∙ right-length n bytes right ∙ same

-- they are set, where the file is named
pub sets-where : {T : Type 0} (given : Option T) (before after : TrackState) (old new : SlotView) → is_some given ≡ true → SetsOffsets before old after new → SetsWhereGiven given before old after new
sets-where None before after old new e s = absurd (let no : ⊥ = cc in no)
sets-where (Some name) before after old new e s = s

-- else all is as before
pub sets-none : {T : Type 0} (given : Option T) (track : TrackState) (view : SlotView) → is_some given ≡ false → SetsWhereGiven given track view track view
sets-none None track view e = (refl, refl)
sets-none (Some name) track view e = absurd (let no : ⊥ = cc in no)

-- what is known where the QPs of the track of the primary frames are set
record PrimarySet {T : Type 0} (settings : EncSettings) (format : Format) (given : Option T) (old : SlotView) (after : TrackState) (new : SlotView) : Type 0 where
  offsets : Option (List ℕ)
  took : TookFile given old offsets new
  right : HasOffsets (primary_tiles (plain_settings settings) format) offsets
  kept : IsStateOf (primary_track (plain_settings settings) format (tile_offsets offsets)) after
  grid : HasOwnGrid after

module _ (settings : EncSettings) (format : Format) (header : FrameHeader) (e : header ≡ primary_header (plain_settings settings) format) (old new : SlotView) (after : TrackState) where
  abbrev tiles : ℕ
  tiles = tile_count (grid_of header)

  kept-with : (of_tiles : List ℤ) (offsets : Option (List ℕ)) → after ≡ primary_with settings header of_tiles
      → ((tile : ℕ) → tile < primary_tiles (plain_settings settings) format → slice_index_or of_tiles tile (pos 0) ≡ tile_offsets offsets tile)
      → IsStateOf (primary_track (plain_settings settings) format (tile_offsets offsets)) after
  kept-with of_tiles offsets is each =
      subst (λ (state : TrackState). IsStateOf (primary_track (plain_settings settings) format (tile_offsets offsets)) state) (sym is)
      (primary-kept settings format header e of_tiles offsets each)

  own-grid : (of_tiles : List ℤ) → after ≡ primary_with settings header of_tiles → HasOwnGrid after
  own-grid of_tiles is = subst HasOwnGrid (sym is) refl

  primary-set : {T : Type 0} (given : Option T) → SetsWhereGiven given (primary_state settings header) old after new → PrimarySet settings format given old after new
  primary-set None (same, still) = record {
    offsets = None;
    took = (refl, still);
    right = tt;
    kept = kept-with (replicate tiles (pos 0)) None same (λ tile lt. no-offset tiles tile);
    grid = own-grid (replicate tiles (pos 0)) same;
  }
  primary-set (Some name) s =
      let all : ℕ = primary_tiles (plain_settings settings) format in
      let right : HasNoBadOffset all s.bytes = subst (λ (n : ℕ). HasNoBadOffset n s.bytes) (tiles-are settings format header e) s.took.right in
      let long : length s.bytes ≡ all = right-length all s.bytes right in
      record {
        offsets = Some s.bytes;
        took = (s.bytes, refl, s.took.took, s.took.end);
        right = right;
        kept = kept-with (map signed_byte s.bytes) (Some s.bytes) s.set (λ tile lt. byte-offset s.bytes tile (omega (arith, lt, long)));
        grid = own-grid (map signed_byte s.bytes) s.set;
      }

-- ---- after all files

-- the first track, and another one in its place
module _ (settings : EncSettings) (formats : Formats) (primary : TrackState) (tracks : List TrackState) (are : tracks ≡ states_with settings formats primary) where
  pub first-is : (track : TrackState) → track ≡ slice_index_or tracks 0 track → track ≡ primary
  first-is track is = is ∙ ap (λ (states : List TrackState). slice_index_or states 0 track) are

  pub first-set : (after : TrackState) → slice_set tracks 0 after ≡ states_with settings formats after
  first-set after = ap (λ (states : List TrackState). slice_set states 0 after) are

module _ (settings : EncSettings) (old first second new : Slot → SlotView) (list : List ℕ) (formats : Formats) (only : OnlyAt Metadata old first) (then : OnlyAt Input first second) (last : OnlyAt TileQp second new) (p : TookList settings (old Metadata) list (first Metadata)) (f : TookFormats settings (first Input) formats (second Input)) where
  list-still : TookFile settings.metadata (old Metadata) p.payloads (new Metadata)
  list-still = subst (λ (view : SlotView). TookFile settings.metadata (old Metadata) p.payloads view) (sym (last Metadata ∙ then Metadata)) p.took

  format-still : TookFormat settings (old Input) formats.format (new Input)
  format-still =
      subst (λ (view : SlotView). TookFormat settings view formats.format (new Input)) (only Input)
      (subst (λ (view : SlotView). TookFormat settings (first Input) formats.format view) (sym (last Input)) f.format_at)

  from-map : (P : SlotView → Type 0) → P (second TileQp) → P (old TileQp)
  from-map P h = subst P (then TileQp ∙ only TileQp) h

  before-map : (taken : List ℕ) → is_some settings.tile_qp ≡ true → TookAll (second TileQp) taken (new TileQp) → TookBefore settings old new
  before-map taken given took =
      let s = format-still in
      record {
        taken = s.taken;
        within = s.within;
        input = s.took;
        metadata = file-where settings.metadata (old Metadata) (new Metadata) p.payloads list-still;
        tile_qp = took-where settings.tile_qp (old TileQp) (new TileQp) taken given (from-map (λ view. TookAll view taken (new TileQp)) took);
        others = only-three old first second new only then last;
      }

  bad-answered : (place : ℕ) (taken bytes : List ℕ) → is_some settings.tile_qp ≡ true → TookAll (second TileQp) taken (new TileQp) → IsKnownAs (second TileQp).left bytes → HasBadOffset (tile_count (grid_of formats.primary)) bytes place → TracksEnd settings old new (BadTileQp place)
  bad-answered place taken bytes given took known b =
      let s = format-still in
      let rest : List ℕ = known_or_none (new Input).left in
      let file : List ℕ = s.taken ++ rest in
      by_answer (BadTileQp place) (record {
        inputs = record { contents = contents_with old file; payloads = p.payloads; offsets = Some bytes };
        are = record {
          contents = contents-known old file (known-more s.taken (old Input).left (new Input).left s.took.prefix);
          payloads = file-given settings.metadata (old Metadata) (first Metadata) p.payloads p.took;
          offsets = given-as settings.tile_qp (old TileQp).left bytes given (from-map (λ view. IsKnownAs view.left bytes) known);
        };
        stops = bad_offset formats.format rest bytes place (record { payloads = p.whole; format_at = s.format_at rest; input = f.passes.input; preview = f.passes.preview }) refl
            (subst (λ (tiles : ℕ). HasBadOffset tiles bytes place) (tiles-are settings formats.format formats.primary f.primary.is) b);
        took = before-map taken given took;
      })

  offsets-end-run : (exit : Exit) → is_some settings.tile_qp ≡ true → OffsetsEnd (tile_count (grid_of formats.primary)) (second TileQp) (new TileQp) exit → TracksEnd settings old new exit
  offsets-end-run exit given (offsets_memory taken took) = by_memory (before-map taken given took)
  offsets-end-run exit given (offsets_fault taken failed) = by_tile_qp (record {
    format = formats.format;
    metadata = file-where settings.metadata (old Metadata) (new Metadata) p.payloads list-still;
    format_at = format-still;
    passes = f.passes;
    given = given;
    taken = taken;
    failed = from-map (λ view. TookFailed view taken (new TileQp)) failed;
    others = only-three old first second new only then last;
  })
  offsets-end-run exit given (offsets_bad place stops) = elim stops.stops [
    | inl all ↦ bad-answered place stops.taken (stops.taken ++ known_or_none (new TileQp).left) given stops.took (known-more stops.taken (second TileQp).left (new TileQp).left stops.took.prefix) (all (known_or_none (new TileQp).left))
    | inr here ↦ bad-answered place stops.taken stops.taken given stops.took (known-all stops.taken (second TileQp).left (new TileQp).left stops.took.prefix here.0) here.1
  ]

  -- the file of QP offsets wasn't read or isn't right
  pub ends-at-map : (track : TrackState) (exit : Exit) → track ≡ primary_state settings formats.primary → MapEnds settings (tile_count (grid_of track.header)) (second TileQp) (new TileQp) exit → TracksEnd settings old new exit
  ends-at-map track exit is e =
      offsets-end-run exit e.given (subst (λ (n : ℕ). OffsetsEnd n (second TileQp) (new TileQp) exit) (ap (λ (state : TrackState). tile_count (grid_of state.header)) is) e.end)

  -- all is right
  pub opens : (track after : TrackState) (tracks : List TrackState) → track ≡ primary_state settings formats.primary → SetsWhereGiven settings.tile_qp track (second TileQp) after (new TileQp) → tracks ≡ states_with settings formats after → OpensTracks settings old formats.format list tracks new
  opens track after tracks begin s is =
      let given : SetsWhereGiven settings.tile_qp (primary_state settings formats.primary) (second TileQp) after (new TileQp) = subst (λ (state : TrackState). SetsWhereGiven settings.tile_qp state (second TileQp) after (new TileQp)) begin s in
      let set = primary-set settings formats.format formats.primary f.primary.is (second TileQp) (new TileQp) after settings.tile_qp given in
      let plain = plain_settings settings in
      record {
        payloads = p.payloads;
        offsets = set.offsets;
        took_payloads = list-still;
        whole = p.whole;
        carries = p.carries;
        format_at = format-still;
        passes = f.passes;
        took_offsets = from-map (λ view. TookFile settings.tile_qp view set.offsets (new TileQp)) set.took;
        right = set.right;
        kept = subst (λ (states : List TrackState). AreStatesOf (tracks_of plain formats.format (tile_offsets set.offsets)) states) (sym is)
            (all-kept settings formats after (tile_offsets set.offsets) f.preview set.kept);
        grids = subst HaveOwnGrids (sym is) (all-grids settings formats after set.grid);
        others = only-three old first second new only then last;
      }
