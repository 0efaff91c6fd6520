-- The parts of an access unit, as they are written one after another.
use Rattle.std.proofs.Common.{◌≡◌, ℕ, ◌+◌, ◌<◌, ◌≤◌, Some, List, [], ◌∷◌, ◌++◌, length, take, drop, replicate, refl, sym, ap, ap₂, ◌∙◌, subst, arith, length-append, append_assoc, append-nil}
use Rattle.std.specs.Prelude.{Bool, true, false, ◌==◌, ◌&&◌, slice_set}
use Rattle.std.specs.List.{AllByRecursion}
use Rattle.std.proofs.lemmas.Bool.{eqb-true}
use Rattle.std.proofs.lemmas.List.{drop_all, length-replicate, length-take-le, take_all, take_more_set}
use Rattle.apv_base.specs.declared.format.FrameInfo.{FrameInfo}
use Rattle.apv_base.specs.model.AuInfo.{info_bytes}
use Rattle.apv_base.specs.model.Bits.{AreBytes, be, bits}
use Rattle.apv_base.specs.model.Component.{bytes_of_bits}
use Rattle.apv_base.specs.model.Encode.{pbu_bytes}
use Rattle.apv_base.specs.model.Pbu.{pbu_table, is_filler}
use Rattle.apv_base.specs.model.Run.{MAX_UNIT}
use Rattle.apv_base.specs.model.Table.{spell}
use Rattle.apv_base.proofs.BitsLemmas.{length-be}
use Rattle.apv_encoding.specs.AccessUnit.{filler_pbu, metadata_pbu}
use Rattle.apv_enc.specs.UnitParts.{listed_state, listed_states, state_pbus}
use Rattle.apv_frame.specs.Coded.{HasFewBytes, track_pbu}
use Rattle.apv_frame.proofs.CodedLemmas.{data-within}
use Rattle.apv_base.proofs.PackedLemmas.{bytes-of-bits}
use Rattle.apv_bits.specs.Writer.{Appends}
use Rattle.apv_bits.specs.declared.writer.BitWriter.{BitWriter}
use Rattle.apv_header.specs.Info.{frame_info_word}
use Rattle.apv_header.proofs.WriteLemmas.{Midway, midway-done, midway-step}
use Rattle.apv_tracks.specs.declared.kinds.TrackKind.{TrackKind}
use Rattle.apv_unit.specs.AuInfo.{ListAll, Lists}
use Rattle.apv_unit.specs.declared.au_info.AuEntry.{AuEntry}
use Rattle.apv_workers.specs.Track.{HasLengths, TrackState, levels_of, qps_of}
use Rattle.apv_enc.proofs.ListPlaceLemmas.{next-written}
use Rattle.apv_enc.proofs.PartSizeLemmas.{metadata-size}

-- ---- a PBU

-- a header and a body are a PBU
pub pbu-put : (kind size : ℕ) (header bytes body : List ℕ) → header ≡ spell 256 pbu_table (size ∷ kind ∷ 1 ∷ 0 ∷ []) → bytes ≡ body → size ≡ length body + 4 → header ++ bytes ≡ pbu_bytes kind 1 body
pbu-put kind size header bytes body e f long =
    ap₂ (λ (x y : List ℕ). x ++ y) (e ∙ ap (λ (n : ℕ). spell 256 pbu_table (n ∷ kind ∷ 1 ∷ 0 ∷ [])) long) f

-- ---- metadata

pub metadata-room : (payloads : List ℕ) (n : ℕ) → 0 < length payloads → n ≡ length (metadata_pbu payloads) → n ≡ 12 + length payloads
metadata-room payloads n some e = e ∙ sym (metadata-size payloads some)

-- the header, metadata_size and the payloads are the PBU
pub metadata-put : (payloads header size bytes : List ℕ) → 0 < length payloads → header ≡ spell 256 pbu_table ((length payloads + 8) ∷ 66 ∷ 1 ∷ 0 ∷ []) → size ≡ be 4 (length payloads) → bytes ≡ payloads
    → header ++ (size ++ bytes) ≡ metadata_pbu payloads
metadata-put [] header size bytes some e f g = absurd (omega arith)
metadata-put (byte ∷ more) header size bytes some e f g =
    let payloads : List ℕ = byte ∷ more in
    pbu-put 66 (length payloads + 8) header (size ++ bytes) (be 4 (length payloads) ++ payloads) e (ap₂ (λ (x y : List ℕ). x ++ y) f g) (omega (arith, length-append (be 4 (length payloads)) payloads, length-be 4 (length payloads)))

-- ---- filler

both-true : (a b : Bool) → (a && b) ≡ true → (a ≡ true) × (b ≡ true)
both-true true b e = (refl, e)
both-true false b e = absurd (let no : ⊥ = cc (e) in no)

all-filler : (bytes : List ℕ) → is_filler bytes ≡ true → bytes ≡ replicate (length bytes) 255
all-filler [] e = refl
all-filler (byte ∷ bytes) e =
    let both = both-true (byte == 255) (is_filler bytes) e in
    ap₂ (λ (x : ℕ) (xs : List ℕ). x ∷ xs) (eqb-true byte 255 both.0) (all-filler bytes both.1)

-- the header and so many bytes FF are the PBU
pub filler-put : (count : ℕ) (header body : List ℕ) → header ≡ spell 256 pbu_table ((4 + count) ∷ 67 ∷ 1 ∷ 0 ∷ []) → is_filler body ≡ true → length body ≡ count → header ++ body ≡ filler_pbu (Some count)
filler-put count header body e f long =
    pbu-put 67 (4 + count) header body (replicate count 255) e (all-filler body f ∙ ap (λ (n : ℕ). replicate n 255) long) (omega (arith, length-replicate {A = ℕ} count 255))

-- ---- frame_info()

-- a word that just has room in a slice is its bits
pub info-word : (word : List ℕ) (old new : BitWriter) → Midway word old word → Appends old new word → bits new.bytes.now ≡ word
info-word word old new start appends =
    let room : Midway word old (word ++ []) = subst (λ (xs : List ℕ). Midway word old xs) (sym (append-nil word)) start in
    midway-done word new (midway-step room appends)

-- bytes with the bits of frame_info() are its bytes
pub info-put : (info : FrameInfo) (bytes : List ℕ) → AreBytes bytes → bits bytes ≡ frame_info_word info → bytes ≡ info_bytes info
info-put info bytes are e = sym (bytes-of-bits bytes are) ∙ ap bytes_of_bits e

-- ---- the entries of access unit information

-- the entries before a place list their frames, so that all are listed where those from there on are
abbrev pub AreListedSoFar : List TrackKind → List TrackState → ℕ → List AuEntry → Type 0
AreListedSoFar kinds tracks i entries =
    (rest : List AuEntry) → ListAll rest (listed_states (drop i kinds) (drop i tracks)) → ListAll (take i entries ++ rest) (listed_states kinds tracks)

pub listed-more : (kinds : List TrackKind) (tracks : List TrackState) (i : ℕ) (entries : List AuEntry) (kind : TrackKind) (track : TrackState) (entry : AuEntry) → i < length entries → drop i kinds ≡ kind ∷ drop (i + 1) kinds
    → drop i tracks ≡ track ∷ drop (i + 1) tracks → Lists entry (listed_state kind.pbu_type track) → AreListedSoFar kinds tracks i entries → AreListedSoFar kinds tracks (i + 1) (slice_set entries i entry)
listed-more kinds tracks i entries kind track entry lt split_kinds split_tracks is so_far rest more =
    let here : ListAll (entry ∷ rest) (listed_states (drop i kinds) (drop i tracks)) =
    subst (λ (ks : List TrackKind). ListAll (entry ∷ rest) (listed_states ks (drop i tracks))) (sym split_kinds)
    (subst (λ (ss : List TrackState). ListAll (entry ∷ rest) (listed_states (kind ∷ drop (i + 1) kinds) ss)) (sym split_tracks) (is, more)) in
    let same : take i entries ++ (entry ∷ rest) ≡ take (i + 1) (slice_set entries i entry) ++ rest =
    sym (ap (λ (xs : List AuEntry). xs ++ rest) (take_more_set entries i entry lt) ∙ append_assoc (take i entries) (entry ∷ []) rest) in
    subst (λ (xs : List AuEntry). ListAll xs (listed_states kinds tracks)) same (so_far (entry ∷ rest) here)

pub listed-all : (kinds : List TrackKind) (tracks : List TrackState) (i : ℕ) (entries : List AuEntry) → i ≡ length tracks → length kinds ≡ length tracks → AreListedSoFar kinds tracks i entries → ListAll (take (length tracks) entries) (listed_states kinds tracks)
listed-all kinds tracks i entries e same so_far =
    let none : ListAll [] (listed_states (drop i kinds) (drop i tracks)) = ap (λ (ks : List TrackKind). listed_states ks (drop i tracks)) (drop_all i kinds (omega (arith, e, same))) in
    subst (λ (n : ℕ). ListAll (take n entries) (listed_states kinds tracks)) e (subst (λ (xs : List AuEntry). ListAll xs (listed_states kinds tracks)) (append-nil (take i entries)) (so_far [] none))

-- ---- frames

-- the bytes before a place, with the PBUs of the frames from an index on, are those of all frames
pub record ArePutSoFar (kinds : List TrackKind) (tracks : List TrackState) (i place : ℕ) (out : List ℕ) : Type 0 where
  pub inside : place ≤ length out
  pub written : take place out ++ state_pbus (drop i kinds) (drop i tracks) ≡ state_pbus kinds tracks
  pub lengths : AllByRecursion HasLengths (drop i tracks)

abbrev pbu_at : List TrackKind → List TrackState → ℕ → TrackKind → TrackState → Type 0
pbu_at kinds tracks i kind track = state_pbus (drop i kinds) (drop i tracks) ≡ track_pbu kind.pbu_type track ++ state_pbus (drop (i + 1) kinds) (drop (i + 1) tracks)

-- the next frame has room, and few bytes of data
pub next-room : (kinds : List TrackKind) (tracks : List TrackState) (i place : ℕ) (out : List ℕ) (kind : TrackKind) (track : TrackState) → length out ≡ length (state_pbus kinds tracks) → length out ≤ MAX_UNIT → drop i kinds ≡ kind ∷ drop (i + 1) kinds
    → drop i tracks ≡ track ∷ drop (i + 1) tracks → ArePutSoFar kinds tracks i place out → HasFewBytes track × (place + length (track_pbu kind.pbu_type track) ≤ length out)
next-room kinds tracks i place out kind track room bytes split_kinds split_tracks so_far =
    let next : pbu_at kinds tracks i kind track = ap₂ state_pbus split_kinds split_tracks in
    let pbu : List ℕ = track_pbu kind.pbu_type track in
    let later : List ℕ = state_pbus (drop (i + 1) kinds) (drop (i + 1) tracks) in
    let fits : place + length pbu ≤ length out =
    omega (
      arith,
      room,
      ap length so_far.written,
      ap length next,
      length-append (take place out) (state_pbus (drop i kinds) (drop i tracks)),
      length-append pbu later,
      length-take-le place out so_far.inside,
    ) in
    let lengths : HasLengths track = (subst (AllByRecursion HasLengths) split_tracks so_far.lengths).0 in
    (record { lengths = lengths; few = omega (arith, fits, bytes, (data-within track.header kind.pbu_type (qps_of track) (levels_of track)).0) }, fits)

-- the next frame is put after those before it
pub next-put : (kinds : List TrackKind) (tracks : List TrackState) (i place end : ℕ) (out new bytes after : List ℕ) (kind : TrackKind) (track : TrackState) → drop i kinds ≡ kind ∷ drop (i + 1) kinds → drop i tracks ≡ track ∷ drop (i + 1) tracks
    → bytes ≡ track_pbu kind.pbu_type track → new ≡ take place out ++ (bytes ++ after) → place + length bytes ≡ end → end ≤ length new → ArePutSoFar kinds tracks i place out → ArePutSoFar kinds tracks (i + 1) end new
next-put kinds tracks i place end out new bytes after kind track split_kinds split_tracks eb en long inside so_far =
    let next : pbu_at kinds tracks i kind track = ap₂ state_pbus split_kinds split_tracks in
    let later : List ℕ = state_pbus (drop (i + 1) kinds) (drop (i + 1) tracks) in
    let all : take place out ++ (bytes ++ later) ≡ state_pbus kinds tracks =
    ap (λ (xs : List ℕ). take place out ++ (xs ++ later)) eb ∙ ap (λ (xs : List ℕ). take place out ++ xs) (sym next) ∙ so_far.written in
    record {
      inside = inside;
      written = next-written new (take place out) bytes after later (state_pbus kinds tracks) end en (omega (arith, long, length-take-le place out so_far.inside)) all;
      lengths = (subst (AllByRecursion HasLengths) split_tracks so_far.lengths).1;
    }

-- after the last frame all are put
pub all-put : (kinds : List TrackKind) (tracks : List TrackState) (i place : ℕ) (out : List ℕ) → length kinds ≤ i → length out ≡ length (state_pbus kinds tracks) → ArePutSoFar kinds tracks i place out → out ≡ state_pbus kinds tracks
all-put kinds tracks i place out le room so_far =
    let none : state_pbus (drop i kinds) (drop i tracks) ≡ [] = ap (λ (ks : List TrackKind). state_pbus ks (drop i tracks)) (drop_all i kinds le) in
    let are : take place out ≡ state_pbus kinds tracks = sym (append-nil (take place out)) ∙ ap (λ (xs : List ℕ). take place out ++ xs) (sym none) ∙ so_far.written in
    let whole : length out ≤ place = omega (arith, room, ap length are, length-take-le place out so_far.inside) in
    sym (take_all place out whole) ∙ are
