-- Access unit information lists the frames of its unit, in their order.
use Rattle.std.proofs.Common.{◌≡◌, ℕ, suc, ◌+◌, ◌^◌, ◌<◌, List, [], ◌∷◌, ◌++◌, length, take, refl, sym, ap, ap₂, ◌∙◌, arith, true, nat_lt, append_assoc, length-append}
use Rattle.std.specs.Prelude.{map}
use Rattle.std.specs.List.{AllByRecursion, flat_map}
use Rattle.std.specs.Str.{bytes_eq}
use Rattle.std.proofs.lemmas.Bool.{lt-ltb}
use Rattle.std.proofs.lemmas.List.{take_at}
use Rattle.std.proofs.lemmas.Slice.Eq.{bytes_eq-Decides}
use Rattle.apv_base.specs.model.AuInfo.{ListedFrame, au_info_body, listed_bytes}
use Rattle.apv_base.specs.model.Bits.{be}
use Rattle.apv_base.specs.model.CodedFrame.{Levels}
use Rattle.apv_base.specs.model.Encode.{frame_with}
use Rattle.apv_base.specs.model.Pbu.{Pbu}
use Rattle.apv_base.specs.model.Strict.{list_entry, frame_list, lists}
use Rattle.apv_base.proofs.BitsLemmas.{length-be}
use Rattle.apv_encoding.specs.AccessUnit.{Pictures, AreTheirLevels, listed_frame}
use Rattle.apv_encoding.specs.Laws.{HaveSoundHeaders}
use Rattle.apv_encoding.specs.Settings.{Track}
use Rattle.apv_base.proofs.AuInfoBytesLemmas.{au-info-bytes}
use Rattle.apv_encoding.proofs.InfoBytesLemmas.{frame-first}
use Rattle.apv_encoding.proofs.TrackFrameLemmas.{IsFrameTrack}
use Rattle.apv_encoding.proofs.WrittenPbuLemmas.{track_pbus, are-listable, length-listed}

-- a body that begins with the list of frames lists them
lists-them : (frames : List Pbu) (body rest : List ℕ) → length frames < 65536 → body ≡ frame_list frames ++ rest → lists frames body ≡ true
lists-them frames body rest few e =
    let n : ℕ = 2 + length (flat_map list_entry frames) in
    let long : length (frame_list frames) ≡ n = omega (arith, length-append (be 2 (length frames)) (flat_map list_entry frames), length-be 2 (length frames)) in
    let begins : take n body ≡ frame_list frames = ap (take n) e ∙ take_at (frame_list frames) rest n long in
    let same : bytes_eq (take n body) (frame_list frames) ≡ true = (bytes_eq-Decides (take n body) (frame_list frames)).1 begins in
    let small : nat_lt (length frames) (2 ^ 16) ≡ true = lt-ltb (length frames) (2 ^ 16) (omega (arith, few)) in
    rw (small, same) refl

-- the frames of the tracks are listed by their own first bytes
entries-listed : (tracks : List Track) (pictures : Pictures) (q : ℕ) (all : List Levels) → HaveSoundHeaders tracks → AreTheirLevels tracks pictures q all → flat_map list_entry (track_pbus tracks q all) ≡ flat_map listed_bytes (map listed_frame tracks)
entries-listed [] pictures q all sound are = refl
entries-listed (track ∷ tracks) pictures q [] sound are = absurd are
entries-listed (track ∷ tracks) pictures q (levels ∷ more) sound are =
    let first = frame-first (frame_with track.header (track.qps q) levels) sound.0.info in
    ap₂ (λ (info later : List ℕ). (track.kind ∷ (be 2 1 ++ 0 ∷ info)) ++ later) first (entries-listed tracks pictures q more sound.1 are.1)

-- each track has a frame
length-frames : (tracks : List Track) (pictures : Pictures) (q : ℕ) (all : List Levels) → AreTheirLevels tracks pictures q all → length (track_pbus tracks q all) ≡ length tracks
length-frames [] pictures q all are = refl
length-frames (track ∷ tracks) pictures q [] are = absurd are
length-frames (track ∷ tracks) pictures q (levels ∷ more) are = ap suc (length-frames tracks pictures q more are.1)

-- access unit information of the tracks lists their frames
pub frames-listed : (tracks : List Track) (pictures : Pictures) (q : ℕ) (all : List Levels) → length tracks < 65536 → AllByRecursion IsFrameTrack tracks → HaveSoundHeaders tracks → AreTheirLevels tracks pictures q all
    → lists (track_pbus tracks q all) (au_info_body (map listed_frame tracks)) ≡ true
frames-listed tracks pictures q all few are sound levels_are =
    let frames : List Pbu = track_pbus tracks q all in
    let listed : List ListedFrame = map listed_frame tracks in
    let long : length listed ≡ length frames = length-listed tracks ∙ sym (length-frames tracks pictures q all levels_are) in
    let spelled = au-info-bytes listed (omega (arith, few, length-listed tracks)) (are-listable tracks are sound) in
    lists-them frames (au_info_body listed) (0 ∷ []) (omega (arith, few, length-frames tracks pictures q all levels_are))
    (spelled ∙ ap₂ (λ (n : ℕ) (entries : List ℕ). be 2 n ++ (entries ++ 0 ∷ [])) long (sym (entries-listed tracks pictures q all sound levels_are))
    ∙ sym (append_assoc (be 2 (length frames)) (flat_map list_entry frames) (0 ∷ [])))
