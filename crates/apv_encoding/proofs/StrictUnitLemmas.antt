-- The PBUs that an encoder writes keep the three rules of strict judging.
use Rattle.std.proofs.Common.{◌≡◌, ℕ, ◌<◌, List, [], ◌∷◌, ◌++◌, length, drop, refl, sym, ap, ap₂, ◌∙◌, subst, Option, Bool, true, false, ◌&&◌, ◌||◌, nat_eq, append-nil, append_assoc}
use Rattle.std.specs.Prelude.{not, map}
use Rattle.std.specs.List.{AllByRecursion, filter}
use Rattle.std.proofs.lemmas.Bool.{or_parts}
use Rattle.std.proofs.lemmas.List.{append_cancel_left}
use Rattle.std.proofs.lemmas.List.Elements.{filter-append}
use Rattle.apv_base.specs.model.AuInfo.{au_info_body}
use Rattle.apv_base.specs.model.CodedFrame.{Levels}
use Rattle.apv_base.specs.model.Payload.{Payload}
use Rattle.apv_base.specs.model.Pbu.{Pbu, AU_INFO, is_frame}
use Rattle.apv_base.specs.model.Strict.{PbuTest, HoldsNowhere, has_some, is_primary, is_main, is_further_primary, repeats_group, lists, lists_others, IsStrict}
use Rattle.apv_base.proofs.HeaderPartsLemmas.{all-append}
use Rattle.apv_base.proofs.SplitLemmas.{splits, same, first, second}
use Rattle.apv_laws.proofs.SpelledFieldLemmas.{all-more}
use Rattle.apv_encoding.specs.AccessUnit.{Pictures, AreTheirLevels, listed_frame}
use Rattle.apv_encoding.specs.Laws.{HaveSoundHeaders}
use Rattle.apv_encoding.specs.Settings.{Track}
use Rattle.apv_encoding.proofs.ListedFramesLemmas.{frames-listed}
use Rattle.apv_encoding.proofs.TrackFrameLemmas.{IsFrameTrack, IsFurtherTrack}
use Rattle.apv_encoding.proofs.UnitContentLemmas.{IsOther, all-frames, all-info, all-last}
use Rattle.apv_encoding.proofs.WrittenPbuLemmas.{filler_pbus, info_pbus, metadata_pbus, plain_pbu, track_pbu, track_pbus, unit_pbus}

-- ---- a test of PBUs

-- an item of a list whose items all have a fact
pub all-at : {A : Type 0} (P : A → Type 0) (before : List A) (x : A) (later : List A) → AllByRecursion P (before ++ x ∷ later) → P x
all-at P [] x later all = all.0
all-at P (one ∷ before) x later all = all-at P before x later all.1

-- where no PBU passes, whatever is before it, none passes
pub nowhere-at-all : (test : PbuTest) (pbus : List Pbu) → AllByRecursion (λ (pbu : Pbu). (before : List Pbu) → test before pbu ≡ false) pbus → HoldsNowhere test pbus
nowhere-at-all test pbus all before pbu later e =
    let Fails : Pbu → Type 0 = λ x. (others : List Pbu) → test others x ≡ false in
    all-at Fails before pbu later (subst (AllByRecursion Fails) e all) before

-- what is after a PBU, where one more is before
after-one : (front back before later : List Pbu) (one pbu : Pbu) (more : List Pbu) → front ++ one ∷ back ≡ before ++ pbu ∷ later → before ≡ front ++ one ∷ more → back ≡ more ++ pbu ∷ later
after-one front back before later one pbu more e f =
    let whole = e ∙ ap (λ (xs : List Pbu). xs ++ pbu ∷ later) f ∙ append_assoc front (one ∷ more) (pbu ∷ later) in
    let parts : one ∷ back ≡ one ∷ (more ++ pbu ∷ later) = append_cancel_left front (one ∷ back) (one ∷ (more ++ pbu ∷ later)) whole in ap (drop 1) parts

-- where one PBU alone might pass, and doesn't after those before it, none passes
pub nowhere-but-one : (test : PbuTest) (front : List Pbu) (one : Pbu) (back : List Pbu) → AllByRecursion (λ (pbu : Pbu). (before : List Pbu) → test before pbu ≡ false) front → test front one ≡ false
    → AllByRecursion (λ (pbu : Pbu). (before : List Pbu) → test before pbu ≡ false) back → HoldsNowhere test (front ++ one ∷ back)
nowhere-but-one test front one back none here nor before pbu later e =
    let Fails : Pbu → Type 0 = λ x. (others : List Pbu) → test others x ≡ false in
    elim (splits front one back before pbu later e) [
      | same f g ↦ ap₂ test (sym f) (sym g) ∙ here
      | second more f ↦ all-at Fails before pbu more (subst (AllByRecursion Fails) f none) before
      | first more f ↦ all-at Fails more pbu later (subst (AllByRecursion Fails) (after-one front back before later one pbu more e f) nor) before
    ]

-- ---- primary frames

and-false : (b c : Bool) → c ≡ false → (b && c) ≡ false
and-false true c e = e
and-false false c e = refl

false-and : (b c : Bool) → b ≡ false → (b && c) ≡ false
false-and b c e = rw e refl

-- a PBU that is no primary or non-primary frame passes neither test
abbrev IsMinor : ℕ → Type 0
IsMinor kind = (nat_eq kind 1 || nat_eq kind 2) ≡ false

no-primary : (pbu : Pbu) → IsMinor pbu.kind → (before : List Pbu) → is_further_primary before pbu ≡ false
no-primary pbu minor before = false-and (is_primary pbu) _ (or_parts (nat_eq pbu.kind 1) (nat_eq pbu.kind 2) minor).0

no-group : (pbu : Pbu) → IsMinor pbu.kind → (before : List Pbu) → repeats_group before pbu ≡ false
no-group pbu minor before = false-and (is_main pbu) _ minor

-- no frame is in access unit information
none-before : (is : Pbu → Bool) (present : Bool) (tracks : List Track) → is (plain_pbu AU_INFO (au_info_body (map listed_frame tracks))) ≡ false → has_some is (info_pbus present tracks) ≡ false
none-before is true tracks e = rw e refl
none-before is false tracks e = refl

primary-there : (present : Bool) (tracks : List Track) (one : Pbu) (back : List Pbu) → one.kind ≡ 1 → has_some is_primary (info_pbus present tracks ++ one ∷ back) ≡ true
primary-there true tracks one back e = rw e refl
primary-there false tracks one back e = rw e refl

-- ---- the list of frames

filter-none : (is : Pbu → Bool) (pbus : List Pbu) → AllByRecursion (λ (pbu : Pbu). is pbu ≡ false) pbus → filter is pbus ≡ []
filter-none is [] all = refl
filter-none is (pbu ∷ pbus) all = rw all.0 (filter-none is pbus all.1)

filter-whole : (is : Pbu → Bool) (pbus : List Pbu) → AllByRecursion (λ (pbu : Pbu). is pbu ≡ true) pbus → filter is pbus ≡ pbus
filter-whole is [] all = refl
filter-whole is (pbu ∷ pbus) all = rw all.0 (ap (λ (xs : List Pbu). pbu ∷ xs) (filter-whole is pbus all.1))

-- the frames among the PBUs of a unit
frames-among : (present : Bool) (filler : Option ℕ) (tracks : List Track) (q : ℕ) (all : List Levels) (bytes : List ℕ) (payloads : List Payload) → AllByRecursion IsFrameTrack tracks
    → filter (λ (pbu : Pbu). is_frame pbu.kind) (unit_pbus present filler tracks q all bytes payloads) ≡ track_pbus tracks q all
frames-among present filler tracks q all bytes payloads are =
    let is : Pbu → Bool = λ pbu. is_frame pbu.kind in
    let info : List Pbu = info_pbus present tracks in
    let frames : List Pbu = track_pbus tracks q all in
    let last : List Pbu = metadata_pbus bytes payloads ++ filler_pbus filler in
    filter-append is info (frames ++ last) ∙ ap₂ (λ (xs ys : List Pbu). xs ++ ys) (filter-none is info (all-info IsOther present tracks refl)) (filter-append is frames last
    ∙ ap₂ (λ (xs ys : List Pbu). xs ++ ys) (filter-whole is frames (all-frames (λ (kind : ℕ). is_frame kind ≡ true) IsFrameTrack tracks q all (λ track of. of.kind.is) are)) (filter-none is last (all-last IsOther filler bytes payloads refl refl))
    ∙ append-nil frames)

-- a PBU of another type lists nothing
no-list : (pbus : List Pbu) (pbu : Pbu) → nat_eq pbu.kind AU_INFO ≡ false → (before : List Pbu) → lists_others pbus before pbu ≡ false
no-list pbus pbu e before = false-and (nat_eq pbu.kind AU_INFO) _ e

info-lists : (present : Bool) (tracks : List Track) (pbus frames : List Pbu) → filter (λ (pbu : Pbu). is_frame pbu.kind) pbus ≡ frames → lists frames (au_info_body (map listed_frame tracks)) ≡ true
    → AllByRecursion (λ (pbu : Pbu). (before : List Pbu) → lists_others pbus before pbu ≡ false) (info_pbus present tracks)
info-lists false tracks pbus frames e listed = tt
info-lists true tracks pbus frames e listed = (λ before. ap (λ (xs : List Pbu). not (lists xs (au_info_body (map listed_frame tracks)))) e ∙ ap not listed, tt)

-- ---- the rules

-- the PBUs of an access unit, of which the first frame alone is primary or non-primary, are strictly valid
pub unit-strict : (present : Bool) (filler : Option ℕ) (track : Track) (further : List Track) (pictures : Pictures) (q : ℕ) (levels : Levels) (more : List Levels) (bytes : List ℕ) (payloads : List Payload) → track.kind ≡ 1
    → length (track ∷ further) < 65536 → AllByRecursion IsFrameTrack (track ∷ further) → AllByRecursion IsFurtherTrack further → HaveSoundHeaders (track ∷ further) → AreTheirLevels (track ∷ further) pictures q (levels ∷ more)
    → IsStrict (unit_pbus present filler (track ∷ further) q (levels ∷ more) bytes payloads)
unit-strict present filler track further pictures q levels more bytes payloads primary few are minor sound levels_are =
    let tracks : List Track = track ∷ further in
    let all : List Levels = levels ∷ more in
    let info : List Pbu = info_pbus present tracks in
    let one : Pbu = track_pbu track q levels in
    let last : List Pbu = metadata_pbus bytes payloads ++ filler_pbus filler in
    let back : List Pbu = track_pbus further q more ++ last in
    let pbus : List Pbu = unit_pbus present filler tracks q all bytes payloads in
    let minors : AllByRecursion (λ (pbu : Pbu). IsMinor pbu.kind) back =
    all-append (λ (pbu : Pbu). IsMinor pbu.kind) (track_pbus further q more) last (all-frames IsMinor IsFurtherTrack further q more (λ other is. is) minor) (all-last IsMinor filler bytes payloads refl refl) in
    let before : AllByRecursion (λ (pbu : Pbu). IsMinor pbu.kind) info = all-info IsMinor present tracks refl in
    let none : ℕ → Type 0 = λ kind. nat_eq kind AU_INFO ≡ false in
    let others : AllByRecursion (λ (pbu : Pbu). none pbu.kind) (track_pbus tracks q all ++ last) =
    all-append (λ (pbu : Pbu). none pbu.kind) (track_pbus tracks q all) last (all-frames none IsFrameTrack tracks q all (λ other is. is.kind.not_info) are) (all-last none filler bytes payloads refl refl) in
    let Lists : Pbu → Type 0 = λ pbu. (others : List Pbu) → lists_others pbus others pbu ≡ false in
    let listed = info-lists present tracks pbus (track_pbus tracks q all) (frames-among present filler tracks q all bytes payloads are) (frames-listed tracks pictures q all few are sound levels_are) in
    record {
      primary = primary-there present tracks one back primary;
      one_primary = nowhere-but-one is_further_primary info one back (all-more (λ (pbu : Pbu). IsMinor pbu.kind) (λ (pbu : Pbu). (others : List Pbu) → is_further_primary others pbu ≡ false) info no-primary before)
          (and-false (is_primary one) _ (none-before is_primary present tracks refl))
          (all-more (λ (pbu : Pbu). IsMinor pbu.kind) (λ (pbu : Pbu). (others : List Pbu) → is_further_primary others pbu ≡ false) back no-primary minors);
      groups = nowhere-but-one repeats_group info one back (all-more (λ (pbu : Pbu). IsMinor pbu.kind) (λ (pbu : Pbu). (others : List Pbu) → repeats_group others pbu ≡ false) info no-group before)
          (and-false (is_main one) _ (none-before (λ (other : Pbu). is_main other && nat_eq other.group one.group) present tracks refl))
          (all-more (λ (pbu : Pbu). IsMinor pbu.kind) (λ (pbu : Pbu). (others : List Pbu) → repeats_group others pbu ≡ false) back no-group minors);
      lists = nowhere-at-all (lists_others pbus) pbus (all-append Lists info (track_pbus tracks q all ++ last) listed (all-more (λ (pbu : Pbu). none pbu.kind) Lists (track_pbus tracks q all ++ last) (no-list pbus) others));
    }
