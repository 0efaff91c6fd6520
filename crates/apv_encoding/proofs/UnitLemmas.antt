-- Pictures have exactly one access unit at a QP.
use Rattle.std.proofs.Common.{◌≡◌, ℕ, List, [], ◌∷◌, ◌++◌, length, refl, sym, ap, ap₂, ◌∙◌, subst}
use Rattle.std.specs.Prelude.{if◌then◌else◌}
use Rattle.apv_base.specs.model.CodedFrame.{Levels}
use Rattle.apv_base.specs.model.Pbu.{signature}
use Rattle.apv_quant.specs.Laws.{HasOneNearest}
use Rattle.apv_base.specs.laws.Answer.{HasExactlyOne}
use Rattle.apv_encoding.specs.AccessUnit.{Pictures, EncodedUnit, AreTheirLevels, IsUnitOf, HasSizeAt, au_info_pbu, frame_pbus, metadata_pbu, filler_pbu}
use Rattle.apv_encoding.specs.Laws.{HaveSoundHeaders, IsUnitAt}
use Rattle.apv_encoding.specs.Settings.{EncoderSettings, Track}
use Rattle.apv_encoding.proofs.LevelsLemmas.{one_levels}

-- ---- the levels of each track

one-theirs : HasOneNearest → (tracks : List Track) (pictures : Pictures) (q : ℕ) (xs ys : List Levels) → HaveSoundHeaders tracks → AreTheirLevels tracks pictures q xs → AreTheirLevels tracks pictures q ys → xs ≡ ys
one-theirs nearest [] pictures q xs ys sound a b = a ∙ sym b
one-theirs nearest (track ∷ tracks) pictures q [] ys sound a b = absurd a
one-theirs nearest (track ∷ tracks) pictures q (x ∷ xs) [] sound a b = absurd b
one-theirs nearest (track ∷ tracks) pictures q (x ∷ xs) (y ∷ ys) sound a b =
    let one = one_levels nearest track.header (track.qps q) (pictures track.slot) sound.0 in
    ap₂ (λ (l : Levels) (more : List Levels). l ∷ more) (one.only x a.0 ∙ sym (one.only y b.0)) (one-theirs nearest tracks pictures q xs ys sound.1 a.1 b.1)

some-theirs : HasOneNearest → (tracks : List Track) (pictures : Pictures) (q : ℕ) → HaveSoundHeaders tracks → (all : List Levels) × AreTheirLevels tracks pictures q all
some-theirs nearest [] pictures q sound = ([], refl)
some-theirs nearest (track ∷ tracks) pictures q sound =
    let one = one_levels nearest track.header (track.qps q) (pictures track.slot) sound.0 in
    let more = some-theirs nearest tracks pictures q sound.1 in
    (one.one ∷ more.0, (one.is, more.1))

-- ---- the access unit

-- the bytes of the access unit of these levels
abbrev unit_bytes : EncoderSettings → List Track → List ℕ → ℕ → List Levels → List ℕ
unit_bytes settings tracks payloads q all =
    signature ++ ((if settings.au_info then au_info_pbu tracks else []) ++ (frame_pbus tracks q all ++ (metadata_pbu payloads ++ filler_pbu settings.filler)))

same-unit : (p q : ℕ) (xs ys : List Levels) (bytes others : List ℕ) → p ≡ q → xs ≡ ys → bytes ≡ others → ◌≡◌ {A = EncodedUnit} (record { q = p; levels = xs; bytes = bytes }) (record { q = q; levels = ys; bytes = others })
same-unit p q xs ys bytes others e f g = rw (e, f, g) refl

-- two access units of the pictures at one QP are equal
pub same-at : HasOneNearest → (settings : EncoderSettings) (tracks : List Track) (payloads : List ℕ) (pictures : Pictures) (u v : EncodedUnit) → HaveSoundHeaders tracks
    → IsUnitOf settings tracks payloads pictures u → IsUnitOf settings tracks payloads pictures v → u.q ≡ v.q → u ≡ v
same-at nearest settings tracks payloads pictures u v sound a b e =
    let levels : u.levels ≡ v.levels = one-theirs nearest tracks pictures u.q u.levels v.levels sound a.levels (subst (λ (q : ℕ). AreTheirLevels tracks pictures q v.levels) (sym e) b.levels) in
    let bytes : u.bytes ≡ v.bytes = a.bytes ∙ ap₂ (unit_bytes settings tracks payloads) e levels ∙ sym b.bytes in
    same-unit u.q v.q u.levels v.levels u.bytes v.bytes e levels bytes

-- pictures have an access unit at each QP
pub unit-at : HasOneNearest → (settings : EncoderSettings) (tracks : List Track) (payloads : List ℕ) (pictures : Pictures) (q : ℕ) → HaveSoundHeaders tracks → (unit : EncodedUnit) × IsUnitAt settings tracks payloads pictures q unit
unit-at nearest settings tracks payloads pictures q sound =
    let all = some-theirs nearest tracks pictures q sound in
    (record { q = q; levels = all.0; bytes = unit_bytes settings tracks payloads q all.0 }, record { unit_of = record { levels = all.1; bytes = refl }; qp = refl })

pub one_unit : HasOneNearest → (settings : EncoderSettings) (tracks : List Track) (payloads : List ℕ) (pictures : Pictures) (q : ℕ) → HaveSoundHeaders tracks → HasExactlyOne (IsUnitAt settings tracks payloads pictures q)
one_unit nearest settings tracks payloads pictures q sound =
    let unit = unit-at nearest settings tracks payloads pictures q sound in
    record { one = unit.0; is = unit.1; only = λ other has. same-at nearest settings tracks payloads pictures other unit.0 sound has.unit_of unit.1.unit_of (has.qp ∙ sym unit.1.qp) }

-- the sizes of access units at one QP are equal
pub same-size : HasOneNearest → (settings : EncoderSettings) (tracks : List Track) (payloads : List ℕ) (pictures : Pictures) (q m n : ℕ) → HaveSoundHeaders tracks
    → HasSizeAt settings tracks payloads pictures q m → HasSizeAt settings tracks payloads pictures q n → m ≡ n
same-size nearest settings tracks payloads pictures q m n sound a b =
    a.3 ∙ ap (λ (u : EncodedUnit). length u.bytes) (same-at nearest settings tracks payloads pictures a.0 b.0 sound a.1 b.1 (a.2 ∙ sym b.2)) ∙ sym b.3
