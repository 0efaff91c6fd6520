-- Pictures have one access unit at the QP that is chosen, or their access units are too large.
use Rattle.std.proofs.Common.{◌≡◌, ℕ, zero, suc, ◌+◌, ◌-◌, ◌<◌, ◌≤◌, inl, inr, List, length, refl, sym, ◌∙◌, subst, arith, Option}
use Rattle.std.proofs.Math.Nat.{le_antisymm}
use Rattle.std.proofs.lemmas.Bool.{cases_lt}
use Rattle.apv_base.specs.laws.Answer.{HasOneAnswer, HasSomeAnswer}
use Rattle.apv_base.specs.model.Quant.{max_qp}
use Rattle.apv_quant.specs.Laws.{HasOneNearest}
use Rattle.apv_encoding.specs.AccessUnit.{Pictures, EncodedUnit, IsUnitOf, HasSizeAt, IsChosen, FitsNowhere}
use Rattle.apv_encoding.specs.Laws.{HaveSoundHeaders, HasPermittedQp, IsChosenUnit, IsTooLarge}
use Rattle.apv_encoding.specs.Settings.{EncoderSettings, Track, RateControl, fixed, limited, given_or, IsPermittedQp}
use Rattle.apv_encoding.proofs.UnitLemmas.{same-at, unit-at, same-size}

-- ---- numbers from a first to a last one

-- one of the first n numbers from a on is the first with a small value, or all are large and one has the least
data FirstOr (value : ℕ → ℕ) (limit a n : ℕ) : Type 0 where
  first_small : (q : ℕ) → a ≤ q → q < a + n → value q ≤ limit → ((p : ℕ) → a ≤ p → p < q → limit < value p) → FirstOr value limit a n
  all_large : (q : ℕ) → a ≤ q → q < a + n → limit < value q → ((p : ℕ) → a ≤ p → p < a + n → value q ≤ value p) → FirstOr value limit a n

last-least : (value : ℕ → ℕ) (a n q : ℕ) → ((p : ℕ) → a ≤ p → p < a + n → value q ≤ value p) → (r : ℕ) → value r ≤ value q → value r ≤ value (a + n) → (p : ℕ) → a ≤ p → p < a + suc n → value r ≤ value p
last-least value a n q least r le last p from below = elim (cases_lt p (a + n)) [
  | inl lt ↦ omega (arith, least p from lt, le)
  | inr ge ↦ (let same : a + n ≡ p = omega arith in subst (λ (x : ℕ). value r ≤ value x) same last)
]

one-number : (value : ℕ → ℕ) (a r p : ℕ) → r ≡ a → a ≤ p → p < a + 1 → value r ≤ value p
one-number value a r p e from below = let same : r ≡ p = omega arith in subst (λ (x : ℕ). value r ≤ value x) same (omega arith)

all-before : (value : ℕ → ℕ) (limit a n q : ℕ) → limit < value q → ((p : ℕ) → a ≤ p → p < a + n → value q ≤ value p) → (p : ℕ) → a ≤ p → p < a + n → limit < value p
all-before value limit a n q above least p from below = omega (arith, least p from below)

first-more : (value : ℕ → ℕ) (limit a n : ℕ) → FirstOr value limit a n → FirstOr value limit a (suc n)
first-more value limit a n (first_small q from below small before) = first_small q from (omega arith) small before
first-more value limit a n (all_large q from below above least) = elim (cases_lt limit (value (a + n))) [
  | inr small ↦ first_small (a + n) (omega arith) (omega arith) small (all-before value limit a n q above least)
  | inl large ↦ elim (cases_lt (value (a + n)) (value q)) [
    | inl lt ↦ all_large (a + n) (omega arith) (omega arith) large (last-least value a n q least (a + n) (omega arith) (omega arith))
    | inr ge ↦ all_large q from (omega arith) above (last-least value a n q least q (omega arith) ge)
  ]
]

first-or : (value : ℕ → ℕ) (limit a n : ℕ) → FirstOr value limit a (suc n)
first-or value limit a zero = elim (cases_lt limit (value a)) [
  | inl large ↦ all_large a (omega arith) (omega arith) large (λ p. one-number value a a p refl)
  | inr small ↦ first_small a (omega arith) (omega arith) small (λ p from below. absurd (omega arith))
]
first-or value limit a (suc n) = first-more value limit a (suc n) (first-or value limit a n)

-- ---- at most one answer

pub size-is : (settings : EncoderSettings) (tracks : List Track) (payloads : List ℕ) (pictures : Pictures) (unit : EncodedUnit) → IsUnitOf settings tracks payloads pictures unit → HasSizeAt settings tracks payloads pictures unit.q (length unit.bytes)
size-is settings tracks payloads pictures unit is = (unit, is, refl, refl)

-- of two units of the first QP that fits neither has the smaller QP
no-smaller : (settings : EncoderSettings) (depth : ℕ) (tracks : List Track) (payloads : List ℕ) (pictures : Pictures) (limit : ℕ) (first last : Option ℕ) (a b : EncodedUnit) → IsUnitOf settings tracks payloads pictures a
    → IsChosen settings depth tracks payloads pictures (limited limit first last) a → IsChosen settings depth tracks payloads pictures (limited limit first last) b → b.q ≤ a.q
no-smaller settings depth tracks payloads pictures limit first last a b is p q = elim (cases_lt a.q b.q) [
  | inr ge ↦ ge
  | inl lt ↦ absurd (omega (arith, q.2 a.q (length a.bytes) p.0 lt (size-is settings tracks payloads pictures a is), p.1))
]

same-qp : (settings : EncoderSettings) (depth : ℕ) (tracks : List Track) (payloads : List ℕ) (pictures : Pictures) (rate : RateControl) (a b : EncodedUnit) → IsUnitOf settings tracks payloads pictures a → IsUnitOf settings tracks payloads pictures b
    → IsChosen settings depth tracks payloads pictures rate a → IsChosen settings depth tracks payloads pictures rate b → a.q ≡ b.q
same-qp settings depth tracks payloads pictures (fixed qp) a b is is' p q = p ∙ sym q
same-qp settings depth tracks payloads pictures (limited limit first last) a b is is' p q =
    le_antisymm (no-smaller settings depth tracks payloads pictures limit first last b a is' q p) (no-smaller settings depth tracks payloads pictures limit first last a b is p q)

same-least : (settings : EncoderSettings) (depth : ℕ) (tracks : List Track) (payloads : List ℕ) (pictures : Pictures) (m n : ℕ) → FitsNowhere settings depth tracks payloads pictures m → FitsNowhere settings depth tracks payloads pictures n → m ≡ n
same-least settings depth tracks payloads pictures m n a b = le_antisymm (a.least b.q n b.permitted b.size) (b.least a.q m a.permitted a.size)

chosen-or-large : {A : Type 0} (settings : EncoderSettings) (depth : ℕ) (tracks : List Track) (payloads : List ℕ) (pictures : Pictures) (unit : EncodedUnit) (smallest : ℕ) → IsChosenUnit settings depth tracks payloads pictures unit
    → IsTooLarge settings depth tracks payloads pictures smallest → A
chosen-or-large settings depth tracks payloads pictures unit smallest is large =
    let chosen : IsChosen settings depth tracks payloads pictures (limited large.limit large.first large.last) unit = subst (λ (rate : RateControl). IsChosen settings depth tracks payloads pictures rate unit) large.rate is.chosen in
    let permitted : IsPermittedQp settings.rate depth unit.q = subst (λ (rate : RateControl). IsPermittedQp rate depth unit.q) (sym large.rate) chosen.0 in
    absurd (omega (arith, large.above, chosen.1, large.nowhere.least unit.q (length unit.bytes) permitted (size-is settings tracks payloads pictures unit is.unit_of)))

pub chosen-once : HasOneNearest → (settings : EncoderSettings) (depth : ℕ) (tracks : List Track) (payloads : List ℕ) (pictures : Pictures) → HaveSoundHeaders tracks
    → HasOneAnswer (IsChosenUnit settings depth tracks payloads pictures) (IsTooLarge settings depth tracks payloads pictures)
chosen-once nearest settings depth tracks payloads pictures sound = record {
  accepted = λ a b p q. same-at nearest settings tracks payloads pictures a b sound p.unit_of q.unit_of (same-qp settings depth tracks payloads pictures settings.rate a b p.unit_of q.unit_of p.chosen q.chosen);
  refused = λ m n p q. same-least settings depth tracks payloads pictures m n p.nowhere q.nowhere;
  not_both = λ unit smallest p q. chosen-or-large settings depth tracks payloads pictures unit smallest p q;
}

-- ---- at least one

-- the access unit at a QP has a number of bytes
size-at : HasOneNearest → (settings : EncoderSettings) (tracks : List Track) (payloads : List ℕ) (pictures : Pictures) → HaveSoundHeaders tracks → (q : ℕ) → (size : ℕ) × HasSizeAt settings tracks payloads pictures q size
size-at nearest settings tracks payloads pictures sound q =
    let unit = unit-at nearest settings tracks payloads pictures q sound in
    (length unit.0.bytes, (unit.0, unit.1.unit_of, unit.1.qp, refl))

-- a size at a QP below others, or above the limit as others are
before-large : HasOneNearest → (settings : EncoderSettings) (tracks : List Track) (payloads : List ℕ) (pictures : Pictures) (limit q size : ℕ) → HaveSoundHeaders tracks → (known : (n : ℕ) × HasSizeAt settings tracks payloads pictures q n) → limit < known.0
    → HasSizeAt settings tracks payloads pictures q size → limit < size
before-large nearest settings tracks payloads pictures limit q size sound known above has = omega (arith, above, same-size nearest settings tracks payloads pictures q size known.0 sound has known.1)

fits-first : (nearest : HasOneNearest) → (settings : EncoderSettings) (depth : ℕ) (tracks : List Track) (payloads : List ℕ) (pictures : Pictures) (limit : ℕ) (first last : Option ℕ) (sound : HaveSoundHeaders tracks) → settings.rate ≡ limited limit first last → (q : ℕ)
    → IsPermittedQp (limited limit first last) depth q → (size-at nearest settings tracks payloads pictures sound q).0 ≤ limit
    → ((p : ℕ) → given_or first 0 ≤ p → p < q → limit < (size-at nearest settings tracks payloads pictures sound p).0)
    → (unit : EncodedUnit) × IsChosenUnit settings depth tracks payloads pictures unit
fits-first nearest settings depth tracks payloads pictures limit first last sound e q permitted small before =
    let has = (size-at nearest settings tracks payloads pictures sound q).1 in
    let unit = has.0 in
    let chosen : IsChosen settings depth tracks payloads pictures (limited limit first last) unit = (
      subst (λ (x : ℕ). IsPermittedQp (limited limit first last) depth x) (sym has.2) permitted,
      omega (arith, small, has.3),
      λ p size also lt sized. before-large nearest settings tracks payloads pictures limit p size sound (size-at nearest settings tracks payloads pictures sound p) (before p also.0 (omega (arith, lt, has.2))) sized,
    ) in
    (unit, record { unit_of = has.1; chosen = subst (λ (rate : RateControl). IsChosen settings depth tracks payloads pictures rate unit) (sym e) chosen })

fits-nowhere : (nearest : HasOneNearest) → (settings : EncoderSettings) (depth : ℕ) (tracks : List Track) (payloads : List ℕ) (pictures : Pictures) (limit : ℕ) (first last : Option ℕ) (sound : HaveSoundHeaders tracks) → settings.rate ≡ limited limit first last → (q : ℕ)
    → IsPermittedQp (limited limit first last) depth q → limit < (size-at nearest settings tracks payloads pictures sound q).0
    → ((p : ℕ) → IsPermittedQp (limited limit first last) depth p → (size-at nearest settings tracks payloads pictures sound q).0 ≤ (size-at nearest settings tracks payloads pictures sound p).0)
    → (smallest : ℕ) × IsTooLarge settings depth tracks payloads pictures smallest
fits-nowhere nearest settings depth tracks payloads pictures limit first last sound e q permitted above least =
    let here = size-at nearest settings tracks payloads pictures sound q in (
      here.0,
      record {
        limit = limit;
        first = first;
        last = last;
        rate = e;
        nowhere = record {
          q = q;
          permitted = subst (λ (rate : RateControl). IsPermittedQp rate depth q) (sym e) permitted;
          size = here.1;
          least = λ other size also has. (let known = size-at nearest settings tracks payloads pictures sound other in
              omega (arith, least other (subst (λ (rate : RateControl). IsPermittedQp rate depth other) e also), same-size nearest settings tracks payloads pictures other size known.0 sound has known.1));
        };
        above = above;
      },
    )

limited-some : HasOneNearest → (settings : EncoderSettings) (depth : ℕ) (tracks : List Track) (payloads : List ℕ) (pictures : Pictures) (limit : ℕ) (first last : Option ℕ) → HaveSoundHeaders tracks → settings.rate ≡ limited limit first last
    → HasPermittedQp (limited limit first last) depth → HasSomeAnswer (IsChosenUnit settings depth tracks payloads pictures) (IsTooLarge settings depth tracks payloads pictures)
limited-some nearest settings depth tracks payloads pictures limit first last sound e some =
    let low : ℕ = given_or first 0 in
    let high : ℕ = given_or last (max_qp depth) in
    let order : low ≤ high = omega (arith, some.1.0, some.1.1) in
    elim (first-or (λ q. (size-at nearest settings tracks payloads pictures sound q).0) limit low (high - low)) [
      | first_small q from below small before ↦ inl (fits-first nearest settings depth tracks payloads pictures limit first last sound e q (from, omega (arith, below, order)) small before)
      | all_large q from below above least ↦ inr (fits-nowhere nearest settings depth tracks payloads pictures limit first last sound e q (from, omega (arith, below, order)) above (λ p permitted. least p permitted.0 (omega (arith, permitted.1, order))))
    ]

fixed-some : HasOneNearest → (settings : EncoderSettings) (depth : ℕ) (tracks : List Track) (payloads : List ℕ) (pictures : Pictures) (qp : ℕ) → HaveSoundHeaders tracks → settings.rate ≡ fixed qp
    → HasSomeAnswer (IsChosenUnit settings depth tracks payloads pictures) (IsTooLarge settings depth tracks payloads pictures)
fixed-some nearest settings depth tracks payloads pictures qp sound e =
    let unit = unit-at nearest settings tracks payloads pictures qp sound in
    inl (unit.0, record { unit_of = unit.1.unit_of; chosen = subst (λ (rate : RateControl). IsChosen settings depth tracks payloads pictures rate unit.0) (sym e) unit.1.qp })

some-by-rate : HasOneNearest → (settings : EncoderSettings) (depth : ℕ) (tracks : List Track) (payloads : List ℕ) (pictures : Pictures) (rate : RateControl) → HaveSoundHeaders tracks → settings.rate ≡ rate
    → HasPermittedQp rate depth → HasSomeAnswer (IsChosenUnit settings depth tracks payloads pictures) (IsTooLarge settings depth tracks payloads pictures)
some-by-rate nearest settings depth tracks payloads pictures (fixed qp) sound e some = fixed-some nearest settings depth tracks payloads pictures qp sound e
some-by-rate nearest settings depth tracks payloads pictures (limited limit first last) sound e some = limited-some nearest settings depth tracks payloads pictures limit first last sound e some

pub chosen-some : HasOneNearest → (settings : EncoderSettings) (depth : ℕ) (tracks : List Track) (payloads : List ℕ) (pictures : Pictures) → HaveSoundHeaders tracks → HasPermittedQp settings.rate depth
    → HasSomeAnswer (IsChosenUnit settings depth tracks payloads pictures) (IsTooLarge settings depth tracks payloads pictures)
chosen-some nearest settings depth tracks payloads pictures sound some = some-by-rate nearest settings depth tracks payloads pictures settings.rate sound refl some
