-- Tracks coded one after another, and QPs tried one after another.
use Rattle.std.proofs.Common.{◌≡◌, ℕ, ℤ, zero, suc, ◌+◌, ◌^◌, ◌<◌, ◌≤◌, ◌⊎◌, inl, inr, List, [], ◌∷◌, length, get_or, map, drop, refl, sym, ap, ◌∙◌, subst, arith, ◌-◌}
use Rattle.std.specs.Prelude.{slice_set, min}
use Rattle.std.proofs.lemmas.Bool.{cases_lt}
use Rattle.std.proofs.lemmas.List.Sums.{sum_by-cons}
use Rattle.apv_base.specs.model.Header.{grid_of}
use Rattle.apv_base.specs.model.Nearest.{AreLevelsOf}
use Rattle.apv_base.specs.model.Picture.{Samples}
use Rattle.apv_search.specs.declared.choice.Chosen.{Chosen}
use Rattle.apv_search.specs.declared.choice.QpRange.{QpRange}
use Rattle.apv_search.specs.declared.choice.TooLarge.{TooLarge}
use Rattle.apv_search.specs.Choice.{IsRequantised, AreRequantised, IsAtQp, AreAtQp, frame_data, data_of, HasSizeAt, IsInRange, IsLeast, IsTooLarge, AreLeftAt}
use Rattle.apv_workers.specs.Encode.{AreCoefficients, AreNearestTo}
use Rattle.apv_workers.specs.Track.{TrackState, HasLengths, levels_of, qps_of}

-- ---- one track

abbrev at_qp : ℕ → List ℤ → TrackState → TrackState
at_qp q levels state = record state { q = q; levels = levels }

abbrev with_lengths : List ℕ → TrackState → TrackState
with_lengths lengths state = record state { lengths = lengths }

abbrev HasNearest : TrackState → Type 0
HasNearest s = AreNearestTo s.header (qps_of s) s.coeffs s.levels

abbrev HasPicture : TrackState → Type 0
HasPicture s = (samples : Samples) → AreCoefficients (grid_of s.header) samples s.coeffs → AreLevelsOf s.header (qps_of s) samples (levels_of s)

-- the levels and the lengths were set one after the other
pub track-at : (q : ℕ) (a b c : TrackState) → b ≡ at_qp q b.levels a → c ≡ with_lengths c.lengths b → HasNearest b → HasPicture b → HasLengths c → IsAtQp q a c
track-at q a b c eb ec nearest picture lengths = record {
  others = ec ∙ ap (with_lengths c.lengths) eb ∙ sym (whole q a b c eb ec);
  qp_is = ap (λ (s : TrackState). s.q) ec ∙ ap (λ (s : TrackState). s.q) eb;
  nearest = subst HasNearest (sym ec) nearest;
  picture = subst HasPicture (sym ec) picture;
  lengths = lengths;
} where
  whole : (q : ℕ) (a b c : TrackState) → b ≡ at_qp q b.levels a → c ≡ with_lengths c.lengths b → record a { levels = c.levels; lengths = c.lengths; q = c.q } ≡ record a { levels = b.levels; lengths = c.lengths; q = q }
  whole q a b c eb ec = ap (λ (s : TrackState). record a { levels = s.levels; lengths = c.lengths; q = s.q }) ec ∙ ap (λ (n : ℕ). record a { levels = b.levels; lengths = c.lengths; q = n }) (ap (λ (s : TrackState). s.q) eb)

again : (a b c : TrackState) → IsRequantised a b → IsRequantised b c → IsRequantised a c
again a b c ab bc = bc ∙ ap (λ (s : TrackState). record s { levels = c.levels; lengths = c.lengths; q = c.q }) ab

at-again : (q : ℕ) (a b c : TrackState) → IsRequantised a b → IsAtQp q b c → IsAtQp q a c
at-again q a b c ab at = record { others = again a b c ab at.others; qp_is = at.qp_is; nearest = at.nearest; picture = at.picture; lengths = at.lengths }

-- ---- all tracks

pub all-again : (q : ℕ) (olds tracks news : List TrackState) → AreRequantised olds tracks → AreAtQp q tracks news → AreAtQp q olds news
all-again q [] tracks news r at = subst (λ (list : List TrackState). AreAtQp q list news) r at
all-again q (a ∷ olds) [] news r at = absurd r
all-again q (a ∷ olds) (b ∷ tracks) [] r at = absurd at
all-again q (a ∷ olds) (b ∷ tracks) (c ∷ news) r at = (at-again q a b c r.0 at.0, all-again q olds tracks news r.1 at.1)

pub requantised : (q : ℕ) (olds news : List TrackState) → AreAtQp q olds news → AreRequantised olds news
requantised q [] news at = at
requantised q (a ∷ olds) [] at = absurd at
requantised q (a ∷ olds) (b ∷ news) at = (at.0.others, requantised q olds news at.1)

pub as-before : (tracks : List TrackState) → AreRequantised tracks tracks
as-before [] = refl
as-before (a ∷ tracks) = (refl, as-before tracks)

pub same-count : (olds news : List TrackState) → AreRequantised olds news → length news ≡ length olds
same-count [] news r = ap length r
same-count (a ∷ olds) [] r = absurd r
same-count (a ∷ olds) (b ∷ news) r = ap suc (same-count olds news r.1)

-- the first n of the tracks are at a QP, their data has so many bytes, and the others are as before
abbrev pub FirstAtQp : ℕ → ℕ → List TrackState → List TrackState → ℕ → Type 0
FirstAtQp q zero olds news total = (news ≡ olds) × (total ≡ 0)
FirstAtQp q (suc n) [] news total = ⊥
FirstAtQp q (suc n) (old ∷ olds) [] total = ⊥
FirstAtQp q (suc n) (old ∷ olds) (new ∷ news) total = IsAtQp q old new × ((rest : ℕ) × FirstAtQp q n olds news rest × (total ≡ frame_data new + rest))

pub first-more : (q n : ℕ) (olds news : List TrackState) (total : ℕ) (d new : TrackState) → n < length news → FirstAtQp q n olds news total → IsAtQp q (get_or news n d) new → FirstAtQp q (suc n) olds (slice_set news n new) (total + frame_data new)
first-more q zero [] [] total d new lt first at = absurd (omega (arith, lt))
first-more q zero [] (x ∷ xs) total d new lt first at = absurd (omega (arith, ap length first.0))
first-more q zero (old ∷ olds) [] total d new lt first at = absurd (omega (arith, lt))
first-more q zero (old ∷ olds) (x ∷ xs) total d new lt first at = (
  subst (λ (s : TrackState). IsAtQp q s new) (ap (λ (ss : List TrackState). get_or ss 0 d) first.0) at,
  (0, (ap (drop 1) first.0, refl), omega (arith, first.1)),
)
first-more q (suc n) [] news total d new lt first at = absurd first
first-more q (suc n) (old ∷ olds) [] total d new lt first at = absurd first
first-more q (suc n) (old ∷ olds) (x ∷ xs) total d new lt first at = (
  first.0,
  (first.1.0 + frame_data new, first-more q n olds xs first.1.0 d new (omega (arith, lt)) first.1.1 at, omega (arith, first.1.2)),
)

-- the next one with the bytes that were counted
pub first-step : (q n : ℕ) (olds news : List TrackState) (total : ℕ) (d new : TrackState) (bytes : ℕ) → n < length news → FirstAtQp q n olds news total → IsAtQp q (get_or news n d) new → bytes ≡ frame_data new
    → FirstAtQp q (n + 1) olds (slice_set news n new) (total + bytes)
first-step q n olds news total d new bytes lt first at e =
    let next : suc n ≡ n + 1 = omega arith in
    subst (λ (m : ℕ). FirstAtQp q m olds (slice_set news n new) (total + bytes)) next
    (subst (λ (b : ℕ). FirstAtQp q (suc n) olds (slice_set news n new) (total + b)) (sym e) (first-more q n olds news total d new lt first at))

pub all-first : (q n : ℕ) (olds news : List TrackState) (total : ℕ) → n ≡ length news → length news ≡ length olds → FirstAtQp q n olds news total → AreAtQp q olds news × (total ≡ data_of news)
all-first q zero [] [] total e f first = (refl, first.1)
all-first q zero (old ∷ olds) [] total e f first = absurd (omega (arith, f))
all-first q zero [] (x ∷ xs) total e f first = absurd (omega (arith, e))
all-first q zero (old ∷ olds) (x ∷ xs) total e f first = absurd (omega (arith, e))
all-first q (suc n) [] news total e f first = absurd first
all-first q (suc n) (old ∷ olds) [] total e f first = absurd first
all-first q (suc n) (old ∷ olds) (x ∷ xs) total e f first =
    let more = all-first q n olds xs first.1.0 (omega (arith, e)) (omega (arith, f)) first.1.1 in
    ((first.0, more.0), first.1.2 ∙ ap (λ (m : ℕ). frame_data x + m) more.1 ∙ sym (sum_by-cons (λ (y : ℕ). y) (frame_data x) (map frame_data xs)))

-- ---- the QPs of a range

-- a QP was tried whose size is the least so far
pub record HasLeastSoFar (fixed : ℕ) (tracks : List TrackState) (range : QpRange) (limit smallest : ℕ) : Type 0 where
  pub q : ℕ
  pub permitted : IsInRange range q
  pub size : HasSizeAt fixed tracks q smallest
  pub above : limit < smallest

-- all QPs of the range before one were tried, and none fits
pub record AreTried (fixed : ℕ) (tracks : List TrackState) (range : QpRange) (limit next smallest : ℕ) (news : List TrackState) : Type 0 where
  pub same : AreRequantised tracks news
  pub none : next ≡ range.least → smallest ≡ 2 ^ 64 - 1
  pub some : range.least < next → HasLeastSoFar fixed tracks range limit smallest
  pub each : (q : ℕ) → range.least ≤ q → q < next → (size : ℕ) × HasSizeAt fixed tracks q size × (limit < size) × (smallest ≤ size)

pub none-tried : (fixed : ℕ) (tracks : List TrackState) (range : QpRange) (limit next smallest : ℕ) → next ≡ range.least → smallest ≡ 2 ^ 64 - 1 → AreTried fixed tracks range limit next smallest tracks
none-tried fixed tracks range limit next smallest e f = record {
  same = as-before tracks;
  none = λ first. f;
  some = λ lt. absurd (omega (arith, lt, e));
  each = λ q from below. absurd (omega (arith, from, below, e));
}

-- the size at the QP that is tried
pub size-here : (fixed : ℕ) (tracks : List TrackState) (range : QpRange) (limit qp smallest size : ℕ) (news next : List TrackState) → AreTried fixed tracks range limit qp smallest news → AreAtQp qp news next → size ≡ fixed + data_of next
    → HasSizeAt fixed tracks qp size
size-here fixed tracks range limit qp smallest size news next tried at e = (next, all-again qp tracks news next tried.same at, e)

each-more : (fixed : ℕ) (tracks : List TrackState) (range : QpRange) (limit qp smallest size least : ℕ) → HasSizeAt fixed tracks qp size → limit < size → least ≤ smallest → least ≤ size
    → ((q : ℕ) → range.least ≤ q → q < qp → (n : ℕ) × HasSizeAt fixed tracks q n × (limit < n) × (smallest ≤ n))
    → (q : ℕ) → range.least ≤ q → q < qp + 1 → (n : ℕ) × HasSizeAt fixed tracks q n × (limit < n) × (least ≤ n)
each-more fixed tracks range limit qp smallest size least has above le here each q from below = elim (cases_lt q qp) [
  | inl lt ↦ (let before = each q from lt in (before.0, before.1, before.2, omega (arith, before.3, le)))
  | inr ge ↦ (let same : qp ≡ q = omega (arith, ge, below) in (size, subst (λ (n : ℕ). HasSizeAt fixed tracks n size) same has, above, here))
]

pub tried-more : (fixed : ℕ) (tracks : List TrackState) (range : QpRange) (limit qp smallest size least : ℕ) (news next : List TrackState) → AreTried fixed tracks range limit qp smallest news → AreAtQp qp news next → size ≡ fixed + data_of next
    → limit < size → size ≤ 2 ^ 64 - 1 → range.least ≤ qp → qp ≤ range.greatest → least ≤ smallest → least ≤ size → (least ≡ smallest) ⊎ (least ≡ size) → AreTried fixed tracks range limit (qp + 1) least next
tried-more fixed tracks range limit qp smallest size least news next tried at e above few from to le here one =
    let has = size-here fixed tracks range limit qp smallest size news next tried at e in
    let now : HasLeastSoFar fixed tracks range limit size = record { q = qp; permitted = (from, to); size = has; above = above } in
    record {
      same = requantised qp tracks next (all-again qp tracks news next tried.same at);
      none = λ first. absurd (omega (arith, first, from));
      some = λ lt. elim one [
        | inr is ↦ subst (HasLeastSoFar fixed tracks range limit) (sym is) now
        | inl is ↦ elim (cases_lt range.least qp) [
          | inl later ↦ subst (HasLeastSoFar fixed tracks range limit) (sym is) (tried.some later)
          | inr first ↦ (let same : size ≡ least = omega (arith, is, here, few, tried.none (omega (arith, first, from))) in subst (HasLeastSoFar fixed tracks range limit) same now)
        ]
      ];
      each = each-more fixed tracks range limit qp smallest size least has above le here tried.each;
    }

-- the QP that is tried fits
pub is-least : (fixed : ℕ) (tracks : List TrackState) (range : QpRange) (limit smallest : ℕ) (chosen : Chosen) (news next : List TrackState) → AreTried fixed tracks range limit chosen.qp smallest news → AreAtQp chosen.qp news next
    → chosen.size ≡ fixed + data_of next → chosen.size ≤ limit → range.least ≤ chosen.qp → chosen.qp ≤ range.greatest → IsLeast fixed tracks range limit chosen
is-least fixed tracks range limit smallest chosen news next tried at e fits from to = record {
  permitted = (from, to);
  size = size-here fixed tracks range limit chosen.qp smallest chosen.size news next tried at e;
  fits = fits;
  before = λ q first lt. (let before = tried.each q first lt in (before.0, before.1, before.2));
}

pub left-at : (fixed : ℕ) (tracks : List TrackState) (range : QpRange) (limit smallest : ℕ) (chosen : Chosen) (news next : List TrackState) → AreTried fixed tracks range limit chosen.qp smallest news → AreAtQp chosen.qp news next
    → chosen.size ≡ fixed + data_of next → AreLeftAt fixed chosen tracks next
left-at fixed tracks range limit smallest chosen news next tried at e = record { at = all-again chosen.qp tracks news next tried.same at; size = e }

pub still-same : (fixed : ℕ) (tracks : List TrackState) (range : QpRange) (limit smallest qp : ℕ) (news next : List TrackState) → AreTried fixed tracks range limit qp smallest news → AreAtQp qp news next → AreRequantised tracks next
still-same fixed tracks range limit smallest qp news next tried at = requantised qp tracks next (all-again qp tracks news next tried.same at)

-- all QPs of the range were tried
pub is-too-large : (fixed : ℕ) (tracks : List TrackState) (range : QpRange) (limit next : ℕ) (large : TooLarge) (news : List TrackState) → AreTried fixed tracks range limit next large.smallest news → range.least ≤ range.greatest
    → next ≡ range.greatest + 1 → IsTooLarge fixed tracks range limit large
is-too-large fixed tracks range limit next large news tried order e =
    let least = tried.some (omega (arith, order, e)) in
    record {
      q = least.q;
      permitted = least.permitted;
      size = least.size;
      above = least.above;
      least = λ other in_range. (let before = tried.each other in_range.0 (omega (arith, in_range.1, e)) in (before.0, before.1, before.3));
    }

-- the lesser of two is one of them
pub one-of : (a b least : ℕ) → least ≡ min a b → (least ≤ a) × (least ≤ b) × ((least ≡ a) ⊎ (least ≡ b))
one-of a b least e = elim (cases_lt a b) [
  | inl lt ↦ (omega (arith, e), omega (arith, e), inl (omega (arith, e, lt)))
  | inr ge ↦ (omega (arith, e), omega (arith, e), inr (omega (arith, e, ge)))
]
