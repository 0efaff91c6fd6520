-- QPs that need not be tried.
use Rattle.std.proofs.Common.{◌≡◌, ℕ, zero, suc, ◌+◌, ◌<◌, ◌≤◌, List, [], ◌∷◌, length, get_or, map, drop, inl, inr, refl, sym, ap, ◌∙◌, subst, arith}
use Rattle.std.specs.Prelude.{slice_set}
use Rattle.std.proofs.lemmas.Bool.{cases_lt}
use Rattle.std.proofs.lemmas.List.Sums.{sum_by-cons}
use Rattle.apv_search.specs.Choice.{AreAtQp, AreLeftAt, AreRequantised, HasSizeAt, IsAtQp, IsLargeAt, IsLeast, IsLeastData, IsRequantised, IsTooLarge, data_of, frame_data}
use Rattle.apv_search.specs.declared.choice.Chosen.{Chosen}
use Rattle.apv_search.specs.declared.choice.QpRange.{QpRange}
use Rattle.apv_search.specs.declared.choice.TooLarge.{TooLarge}
use Rattle.apv_workers.specs.Laws.{HasSomeLevels}
use Rattle.apv_workers.specs.Least.{IsLeastTotal}
use Rattle.apv_workers.specs.Track.{TrackState}
use Rattle.apv_search.proofs.SearchLemmas.{all-again}
use Rattle.apv_search.proofs.SizeLemmas.{nearest-at, data-at}

-- ---- tracks can be at each QP

some-track : HasSomeLevels → (q : ℕ) (old : TrackState) → (new : TrackState) × IsAtQp q old new
some-track some q old =
    let found = some old q in (
      record old { levels = found.0; lengths = found.1; q = q },
      record {
        others = refl;
        qp_is = refl;
        nearest = found.2.0;
        picture = found.2.1;
        lengths = found.2.2;
      },
    )

pub some-tracks : HasSomeLevels → (q : ℕ) (olds : List TrackState) → (news : List TrackState) × AreAtQp q olds news
some-tracks some q [] = ([], refl)
some-tracks some q (old ∷ olds) =
    let one = some-track some q old in
    let more = some-tracks some q olds in
    (one.0 ∷ more.0, (one.1, more.1))

-- ---- the least data of several tracks

-- the data of a track at a QP up to one have at least the bytes that were counted
least-at : (q most bytes : ℕ) (old new : TrackState) → IsLeastTotal old most bytes → q ≤ most → IsAtQp q old new → bytes ≤ frame_data new
least-at q most bytes old new least le at = omega (arith, least q new.levels le (nearest-at q old new at), data-at q old new at)

-- the data of the first n tracks have at least so many bytes at each QP up to one, and the others are as before
abbrev pub FirstLeast : ℕ → ℕ → List TrackState → List TrackState → ℕ → Type 0
FirstLeast most zero olds news total = (news ≡ olds) × (total ≡ 0)
FirstLeast most (suc n) [] news total = ⊥
FirstLeast most (suc n) (old ∷ olds) [] total = ⊥
FirstLeast most (suc n) (old ∷ olds) (new ∷ news) total =
    IsRequantised old new × ((bytes rest : ℕ) × IsLeastTotal old most bytes × FirstLeast most n olds news rest × (total ≡ bytes + rest))

least-more : (most n : ℕ) (olds news : List TrackState) (total bytes : ℕ) (d new : TrackState) → n < length news → FirstLeast most n olds news total → IsLeastTotal (get_or news n d) most bytes → IsRequantised (get_or news n d) new
    → FirstLeast most (suc n) olds (slice_set news n new) (total + bytes)
least-more most zero [] [] total bytes d new lt first least same = absurd (omega (arith, lt))
least-more most zero [] (x ∷ xs) total bytes d new lt first least same = absurd (omega (arith, ap length first.0))
least-more most zero (old ∷ olds) [] total bytes d new lt first least same = absurd (omega (arith, lt))
least-more most zero (old ∷ olds) (x ∷ xs) total bytes d new lt first least same =
    let is : x ≡ old = ap (λ (ss : List TrackState). get_or ss 0 d) first.0 in
    (subst (λ (s : TrackState). IsRequantised s new) is same, (bytes, 0, subst (λ (s : TrackState). IsLeastTotal s most bytes) is least, (ap (drop 1) first.0, refl), omega (arith, first.1)))
least-more most (suc n) [] news total bytes d new lt first least same = absurd first
least-more most (suc n) (old ∷ olds) [] total bytes d new lt first least same = absurd first
least-more most (suc n) (old ∷ olds) (x ∷ xs) total bytes d new lt first least same =
    (first.0, (first.1.0, first.1.1 + bytes, first.1.2, least-more most n olds xs first.1.1 bytes d new (omega (arith, lt)) first.1.3 least same, omega (arith, first.1.4)))

pub least-step : (most n : ℕ) (olds news : List TrackState) (total bytes : ℕ) (d new : TrackState) → n < length news → FirstLeast most n olds news total → IsLeastTotal (get_or news n d) most bytes → IsRequantised (get_or news n d) new
    → FirstLeast most (n + 1) olds (slice_set news n new) (total + bytes)
least-step most n olds news total bytes d new lt first least same =
    let next : suc n ≡ n + 1 = omega arith in
    subst (λ (m : ℕ). FirstLeast most m olds (slice_set news n new) (total + bytes)) next (least-more most n olds news total bytes d new lt first least same)

pub all-least : (most n : ℕ) (olds news : List TrackState) (total : ℕ) → n ≡ length news → length news ≡ length olds → FirstLeast most n olds news total → IsLeastData olds most total × AreRequantised olds news
all-least most zero [] [] total e f first = ((λ q states le at. omega (arith, first.1)), refl)
all-least most zero (old ∷ olds) [] total e f first = absurd (omega (arith, f))
all-least most zero [] (x ∷ xs) total e f first = absurd (omega (arith, e))
all-least most zero (old ∷ olds) (x ∷ xs) total e f first = absurd (omega (arith, e))
all-least most (suc n) [] news total e f first = absurd first
all-least most (suc n) (old ∷ olds) [] total e f first = absurd first
all-least most (suc n) (old ∷ olds) (x ∷ xs) total e f first =
    let bytes : ℕ = first.1.0 in
    let rest : ℕ = first.1.1 in
    let more = all-least most n olds xs rest (omega (arith, e)) (omega (arith, f)) first.1.3 in
    (both most bytes rest total old olds first.1.2 more.0 first.1.4, (first.0, more.1))
  where
    both : (most bytes rest total : ℕ) (old : TrackState) (olds : List TrackState) → IsLeastTotal old most bytes → IsLeastData olds most rest → total ≡ bytes + rest → IsLeastData (old ∷ olds) most total
    both most bytes rest total old olds least others is q [] le at = absurd at
    both most bytes rest total old olds least others is q (s ∷ states) le at =
        omega (arith, is, least-at q most bytes old s least le at.0, others q states le at.1, sum_by-cons (λ (y : ℕ). y) (frame_data s) (map frame_data states))

-- ---- halving the range

-- each permitted QP before the first one is too large
pub record AreSkipped (fixed : ℕ) (tracks : List TrackState) (range : QpRange) (limit first last : ℕ) (news : List TrackState) : Type 0 where
  pub same : AreRequantised tracks news
  pub from : range.least ≤ first
  pub order : first ≤ last
  pub to : last ≤ range.greatest
  pub before : (q : ℕ) → range.least ≤ q → q < first → IsLargeAt fixed tracks limit q

-- each QP up to one whose least data are above the limit is too large
pub large-to : HasSomeLevels → (fixed : ℕ) (tracks news : List TrackState) (limit most bytes q : ℕ) → AreRequantised tracks news → IsLeastData news most bytes → limit < fixed + bytes → q ≤ most → IsLargeAt fixed tracks limit q
large-to some fixed tracks news limit most bytes q same least above le =
    let found = some-tracks some q news in
    (fixed + data_of found.0, (found.0, all-again q tracks news found.0 same found.1, refl), omega (arith, above, least q found.0 le found.1))

-- ---- after the tracks were at some QPs

-- no more than the lengths and the QP were set
pub lengths-alone : (q : ℕ) (old new : TrackState) → new ≡ record old { lengths = new.lengths; q = q } → IsRequantised old new
lengths-alone q old new e = e ∙ sym (ap (λ (s : TrackState). record old { levels = s.levels; lengths = new.lengths; q = s.q }) e)

one-again : (a b c : TrackState) → IsRequantised a b → IsRequantised b c → IsRequantised a c
one-again a b c ab bc = bc ∙ ap (λ (s : TrackState). record s { levels = c.levels; lengths = c.lengths; q = c.q }) ab

pub tracks-again : (olds mids news : List TrackState) → AreRequantised olds mids → AreRequantised mids news → AreRequantised olds news
tracks-again [] mids news r s = subst (λ (list : List TrackState). AreRequantised list news) r s
tracks-again (a ∷ olds) [] news r s = absurd r
tracks-again (a ∷ olds) (b ∷ mids) [] r s = absurd s
tracks-again (a ∷ olds) (b ∷ mids) (c ∷ news) r s = (one-again a b c r.0 s.0, tracks-again olds mids news r.1 s.1)

size-again : (fixed : ℕ) (olds mids : List TrackState) (q size : ℕ) → AreRequantised olds mids → HasSizeAt fixed mids q size → HasSizeAt fixed olds q size
size-again fixed olds mids q size same has = (has.0, all-again q olds mids has.0 same has.1, has.2)

large-again : (fixed : ℕ) (olds mids : List TrackState) (limit q : ℕ) → AreRequantised olds mids → IsLargeAt fixed mids limit q → IsLargeAt fixed olds limit q
large-again fixed olds mids limit q same large = (large.0, size-again fixed olds mids q large.0 same large.1, large.2)

pub left-again : (fixed : ℕ) (chosen : Chosen) (olds mids news : List TrackState) → AreRequantised olds mids → AreLeftAt fixed chosen mids news → AreLeftAt fixed chosen olds news
left-again fixed chosen olds mids news same left = record { at = all-again chosen.qp olds mids news same left.at; size = left.size }

-- the least QP from one on is that of the range, where each QP before that one is too large
pub least-from : (fixed : ℕ) (olds mids : List TrackState) (range rest : QpRange) (limit : ℕ) (chosen : Chosen) → AreRequantised olds mids → range.least ≤ rest.least → rest.greatest ≡ range.greatest
    → ((q : ℕ) → range.least ≤ q → q < rest.least → IsLargeAt fixed olds limit q) → IsLeast fixed mids rest limit chosen → IsLeast fixed olds range limit chosen
least-from fixed olds mids range rest limit chosen same from to skipped least = record {
  permitted = (omega (arith, from, least.permitted.0), omega (arith, to, least.permitted.1));
  size = size-again fixed olds mids chosen.qp chosen.size same least.size;
  fits = least.fits;
  before = λ q low lt. elim (cases_lt q rest.least) [
    | inl early ↦ skipped q low early
    | inr late ↦ large-again fixed olds mids limit q same (least.before q late lt)
  ];
}

pub large-from : (fixed : ℕ) (olds mids : List TrackState) (range : QpRange) (limit : ℕ) (large : TooLarge) → AreRequantised olds mids → IsTooLarge fixed mids range limit large → IsTooLarge fixed olds range limit large
large-from fixed olds mids range limit large same is = record {
  q = is.q;
  permitted = is.permitted;
  size = size-again fixed olds mids is.q large.smallest same is.size;
  above = is.above;
  least = λ other inside. (let found = is.least other inside in (found.0, size-again fixed olds mids other found.0 same found.1, found.2));
}
