-- At most one level is nearest.
use Rattle.std.proofs.Common.{◌≡◌, ℕ, zero, suc, ◌<◌, ℤ, pos, negsuc, ap, sym, arith}
use Rattle.std.proofs.Math.Nat.{le_antisymm}
use Rattle.std.specs.Prelude.{unsigned_abs}
use Rattle.apv_base.specs.model.Quant.{distance, IsNearest}
use Rattle.apv_quant.specs.Laws.{HasOneNearest}
use Rattle.apv_quant.proofs.NearestLemmas.{distance_above, distance_across, distance_over, distance_under, row_more}

-- two levels of one size and opposite signs are not both nearest
not_both : (c : ℤ) (s b j : ℕ) → 0 < s → IsNearest c s b (pos (suc j)) → IsNearest c s b (negsuc j) → ⊥
not_both (pos a) s b j p h k =
    omega (arith, distance_above a s b (suc j), distance_across a s b j, distance_above a s b 0, row_more 0 (suc j) s (omega arith), h.least (negsuc j) k.permitted, k.least (pos (suc j)) h.permitted, h.least (pos 0) (omega arith))
not_both (negsuc a) s b j p h k =
    omega (arith, distance_over a s b (suc j), distance_under a s b (suc j), distance_over a s b 0, row_more 0 (suc j) s (omega arith), h.least (negsuc j) k.permitted, k.least (pos (suc j)) h.permitted, h.least (pos 0) (omega arith))

-- two nearest levels have one size
same_size : (c : ℤ) (s b : ℕ) (k l : ℤ) → IsNearest c s b k → IsNearest c s b l → unsigned_abs k ≡ unsigned_abs l
same_size c s b k l h i =
    let same : distance c s b l ≡ distance c s b k = le_antisymm (i.least k h.permitted) (h.least l i.permitted) in
    le_antisymm (h.nearer l i.permitted same) (i.nearer k h.permitted (sym same))

-- two nearest levels of one size are equal
by_size : (c : ℤ) (s b : ℕ) (k l : ℤ) → 0 < s → IsNearest c s b k → IsNearest c s b l → unsigned_abs k ≡ unsigned_abs l → k ≡ l
by_size c s b (pos k) (pos l) p h i e = ap pos e
by_size c s b (negsuc k) (negsuc l) p h i e = ap negsuc (omega arith)
by_size c s b (pos zero) (negsuc l) p h i e = absurd (omega arith)
by_size c s b (negsuc k) (pos zero) p h i e = absurd (omega arith)
by_size c s b (pos (suc k)) (negsuc l) p h i e =
    let same : k ≡ l = omega arith in absurd (not_both c s b k p h (rw same i))
by_size c s b (negsuc k) (pos (suc l)) p h i e =
    let same : l ≡ k = omega arith in absurd (not_both c s b l p i (rw same h))

pub one_nearest : HasOneNearest
one_nearest c s b k l p h i = by_size c s b k l p h i (same_size c s b k l h i)
