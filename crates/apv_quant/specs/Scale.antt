-- What a scale is seen as, and what its fields keep.
use Rattle.std.specs.Prelude.{◌≡◌, ℕ, ℤ, pos, ◌+◌, ◌*◌, ◌/◌, ◌^◌, ◌<◌, ◌≤◌, List, length, Option, Some}
use Rattle.std.specs.Prelude.{slice_index, slice_index_or}
use Rattle.apv_base.specs.model.Quant.{step_number, scaled, IsNearest}
use Rattle.apv_quant.specs.Quotient.{reciprocal_of, IsShortReciprocal}
use Rattle.apv_quant.specs.declared.halves.Halves.{Halves}
use Rattle.apv_quant.specs.declared.narrow.Narrow.{Narrow}

-- the step numbers of the 64 places, row after row, and the shift of the bit depth
pub record StepNumbers : Type 0 where
  pub steps : List ℕ
  pub shift : ℕ

-- the step numbers of a matrix's 64 values at a QP
abbrev pub AreStepsOf : List ℕ → ℕ → List ℕ → Type 0
AreStepsOf matrix qp steps = (place : ℕ) → place < 64
    → slice_index steps place ≡ step_number (slice_index matrix place) qp

-- 64 coefficients are the levels, scaled at the step numbers and the shift
abbrev pub AreScaled : List ℕ → ℕ → List ℤ → List ℤ → Type 0
AreScaled steps shift levels coeffs = (place : ℕ) → place < 64
    → slice_index_or coeffs place (pos 0)
    ≡ scaled (slice_index_or levels place (pos 0)) (slice_index steps place) shift

-- 64 levels are the nearest to the coefficients at the step numbers and the shift
abbrev pub AreNearest : List ℕ → ℕ → List ℤ → List ℤ → Type 0
AreNearest steps shift coeffs levels = (place : ℕ) → place < 64
    → IsNearest (slice_index_or coeffs place (pos 0)) (slice_index steps place) shift
    (slice_index_or levels place (pos 0))

-- each of 64 step numbers is below the limit
abbrev pub AreBelow : ℕ → List ℕ → Type 0
AreBelow limit steps = (place : ℕ) → place < 64 → slice_index steps place < limit

-- not each of 64 step numbers is below the limit
abbrev pub AreNotBelow : ℕ → List ℕ → Type 0
AreNotBelow limit steps = AreBelow limit steps → ⊥

-- each of 64 numbers is at most the limit
abbrev pub AreAtMost : ℕ → List ℕ → Type 0
AreAtMost limit xs = (place : ℕ) → place < 64 → slice_index xs place ≤ limit

-- each of 64 step numbers is a multiple of the factor
abbrev pub AreMultiples : ℕ → List ℕ → Type 0
AreMultiples factor steps = (place : ℕ) → place < 64
    → slice_index steps place / factor * factor ≡ slice_index steps place

-- 64 step numbers over a divisor
abbrev pub AreQuotients : ℕ → List ℕ → List ℕ → Type 0
AreQuotients divisor steps quotients = (place : ℕ) → place < 64
    → slice_index quotients place ≡ slice_index steps place / divisor

-- the reciprocals of 64 step numbers
abbrev pub AreReciprocals : List ℕ → List ℕ → Type 0
AreReciprocals steps reciprocals = (place : ℕ) → place < 64
    → slice_index reciprocals place ≡ reciprocal_of (slice_index steps place)

-- the high and the low 16 bits of reciprocals of 32 bits of 64 step numbers at a shift
abbrev pub AreHalves : List ℕ → ℕ → List ℕ → List ℕ → Type 0
AreHalves steps shift high low = (place : ℕ) → place < 64
    → IsShortReciprocal (slice_index steps place) shift
    (slice_index high place * 2 ^ 16 + slice_index low place)

-- 64 step numbers of 16 bits at a shift, which scale each level as those of a QP at the shift of the
-- bit depth do
pub record IsNarrow (steps : List ℕ) (shift : ℕ) (narrow_steps : List ℕ) (narrow_shift : ℕ)
    : Type 0 where
  pub count : length narrow_steps ≡ 64
  pub below : AreBelow (2 ^ 16) narrow_steps
  pub low : 1 ≤ narrow_shift
  pub high : narrow_shift ≤ 10
  pub same : (place : ℕ) → place < 64 → (level : ℤ)
      → scaled level (slice_index narrow_steps place) narrow_shift
      ≡ scaled level (slice_index steps place) shift

-- 64 step numbers and the shift of a bit depth of 10 to 12, for which no scaled level exceeds 32
-- bits, and, where there are some, step numbers of 16 bits that scale as they do
pub record IsScaling (steps : List ℕ) (shift : ℕ) (narrow : Option Narrow) : Type 0 where
  pub count : length steps ≡ 64
  pub below : AreBelow (2 ^ 27) steps
  pub within : AreBelow (2 ^ (16 + shift)) steps
  pub shift_low : 8 ≤ shift
  pub shift_high : shift ≤ 10
  pub as_narrow : (n : Narrow) → narrow ≡ Some n → IsNarrow steps shift n.steps n.shift

-- the reciprocals of step numbers and, where there are some, the halves of those of 32 bits
pub record IsScale (steps : StepNumbers) (reciprocals : List ℕ) (halves : Option Halves) : Type 0 where
  pub reciprocal_count : length reciprocals ≡ 64
  pub reciprocal : AreReciprocals steps.steps reciprocals
  pub half : (h : Halves) → halves ≡ Some h → AreHalves steps.steps steps.shift h.high h.low
