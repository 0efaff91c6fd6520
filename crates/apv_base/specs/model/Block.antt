-- The levels of a block as bits: dc_coeff_coding() and ac_coeff_coding() of the RFC, from the set of places whose
-- level isn't 0. A block is given by its levels z p at the scan places p.
use Rattle.std.specs.Prelude.{◌≡◌, ℕ, zero, suc, ℤ, pos, negsuc, neg_ℤ, ◌+ℤ◌, ◌-ℤ◌, ◌-◌, ◌/◌, ◌<◌, ◌≤◌, min, List, []}
use Rattle.std.specs.Prelude.{◌∷◌, ◌++◌, nat_lt, unsigned_abs, ◌==◌, if◌then◌else◌}
use Rattle.std.specs.List.{flat_map}
use Rattle.apv_base.specs.declared.rules.Rule.{Rule}
use Rattle.apv_base.specs.declared.rules.Rule.TheVariants.{V27, V28, V29, V30}
use Rattle.apv_base.specs.model.CodeWord.{code_word, HasValue, EndsInside, HasNone}
use Rattle.apv_base.specs.model.Quant.{IsLevel}

-- What the blocks before it leave for a block: PrevDC, PrevDcDiff and Prev1stAcLevel.
pub record Context : Type 0 where
  pub dc : ℤ
  pub diff : ℕ
  pub first : ℕ

-- the context of a component's first block
abbrev pub start : Context
start = record { dc = pos 0; diff = 20; first = 0 }

-- what blocks of permitted levels leave
pub record IsContext (context : Context) : Type 0 where
  pub dc : IsLevel context.dc
  pub diff : context.diff ≤ 65535
  pub first : context.first ≤ 32768

-- An element is a value in h(v) or a sign.
-- coded_value k limit most v: a value v in h(v) with the parameter k, the maximum value that its code permits, and the
-- maximum value that a block has there (abs_dc_coeff_diff, coeff_zero_run, abs_ac_coeff_minus1);
-- sign_bit plus minus bit: a sign, 1 for negative, and the levels that a 0 and a 1 give (sign_dc_coeff_diff,
-- sign_ac_coeff).
pub data Element : Type 0 where
  coded_value : (k limit most v : ℕ) → Element
  sign_bit : (plus minus : ℤ) (bit : ℕ) → Element

-- the bits of an element
abbrev pub element_bits : Element → List ℕ
element_bits (coded_value k limit most v) = code_word k v
element_bits (sign_bit plus minus s) = s ∷ []

-- the bits of elements, one after another
abbrev pub bits_of : List Element → List ℕ
bits_of elements = flat_map element_bits elements

-- the sign bit of a number: 1 where it is negative
abbrev pub sign_of : ℤ → ℕ
sign_of (pos n) = 0
sign_of (negsuc n) = 1

-- ---- the first level, by its difference from the one before

-- abs_dc_coeff_diff and, where it is not 0, sign_dc_coeff_diff
abbrev pub dc_elements : Context → ℤ → List Element
dc_elements context level =
    coded_value (min 5 (context.diff / 2)) 65535 65535 (unsigned_abs (level -ℤ context.dc))
    ∷ (if unsigned_abs (level -ℤ context.dc) == 0 then []
    else sign_bit (context.dc +ℤ pos (unsigned_abs (level -ℤ context.dc)))
    (context.dc -ℤ pos (unsigned_abs (level -ℤ context.dc))) (sign_of (level -ℤ context.dc)) ∷ [])

-- ---- the levels after it

-- the scan places, among the n from p on, whose level isn't 0
unfoldable pub places : (ℕ → ℤ) → ℕ → ℕ → List ℕ
places z zero p = []
places z (suc n) p = if unsigned_abs (z p) == 0 then places z n (suc p) else p ∷ places z n (suc p)

-- a run of zeros after the place a, and the level after it
abbrev pub level_elements : ℕ → ℕ → ℕ → ℕ → ℕ → ℕ → List Element
level_elements a run_before run level_before size negative =
    coded_value (min 2 (run_before / 4)) 63 (63 - a) run
    ∷ coded_value (min 4 (level_before / 4)) 32767 32767 (size - 1)
    ∷ sign_bit (pos size) (neg_ℤ (pos size)) negative ∷ []

-- the elements of the levels at these places, after the place a with the run and the level before it; a run up to the
-- end of the block is last where the last level isn't at place 63
unfoldable pub ac_elements : (ℕ → ℤ) → ℕ → ℕ → ℕ → List ℕ → List Element
ac_elements z a run level [] = if nat_lt a 63 then coded_value (min 2 (run / 4)) 63 (63 - a) (63 - a) ∷ [] else []
ac_elements z a run level (b ∷ bs) =
    level_elements a run (b - a - 1) level (unsigned_abs (z b)) (sign_of (z b))
    ++ ac_elements z b (b - a - 1) (unsigned_abs (z b)) bs

-- the elements of the levels from the place p on, after the place a with the run and the level before it
abbrev pub ac_from : (ℕ → ℤ) → ℕ → ℕ → ℕ → ℕ → List Element
ac_from z a run level p = ac_elements z a run level (places z (64 - p) p)

-- ---- a block

-- the elements of a block, under the context that the blocks before it leave
abbrev pub elements : Context → (ℕ → ℤ) → List Element
elements context z = dc_elements context (z 0) ++ ac_from z 0 0 context.first 1

-- the bits of a block
abbrev pub block_bits : Context → (ℕ → ℤ) → List ℕ
block_bits context z = bits_of (elements context z)

-- the size of the first of the levels at these places, or another where there is none
abbrev pub first_size : (ℕ → ℤ) → List ℕ → ℕ → ℕ
first_size z [] otherwise = otherwise
first_size z (a ∷ later) otherwise = unsigned_abs (z a)

-- what a block leaves
abbrev pub next_context : Context → (ℕ → ℤ) → Context
next_context context z = record {
  dc = z 0;
  diff = unsigned_abs (z 0 -ℤ context.dc);
  first = first_size z (places z 63 1) context.first;
}

-- each level of a block is permitted
abbrev pub AreLevels : (ℕ → ℤ) → Type 0
AreLevels z = (p : ℕ) → IsLevel (z p)

-- ---- where the bits of a block break

-- the level that a sign bit gives
abbrev pub signed : ℤ → ℤ → ℕ → ℤ
signed plus minus s = if s == 0 then plus else minus

-- the level that a sign gives is permitted
abbrev pub IsPermitted : Element → Type 0
IsPermitted (coded_value k limit most v) = Unit {0}
IsPermitted (sign_bit plus minus s) = IsLevel (signed plus minus s)

-- all of them are
abbrev pub ArePermitted : List Element → Type 0
ArePermitted [] = Unit {0}
ArePermitted (element ∷ more) = IsPermitted element × ArePermitted more

-- the bits left break at the next element: they end inside it, go on as no permitted value, give a run that is too
-- long, or give a level that isn't permitted
abbrev pub BreaksAt : Element → Rule → List ℕ → Type 0
BreaksAt (coded_value k limit most v) V27 left = EndsInside (code_word k) limit left
BreaksAt (coded_value k limit most v) V28 left = HasNone (code_word k) limit left
BreaksAt (coded_value k limit most v) V29 left = (u : ℕ) × HasValue (code_word k) limit left u × (most < u)
BreaksAt (sign_bit plus minus s) V27 left = left ≡ []
BreaksAt (sign_bit plus minus s) V30 left =
    (g : ℕ) × (rest : List ℕ) × (left ≡ g ∷ rest) × ¬ IsLevel (signed plus minus g)
BreaksAt element rule left = ⊥

-- a wide block: its levels may be greater than the permitted ones, as far as the numbers of a block reach
pub record HasCodableLevels (context : Context) (z : ℕ → ℤ) : Type 0 where
  pub dc : unsigned_abs (z 0 -ℤ context.dc) ≤ 65535
  pub ac : (p : ℕ) → 0 < p → unsigned_abs (z p) ≤ 32768

-- The bits begin with whole ones of these elements, of which each level is permitted, and break at the next. As no code
-- word begins another, these are the most elements that can be taken.
pub record BreaksAmong (expected : List Element) (b : List ℕ) (rule : Rule) : Type 0 where
  pub whole : List Element
  pub next : Element
  pub more : List Element
  pub all : expected ≡ whole ++ next ∷ more
  pub permitted : ArePermitted whole
  pub left : List ℕ
  pub prefix : b ≡ bits_of whole ++ left
  pub at : BreaksAt next rule left

-- the bits break among the elements of a wide block
pub record BlockBreaks (context : Context) (b : List ℕ) (rule : Rule) : Type 0 where
  pub block : ℕ → ℤ
  pub wide : HasCodableLevels context block
  pub breaks : BreaksAmong (elements context block) b rule
