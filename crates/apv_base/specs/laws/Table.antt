-- Laws of tables of fields: to walk inverts to spell.
use Rattle.std.specs.Prelude.{◌≡◌, ℕ, ◌+◌, ◌^◌, ◌<◌, ◌≤◌, List, [], ◌∷◌, ◌++◌, length, drop, None, Ok}
use Rattle.apv_base.specs.model.Bits.{AreDigits}
use Rattle.apv_base.specs.model.Table.{Table, done, field, coded, plain, head, spell, walk}

-- there are as many values as the table has fields, each fits its width, and no check finds a fault; n digits
-- follow the fields
abbrev pub Passes : {E : Type 0} → ℕ → Table E → List ℕ → ℕ → Type 0
Passes radix done values left = values ≡ []
Passes radix (field n short check next) values left =
    (values ≡ head values ∷ drop 1 values) × (head values < radix ^ n)
    × (check (head values) (length (spell radix (next (head values)) (drop 1 values)) + left) ≡ None)
    × Passes radix (next (head values)) (drop 1 values) left
Passes radix (coded short next) values left =
    (values ≡ head values ∷ drop 1 values) × Passes radix (next (head values)) (drop 1 values) left
Passes radix (plain n short next) values left = (n ≤ length values) × Passes radix next (drop n values) left

-- what is spelled is walked, whatever follows; what is walked is the spelling of the values, and passes the table
pub record WalkInvertsSpell {E : Type 0} (radix : ℕ) (table : Table E) : Type 0 where
  pub spelled : (values x : List ℕ) → Passes radix table values (length x)
      → walk radix table (spell radix table values ++ x) ≡ Ok (values, x)
  pub walked : (xs values rest : List ℕ) → AreDigits radix xs → walk radix table xs ≡ Ok (values, rest)
      → xs ≡ spell radix table values ++ rest
  pub passes : (xs values rest : List ℕ) → AreDigits radix xs → walk radix table xs ≡ Ok (values, rest)
      → Passes radix table values (length rest)
