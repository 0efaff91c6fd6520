-- Tables of fields: how their values are spelled, and what a walk takes from the start of a list. The list is of
-- digits: of bits where the radix is 2, of bytes where it is 256.
use Rattle.std.specs.Prelude.{ℕ, zero, suc, ◌+◌, ◌-◌, ◌/◌, ◌%◌, List, [], ◌∷◌, ◌++◌, length, take, drop, Option, Some}
use Rattle.std.specs.Prelude.{None, Result, Ok, Err, nat_lt, replicate, slice_index, if◌then◌else◌, ◌==◌}
use Rattle.apv_base.specs.model.Bits.{digits, number}

-- A table is one of these:
-- done: no further field;
-- field n short check next: a number of n digits; short is the fault where fewer are left, check tells the fault of a
-- value with n digits left after it, and the fields after it may depend on the value;
-- coded short next: a number of digits FF, which count 255 each, and one digit below FF;
-- plain n short next: n digits, each of which is a value.
pub data Table (E : Type 0) : Type 0 where
  done : Table E
  field : ℕ → E → (ℕ → ℕ → Option E) → (ℕ → Table E) → Table E
  coded : E → (ℕ → Table E) → Table E
  plain : ℕ → E → Table E → Table E

-- any value is good
abbrev pub no_check : {E : Type 0} → ℕ → ℕ → Option E
no_check value left = None

-- the value must be 0
abbrev pub must_be_zero : {E : Type 0} → E → ℕ → ℕ → Option E
must_be_zero fault value left = if value == 0 then None else Some fault

-- the first value, or 0
abbrev pub head : List ℕ → ℕ
head values = slice_index values 0

-- a number of digits FF and one below FF
unfoldable pub coded_number : ℕ → List ℕ
coded_number n = replicate (n / 255) 255 ++ (n % 255) ∷ []

-- the digits of the fields, in order
unfoldable pub spell : {E : Type 0} → ℕ → Table E → List ℕ → List ℕ
spell radix done values = []
spell radix (field n short check next) values =
    digits radix n (head values) ++ spell radix (next (head values)) (drop 1 values)
spell radix (coded short next) values = coded_number (head values) ++ spell radix (next (head values)) (drop 1 values)
spell radix (plain n short next) values = take n values ++ spell radix next (drop n values)

-- a number that is n greater
abbrev pub counted : ℕ → Option (ℕ × List ℕ) → Option (ℕ × List ℕ)
counted n None = None
counted n (Some r) = Some (n + r.0, r.1)

-- a number of digits FF and one below FF at the start of xs, and what follows it
unfoldable pub coded_at : List ℕ → Option (ℕ × List ℕ)
coded_at [] = None
coded_at (x ∷ xs) = if x == 255 then counted 255 (coded_at xs) else Some (x, xs)

-- these values come before those of a walk
abbrev pub with_values : {E : Type 0} → List ℕ → Result (List ℕ × List ℕ) E → Result (List ℕ × List ℕ) E
with_values prefix (Ok r) = Ok (prefix ++ r.0, r.1)
with_values prefix (Err fault) = Err fault

-- the walk goes on where the check finds no fault
abbrev pub unless_fault : {A E : Type 0} → Option E → Result A E → Result A E
unless_fault None walked = walked
unless_fault (Some fault) walked = Err fault

-- the walk goes on after a number that was read
abbrev pub where_read : {A E : Type 0} → E → Option (ℕ × List ℕ) → (ℕ → List ℕ → Result A E) → Result A E
where_read short None onward = Err short
where_read short (Some r) onward = onward r.0 r.1

-- the values of the fields at the start of xs and what follows them, or the first fault
unfoldable pub walk : {E : Type 0} → ℕ → Table E → List ℕ → Result (List ℕ × List ℕ) E
walk radix done xs = Ok ([], xs)
walk radix (field n short check next) xs =
    if nat_lt (length xs) n then Err short
    else (let value = number radix (take n xs) in
    unless_fault (check value (length xs - n)) (with_values (value ∷ []) (walk radix (next value) (drop n xs))))
walk radix (coded short next) xs =
    where_read short (coded_at xs) (λ value after. with_values (value ∷ []) (walk radix (next value) after))
walk radix (plain n short next) xs =
    if nat_lt (length xs) n then Err short
    else with_values (take n xs) (walk radix next (drop n xs))

-- count fields of n digits, one after another; what follows them may depend on their values
unfoldable pub fields : {E : Type 0} → ℕ → ℕ → E → (ℕ → ℕ → Option E) → (List ℕ → Table E) → Table E
fields zero n short check next = next []
fields (suc count) n short check next =
    field n short check (λ value. fields count n short check (λ values. next (value ∷ values)))
