-- What the reading of fields says of a reader before and after it.
use Rattle.std.specs.Prelude.{◌≡◌, ◌<◌, ◌^◌, ℕ, List, [], ◌∷◌, ◌++◌, length, Option, Result, Err}
use Rattle.apv_base.specs.declared.rules.HeadEnd.{HeadEnd}
use Rattle.apv_base.specs.declared.rules.HeadEnd.TheVariants.{Rule as breaks}
use Rattle.apv_base.specs.declared.rules.Rule.TheVariants.{V8}
use Rattle.apv_base.specs.model.Bits.{bin}
use Rattle.apv_base.specs.model.Header.{reserved}
use Rattle.apv_base.specs.model.Table.{Table, field, walk, spell, with_values}
use Rattle.apv_bits.specs.Reader.{Unread, Takes}

-- a value of n bits was read
pub record ReadsNumber (n : ℕ) (old : Unread) (value : ℕ) (new : Unread) : Type 0 where
  pub small : value < 2 ^ n
  pub taken : Takes old new (bin n value)

-- fewer than n bits are left, which breaks the rule V8
pub record IsCut (n : ℕ) (old : Unread) (end : HeadEnd) : Type 0 where
  pub few : length old.left < n
  pub rule : end ≡ breaks V8

-- ---- steps of a walk

-- the walk over a table gives these values, which are in n bits, and then goes on over the later table
pub record WalksBits (table : Table HeadEnd) (old : Unread) (n : ℕ) (values : List ℕ) (later : Table HeadEnd)
    (new : Unread) : Type 0 where
  pub onward : ◌≡◌ {A = Result (List ℕ × List ℕ) HeadEnd} (walk 2 table old.left)
      (with_values values (walk 2 later new.left))
  pub read : List ℕ
  pub taken : Takes old new read
  pub count : length read ≡ n
  pub spelled : (more : List ℕ) → spell 2 table (values ++ more) ≡ read ++ spell 2 later more

-- the walk over a table ends at this fault
pub record BitsBreak (table : Table HeadEnd) (old : Unread) (end : HeadEnd) : Type 0 where
  pub fails : ◌≡◌ {A = Result (List ℕ × List ℕ) HeadEnd} (walk 2 table old.left) (Err end)

-- ---- fields, whatever follows them

-- these fields, with these values in n bits
abbrev pub HasFields : (Table HeadEnd → Table HeadEnd) → ℕ → Unread → List ℕ → Unread → Type 0
HasFields part n old values new = (next : Table HeadEnd) → WalksBits (part next) old n values next new

-- these fields break a rule
abbrev pub FieldsBreak : (Table HeadEnd → Table HeadEnd) → Unread → HeadEnd → Type 0
FieldsBreak part old end = (next : Table HeadEnd) → BitsBreak (part next) old end

-- a number of n bits that passes a check; what follows may depend on it
abbrev pub HasNumber : ℕ → (ℕ → ℕ → Option HeadEnd) → Unread → ℕ → Unread → Type 0
HasNumber n check old value new =
    (next : ℕ → Table HeadEnd) → WalksBits (field n (breaks V8) check next) old n (value ∷ []) (next value) new

-- a number of n bits that is missing or fails a check
abbrev pub NumberBreaks : ℕ → (ℕ → ℕ → Option HeadEnd) → Unread → HeadEnd → Type 0
NumberBreaks n check old end = (next : ℕ → Table HeadEnd) → BitsBreak (field n (breaks V8) check next) old end

-- a reserved field of n bits that is 0
abbrev pub HasReserved : ℕ → Unread → Unread → Type 0
HasReserved n old new = HasFields (reserved n) n old (0 ∷ []) new

-- a reserved field of n bits that is missing or isn't 0
abbrev pub ReservedBreaks : ℕ → Unread → HeadEnd → Type 0
ReservedBreaks n old end = FieldsBreak (reserved n) old end
