-- What a reading of a code word says.
use Rattle.std.specs.Prelude.{◌≡◌, ℕ, ◌+◌, ◌^◌, ◌<◌, ◌≤◌, List, ◌∷◌, ◌++◌, length, replicate}
use Rattle.apv_base.specs.model.Bits.{bin}
use Rattle.apv_base.specs.model.CodeWord.{code_word, long_word_base, EndsInside, HasNone}
use Rattle.apv_bits.specs.Reader.{Unread, Takes}
use Rattle.apv_hv.specs.declared.reading.Read.{Read}
use Rattle.apv_hv.specs.declared.reading.Read.TheVariants.{Value, Ends, Over}

-- the answer says what the bits left begin with, and only a value moves the reader
abbrev pub ReadsWord : ℕ → ℕ → Unread → Read → Unread → Type 0
ReadsWord k limit old (Value v) new = (v ≤ limit) × Takes old new (code_word k v)
ReadsWord k limit old Ends new = EndsInside (code_word k) limit old.left × (new ≡ old)
ReadsWord k limit old Over new = HasNone (code_word k) limit old.left × (new ≡ old)

-- ---- parts of words

-- a part of a code: which values have which bits there
abbrev pub Code : Type 1
Code = ℕ → List ℕ → Type 0

-- the same for the words of a part of a code; nothing is said of the reader where no value is read
abbrev pub ReadsCode : Code → ℕ → Unread → Read → Unread → Type 0
ReadsCode code limit old (Value v) new = (v ≤ limit) × (w : List ℕ) × code v w × Takes old new w
ReadsCode code limit old Ends new =
    (v : ℕ) × (v ≤ limit) × (w rest : List ℕ) × code v w × (0 < length rest) × (w ≡ old.left ++ rest)
ReadsCode code limit old Over new = (v : ℕ) (w x y : List ℕ) → v ≤ limit → code v w → old.left ++ x ≡ w ++ y → ⊥

-- n bits of a number, which is counted from a first one on
abbrev pub Numbers : ℕ → ℕ → Code
Numbers n first v w = (r : ℕ) × (r < 2 ^ n) × (v ≡ first + r) × (w ≡ bin n r)

-- what follows 01 and j zeros in a long code word: more zeros, m in all, a 1, and a number
abbrev pub LongWords : ℕ → ℕ → Code
LongWords k j v w =
    (i m r : ℕ) × (m ≡ j + i) × (r < 2 ^ (k + m)) × (v ≡ long_word_base k m + r)
    × (w ≡ replicate i 0 ++ 1 ∷ bin (k + m) r)

-- the whole code
abbrev pub Words : ℕ → Code
Words k v w = w ≡ code_word k v
