-- Numbers as digits, the most significant first: as bits (the RFC's u(n)) and as bytes.
use Rattle.std.specs.Prelude.{ℕ, zero, suc, ◌+◌, ◌-◌, ◌*◌, ◌/◌, ◌%◌, ◌^◌, ◌<◌, List, [], ◌∷◌, length, slice_index}
use Rattle.std.specs.List.{flat_map}

-- the lowest n digits of v
unfoldable pub digits : ℕ → ℕ → ℕ → List ℕ
digits radix zero v = []
digits radix (suc n) v = v / radix ^ n % radix ∷ digits radix n v

-- the number that digits spell
unfoldable pub number : ℕ → List ℕ → ℕ
number radix [] = 0
number radix (d ∷ ds) = d * radix ^ length ds + number radix ds

-- v in n bits
abbrev pub bin : ℕ → ℕ → List ℕ
bin n v = digits 2 n v

-- v in n bytes, the high byte first
abbrev pub be : ℕ → ℕ → List ℕ
be n v = digits 256 n v

-- the bits of a list of bytes
abbrev pub bits : List ℕ → List ℕ
bits xs = flat_map (bin 8) xs

-- how many bits there are from a place up to the next whole byte
abbrev pub padding : ℕ → ℕ
padding place = (8 - place % 8) % 8

-- each element is a digit of that radix
abbrev pub AreDigits : ℕ → List ℕ → Type 0
AreDigits radix xs = (i : ℕ) → slice_index xs i < radix

-- each element is a byte
abbrev pub AreBytes : List ℕ → Type 0
AreBytes xs = AreDigits 256 xs
