-- Bounds of sums and products of signed numbers, and that 32 bits keep them.
use Rattle.std.proofs.Common.{◌≡◌, ℕ, ◌+◌, ◌*◌, ◌^◌, ◌<◌, ◌≤◌, arith}
use Rattle.std.specs.Prelude.{ℤ, ◌+ℤ◌, ◌-ℤ◌, ◌*ℤ◌, unsigned_abs}
use Rattle.std.specs.Int.RustNames.{FitsSigned}
use Rattle.std.proofs.lemmas.Int.{ints, unsigned_abs-mul, to_z-of_z, fits_signed_from_abs}
use mir.Syntax.{w32}
use mir.Val.{to_z, of_z}
use Rattle.apv_transform.specs.Line.{IsBounded}

-- ---- bounds

pub wider : {m n : ℕ} {z : ℤ} → IsBounded m z → m ≤ n → IsBounded n z
wider h le = record { size = omega arith }

pub same_within : {bound : ℕ} {y z : ℤ} → y ≡ z → IsBounded bound z → IsBounded bound y
same_within e h = rw e h

pub add_within : {m n : ℕ} {x y : ℤ} → IsBounded m x → IsBounded n y → IsBounded (m + n) (x +ℤ y)
add_within hx hy = record { size = omega (arith, ints) }

pub sub_within : {m n : ℕ} {x y : ℤ} → IsBounded m x → IsBounded n y → IsBounded (m + n) (x -ℤ y)
sub_within hx hy = record { size = omega (arith, ints) }

mul_below : (m n a b : ℕ) → a ≤ m → b ≤ n → a * b ≤ m * n
mul_below m n a b ha hb = grind arith

pub mul_within : {m n : ℕ} {x y : ℤ} → IsBounded m x → IsBounded n y → IsBounded (m * n) (x *ℤ y)
mul_within {m = m} {n = n} {x = x} {y = y} hx hy =
    record { size = rw (unsigned_abs-mul x y) (mul_below m n (unsigned_abs x) (unsigned_abs y) hx.size hy.size) }

-- ---- numbers of 32 bits

-- a number as 32 bits hold it
abbrev pub held : ℤ → ℤ
held z = to_z w32 (of_z w32 z)

pub fits : {m : ℕ} {z : ℤ} → IsBounded m z → m < 2 ^ 31 → FitsSigned w32 z
fits {z = z} h k = fits_signed_from_abs w32 z (omega arith)

pub kept : {m : ℕ} {z : ℤ} → IsBounded m z → m < 2 ^ 31 → held z ≡ z
kept {z = z} h k = to_z-of_z w32 z (fits h k)
