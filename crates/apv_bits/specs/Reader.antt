-- What a reader and a writer of bits are seen as.
use Rattle.std.specs.Prelude.{◌≡◌, ℕ, ◌+◌, ◌%◌, ◌^◌, ◌≤◌, List, ◌++◌, length, take}

-- the bits that are left, and how many were read
pub record Unread : Type 0 where
  pub left : List ℕ
  pub place : ℕ

-- the bits read are the start of those that were left
pub record Takes (old new : Unread) (read : List ℕ) : Type 0 where
  pub prefix : old.left ≡ read ++ new.left
  pub place : new.place ≡ old.place + length read

-- the bits read and the bits left are those of whole bytes, at most 2 ^ 29
pub record AreWholeBytes (u : Unread) : Type 0 where
  pub whole : (length u.left + u.place) % 8 ≡ 0
  pub few : length u.left + u.place ≤ 2 ^ 32

-- a window holds the first 57 of the bits that are left
pub record IsWindow (window left : List ℕ) : Type 0 where
  pub prefix : window ≡ take 57 left
  pub len : length window ≡ 57
  pub enough : 57 ≤ length left
