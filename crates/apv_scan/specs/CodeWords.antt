-- Code words in tables.
use Rattle.std.specs.Prelude.{◌≡◌, ℕ, ℤ, pos, ◌-ℤ◌, ◌-◌, ◌/◌, ◌%◌, ◌^◌, ◌<◌, ◌≤◌, ◌++◌, ◌∷◌, []}
use Rattle.std.specs.Prelude.{List, length, min, slice_index_or, unsigned_abs}
use Rattle.apv_base.specs.model.Bits.{bin}
use Rattle.apv_base.specs.model.CodeWord.{code_word}
use Rattle.apv_base.specs.model.Scan.{level_at}
use Rattle.apv_base.specs.model.Block.{sign_of}
use Rattle.apv_scan.specs.declared.tables.code_words.CodeWord.{CodeWord}

-- an entry has these bits, and says that parameter
pub record HoldsWord (entry : CodeWord) (w : List ℕ) (k : ℕ) : Type 0 where
  pub few : entry.len ≤ 16
  pub small : entry.bits < 2 ^ entry.len
  pub word : bin entry.len entry.bits ≡ w
  pub next : entry.next ≡ k

-- the level of a slot
abbrev pub level_in : ℕ → ℤ
level_in slot = pos slot -ℤ pos 64

-- the code word of a level with its sign
abbrev pub signed_bits : ℕ → ℤ → List ℕ
signed_bits k level = code_word k (unsigned_abs level - 1) ++ sign_of level ∷ []

-- a word is the code word of a run, and the parameter is that of the next run's
pub record IsRunWord (k run : ℕ) (word : List ℕ) (parameter : ℕ) : Type 0 where
  pub bits : word ≡ code_word k run
  pub few : length word ≤ 13
  pub next : parameter ≡ min 2 (run / 4)

-- a parameter of the code word of a level, and a scan place whose level isn't 0
pub record HasLevel (k : ℕ) (levels : List ℤ) (place : ℕ) : Type 0 where
  pub parameter : k ≤ 4
  pub within : place < 64
  pub some : 0 < unsigned_abs (level_at levels place)

-- a word is the code word of a level with its sign, and the parameter is that of the next level's
pub record IsLevelWord (k : ℕ) (level : ℤ) (word : List ℕ) (parameter : ℕ) : Type 0 where
  pub bits : word ≡ signed_bits k level
  pub few : length word ≤ 34
  pub next : parameter ≡ min 4 (unsigned_abs level / 4)

-- what is past the end of a table
abbrev pub no_word : CodeWord
no_word = record { bits = 0; len = 0; next = 0 }

-- the run r with the parameter k is at 4 r + k
pub record AreRunWords (words : List CodeWord) : Type 0 where
  pub count : length words ≡ 256
  pub each : (i : ℕ) → i < 256
      → HoldsWord (slice_index_or words i no_word) (code_word (min 2 (i % 4)) (i / 4)) (min 2 (i / 4 / 4))

-- the level of the slot s with the parameter k is at 8 s + k
pub record AreLevelWords (words : List CodeWord) : Type 0 where
  pub count : length words ≡ 1024
  pub each : (i : ℕ) → i < 1024
      → HoldsWord (slice_index_or words i no_word) (signed_bits (min 4 (i % 8)) (level_in (i / 8)))
      (min 4 (unsigned_abs (level_in (i / 8)) / 4))
