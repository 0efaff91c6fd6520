-- The tokens of a header line that begin with a letter.
use Rattle.std.specs.Prelude.{◌≡◌, ℕ, ◌+◌, ◌<◌, ◌≤◌, List, [], ◌∷◌, length, drop, slice_range}
use Rattle.std.specs.Prelude.{true, not, ◌==◌}
use Rattle.std.specs.List.{list_all}
use Rattle.apv_base.specs.model.Video.{tokens, with_letter}
use Rattle.apv_video.specs.declared.tokens.Found.{Found}
use Rattle.apv_video.specs.declared.tokens.Found.TheVariants.{Missing, One, Twice}

-- no space is among the bytes
abbrev pub HasNoSpace : List ℕ → Type 0
HasNoSpace bytes = list_all (λ byte. not (byte == 32)) bytes ≡ true

-- the tokens that begin with a letter
abbrev pub letter_tokens : ℕ → List ℕ → List (List ℕ)
letter_tokens letter bytes = with_letter letter (tokens bytes)

-- the first such token from a place on has that place and that end
pub record HasTokenAt (letter : ℕ) (bytes : List ℕ) (from first end : ℕ) : Type 0 where
  pub some : first < end
  pub inside : end ≤ length bytes
  pub tokens :
      letter_tokens letter (drop from bytes)
      ≡ slice_range bytes first end ∷ letter_tokens letter (drop (end + 1) bytes)

-- none, one or more tokens
abbrev pub IsFound : List (List ℕ) → Found → Type 0
IsFound words Missing = words ≡ []
IsFound words (One token) = words ≡ token.now ∷ []
IsFound words Twice = 2 ≤ length words
