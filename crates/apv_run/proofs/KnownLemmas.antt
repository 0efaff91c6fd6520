-- Bytes that are known or not.
use Rattle.std.proofs.Common.{◌≡◌, ℕ, List, [], ◌++◌, refl, sym, ap, ◌∙◌, Option, Some, None, append_assoc}
use Rattle.std.specs.Io.KnownBytes.{prepend_known, append_known, IsAtEnd}
use Rattle.apv_run.specs.Known.{BeginsWith, IsKnownAs, IsPrefixOf}

-- ---- bytes that are read

-- known bytes are some bytes
pub some-content : (known : Option (List ℕ)) → (rest : List ℕ) × IsKnownAs known rest
some-content None = ([], tt)
some-content (Some xs) = (xs, refl)

pub known-prefix : (held left : Option (List ℕ)) (prefix rest : List ℕ) → held ≡ prepend_known prefix left → IsKnownAs left rest → IsKnownAs held (prefix ++ rest)
known-prefix held None prefix rest e k = rw e tt
known-prefix held (Some xs) prefix rest e k = rw (e, k) refl

pub known-end : (left : Option (List ℕ)) → IsAtEnd left → IsKnownAs left []
known-end None e = tt
known-end (Some xs) e = e

-- known bytes are one list
pub known-file : (held : Option (List ℕ)) (file other : List ℕ) → held ≡ Some file → IsKnownAs held other → file ≡ other
known-file None file other e k = absurd (let no : ⊥ = cc (e) in no)
known-file (Some xs) file other e k = sym (let same : xs ≡ file = cc (e) in sym k ∙ same)

-- ---- bytes that are written

-- what was written to a slot that held nothing
pub known-whole : (old now : Option (List ℕ)) (bytes : List ℕ) → IsAtEnd old → now ≡ append_known old bytes → IsKnownAs now bytes
known-whole None now bytes empty e = rw e tt
known-whole (Some xs) now bytes empty e = rw (e, empty) refl

pub prefix-of : (now : Option (List ℕ)) (prefix more bytes : List ℕ) → IsKnownAs now prefix → prefix ++ more ≡ bytes → IsPrefixOf now bytes
prefix-of None prefix more bytes k e = tt
prefix-of (Some xs) prefix more bytes k e = (more, rw k e)

pub prefix-more : (now : Option (List ℕ)) (bytes all : List ℕ) → IsPrefixOf now bytes → (more : List ℕ) × (all ≡ bytes ++ more) → IsPrefixOf now all
prefix-more None bytes all p e = tt
prefix-more (Some xs) bytes all p e = (p.0 ++ e.0, sym (append_assoc xs p.0 e.0) ∙ ap (λ (ys : List ℕ). ys ++ e.0) p.1 ∙ sym e.1)

-- nothing is a prefix of all bytes
pub prefix-none : (now : Option (List ℕ)) (bytes : List ℕ) → IsAtEnd now → IsPrefixOf now bytes
prefix-none None bytes e = tt
prefix-none (Some xs) bytes e = (bytes, rw e refl)

pub begins-with : (old now : Option (List ℕ)) (bytes more : List ℕ) → IsAtEnd old → now ≡ append_known old (bytes ++ more) → BeginsWith now bytes
begins-with None now bytes more empty e = rw e tt
begins-with (Some xs) now bytes more empty e = rw (e, empty) (more, refl)
