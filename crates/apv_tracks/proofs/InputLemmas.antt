-- The files that are read before the first frame: what they are known to hold, and what was taken from them.
use Rattle.std.proofs.Common.{◌≡◌, ℕ, List, [], ◌++◌, refl, sym, subst, Option, Some, None, is_some, true, false, append-nil}
use Rattle.std.specs.Io.KnownBytes.{prepend_known, IsAtEnd}
use Rattle.apv_base.specs.declared.slot.Slot.{Slot}
use Rattle.apv_base.specs.declared.slot.Slot.TheVariants.{Input, Preview, Depth, Alpha, Metadata, TileQp, Output, Recon, MetaOut, Console}
use Rattle.apv_files.specs.SlotView.{SlotView}
use Rattle.apv_files.specs.Loops.{TookAll}
use Rattle.apv_run.specs.Known.{IsKnownAs}
use Rattle.apv_run.proofs.KnownLemmas.{known-end, known-prefix}
use Rattle.apv_run.proofs.WrittenLemmas.{none-took}
use Rattle.apv_encoding.specs.Answer.{from_first_frame}
use Rattle.apv_encoding.specs.Tracks.{Contents}
use Rattle.apv_tracks.specs.Opening.{IsGivenAs, TookFile, TookWhereGiven}

-- ---- what is known

-- what is known, or nothing
abbrev pub known_or_none : Option (List ℕ) → List ℕ
known_or_none None = []
known_or_none (Some bytes) = bytes

known-self : (known : Option (List ℕ)) → IsKnownAs known (known_or_none known)
known-self None = tt
known-self (Some bytes) = refl

-- what was taken, and what is known to be left
pub known-more : (taken : List ℕ) (old new : Option (List ℕ)) → old ≡ prepend_known taken new → IsKnownAs old (taken ++ known_or_none new)
known-more taken old new e = known-prefix old new taken (known_or_none new) e (known-self new)

-- where nothing is left, what was taken is all
pub known-all : (taken : List ℕ) (old new : Option (List ℕ)) → old ≡ prepend_known taken new → IsAtEnd new → IsKnownAs old taken
known-all taken old new e end =
    subst (λ (bytes : List ℕ). IsKnownAs old bytes) (append-nil taken) (known-prefix old new taken [] e (known-end new end))

-- what is left of each slot, of Input this
abbrev pub contents_with : (Slot → SlotView) → List ℕ → Contents
contents_with views file = from_first_frame (λ slot. known_or_none (views slot).left) file

pub contents-known : (views : Slot → SlotView) (file : List ℕ) → IsKnownAs (views Input).left file → (slot : Slot) → IsKnownAs (views slot).left (contents_with views file slot)
contents-known views file known Input = known
contents-known views file known Preview = known-self (views Preview).left
contents-known views file known Depth = known-self (views Depth).left
contents-known views file known Alpha = known-self (views Alpha).left
contents-known views file known Metadata = known-self (views Metadata).left
contents-known views file known TileQp = known-self (views TileQp).left
contents-known views file known Output = known-self (views Output).left
contents-known views file known Recon = known-self (views Recon).left
contents-known views file known MetaOut = known-self (views MetaOut).left
contents-known views file known Console = known-self (views Console).left

-- what each slot is known to hold
pub contents-self : (views : Slot → SlotView) (slot : Slot) → IsKnownAs (views slot).left (contents_with views (known_or_none (views Input).left) slot)
contents-self views slot = contents-known views (known_or_none (views Input).left) (known-self (views Input).left) slot

-- ---- files that are named or not

module _ {T : Type 0} where
  -- what a file is known to hold, where it is named
  abbrev pub given_content : Option T → Option (List ℕ) → Option (List ℕ)
  given_content None known = None
  given_content (Some name) known = Some (known_or_none known)

  pub given-known : (given : Option T) (known : Option (List ℕ)) → IsGivenAs given known (given_content given known)
  given-known None known = refl
  given-known (Some name) known = (known_or_none known, refl, known-self known)

  pub given-as : (given : Option T) (known : Option (List ℕ)) (content : List ℕ) → is_some given ≡ true → IsKnownAs known content → IsGivenAs given known (Some content)
  given-as None known content e is = absurd (let no : ⊥ = cc in no)
  given-as (Some name) known content e is = (content, refl, is)

  -- nothing was taken
  pub took-same : (given : Option T) (old new : SlotView) → new ≡ old → TookWhereGiven given old new
  took-same None old new e = e
  took-same (Some name) old new e = ([], subst (λ (view : SlotView). TookAll old [] view) (sym e) (none-took old))

  pub took-where : (given : Option T) (old new : SlotView) (taken : List ℕ) → is_some given ≡ true → TookAll old taken new → TookWhereGiven given old new
  took-where None old new taken e took = absurd (let no : ⊥ = cc in no)
  took-where (Some name) old new taken e took = (taken, took)

  -- the file isn't named
  pub file-none : (given : Option T) (old new : SlotView) → is_some given ≡ false → new ≡ old → TookFile given old None new
  file-none None old new e same = (refl, same)
  file-none (Some name) old new e same = absurd (let no : ⊥ = cc in no)

  -- it was taken to its end
  pub file-all : (given : Option T) (old new : SlotView) (bytes : List ℕ) → is_some given ≡ true → TookAll old bytes new → IsAtEnd new.left → TookFile given old (Some bytes) new
  file-all None old new bytes e took end = absurd (let no : ⊥ = cc in no)
  file-all (Some name) old new bytes e took end = (bytes, refl, took, end)

  pub file-where : (given : Option T) (old new : SlotView) (bytes : Option (List ℕ)) → TookFile given old bytes new → TookWhereGiven given old new
  file-where None old new bytes (none, same) = same
  file-where (Some name) old new bytes (all, is, took, end) = (all, took)

  pub file-given : (given : Option T) (old new : SlotView) (bytes : Option (List ℕ)) → TookFile given old bytes new → IsGivenAs given old.left bytes
  file-given None old new bytes (none, same) = none
  file-given (Some name) old new bytes (all, is, took, end) = (all, is, known-all all old.left new.left took.prefix end)
