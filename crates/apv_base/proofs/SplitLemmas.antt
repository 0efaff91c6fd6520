-- Where an item is in a list: two places, a list with one more item, and the first item that passes a test.
use Rattle.std.proofs.Common.{◌≡◌, List, [], ◌∷◌, ◌++◌, length, refl, ap, subst, arith, length-append}

-- of two places in a list one comes before the other, or they are one
pub data Splits {A : Type 0} (a : List A) (x : A) (b : List A) (y : A) : Type 0 where
  same : a ≡ b → x ≡ y → Splits a x b y
  first : (more : List A) → b ≡ a ++ x ∷ more → Splits a x b y
  second : (more : List A) → a ≡ b ++ y ∷ more → Splits a x b y

splits-more : {A : Type 0} (w : A) (a : List A) (x : A) (b : List A) (y : A) → Splits a x b y → Splits (w ∷ a) x (w ∷ b) y
splits-more {A} w a x b y (same e f) = same (ap (λ (xs : List A). w ∷ xs) e) f
splits-more {A} w a x b y (first more e) = first more (ap (λ (xs : List A). w ∷ xs) e)
splits-more {A} w a x b y (second more e) = second more (ap (λ (xs : List A). w ∷ xs) e)

pub splits : {A : Type 0} (a : List A) (x : A) (later : List A) (b : List A) (y : A) (later' : List A) → a ++ x ∷ later ≡ b ++ y ∷ later' → Splits a x b y
splits {A} [] x later [] y later' e = let same_item : x ≡ y = cc in same refl same_item
splits {A} [] x later (w ∷ b) y later' e = let item : w ≡ x = cc in first b (ap (λ (v : A). v ∷ b) item)
splits {A} (w ∷ a) x later [] y later' e = let item : w ≡ y = cc in second a (ap (λ (v : A). v ∷ a) item)
splits {A} (v ∷ a) x later (w ∷ b) y later' e =
    let item : v ≡ w = cc in
    let rest : a ++ x ∷ later ≡ b ++ y ∷ later' = cc in
    subst (λ (u : A). Splits (v ∷ a) x (u ∷ b) y) item (splits-more v a x b y (splits a x later b y later' rest))

-- what is in a list with one more item at its end is in the list, or is that item
pub data Parted {A : Type 0} (us : List A) (u : A) (before : List A) (v : A) (later : List A) : Type 0 where
  inside : (more : List A) → us ≡ before ++ v ∷ more → Parted us u before v later
  last : us ≡ before → u ≡ v → Parted us u before v later

pub parted : {A : Type 0} (us : List A) (u : A) (before : List A) (v : A) (later : List A) → us ++ u ∷ [] ≡ before ++ v ∷ later → Parted us u before v later
parted {A} us u before v later e = elim (splits us u [] before v later e) [
  | same f g ↦ last f g
  | second more f ↦ inside more f
  | first more f ↦ absurd (omega (arith, ap (length {A = A}) e, ap (length {A = A}) f, length-append us (u ∷ []), length-append us (u ∷ more), length-append before (v ∷ later)))
]
