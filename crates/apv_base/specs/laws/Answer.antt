-- Laws of one answer: what is judged is accepted as one thing or refused for one reason.
use Rattle.std.specs.Prelude.{◌≡◌, ◌⊎◌}

-- accepted as one thing at most, or refused for one reason at most, and not both
pub record HasOneAnswer {A B : Type 0} (Accepted : A → Type 0) (Refused : B → Type 0) : Type 0 where
  pub accepted : (a b : A) → Accepted a → Accepted b → a ≡ b
  pub refused : (a b : B) → Refused a → Refused b → a ≡ b
  pub not_both : (a : A) (b : B) → Accepted a → Refused b → ⊥

-- accepted as something, or refused for a reason
abbrev pub HasSomeAnswer : {A B : Type 0} → (A → Type 0) → (B → Type 0) → Type 0
HasSomeAnswer {A} {B} Accepted Refused = ((a : A) × Accepted a) ⊎ ((b : B) × Refused b)

-- there is one of these, and no other
pub record HasExactlyOne {A : Type 0} (Is : A → Type 0) : Type 0 where
  pub one : A
  pub is : Is one
  pub only : (other : A) → Is other → other ≡ one
