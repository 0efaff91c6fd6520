use Rattle.std.proofs.Common.{arith, ◌≡◌, ◌∙◌, List, ℕ, length, take, ap, lit<}
use Rattle.std.proofs.lemmas.List.{take_all}
use Rattle.apv_base.specs.model.Bits.{AreBytes, number, be}
use Rattle.apv_base.proofs.DigitsLemmas.{digits-number}
use Rattle.apv_dec.proofs.unit.size_of.Goals as goal

number-is : (xs : List ℕ) (n : ℕ) → length xs ≡ 4 → n ≡ number 256 (take 4 xs) → n ≡ number 256 xs
number-is xs n four e = e ∙ ap (number 256) (take_all 4 xs (omega (arith, four)))

spelled-is : (xs : List ℕ) (n : ℕ) → length xs ≡ 4 → AreBytes xs → n ≡ number 256 xs → be 4 n ≡ xs
spelled-is xs n four bytes e = ap (be 4) e ∙ (rw (← four) (digits-number 256 xs (lit< tt) bytes))

pub returns-clause-value : goal.returns-clause-value
returns-clause-value c = number-is c.args.head.now c.be32.result c.requires c.be32.ensures

pub returns-clause-spelled : goal.returns-clause-spelled
returns-clause-spelled c = spelled-is c.args.head.now c.be32.result c.requires (λ i. omega (arith, c.type_inv.head i)) (number-is c.args.head.now c.be32.result c.requires c.be32.ensures)
