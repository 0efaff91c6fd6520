-- How large a number of n digits is, and the halves of a text around a separator.
use Rattle.std.proofs.Common.{◌≡◌, ◌∙◌, ◌+◌, ◌*◌, ◌-◌, ◌^◌, ◌<◌, ◌≤◌, ℕ, true, refl, sym, ap, arith, List, [], ◌∷◌, length, take, Option, Some, None, suc, nat_le, option_map}
use Rattle.std.specs.List.{fold, list_all}
use Rattle.std.specs.Prelude.{IfSome}
use Rattle.std.specs.Option.{option_map_or}
use Rattle.std.specs.Borrow.{Bor}
use Rattle.std.specs.Char.{is_ascii_digit}
use Rattle.std.proofs.lemmas.Bool.{and_parts, leb-true}
use Rattle.std.proofs.lemmas.List.{length-take-le}
use Rattle.std.proofs.lemmas.Str.Pattern.{IsSplitOnceResult, split_parts}
use Rattle.std.proofs.Math.Nat.{mul-le-mul_right, pow-le-pow_right, pow-suc}
use Rattle.clap.proofs.CutLemmas.{after_first-at, before_first-at, list_any-Lacks, list_any-at}
use Rattle.apv_words.specs.Table.{Text}
use Rattle.apv_words.specs.Values.{halves_of, is_within, number_of, with_digit}
use Rattle.apv_words.specs.declared.table.Bounds.{Bounds}

one_more : (n e p q x : ℕ) → x < (10 * n + e + 1) * p → e ≤ 9 → q ≡ p * 10 → x < (n + 1) * q
one_more n e p q x below small is =
    let room : 10 * n + e + 1 ≤ 10 * n + 10 = omega arith in
    let more : (10 * n + e + 1) * p ≤ (10 * n + 10) * p = mul-le-mul_right p room in
    rw is (omega arith)

-- n digits after n
digits_below : (n : ℕ) (ds : List ℕ) → list_all is_ascii_digit ds ≡ true → fold with_digit n ds < (n + 1) * 10 ^ length ds
digits_below n [] all = omega arith
digits_below n (d ∷ ds) all =
    let parts : (is_ascii_digit d ≡ true) × (list_all is_ascii_digit ds ≡ true) = and_parts _ _ all in
    let range : (nat_le 48 d ≡ true) × (nat_le d 57 ≡ true) = and_parts _ _ parts.0 in
    let small : d - 48 ≤ 9 = omega (arith, leb-true d 57 range.1) in
    one_more n (d - 48) (10 ^ length ds) (10 ^ suc (length ds)) _ (digits_below (with_digit n d) ds parts.1) small (pow-suc 10 (length ds))

pub number_below : (ds : List ℕ) → list_all is_ascii_digit ds ≡ true → length ds ≤ 10 → number_of ds < 10 ^ 10
number_below ds all short =
    let below : number_of ds < (0 + 1) * 10 ^ length ds = digits_below 0 ds all in
    let ten : 0 < 10 = omega arith in
    let most : 10 ^ length ds ≤ 10 ^ 10 = pow-le-pow_right ten short in
    omega arith

-- the first digits
pub first_digits_below : (i : ℕ) (ds : List ℕ) → list_all is_ascii_digit (take i ds) ≡ true → i ≤ length ds → length ds ≤ 10 → number_of (take i ds) < 10 ^ 10
first_digits_below i ds all within short =
    let size : length (take i ds) ≤ 10 = omega (arith, length-take-le i ds within) in
    number_below (take i ds) all size

pub halves_are : (c : ℕ) (text : Text) (r : Option (Bor Text × Bor Text)) → IsSplitOnceResult c text r → c < 128
    → option_map (λ p. let both : Text × Text = (p.0.now, p.1.now) in both) r ≡ halves_of c text
halves_are c text None is small = sym (rw (list_any-Lacks c text (split_parts c text None is small)) refl)
halves_are c text (Some p) is small =
    let parts = split_parts c text (Some p) is small in
    sym (ap (halves_of c) parts.0 ∙ rw (list_any-at c p.0.now p.1.now, before_first-at c p.0.now p.1.now parts.1, after_first-at c p.0.now p.1.now parts.1) refl)

-- ---- numbers of options within their bounds

pub number_inside : (bounds : Bounds) (text : Text) → is_within bounds text ≡ true → (bounds.minimum ≤ number_of text) × (number_of text ≤ bounds.maximum)
number_inside bounds text good =
    let sides = and_parts _ _ (and_parts _ _ good).1 in
    (leb-true _ _ sides.0, leb-true _ _ sides.1)

pub number_within : (bounds : Bounds) (value : Option Text) (other : ℕ) → ((text : Text) → value ≡ Some text → is_within bounds text ≡ true)
    → (bounds.minimum ≤ other) × (other ≤ bounds.maximum) → (bounds.minimum ≤ option_map_or number_of value other) × (option_map_or number_of value other ≤ bounds.maximum)
number_within bounds None other good default = default
number_within bounds (Some text) other good default = number_inside bounds text (good text refl)

-- what holds of each value that is good holds of what is given
pub mapped_if : {A : Type 0} (f : Text → A) (P : A → Type 0) (value : Option Text) → ((text : Text) → value ≡ Some text → P (f text)) → IfSome (option_map f value) P
mapped_if f P None good = tt
mapped_if f P (Some text) good = good text refl

pub number_if : (bounds : Bounds) (value : Option Text) → ((text : Text) → value ≡ Some text → is_within bounds text ≡ true)
    → IfSome (option_map number_of value) (λ n. (bounds.minimum ≤ n) × (n ≤ bounds.maximum))
number_if bounds value good = mapped_if number_of _ value (λ text is. number_inside bounds text (good text is))

pub number_at_most : (bounds : Bounds) (value : Option Text) → ((text : Text) → value ≡ Some text → is_within bounds text ≡ true)
    → IfSome (option_map number_of value) (λ n. n ≤ bounds.maximum)
number_at_most bounds value good = mapped_if number_of _ value (λ text is. (number_inside bounds text (good text is)).1)
