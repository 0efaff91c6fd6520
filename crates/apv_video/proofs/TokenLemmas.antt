-- Lines, tokens and digits.
use Rattle.std.proofs.Common.{◌≡◌, ◌≢◌, ℕ, zero, suc, ◌+◌, ◌-◌, ◌*◌, ◌^◌, ◌<◌, ◌≤◌, Bool, true, false, not, cond, eqb, ltb, leb, List, [], ◌∷◌, ◌++◌, length, take, drop, get_or, slice_range, refl, sym, ap, ◌∙◌, arith, ⊎_elim, add-one}
use Rattle.std.specs.List.{list_all, filter, slice_split}
use Rattle.std.specs.Str.Parse.{digits_value, digits_value_after}
use Rattle.std.specs.Char.{digit_value}
use Rattle.std.proofs.lemmas.Bool.{and_parts, and_from, ne_eqb, eq-eqb, lt-ltb, le-ltb, le-leb, leb-true, not-true, cases_lt}
use Rattle.std.proofs.lemmas.List.{append-nil, take_more, drop_more, drop_all, take-append-drop, drop-drop, get_or-take, get_or-drop, length-drop}
use Rattle.std.proofs.Math.Nat.{pow-suc, pow-le-pow_right}
use Rattle.apv_base.specs.model.Video.{with_letter, is_digit}
use Rattle.apv_video.specs.Tokens.{HasNoSpace, HasTokenAt, letter_tokens}

-- ---- lists of which all items pass

pub all-push : (p : ℕ → Bool) (xs : List ℕ) (y : ℕ) → list_all p xs ≡ true → p y ≡ true → list_all p (xs ++ y ∷ []) ≡ true
all-push p [] y h here = and_from (p y) true here refl
all-push p (x ∷ xs) y h here =
    let parts : (p x ≡ true) × (list_all p xs ≡ true) = and_parts _ _ h in
    and_from (p x) (list_all p (xs ++ y ∷ [])) parts.0 (all-push p xs y parts.1 here)

pub all-at : (p : ℕ → Bool) (xs : List ℕ) (i : ℕ) → list_all p xs ≡ true → i < length xs → p (get_or xs i 0) ≡ true
all-at p [] i h less = absurd (omega arith)
all-at p (x ∷ xs) zero h less = let parts : (p x ≡ true) × (list_all p xs ≡ true) = and_parts _ _ h in parts.0
all-at p (x ∷ xs) (suc i) h less = let parts : (p x ≡ true) × (list_all p xs ≡ true) = and_parts _ _ h in all-at p xs i parts.1 (omega arith)

-- a byte that isn't another one
pub is-not : (x y : ℕ) → x ≢ y → not (eqb x y) ≡ true
is-not x y ne = rw (ne_eqb x y ne) refl

-- ---- tokens

is_space : ℕ → Bool
is_space byte = eqb byte 32

split-at : (xs ys : List ℕ) → HasNoSpace xs → slice_split (λ byte. eqb byte 32) (xs ++ 32 ∷ ys) ≡ xs ∷ slice_split (λ byte. eqb byte 32) ys
split-at [] ys h = refl
split-at (x ∷ xs) ys h =
    let parts : (not (eqb x 32) ≡ true) × HasNoSpace xs = and_parts _ _ h in
    rw (not-true (eqb x 32) parts.0, split-at xs ys parts.1) refl

split-none : (xs : List ℕ) → HasNoSpace xs → slice_split (λ byte. eqb byte 32) xs ≡ xs ∷ []
split-none [] h = refl
split-none (x ∷ xs) h =
    let parts : (not (eqb x 32) ≡ true) × HasNoSpace xs = and_parts _ _ h in
    rw (not-true (eqb x 32) parts.0, split-none xs parts.1) refl

-- a token, where it begins with the letter
abbrev picked : ℕ → List ℕ → List (List ℕ) → List (List ℕ)
picked letter xs more = cond (eqb (get_or xs 0 0) letter) (xs ∷ more) more

picked-first : (letter : ℕ) (xs : List ℕ) (words : List (List ℕ)) → 0 < letter
    → with_letter letter (filter (λ token. ltb 0 (length token)) (xs ∷ words)) ≡ picked letter xs (with_letter letter (filter (λ token. ltb 0 (length token)) words))
picked-first letter [] words some =
    let no : eqb 0 letter ≡ false = ne_eqb 0 letter (λ e. omega arith) in
    rw no refl
picked-first letter (x ∷ xs) words some = rw (lt-ltb 0 (suc (length xs)) (omega arith)) refl

-- the tokens of bytes that begin with a token and a space
pub tokens-at : (letter : ℕ) (xs ys : List ℕ) → 0 < letter → HasNoSpace xs → letter_tokens letter (xs ++ 32 ∷ ys) ≡ picked letter xs (letter_tokens letter ys)
tokens-at letter xs ys some h = rw (split-at xs ys h) (picked-first letter xs (slice_split (λ byte. eqb byte 32) ys) some)

-- the token of bytes without a space
pub tokens-last : (letter : ℕ) (xs : List ℕ) → 0 < letter → HasNoSpace xs → letter_tokens letter xs ≡ picked letter xs []
tokens-last letter xs some h = rw (split-none xs h) (picked-first letter xs [] some)

pub tokens-none : (letter : ℕ) → letter_tokens letter [] ≡ []
tokens-none letter = refl

-- the bytes from a place on, where a token ends at a space or at the end
range-split : (bytes : List ℕ) (place end : ℕ) → place ≤ end → end ≤ length bytes → drop place bytes ≡ slice_range bytes place end ++ drop end bytes
range-split bytes place end from inside =
    let e : place + (end - place) ≡ end = omega arith in
    sym (take-append-drop (end - place) (drop place bytes)) ∙ ap (λ (xs : List ℕ). slice_range bytes place end ++ xs) (drop-drop (end - place) place bytes ∙ ap (λ (k : ℕ). drop k bytes) e)

range-first : (bytes : List ℕ) (place end : ℕ) → place < end → end ≤ length bytes → get_or (slice_range bytes place end) 0 0 ≡ get_or bytes place 0
range-first bytes place end some inside = grind (arith, get_or-take, get_or-drop)

pub range-empty : (bytes : List ℕ) (place : ℕ) → slice_range bytes place place ≡ []
range-empty bytes place = let e : place - place ≡ 0 = omega arith in rw e refl

-- the tokens from a place on, where the next one ends at this place
pub tokens-step : (letter : ℕ) (bytes : List ℕ) (place end : ℕ) → 0 < letter → place ≤ end → end ≤ length bytes → HasNoSpace (slice_range bytes place end) → (end < length bytes → get_or bytes end 0 ≡ 32)
    → letter_tokens letter (drop place bytes) ≡ picked letter (slice_range bytes place end) (letter_tokens letter (drop (end + 1) bytes))
tokens-step letter bytes place end some from inside token space =
    let split : drop place bytes ≡ slice_range bytes place end ++ drop end bytes = range-split bytes place end from inside in
    ⊎_elim (λ (low : end < length bytes).
    let next : drop end bytes ≡ 32 ∷ drop (end + 1) bytes = drop_more bytes end 0 low ∙ ap (λ (x : ℕ). x ∷ drop (end + 1) bytes) (space low) in
    ap (letter_tokens letter) (split ∙ ap (λ (xs : List ℕ). slice_range bytes place end ++ xs) next) ∙ tokens-at letter (slice_range bytes place end) (drop (end + 1) bytes) some token)
    (λ (high : length bytes ≤ end).
    let none : drop end bytes ≡ [] = drop_all end bytes high in
    let later : drop (end + 1) bytes ≡ [] = drop_all (end + 1) bytes (omega arith) in
    rw later (ap (letter_tokens letter) (split ∙ ap (λ (xs : List ℕ). slice_range bytes place end ++ xs) none ∙ append-nil (slice_range bytes place end)) ∙ tokens-last letter (slice_range bytes place end) some token)) (cases_lt end (length bytes))

-- a token that begins with the letter
pub token-found : (letter : ℕ) (bytes : List ℕ) (place end : ℕ) → 0 < letter → place < length bytes → place ≤ end → end ≤ length bytes → HasNoSpace (slice_range bytes place end) → (end < length bytes → get_or bytes end 0 ≡ 32)
    → get_or bytes place 0 ≡ letter → letter ≢ 32 → HasTokenAt letter bytes place place end
token-found letter bytes place end some low from inside token space is other =
    let long : place < end = ⊎_elim (λ (l : place < end). l) (λ (h : end ≤ place).
    let e : end ≡ place = omega arith in
    absurd (other (sym is ∙ ap (λ (k : ℕ). get_or bytes k 0) (sym e) ∙ space (omega arith)))) (cases_lt place end) in
    record {
      some = long;
      inside = inside;
      tokens = tokens-step letter bytes place end some from inside token space ∙ rw (range-first bytes place end long inside, eq-eqb (get_or bytes place 0) letter is) refl;
    }

-- a token that begins with another byte
pub token-other : (letter : ℕ) (bytes : List ℕ) (place end : ℕ) → 0 < letter → place < length bytes → place ≤ end → end ≤ length bytes → HasNoSpace (slice_range bytes place end) → (end < length bytes → get_or bytes end 0 ≡ 32)
    → get_or bytes place 0 ≢ letter → letter_tokens letter (drop place bytes) ≡ letter_tokens letter (drop (end + 1) bytes)
token-other letter bytes place end some low from inside token space other =
    tokens-step letter bytes place end some from inside token space
    ∙ ⊎_elim (λ (long : place < end). rw (range-first bytes place end long inside, ne_eqb (get_or bytes place 0) letter other) refl)
    (λ (h : end ≤ place).
    let e : end ≡ place = omega arith in
    let no : eqb 0 letter ≡ false = ne_eqb 0 letter (λ z. omega arith) in
    rw (e, range-empty bytes place, no) refl) (cases_lt place end)

-- one more byte of a token
pub range-more : (bytes : List ℕ) (first end : ℕ) → first ≤ end → end < length bytes → slice_range bytes first (end + 1) ≡ slice_range bytes first end ++ get_or bytes end 0 ∷ []
range-more bytes first end from low =
    let e : end + 1 - first ≡ end - first + 1 = omega arith in
    let f : first + (end - first) ≡ end = omega arith in
    ap (λ (k : ℕ). take k (drop first bytes)) e ∙ take_more (drop first bytes) (end - first) 0 (omega (arith, length-drop first bytes)) ∙ ap (λ (x : ℕ). slice_range bytes first end ++ x ∷ []) (get_or-drop first bytes (end - first) 0 ∙ ap (λ (k : ℕ). get_or bytes k 0) f)

-- ---- digits

pub value-push : (n : ℕ) (xs : List ℕ) (c : ℕ) → digits_value_after 10 n (xs ++ c ∷ []) ≡ digits_value_after 10 n xs * 10 + digit_value c
value-push n [] c = refl
value-push n (x ∷ xs) c = value-push (n * 10 + digit_value x) xs c

pub digit-is : (c : ℕ) → 48 ≤ c → c ≤ 57 → digit_value c ≡ c - 48
digit-is c low high = rw (le-ltb c 48 low, lt-ltb c 58 (omega arith)) refl

pub is-digit : (c : ℕ) → 48 ≤ c → c ≤ 57 → is_digit c ≡ true
is-digit c low high = rw (le-leb 48 c low, le-leb c 57 high) refl

pub digit-range : (c : ℕ) → is_digit c ≡ true → (48 ≤ c) × (c ≤ 57)
digit-range c h = let parts : (leb 48 c ≡ true) × (leb c 57 ≡ true) = and_parts _ _ h in (leb-true 48 c parts.0, leb-true c 57 parts.1)

-- one more digit
pub value-more : (ds : List ℕ) (i size value c : ℕ) → size ≡ digits_value 10 (take i ds) → i < length ds → c ≡ get_or ds i 0 → 48 ≤ c → c ≤ 57 → value ≡ 10 * size + (c - 48) → value ≡ digits_value 10 (take (i + 1) ds)
value-more ds i size value c so less is low high at =
    let e : take (i + 1) ds ≡ take i ds ++ c ∷ [] = take_more ds i 0 less ∙ ap (λ (x : ℕ). take i ds ++ x ∷ []) (sym is) in
    let f : digits_value 10 (take (i + 1) ds) ≡ digits_value 10 (take i ds) * 10 + digit_value c = ap (digits_value 10) e ∙ value-push 0 (take i ds) c in
    omega (arith, f, digit-is c low high)

pub digits-more : (ds : List ℕ) (i c : ℕ) → list_all is_digit (take i ds) ≡ true → i < length ds → c ≡ get_or ds i 0 → 48 ≤ c → c ≤ 57 → list_all is_digit (take (i + 1) ds) ≡ true
digits-more ds i c so less is low high =
    let e : take (i + 1) ds ≡ take i ds ++ c ∷ [] = take_more ds i 0 less ∙ ap (λ (x : ℕ). take i ds ++ x ∷ []) (sym is) in
    rw e (all-push is_digit (take i ds) c so (is-digit c low high))

-- at most 8 digits
pub power-more : (size i c : ℕ) → size < 10 ^ i → c ≤ 57 → 10 * size + (c - 48) < 10 ^ (i + 1)
power-more size i c small high = let e : 10 ^ (i + 1) ≡ 10 ^ i * 10 = rw (add-one i) (pow-suc 10 i) in omega arith

pub power-few : (i : ℕ) → i ≤ 8 → 10 ^ i ≤ 10 ^ 8
power-few i few = let ten : 0 < 10 = omega arith in pow-le-pow_right ten few
