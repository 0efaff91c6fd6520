-- Which option is at the start of words: there is one at most.
use Rattle.std.proofs.Common.{◌≡◌, ◌∙◌, ℕ, Bool, true, false, refl, sym, ap, subst, inl, inr, List, [], ◌∷◌, ◌++◌, Option, Some, None, is_some, true≢false, cond, not, ◌||◌, ◌==◌, ◌+◌, ◌<◌, ◌≤◌, suc, arith, take, drop, length}
use Rattle.std.specs.Option.{option_map}
use Rattle.std.specs.Prelude.{option_and_then, slice_get}
use Rattle.std.specs.List.{list_all, position_or_len}
use Rattle.std.specs.Str.{bytes_eq}
use Rattle.std.proofs.lemmas.Slice.Eq.{bytes_eq-Decides}
use Rattle.std.proofs.lemmas.Bool.{and_parts, eqb-true}
use Rattle.clap.specs.Lexer.{has_byte, long_of, long_of_rest, name_and_value, strip_byte}
use Rattle.apv_words.specs.Table.{OptionRow, Text, is_option_name, is_table, names_of, row_by_name, takes_value}
use Rattle.apv_words.specs.Cut.{IsOption, Pair, SpellsOption, dashed, joined, may_stand_alone}
use Rattle.apv_words.specs.FirstOption.{FirstOption, first_by_row, first_by_word, first_option, with_own, with_value}
use Rattle.apv_words.proofs.WalkedWords.{dashed_flag, joined_flag}
use Rattle.apv_words.proofs.WalkedAll.{option_name}

pub table_names : (table : List OptionRow) → is_table table ≡ true → list_all is_option_name (names_of table) ≡ true
table_names table e = (and_parts _ _ e).0

-- the first word holds the value, or comes before it
pub data FirstWord (name : Text) (value : Option Text) (first : Text) (rest more : List Text) : Type 0 where
  within : long_of first ≡ Some (name, value) → rest ≡ more → FirstWord name value first rest more
  before : (own : Text) → value ≡ Some own → long_of first ≡ Some (name, None) → rest ≡ own ∷ more → may_stand_alone own ≡ true → FirstWord name value first rest more

pub first_word : (name : Text) (value : Option Text) (first : Text) (rest more : List Text) → is_option_name name ≡ true → SpellsOption name value (first ∷ rest) more
    → FirstWord name value first rest more
first_word name None first rest more is_name e =
    let word : first ≡ dashed name = cc in
    within (ap long_of word ∙ (dashed_flag name is_name).long) (let same : first ∷ rest ≡ dashed name ∷ more = e in cc)
first_word name (Some value) first rest more is_name (inl e) =
    let word : first ≡ joined name value = cc in
    within (ap long_of word ∙ (joined_flag name value is_name).long) (let same : first ∷ rest ≡ joined name value ∷ more = e in cc)
first_word name (Some value) first rest more is_name (inr (e, may)) =
    let word : first ≡ dashed name = cc in
    before value refl (ap long_of word ∙ (dashed_flag name is_name).long) (let same : first ∷ rest ≡ dashed name ∷ value ∷ more = e in cc) may

-- ---- what the first word is, by its name and value

-- the name, and after `=` (61) the value
abbrev halves : Text → Option Text → Text
halves name None = name
halves name (Some value) = name ++ 61 ∷ value

abbrev flag_word : Text → Option Text → Text
flag_word name value = dashed (halves name value)

-- the halves of a text by a number of bytes before the `=`
abbrev cut_at : ℕ → Bool → Text → Text
cut_at n has text = halves (take n text) (cond has (Some (drop (n + 1) text)) None)

halves_are : (text : Text) → text ≡ halves (name_and_value text).0 (name_and_value text).1
halves_are [] = refl
halves_are (x ∷ xs) = go (x == 61) refl (halves_are xs)
  where
    more : (n : ℕ) (has : Bool) → x ∷ cut_at n has xs ≡ cut_at (1 + n) has (x ∷ xs)
    more n true = let one : 1 + n ≡ suc n = omega arith in let two : (1 + n) + 1 ≡ suc (n + 1) = omega arith in rw (two, one) refl
    more n false = let one : 1 + n ≡ suc n = omega arith in rw one refl

    go : (b : Bool) → (x == 61) ≡ b → xs ≡ cut_at (position_or_len (λ y. y == 61) xs) (has_byte 61 xs) xs
        → x ∷ xs ≡ cut_at (cond (not b) (1 + position_or_len (λ y. y == 61) xs) 0) (b || has_byte 61 xs) (x ∷ xs)
    go true is rest = let same : x ≡ 61 = eqb-true x 61 is in ap (λ (n : ℕ). n ∷ xs) same
    go false is rest = ap (λ (ys : Text). x ∷ ys) rest ∙ more (position_or_len (λ y. y == 61) xs) (has_byte 61 xs)

stripped : (c : ℕ) (text rest : Text) → strip_byte c text ≡ Some rest → text ≡ c ∷ rest
stripped c [] rest e = let bad : ◌≡◌ {A = Option Text} None (Some rest) = e in cc
stripped c (x ∷ xs) rest e = go (x == c) refl e
  where
    go : (b : Bool) → (x == c) ≡ b → cond b (Some xs) None ≡ Some rest → x ∷ xs ≡ c ∷ rest
    go true is f = let same : x ≡ c = eqb-true x c is in let tails : Some xs ≡ Some rest = f in cc
    go false is f = let bad : ◌≡◌ {A = Option Text} None (Some rest) = f in cc

word_is : (word name : Text) (value : Option Text) → long_of word ≡ Some (name, value) → word ≡ flag_word name value
word_is word name value e = first (strip_byte 45 word) refl e
  where
    third : (rest : Text) → long_of_rest rest ≡ Some (name, value) → rest ≡ halves name value
    third [] f = let bad : ◌≡◌ {A = Option (Text × Option Text)} None (Some (name, value)) = f in cc
    third (x ∷ xs) f =
        let same : Some (name_and_value (x ∷ xs)) ≡ Some (name, value) = f in
        let parts : name_and_value (x ∷ xs) ≡ (name, value) = cc in
        halves_are (x ∷ xs) ∙ ap (λ (p : Text × Option Text). halves p.0 p.1) parts

    second : (one : Text) (o : Option Text) → strip_byte 45 one ≡ o → option_and_then long_of_rest o ≡ Some (name, value) → one ≡ 45 ∷ halves name value
    second one None is f = let bad : ◌≡◌ {A = Option (Text × Option Text)} None (Some (name, value)) = f in cc
    second one (Some two) is f = stripped 45 one two is ∙ ap (λ (t : Text). 45 ∷ t) (third two f)

    first : (o : Option Text) → strip_byte 45 word ≡ o → option_and_then long_of_rest (option_and_then (strip_byte 45) o) ≡ Some (name, value) → word ≡ flag_word name value
    first None is f = let bad : ◌≡◌ {A = Option (Text × Option Text)} None (Some (name, value)) = f in cc
    first (Some one) is f = stripped 45 word one is ∙ ap (λ (t : Text). 45 ∷ t) (second one (strip_byte 45 one) refl f)

-- ---- rows

pub row_has_name : (table : List OptionRow) (name : Text) (row : OptionRow) → row_by_name table name ≡ Some row → row.name ≡ name
row_has_name [] name row e = let bad : ◌≡◌ {A = Option OptionRow} None (Some row) = e in cc
row_has_name (x ∷ xs) name row e = go (bytes_eq x.name name) refl e (row_has_name xs name row)
  where
    go : (b : Bool) → bytes_eq x.name name ≡ b → cond b (Some x) (row_by_name xs name) ≡ Some row → (row_by_name xs name ≡ Some row → row.name ≡ name) → row.name ≡ name
    go true is f rest =
        let same : x.name ≡ name = (bytes_eq-Decides x.name name).0 is in
        let rows : x ≡ row = cc in
        ap (λ (r : OptionRow). r.name) (sym rows) ∙ same
    go false is f rest = rest f

-- ---- what is at the start

pub record IsFirstOption (table : List OptionRow) (words : List Text) (pair : Pair) (n : ℕ) : Type 0 where
  pub option : IsOption table pair
  pub spells : SpellsOption pair.name pair.value words (drop n words)
  pub some : 0 < n
  pub within : n ≤ length words

abbrev made : Text → Option Text → ℕ → Pair × ℕ
made name value n = (record { name = name; value = value }, n)

row_kind : (table : List OptionRow) (row : OptionRow) (takes : Bool) → row_by_name table row.name ≡ Some row → takes_value row.kind ≡ takes
    → option_map (λ r. takes_value r.kind) (row_by_name table row.name) ≡ Some takes
row_kind table row takes found kind = ap (option_map (λ r. takes_value r.kind)) found ∙ ap Some kind

own_is_first : (table : List OptionRow) (row : OptionRow) (rest : List Text) (pair : Pair) (n : ℕ) → row_by_name table row.name ≡ Some row → takes_value row.kind ≡ true
    → with_own row.name (slice_get rest 0) ≡ Some (pair, n) → IsFirstOption table (dashed row.name ∷ rest) pair n
own_is_first table row [] pair n found kind e = let bad : ◌≡◌ {A = FirstOption} None (Some (pair, n)) = e in cc
own_is_first table row (own ∷ more) pair n found kind e = go (may_stand_alone own) refl e
  where
    here : may_stand_alone own ≡ true → IsFirstOption table (dashed row.name ∷ own ∷ more) (record { name = row.name; value = Some own }) 2
    here may = record { option = row_kind table row true found kind; spells = inr (refl, may); some = omega arith; within = omega arith }

    go : (b : Bool) → may_stand_alone own ≡ b → cond b (Some (made row.name (Some own) 2)) None ≡ Some (pair, n)
        → IsFirstOption table (dashed row.name ∷ own ∷ more) pair n
    go true may f =
        let parts : made row.name (Some own) 2 ≡ (pair, n) = cc in
        subst (λ (p : Pair × ℕ). IsFirstOption table (dashed row.name ∷ own ∷ more) p.0 p.1) parts (here may)
    go false may f = let bad : ◌≡◌ {A = FirstOption} None (Some (pair, n)) = f in cc

value_is_first : (table : List OptionRow) (row : OptionRow) (takes : Bool) (value : Option Text) (rest : List Text) (pair : Pair) (n : ℕ) → row_by_name table row.name ≡ Some row
    → takes_value row.kind ≡ takes → with_value takes row.name value (slice_get rest 0) ≡ Some (pair, n)
    → IsFirstOption table (flag_word row.name value ∷ rest) pair n
value_is_first table row false None rest pair n found kind e =
    let parts : made row.name None 1 ≡ (pair, n) = cc in
    subst (λ (p : Pair × ℕ). IsFirstOption table (dashed row.name ∷ rest) p.0 p.1) parts
    (record { option = row_kind table row false found kind; spells = refl; some = omega arith; within = omega arith })
value_is_first table row false (Some value) rest pair n found kind e = let bad : ◌≡◌ {A = FirstOption} None (Some (pair, n)) = e in cc
value_is_first table row true None rest pair n found kind e = own_is_first table row rest pair n found kind e
value_is_first table row true (Some value) rest pair n found kind e =
    let parts : made row.name (Some value) 1 ≡ (pair, n) = cc in
    subst (λ (p : Pair × ℕ). IsFirstOption table (joined row.name value ∷ rest) p.0 p.1) parts
    (record { option = row_kind table row true found kind; spells = inl refl; some = omega arith; within = omega arith })

pub first_option_is : (table : List OptionRow) (words : List Text) (pair : Pair) (n : ℕ) → first_option table words ≡ Some (pair, n) → IsFirstOption table words pair n
first_option_is table [] pair n e = let bad : ◌≡◌ {A = FirstOption} None (Some (pair, n)) = e in cc
first_option_is table (first ∷ rest) pair n e = by_flag (long_of first) refl e
  where
    by_found : (name : Text) (value : Option Text) (row : Option OptionRow) → row_by_name table name ≡ row → first_by_row row value (slice_get rest 0) ≡ Some (pair, n)
        → IsFirstOption table (flag_word name value ∷ rest) pair n
    by_found name value None is f = let bad : ◌≡◌ {A = FirstOption} None (Some (pair, n)) = f in cc
    by_found name value (Some row) is f =
        let named : row.name ≡ name = row_has_name table name row is in
        let found : row_by_name table row.name ≡ Some row = ap (row_by_name table) named ∙ is in
        subst (λ (t : Text). IsFirstOption table (flag_word t value ∷ rest) pair n) named
        (value_is_first table row (takes_value row.kind) value rest pair n found refl f)

    by_flag : (flag : Option (Text × Option Text)) → long_of first ≡ flag → first_by_word table flag (slice_get rest 0) ≡ Some (pair, n) → IsFirstOption table (first ∷ rest) pair n
    by_flag None is f = let bad : ◌≡◌ {A = FirstOption} None (Some (pair, n)) = f in cc
    by_flag (Some flag) is f =
        subst (λ (w : Text). IsFirstOption table (w ∷ rest) pair n) (sym (word_is first flag.0 flag.1 is)) (by_found flag.0 flag.1 (row_by_name table flag.0) refl f)

-- an option that the words spell is at their start
pub first_option_found : (table : List OptionRow) (words more : List Text) (pair : Pair) → is_table table ≡ true → IsOption table pair → SpellsOption pair.name pair.value words more
    → (n : ℕ) × (first_option table words ≡ Some (pair, n)) × (more ≡ drop n words)
first_option_found table words more pair ok option spells = go words spells
  where
    kind : (row : Option OptionRow) (takes : Bool) → row_by_name table pair.name ≡ row → option_map (λ r. takes_value r.kind) row ≡ Some takes
        → (r : OptionRow) × (row_by_name table pair.name ≡ Some r) × (r.name ≡ pair.name) × (takes_value r.kind ≡ takes)
    kind None takes is f = let bad : ◌≡◌ {A = Option Bool} None (Some takes) = f in absurd (true≢false (cc))
    kind (Some r) takes is f = (r, is, row_has_name table pair.name r is, (let both : Some (takes_value r.kind) ≡ Some takes = f in cc))

    at_start : (first : Text) (rest : List Text) → FirstWord pair.name pair.value first rest more
        → (n : ℕ) × (first_option table (first ∷ rest) ≡ Some (pair, n)) × (more ≡ drop n (first ∷ rest))
    at_start first rest (within word same) =
        let row = kind (row_by_name table pair.name) (is_some pair.value) refl option in
        let value : with_value (is_some pair.value) pair.name pair.value (slice_get rest 0) ≡ Some (pair, 1) = within_value pair.name pair.value (slice_get rest 0) in
        (1, rw (word, row.1, row.2, row.3) value, sym same)
      where
        within_value : (name : Text) (value next : Option Text) → with_value (is_some value) name value next ≡ Some (made name value 1)
        within_value name None next = refl
        within_value name (Some v) next = refl
    at_start first rest (before own is word same may) =
        let given : is_some pair.value ≡ true = ap is_some is in
        let row = kind (row_by_name table pair.name) true refl (option ∙ ap Some given) in
        let same_pair : made pair.name (Some own) 2 ≡ (pair, 2) = ap (λ (v : Option Text). made pair.name v 2) (sym is) in
        (2, rw (word, row.1, row.2, row.3, same, may) (ap Some same_pair), rw same refl)

    go : (ws : List Text) → SpellsOption pair.name pair.value ws more → (n : ℕ) × (first_option table ws ≡ Some (pair, n)) × (more ≡ drop n ws)
    go [] s = absurd (no_words pair.value s)
      where
        no_words : (value : Option Text) → SpellsOption pair.name value [] more → ⊥
        no_words None e = let bad : ◌≡◌ {A = List Text} [] (dashed pair.name ∷ more) = e in cc
        no_words (Some v) (inl e) = let bad : ◌≡◌ {A = List Text} [] (joined pair.name v ∷ more) = e in cc
        no_words (Some v) (inr (e, may)) = let bad : ◌≡◌ {A = List Text} [] (dashed pair.name ∷ v ∷ more) = e in cc
    go (first ∷ rest) s = at_start first rest (first_word pair.name pair.value first rest more (option_name table pair.name (is_some pair.value) (table_names table ok) option) s)
