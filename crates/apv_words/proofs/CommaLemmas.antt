-- Numbers with commas between them: what comes after the first comma, and the bounds of each number.
use Rattle.std.proofs.Common.{◌≡◌, ◌∙◌, ◌+◌, ◌-◌, ◌<◌, ◌≤◌, ◌&&◌, ℕ, zero, suc, Bool, true, refl, ap, arith, List, [], ◌∷◌, length, drop, take, Option, Some, None, nat_le, if◌then◌else◌}
use Rattle.std.specs.List.{list_all}
use Rattle.std.specs.Prelude.{slice_index}
use Rattle.std.specs.Option.{option_map_or}
use Rattle.std.proofs.lemmas.Bool.{and_parts, leb-true}
use Rattle.std.proofs.lemmas.List.{take_rest}
use Rattle.apv_words.specs.Encoder.{numbers_of}
use Rattle.apv_words.specs.Table.{Text}
use Rattle.apv_words.specs.Values.{are_within, halves_of, is_byte, is_within, number_of, part_after, part_before}
use Rattle.apv_words.specs.declared.table.Bounds.{Bounds}
use Rattle.apv_words.proofs.NumberLemmas.{number_inside}

-- ---- reading

-- the only number
pub only_number : (bounds : List Bounds) (text : Text) (n : ℕ) (others : List ℕ) → length bounds ≡ 1 → length others ≡ 0 → n ≡ number_of text → n ∷ others ≡ numbers_of bounds text
only_number (b ∷ []) text n [] one none is = ap (λ x. x ∷ []) is
only_number (b ∷ []) text n (x ∷ xs) one none is = absurd (omega arith)
only_number [] text n others one none is = absurd (omega arith)
only_number (b ∷ next ∷ more) text n others one none is = absurd (omega arith)

-- what comes after the first comma are numbers within the bounds after the first one
pub others_within : (bounds : List Bounds) (text before after : Text) → 1 < length bounds → are_within 44 bounds text ≡ true → Some (before, after) ≡ halves_of 44 text
    → are_within 44 (take (length bounds - 1) (drop 1 bounds)) after ≡ true
others_within [] text before after more good halves = absurd (omega arith)
others_within (b ∷ []) text before after more good halves = absurd (omega arith)
others_within (b ∷ next ∷ rest) text before after more good halves =
    let parts = and_parts _ _ good in
    let split : ◌≡◌ {A = Option (Text × Text)} (Some (before, after)) (Some (part_before 44 text, part_after 44 text)) =
    halves ∙ ap (λ (has : Bool). if has then Some (part_before 44 text, part_after 44 text) else None) parts.0 in
    let same : after ≡ part_after 44 text = ap (λ (both : Option (Text × Text)). option_map_or (λ p. p.1) both []) split in
    rw (take_rest (b ∷ next ∷ rest) 1, same) ((and_parts _ _ parts.1).1)

-- the same of bounds of bytes
pub others_bytes : (bounds : List Bounds) → 1 < length bounds → list_all is_byte bounds ≡ true → list_all is_byte (take (length bounds - 1) (drop 1 bounds)) ≡ true
others_bytes [] more all = absurd (omega arith)
others_bytes (b ∷ rest) more all = rw (take_rest (b ∷ rest) 1) ((and_parts _ _ all).1)

-- n numbers for the bounds after the first one
pub others_count : (bounds : List Bounds) (n : ℕ) → 1 < length bounds → n + 1 ≡ length bounds → n ≡ length (take (length bounds - 1) (drop 1 bounds))
others_count [] n more is = absurd (omega arith)
others_count (b ∷ rest) n more is = rw (take_rest (b ∷ rest) 1) (omega arith)

-- ---- bounds

pub numbers_count : (bounds : List Bounds) (text : Text) → length (numbers_of bounds text) ≡ length bounds
numbers_count [] text = refl
numbers_count (b ∷ []) text = refl
numbers_count (b ∷ next ∷ more) text = ap suc (numbers_count (next ∷ more) (part_after 44 text))

-- the bounds are within others
abbrev pub lies_in : ℕ → ℕ → Bounds → Bool
lies_in least most bounds = nat_le least bounds.minimum && nat_le bounds.maximum most

inside_others : (least most : ℕ) (bounds : Bounds) (text : Text) → lies_in least most bounds ≡ true → is_within bounds text ≡ true → (least ≤ number_of text) × (number_of text ≤ most)
inside_others least most bounds text narrow good =
    let own = number_inside bounds text good in
    let sides : (nat_le least bounds.minimum ≡ true) × (nat_le bounds.maximum most ≡ true) = and_parts _ _ narrow in
    (omega (arith, own.0, leb-true least bounds.minimum sides.0), omega (arith, own.1, leb-true bounds.maximum most sides.1))

-- each number is within bounds that hold for all
pub numbers_inside : (least most : ℕ) (bounds : List Bounds) (text : Text) → list_all (lies_in least most) bounds ≡ true → are_within 44 bounds text ≡ true → (place : ℕ) → place < length bounds
    → (least ≤ slice_index (numbers_of bounds text) place) × (slice_index (numbers_of bounds text) place ≤ most)
numbers_inside least most [] text narrow good place lt = absurd (omega arith)
numbers_inside least most (b ∷ []) text narrow good zero lt = inside_others least most b text (and_parts _ _ narrow).0 good
numbers_inside least most (b ∷ []) text narrow good (suc place) lt = absurd (omega arith)
numbers_inside least most (b ∷ next ∷ more) text narrow good zero lt =
    inside_others least most b (part_before 44 text) (and_parts _ _ narrow).0 (and_parts _ _ (and_parts _ _ good).1).0
numbers_inside least most (b ∷ next ∷ more) text narrow good (suc place) lt =
    numbers_inside least most (next ∷ more) (part_after 44 text) (and_parts _ _ narrow).1 (and_parts _ _ (and_parts _ _ good).1).1 place (omega arith)
