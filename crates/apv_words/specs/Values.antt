-- The values of options.
use Rattle.std.specs.Prelude.{ℕ, ◌+◌, ◌*◌, ◌-◌, Bool, false, not, ◌&&◌, ◌==◌, List, [], ◌∷◌}
use Rattle.std.specs.Prelude.{length, Option, Some, None, nat_lt, nat_le, if◌then◌else◌}
use Rattle.std.specs.List.{after_first, before_first, fold, list_all, list_any}
use Rattle.std.specs.Char.{is_ascii_digit}
use Rattle.std.specs.Str.{bytes_eq}
use Rattle.clap.specs.Lexer.{without_minus}
use Rattle.apv_words.specs.Table.{Choice, Flag, Name, NameOrDash, Number, Numbers, Ratio, Signed}
use Rattle.apv_words.specs.Table.{Text, ValueKind}
use Rattle.apv_words.specs.declared.table.Bounds.{Bounds}

-- a number is at least one and at most n decimal digits; leading zeros count
abbrev pub is_number : ℕ → Text → Bool
is_number digits text =
    nat_lt 0 (length text) && (nat_le (length text) digits && list_all is_ascii_digit text)

-- the number with one more digit, by the digit's code
abbrev pub with_digit : ℕ → ℕ → ℕ
with_digit n code = 10 * n + (code - 48)

abbrev pub number_of : Text → ℕ
number_of text = fold with_digit 0 text

abbrev pub is_inside : Bounds → ℕ → Bool
is_inside bounds n = nat_le bounds.minimum n && nat_le n bounds.maximum

-- no number within the bounds is above the maximum of a byte
abbrev pub is_byte : Bounds → Bool
is_byte bounds = nat_le bounds.maximum 255

-- 1 to 10 digits, within the bounds
abbrev pub is_within : Bounds → Text → Bool
is_within bounds text = is_number 10 text && is_inside bounds (number_of text)

-- both are numbers, and the first is the smaller one
abbrev pub is_smaller : Text → Text → Bool
is_smaller own other =
    is_number 10 own && (is_number 10 other && nat_lt (number_of own) (number_of other))

-- the text before and after the first such byte
abbrev pub part_before : ℕ → Text → Text
part_before separator text = before_first (λ b. b == separator) text

abbrev pub part_after : ℕ → Text → Text
part_after separator text = after_first (λ b. b == separator) text

abbrev pub has_byte : ℕ → Text → Bool
has_byte byte text = list_any (λ b. b == byte) text

-- both, where the text has such a byte
abbrev pub halves_of : ℕ → Text → Option (Text × Text)
halves_of separator text =
    if has_byte separator text then Some (part_before separator text, part_after separator text) else None

-- numbers, each within its bounds, with a separator between them
abbrev pub are_within : ℕ → List Bounds → Text → Bool
are_within separator [] text = false
are_within separator (bounds ∷ []) text = is_within bounds text
are_within separator (bounds ∷ next ∷ more) text =
    has_byte separator text && (is_within bounds (part_before separator text)
    && are_within separator (next ∷ more) (part_after separator text))

-- 1 or 2 digits after an optional `-`, up to that size
abbrev pub is_signed : ℕ → Text → Bool
is_signed size text =
    is_number 2 (without_minus text) && nat_le (number_of (without_minus text)) size

abbrev pub is_dash : Text → Bool
is_dash text = bytes_eq text (45 ∷ [])

abbrev pub is_choice : List Text → Text → Bool
is_choice texts text = list_any (λ choice. bytes_eq choice text) texts

-- the value is good for an option of that kind
abbrev pub is_good : ValueKind → Text → Bool
is_good Flag text = false
is_good Name text = nat_lt 0 (length text) && not (is_dash text)
is_good NameOrDash text = nat_lt 0 (length text)
is_good (Number bounds) text = is_within bounds text
is_good (Ratio bounds) text = are_within 58 (bounds ∷ bounds ∷ []) text
is_good (Numbers bounds) text = are_within 44 bounds text
is_good (Signed size) text = is_signed size text
is_good (Choice texts) text = is_choice texts text
