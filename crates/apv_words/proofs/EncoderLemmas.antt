-- What the settings of the encoder have: values within their bounds, and which of them are given.
use Rattle.std.proofs.Common.{◌≡◌, ◌∙◌, ◌≤◌, ◌<◌, ◌&&◌, ◌||◌, ℕ, zero, suc, pos, Bool, true, false, not, refl, sym, ap, subst, arith, codes, List, [], ◌∷◌, length, replicate, Option, Some, None, is_some, option_map, true≢false}
use Rattle.std.specs.Prelude.{IfSome, SomeIff, neg_ℤ, unsigned_abs, nat_le}
use Rattle.std.specs.List.{list_all}
use Rattle.std.specs.Option.{option_map_or, unwrap_or}
use Rattle.std.specs.Str.{bytes_eq}
use Rattle.std.proofs.lemmas.Bool.{and_from, and_parts, leb-true, ltb-false}
use Rattle.std.proofs.Math.Bool.{not-not}
use Rattle.std.proofs.lemmas.Slice.Eq.{bytes_eq-Decides}
use Rattle.clap.specs.Lexer.{strip_byte}
use Rattle.apv_base.specs.model.Header.{IsSoundColour}
use Rattle.apv_base.specs.model.Profile.{is_known}
use Rattle.apv_base.specs.model.Quant.{IsMatrix}
use Rattle.apv_base.specs.declared.options.Form.TheVariants.{Planar}
use Rattle.apv_words.specs.Decoder.{form_of, thread_counts}
use Rattle.apv_words.specs.Encoder.{AreInOrder, HasEncBounds, HasEncFiles, HasEncSettings, built_enc_table, colour_bounds, colour_of, enc_settings_by, enc_table, from_to, is_built_enc_option, level_of, levels, matrix_of, numbers_of, profile_of, profiles, signed_by, signed_of}
use Rattle.apv_words.specs.Fault.{is_below}
use Rattle.apv_words.specs.Given.{is_given, value_of}
use Rattle.apv_words.specs.Table.{Text}
use Rattle.apv_words.specs.Values.{are_within, is_choice, is_signed, is_within, number_of}
use Rattle.apv_words.specs.declared.encoder.EncSettings.{EncSettings}
use Rattle.apv_words.specs.declared.table.Bounds.{Bounds}
use Rattle.apv_words.proofs.CommaLemmas.{lies_in, numbers_count, numbers_inside}
use Rattle.apv_words.proofs.NumberLemmas.{mapped_if, number_at_most, number_if, number_within}
use Rattle.apv_words.proofs.RowLemmas.{good_row, has_value, not_clashing, not_missing}

-- ---- a signed number

negative_size : (n : ℕ) → unsigned_abs (neg_ℤ (pos n)) ≡ n
negative_size zero = refl
negative_size (suc n) = refl

offset_size : (value : Option Text) → ((text : Text) → value ≡ Some text → is_signed 75 text ≡ true) → unsigned_abs (option_map_or signed_of value (pos 0)) ≤ 75
offset_size None good = omega arith
offset_size (Some text) good = go (strip_byte 45 text) (and_parts _ _ (good text refl)).1
  where
    go : (digits : Option Text) → nat_le (number_of (unwrap_or digits text)) 75 ≡ true → unsigned_abs (signed_by text digits) ≤ 75
    go None small = leb-true _ _ small
    go (Some digits) small = omega (arith, negative_size (number_of digits), leb-true _ _ small)

-- ---- a profile and a level

-- what holds of each choice holds of a text that is one of them
chosen : (test : Text → Bool) (texts : List Text) (text : Text) → list_all test texts ≡ true → is_choice texts text ≡ true → test text ≡ true
chosen test [] text all is = absurd (true≢false (sym is))
chosen test (first ∷ rest) text all is = go (bytes_eq first text) refl is (chosen test rest text (and_parts _ _ all).1)
  where
    go : (same : Bool) → bytes_eq first text ≡ same → (same || is_choice rest text) ≡ true → (is_choice rest text ≡ true → test text ≡ true) → test text ≡ true
    go true same f later = subst (λ (t : Text). test t ≡ true) ((bytes_eq-Decides first text).0 same) (and_parts _ _ all).0
    go false same f later = later f

profile_known : (text : Text) → is_choice profiles text ≡ true → is_known (profile_of text) ≡ true
profile_known text is = chosen (λ t. is_known (profile_of t)) profiles text refl is

level_small : (value : Option Text) → ((text : Text) → value ≡ Some text → is_choice levels text ≡ true) → option_map_or level_of value 123 ≤ 213
level_small None good = omega arith
level_small (Some text) good = leb-true _ _ (chosen (λ t. nat_le (level_of t) 213) levels text refl (good text refl))

-- ---- quantisation matrices and a colour description

numbers_matrix : (bounds : List Bounds) (text : Text) → length bounds ≡ 64 → list_all (lies_in 1 255) bounds ≡ true → are_within 44 bounds text ≡ true → IsMatrix (numbers_of bounds text)
numbers_matrix bounds text count narrow good = record {
  count = numbers_count bounds text ∙ count;
  each = λ place lt. let sides = numbers_inside 1 255 bounds text narrow good place (omega (arith, count)) in (sides.0, omega (arith, sides.1));
}

-- 64 numbers within their bounds are a matrix
pub matrix_sound : (text : Text) → are_within 44 (replicate 64 (from_to 1 255)) text ≡ true → IsMatrix (matrix_of text)
matrix_sound text good = numbers_matrix (replicate 64 (from_to 1 255)) text refl refl good

-- the matrix that is made of values that are one
pub matrix_made : (made : Option (List ℕ)) (values : List ℕ) → SomeIff made (IsMatrix values) values → IsMatrix values → made ≡ Some values
matrix_made None values is sound = absurd (is sound)
matrix_made (Some m) values is sound = ap Some is.1

colour_sound : (text : Text) → are_within 44 colour_bounds text ≡ true → IsSoundColour (colour_of text)
colour_sound text good =
    let small = numbers_inside 0 255 colour_bounds text refl good in
    record {
      primaries = omega (arith, (small 0 (omega arith)).1);
      transfer = omega (arith, (small 1 (omega arith)).1);
      matrix = omega (arith, (small 2 (omega arith)).1);
    }

-- ---- which values are given

-- required where another option isn't given, which it isn't
needed : (other own : Bool) → not ((not other && true) && not own) ≡ true → other ≡ false → own ≡ true
needed other true e f = refl
needed true false e f = absurd (true≢false f)
needed false false e f = e

-- required where it is wanted, and refused where it isn't
as_wanted : (wanted refused own : Bool) → refused ≡ not wanted → not ((wanted && true) && not own) ≡ true → not (own && (refused || false)) ≡ true → own ≡ wanted
as_wanted true refused true is required clash = refl
as_wanted true refused false is required clash = absurd (true≢false (sym required))
as_wanted false refused false is required clash = refl
as_wanted false true true is required clash = absurd (true≢false (sym clash))
as_wanted false false true is required clash = absurd (true≢false (sym is))

-- it isn't given where it is refused
not_beside : (refused own : Bool) → refused ≡ true → not (own && (refused || false)) ≡ true → own ≡ false
not_beside refused false is clash = refl
not_beside true true is clash = absurd (true≢false (sym clash))
not_beside false true is clash = absurd (true≢false (sym is))

-- the form is planar where none is given
is_planar : (value : Option Text) → is_some value ≡ false → option_map_or form_of value Planar ≡ Planar
is_planar None none = refl
is_planar (Some text) none = absurd (true≢false none)

-- what is given and isn't refused isn't below, where both are numbers
unclashed : (given refused number other below : Bool) → true ≡ given → number ≡ true → other ≡ true
    → not (given && (refused || ((number && (other && below)) || false))) ≡ true → below ≡ false
unclashed given refused number other false is n o clash = refl
unclashed false refused number other true is n o clash = absurd (true≢false is)
unclashed true true number other true is n o clash = absurd (true≢false (sym clash))
unclashed true false false other true is n o clash = absurd (true≢false (sym n))
unclashed true false true false true is n o clash = absurd (true≢false (sym o))
unclashed true false true true true is n o clash = absurd (true≢false (sym clash))

-- the second number is refused where it is below the first one
in_order : (bounds : Bounds) (refused given : Bool) (least most : Option Text) → ((text : Text) → least ≡ Some text → is_within bounds text ≡ true)
    → ((text : Text) → most ≡ Some text → is_within bounds text ≡ true) → is_some most ≡ given → not (given && (refused || (is_below most least || false))) ≡ true
    → AreInOrder (option_map number_of least) (option_map number_of most)
in_order bounds refused given None most good_least good_most is clash = tt
in_order bounds refused given (Some a) None good_least good_most is clash = tt
in_order bounds refused given (Some a) (Some b) good_least good_most is clash =
    let below = unclashed given refused _ _ _ is (and_parts _ _ (good_most b refl)).0 (and_parts _ _ (good_least a refl)).0 clash in
    ltb-false (number_of b) (number_of a) below

mapped : {A : Type 0} (f : Text → A) (value : Option Text) → is_some (option_map f value) ≡ is_some value
mapped f None = refl
mapped f (Some text) = refl

module _ (words : List Text) (settings : EncSettings) (h : HasEncSettings built_enc_table words settings) where
  abbrev value : Text → Option Text
  value = value_of h.0

  bounds : HasEncBounds (enc_settings_by value (is_given h.0))
  bounds =
      let good = good_row enc_table is_built_enc_option value (is_given h.0) h.2 in
      record {
        width = number_if (from_to 1 16777215) (value (codes "width")) (good 4 (omega arith) refl);
        height = number_if (from_to 1 16777215) (value (codes "height")) (good 5 (omega arith) refl);
        depth = number_if (from_to 10 12) (value (codes "depth")) (good 7 (omega arith) refl);
        profile = mapped_if profile_of (λ idc. is_known idc ≡ true) (value (codes "profile")) (λ text is. profile_known text (good 8 (omega arith) refl text is));
        level = level_small (value (codes "level")) (good 9 (omega arith) refl);
        band = (number_within (from_to 0 3) (value (codes "band")) 0 (good 10 (omega arith) refl) (omega arith, omega arith)).1;
        qp = number_at_most (from_to 0 75) (value (codes "qp")) (good 11 (omega arith) refl);
        limit = number_if (from_to 1 536870912) (value (codes "limit")) (good 12 (omega arith) refl);
        qp_min = number_at_most (from_to 0 75) (value (codes "qp-min")) (good 13 (omega arith) refl);
        qp_max = number_at_most (from_to 0 75) (value (codes "qp-max")) (good 14 (omega arith) refl);
        qp_offset_1 = offset_size (value (codes "qp-offset-1")) (good 15 (omega arith) refl);
        qp_offset_2 = offset_size (value (codes "qp-offset-2")) (good 16 (omega arith) refl);
        qp_offset_3 = offset_size (value (codes "qp-offset-3")) (good 17 (omega arith) refl);
        matrix_0 = mapped_if matrix_of IsMatrix (value (codes "matrix-0")) (λ text is. matrix_sound text (good 18 (omega arith) refl text is));
        matrix_1 = mapped_if matrix_of IsMatrix (value (codes "matrix-1")) (λ text is. matrix_sound text (good 19 (omega arith) refl text is));
        matrix_2 = mapped_if matrix_of IsMatrix (value (codes "matrix-2")) (λ text is. matrix_sound text (good 20 (omega arith) refl text is));
        matrix_3 = mapped_if matrix_of IsMatrix (value (codes "matrix-3")) (λ text is. matrix_sound text (good 21 (omega arith) refl text is));
        colour = mapped_if colour_of IsSoundColour (value (codes "colour")) (λ text is. colour_sound text (good 22 (omega arith) refl text is));
        tile_width = number_if (from_to 16 1048575) (value (codes "tile-width")) (good 23 (omega arith) refl);
        tile_height = number_if (from_to 8 1048575) (value (codes "tile-height")) (good 24 (omega arith) refl);
        preview_width = number_if (from_to 1 16777215) (value (codes "preview-width")) (good 29 (omega arith) refl);
        preview_height = number_if (from_to 1 16777215) (value (codes "preview-height")) (good 30 (omega arith) refl);
        filler = number_at_most (from_to 0 16777216) (value (codes "filler")) (good 33 (omega arith) refl);
        threads = number_within thread_counts (value (codes "threads")) 1 (good 36 (omega arith) refl) (omega arith, omega arith);
      }

  files : HasEncFiles (enc_settings_by value (is_given h.0))
  files =
      let given = is_given h.0 in
      let good = good_row enc_table is_built_enc_option value given h.2 in
      let missing = not_missing enc_table is_built_enc_option value given h.2 in
      let clash = not_clashing enc_table is_built_enc_option value given h.2 in
      let has = has_value built_enc_table words h.0 h.1 in
      let number = λ (name : Text). mapped number_of (value name) in
      let generated = number (codes "generate") ∙ has (codes "generate") refl in
      let preview = has (codes "preview") refl in
      record {
        input = has (codes "input") refl
            ∙ as_wanted (not (given (codes "generate"))) _ _ (sym (not-not _)) (missing 1 (omega arith) refl) (clash 1 (omega arith) refl) ∙ ap not (sym generated);
        output = λ none. has (codes "output") refl ∙ needed _ _ (missing 2 (omega arith) refl) (sym generated ∙ none);
        form = λ some. is_planar (value (codes "form")) (has (codes "form") refl ∙ not_beside _ _ (sym generated ∙ some) (clash 3 (omega arith) refl));
        qp = number (codes "qp") ∙ has (codes "qp") refl
            ∙ as_wanted (not (given (codes "limit"))) _ _ (sym (not-not _)) (missing 11 (omega arith) refl) (clash 11 (omega arith) refl)
            ∙ ap not (sym (number (codes "limit") ∙ has (codes "limit") refl));
        order = in_order (from_to 0 75) (not (given (codes "limit"))) (given (codes "qp-max")) (value (codes "qp-min")) (value (codes "qp-max")) (good 13 (omega arith) refl)
            (good 14 (omega arith) refl) (has (codes "qp-max") refl) (clash 14 (omega arith) refl);
        preview_width = number (codes "preview-width") ∙ has (codes "preview-width") refl
            ∙ as_wanted (given (codes "preview")) _ _ refl (missing 29 (omega arith) refl) (clash 29 (omega arith) refl) ∙ sym preview;
        preview_height = number (codes "preview-height") ∙ has (codes "preview-height") refl
            ∙ as_wanted (given (codes "preview")) _ _ refl (missing 30 (omega arith) refl) (clash 30 (omega arith) refl) ∙ sym preview;
      }

  pub has_bounds : HasEncBounds settings
  has_bounds = subst (λ (s : EncSettings). HasEncBounds s) (sym h.3) bounds

  pub has_files : HasEncFiles settings
  has_files = subst (λ (s : EncSettings). HasEncFiles s) (sym h.3) files
