-- What the settings of the decoder have: an input, and 1 to 64 threads.
use Rattle.std.proofs.Common.{◌≡◌, ◌∙◌, ◌≤◌, ℕ, refl, sym, ap, subst, arith, codes, List, is_some, true}
use Rattle.std.specs.Prelude.{IfOk, Result, Ok, Err}
use Rattle.apv_base.specs.declared.options.WordsEnd.{WordsEnd}
use Rattle.apv_words.specs.Decoder.{HasSettings, dec_table, thread_counts}
use Rattle.apv_words.specs.Given.{is_given, value_of}
use Rattle.apv_words.specs.Table.{OptionRow, Text}
use Rattle.apv_words.specs.declared.decoder.DecSettings.{DecSettings}
use Rattle.apv_words.proofs.NumberLemmas.{number_within}
use Rattle.apv_words.proofs.RowLemmas.{good_row, has_value, not_missing}
use Rattle.apv_words.proofs.Settled.{twice}

-- ---- the input is always there

has_input : (words : List Text) (settings : DecSettings) → HasSettings dec_table words settings → is_some settings.input ≡ true
has_input words settings h =
    let given : is_given h.0 (codes "input") ≡ true = twice _ (not_missing dec_table (λ name. true) (value_of h.0) (is_given h.0) h.2 0 (omega arith) refl) in
    ap (λ (s : DecSettings). is_some s.input) h.3 ∙ has_value dec_table words h.0 h.1 (codes "input") refl ∙ given

pub input_of : (table : List OptionRow) (words : List Text) (result : Result DecSettings WordsEnd) → table ≡ dec_table → IfOk result (HasSettings table words)
    → IfOk result (λ settings. is_some settings.input ≡ true)
input_of table words (Err end) is h = tt
input_of table words (Ok settings) is h = has_input words settings (subst (λ (t : List OptionRow). HasSettings t words settings) is h)

-- ---- there are 1 to 64 threads

has_threads : (words : List Text) (settings : DecSettings) → HasSettings dec_table words settings → (1 ≤ settings.threads) × (settings.threads ≤ 64)
has_threads words settings h =
    subst (λ (n : ℕ). (1 ≤ n) × (n ≤ 64)) (sym (ap (λ (s : DecSettings). s.threads) h.3))
    (number_within thread_counts (value_of h.0 (codes "threads")) 1 (good_row dec_table (λ name. true) (value_of h.0) (is_given h.0) h.2 7 (omega arith) refl) (omega arith, omega arith))

pub threads_few : (table : List OptionRow) (words : List Text) (result : Result DecSettings WordsEnd) → table ≡ dec_table → IfOk result (HasSettings table words)
    → IfOk result (λ settings. (1 ≤ settings.threads) × (settings.threads ≤ 64))
threads_few table words (Err end) is h = tt
threads_few table words (Ok settings) is h = has_threads words settings (subst (λ (t : List OptionRow). HasSettings t words settings) is h)
