-- How many bits the word of a run has.
use Rattle.std.proofs.Common.{ℕ, suc, ◌+◌, ◌*◌, ◌^◌, ◌<◌, ◌≤◌, ◌∷◌, length, replicate, ⊎_elim, arith}
use Rattle.std.proofs.lemmas.Bool.{cases_lt}
use Rattle.std.proofs.lemmas.List.{length-append, length-replicate}
use Rattle.apv_base.specs.model.Bits.{bin}
use Rattle.apv_base.specs.model.CodeWord.{code_word}
use Rattle.apv_base.proofs.BitsLemmas.{length-bin}
use Rattle.apv_base.proofs.CodeWordLemmas.{Form, first, second, further, form, word_first, word_second, word_further, pow_le}

-- the word of a number of m + 1 bits
length-word_by : (k v m : ℕ) → k ≤ m → v < 2 ^ suc m → Form k v → length (code_word k v) ≤ 3 + 2 * m
length-word_by k v m low small (first h) = rw (word_first k v h) (omega (arith, length-bin k v))
length-word_by k v m low small (second r h e) = rw (word_second k v r h e) (omega (arith, length-bin k r))
length-word_by k v m low small (further j r h e) =
    let few : k + j ≤ m = ⊎_elim (λ (lt : m < k + j). absurd (omega (arith, pow_le (suc m) (k + j) lt))) (λ (le : k + j ≤ m). le) (cases_lt m (k + j)) in
    rw (word_further k v j r h e)
    (omega (arith, length-append (replicate j 0) (1 ∷ bin (k + j) r), length-replicate {A = ℕ} j 0, length-bin (k + j) r))

pub length-run_word : (k v : ℕ) → k ≤ 2 → v < 64 → length (code_word k v) ≤ 13
length-run_word k v low small = length-word_by k v 5 (omega arith) small (form k v)
