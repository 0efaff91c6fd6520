-- Writing the levels after the first, a place at a time.
use Rattle.std.proofs.Common.{◌≡◌, ℕ, ℤ, ◌-◌, ◌*◌, ◌/◌, ◌<◌, ◌≤◌, ◌++◌, min, length, List, [], ◌∷◌, unsigned_abs, nat_lt, if◌then◌else◌, refl, sym, ap, ap₂, ◌∙◌, ⊎_elim, arith}
use Rattle.std.proofs.lemmas.Bool.{cases_lt, lt-ltb, le-ltb}
use Rattle.std.proofs.lemmas.List.{append-nil, append_assoc, length-append, length-drop}
use Rattle.std.proofs.lemmas.Grind.{flat_map-append}
use Rattle.apv_base.specs.model.CodeWord.{code_word}
use Rattle.apv_base.specs.model.Block.{Context, element_bits, bits_of, sign_of, level_elements, ac_elements, ac_from, dc_elements, block_bits}
use Rattle.apv_bits.specs.declared.writer.BitWriter.{BitWriter}
use Rattle.apv_bits.specs.Writer.{bits_after, Appends}
use Rattle.apv_scan.specs.CodeWords.{signed_bits}
use Rattle.apv_scan.specs.Writing.{end_bits}
use Rattle.apv_scan.proofs.ElementLemmas.{AreRising, ac_elements-end, ac_elements-full, ac_elements-cons}

-- ---- a writer

-- the room left, where the bits still to come are known
pub room_left : (old mid : BitWriter) (w rest all : List ℕ) → Appends old mid w → w ++ rest ≡ all → length all ≤ length (bits_after old) → length rest ≤ length (bits_after mid)
room_left old mid w rest all a e room = rw a.after (omega (arith, length-drop (length w) (bits_after old), length-append w rest, ap length e))

-- ---- the levels at a list of places

-- the bits of a run and of the level after it
abbrev pub level_bits : ℕ → ℕ → ℕ → ℕ → ℕ → List ℕ
level_bits run_before run level_before size negative = bits_of (level_elements 0 run_before run level_before size negative)

-- the bits of the levels at these places, after the last one with its run and size
abbrev pub further_bits : (ℕ → ℤ) → ℕ → ℕ → ℕ → List ℕ → List ℕ
further_bits z last run level ps = bits_of (ac_elements z last run level ps)

-- the bits of the next run and level, and those after
pub next_bits : (z : ℕ → ℤ) (last rb lb b size s : ℕ) (bs : List ℕ) → unsigned_abs (z b) ≡ size → sign_of (z b) ≡ s
    → further_bits z last rb lb (b ∷ bs) ≡ level_bits rb (b - last - 1) lb size s ++ further_bits z b (b - last - 1) size bs
next_bits z last rb lb b size s bs is bit =
    ap bits_of (ac_elements-cons z last rb lb b bs)
    ∙ flat_map-append element_bits (level_elements last rb (b - last - 1) lb (unsigned_abs (z b)) (sign_of (z b))) (ac_elements z b (b - last - 1) (unsigned_abs (z b)) bs)
    ∙ rw (is, bit) refl

-- the bits of a run up to the end of the block
pub further_bits-nil : (z : ℕ → ℤ) (last rb lb : ℕ) → further_bits z last rb lb [] ≡ end_bits rb last
further_bits-nil z last rb lb =
    ⊎_elim
    (λ (lt : last < 63). ap bits_of (ac_elements-end z last rb lb lt) ∙ append-nil (code_word (min 2 (rb / 4)) (63 - last)) ∙ rw (lt-ltb last 63 lt) refl)
    (λ (le : 63 ≤ last). ap bits_of (ac_elements-full z last rb lb le) ∙ rw (le-ltb last 63 le) refl)
    (cases_lt last 63)

-- the bits where no place is left
pub bits_none : (z : ℕ → ℤ) (last rb lb : ℕ) (ps word : List ℕ) → ps ≡ [] → word ≡ end_bits rb last → further_bits z last rb lb ps ≡ word ++ []
bits_none z last rb lb ps word none e = ap (further_bits z last rb lb) none ∙ further_bits-nil z last rb lb ∙ sym e ∙ sym (append-nil word)

-- what is at the start of rising places, and what is after it
pub at_start : (z : ℕ → ℤ) (last b : ℕ) (ps more : List ℕ) → ps ≡ b ∷ more → AreRising z last ps → (last < b) × (b < 64) × (0 < unsigned_abs (z b)) × AreRising z b more
at_start z last b ps more e rising = rw e at rising

-- the bits of the places left, in those of the step and the rest
pub bits_prefix : (z : ℕ → ℤ) (last rb lb : ℕ) (ps : List ℕ) (b : ℕ) (more : List ℕ) (size s : ℕ) (word : List ℕ) → ps ≡ b ∷ more → size ≡ unsigned_abs (z b) → s ≡ sign_of (z b)
    → word ≡ level_bits rb (b - last - 1) lb size s → further_bits z last rb lb ps ≡ word ++ further_bits z b (b - last - 1) size more
bits_prefix z last rb lb ps b more size s word e is bit f =
    ap (further_bits z last rb lb) e ∙ next_bits z last rb lb b size s more (sym is) (sym bit) ∙ ap (λ c. c ++ further_bits z b (b - last - 1) size more) (sym f)

-- a step of the loop: a word is joined to the one that waits, which may be written first
pub joined_bits : (w v waiting word waiting' next rest all : List ℕ) → w ++ (waiting ++ next) ≡ all → next ≡ word ++ rest → v ++ waiting' ≡ waiting ++ word
    → (w ++ v) ++ (waiting' ++ rest) ≡ all
joined_bits w v waiting word waiting' next rest all e n f =
    append_assoc w v (waiting' ++ rest) ∙ ap (λ c. w ++ c) (sym (append_assoc v waiting' rest) ∙ ap (λ c. c ++ rest) f ∙ append_assoc waiting word rest ∙ ap (λ c. waiting ++ c) (sym n)) ∙ e

-- the last step
pub last_bits : (w v waiting word waiting' next all : List ℕ) → w ++ (waiting ++ next) ≡ all → next ≡ word ++ [] → v ++ waiting' ≡ waiting ++ word → (w ++ v) ++ waiting' ≡ all
last_bits w v waiting word waiting' next all e n f = ap (λ c. (w ++ v) ++ c) (sym (append-nil waiting')) ∙ joined_bits w v waiting word waiting' next [] all e n f

-- ---- by the parameters of the code words

-- only the parameters that a run and a level give count
pub bits_by_parameters : (z : ℕ → ℤ) (last rb lb : ℕ) (ps : List ℕ) → further_bits z last rb lb ps ≡ further_bits z last (4 * min 2 (rb / 4)) (4 * min 4 (lb / 4)) ps
bits_by_parameters z last rb lb [] =
    let same : min 2 (rb / 4) ≡ min 2 (4 * min 2 (rb / 4) / 4) = omega arith in
    further_bits-nil z last rb lb ∙ ap (λ k. if nat_lt last 63 then code_word k (63 - last) else []) same ∙ sym (further_bits-nil z last (4 * min 2 (rb / 4)) (4 * min 4 (lb / 4)))
bits_by_parameters z last rb lb (b ∷ bs) =
    let run : min 2 (rb / 4) ≡ min 2 (4 * min 2 (rb / 4) / 4) = omega arith in
    let level : min 4 (lb / 4) ≡ min 4 (4 * min 4 (lb / 4) / 4) = omega arith in
    next_bits z last rb lb b (unsigned_abs (z b)) (sign_of (z b)) bs refl refl
    ∙ ap₂ (λ i j. (code_word i (b - last - 1) ++ (code_word j (unsigned_abs (z b) - 1) ++ sign_of (z b) ∷ [])) ++ further_bits z b (b - last - 1) (unsigned_abs (z b)) bs) run level
    ∙ sym (next_bits z last (4 * min 2 (rb / 4)) (4 * min 4 (lb / 4)) b (unsigned_abs (z b)) (sign_of (z b)) bs refl refl)

-- the bits of the places left, in those of the code words of a run and a level and the rest
pub bits_coded : (z : ℕ → ℤ) (last rk lk : ℕ) (ps : List ℕ) (b : ℕ) (more run_word level_word : List ℕ) (next_rk next_lk : ℕ) → rk ≤ 2 → lk ≤ 4 → ps ≡ b ∷ more
    → run_word ≡ code_word rk (b - last - 1) → level_word ≡ signed_bits lk (z b) → next_rk ≡ min 2 ((b - last - 1) / 4) → next_lk ≡ min 4 (unsigned_abs (z b) / 4)
    → further_bits z last (4 * rk) (4 * lk) ps ≡ (run_word ++ level_word) ++ further_bits z b (4 * next_rk) (4 * next_lk) more
bits_coded z last rk lk ps b more run_word level_word next_rk next_lk few_rk few_lk e run level rk_is lk_is =
    let i : min 2 (4 * rk / 4) ≡ rk = omega arith in
    let j : min 4 (4 * lk / 4) ≡ lk = omega arith in
    rw (rk_is, lk_is)
    (
    bits_prefix z last (4 * rk) (4 * lk) ps b more (unsigned_abs (z b)) (sign_of (z b)) (run_word ++ level_word) e refl refl
    (rw (run, level) (ap₂ (λ m n. code_word m (b - last - 1) ++ (code_word n (unsigned_abs (z b) - 1) ++ sign_of (z b) ∷ [])) (sym i) (sym j)))
    ∙ ap (λ c. (run_word ++ level_word) ++ c) (bits_by_parameters z b (b - last - 1) (unsigned_abs (z b)) more)
    )

-- ---- room

-- the room for the word that waits
pub room_waiting : (old mid : BitWriter) (w waiting rest all : List ℕ) → Appends old mid w → w ++ (waiting ++ rest) ≡ all → length all ≤ length (bits_after old) → length waiting ≤ length (bits_after mid)
room_waiting old mid w waiting rest all a e room = omega (arith, room_left old mid w (waiting ++ rest) all a e room, length-append waiting rest)

-- ---- a block

-- the bits of a block: those of its first level and those after it
pub block_bits-parts : (context : Context) (z : ℕ → ℤ) → block_bits context z ≡ bits_of (dc_elements context (z 0)) ++ bits_of (ac_from z 0 0 context.first 1)
block_bits-parts context z = flat_map-append element_bits (dc_elements context (z 0)) (ac_from z 0 0 context.first 1)
