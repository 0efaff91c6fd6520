-- Bits begin with a block, or break in one; bytes are n blocks, or break a rule.
use Rattle.std.proofs.Common.{◌≡◌, ◌≢◌, ℕ, zero, suc, ℤ, pos, negsuc, neg_ℤ, ◌+ℤ◌, ◌-ℤ◌, ◌+◌, ◌-◌, ◌/◌, ◌^◌, ◌<◌, ◌≤◌, min, List, [], ◌∷◌, ◌++◌, length, take, drop, unsigned_abs, eqb, cond, refl, sym, ap, ap₂, ◌∙◌, subst, arith, lit<, append_assoc, append-nil, length-append, ◌⊎◌, inl, inr}
use Rattle.std.specs.Prelude.{Contains}
use Rattle.std.proofs.Math.ListN.{set}
use Rattle.std.proofs.Math.Nat.{mod-lt}
use Rattle.std.proofs.lemmas.Bool.{cases_eq, cases_lt}
use Rattle.std.proofs.lemmas.Int.{ints}
use Rattle.std.proofs.lemmas.List.{length-set, drop_at}
use Rattle.apv_base.specs.declared.rules.Rule.{Rule}
use Rattle.apv_base.specs.declared.rules.Rule.TheVariants.{V31}
use Rattle.apv_base.specs.laws.Judge.{ComponentsHaveSome}
use Rattle.apv_base.specs.model.Bits.{digits, bin, bits, AreDigits, padding}
use Rattle.apv_base.specs.model.Block.{Context, start, IsContext, coded_value, bits_of, sign_of, dc_elements, ac_from, block_bits, next_context, signed, BreaksAt, BlockBreaks}
use Rattle.apv_base.specs.model.CodeWord.{code_word, HasValue, EndsInside}
use Rattle.apv_base.specs.model.Component.{IsBlock, AreBlocks, context_after, component_bits, IsComponent, ComponentBreaks, in_block, in_alignment}
use Rattle.apv_base.specs.model.Quant.{IsLevel}
use Rattle.apv_base.specs.model.Scan.{scan, level_at}
use Rattle.apv_base.proofs.DigitsLemmas.{digits-drop}
use Rattle.apv_bits.specs.Reader.{Unread, Takes}
use Rattle.apv_scan.specs.BlockBreak.{rule_of}
use Rattle.apv_scan.specs.Reading.{DcBreaks, run_level_elements, RunLevelBreaks, AcBreaks}
use Rattle.apv_scan.specs.declared.block_break.BlockBreak.{BlockBreak}
use Rattle.apv_scan.specs.declared.block_break.BlockBreak.TheVariants.{Ends, Over, Run, Level}
use Rattle.apv_scan.proofs.ComponentLemmas.{next_is_context}
use Rattle.apv_scan.proofs.ReadingLemmas.{one_bit, level_parts, no_sign, bad_sign, bad_level, dc_breaks_number, dc_breaks_sign, dc_reads, step_breaks_run, step_breaks_long, step_breaks_size, step_breaks_sign, step_reads}
use Rattle.apv_scan.proofs.ScanLemmas.{level_at-set_same, level_at-set_other, all_levels, zeros_list, level_at-zeros}
use Rattle.apv_scan.specs.Walk.{Walk}
use Rattle.apv_scan.proofs.WalkLemmas.{walk_start, walk_end_run, walk_end, walk_breaks, step_walk, step_levels, start_levels, step_zeros, block_reads, block_breaks_dc, block_breaks_ac}

-- ---- a number

prefix-more : (x y : ℕ) (w b : List ℕ) → x ≡ y → ((rest : List ℕ) × (b ≡ w ++ rest)) ⊎ ((rest : List ℕ) → b ≡ w ++ rest → ⊥)
    → ((rest : List ℕ) × (y ∷ b ≡ (x ∷ w) ++ rest)) ⊎ ((rest : List ℕ) → y ∷ b ≡ (x ∷ w) ++ rest → ⊥)
prefix-more x y w b e (inl (rest, f)) = inl (rest, ap₂ (λ (v : ℕ) (vs : List ℕ). v ∷ vs) (sym e) f)
prefix-more x y w b e (inr never) = inr (λ rest f. never rest (let tails : b ≡ w ++ rest = cc in tails))

-- a list begins with a word, or doesn't
prefix-or : (w b : List ℕ) → ((rest : List ℕ) × (b ≡ w ++ rest)) ⊎ ((rest : List ℕ) → b ≡ w ++ rest → ⊥)
prefix-or [] b = inl (b, refl)
prefix-or (x ∷ w) [] = inr (λ rest e. let never : ⊥ = cc in never)
prefix-or (x ∷ w) (y ∷ b) = elim (cases_eq x y) [
  | inl e ↦ prefix-more x y w b e (prefix-or w b)
  | inr ne ↦ inr (λ rest e. ne (let heads : x ≡ y = cc in heads))
]

-- it begins with the word of a value up to n, or with none
value-or : (word : ℕ → List ℕ) (n : ℕ) (b : List ℕ) → ((v : ℕ) × HasValue word n b v) ⊎ ((v : ℕ) → HasValue word n b v → ⊥)
value-or word zero b = elim (prefix-or (word 0) b) [
  | inl p ↦ inl (0, (omega arith, p))
  | inr never ↦ inr (λ v h. let zero_is : v ≡ 0 = omega (arith, h.0) in never h.1.0 (h.1.1 ∙ ap (λ (i : ℕ). word i ++ h.1.0) zero_is))
]
value-or word (suc n) b = elim (value-or word n b) [
  | inl h ↦ inl (h.0, (omega (arith, h.1.0), h.1.1))
  | inr none ↦ elim (prefix-or (word (suc n)) b) [
    | inl p ↦ inl (suc n, (omega arith, p))
    | inr never ↦ inr (λ v h. elim (cases_lt v (suc n)) [
      | inl lt ↦ none v (omega arith, h.1)
      | inr ge ↦ (let last : v ≡ suc n = omega (arith, h.0) in never h.1.0 (h.1.1 ∙ ap (λ (i : ℕ). word i ++ h.1.0) last))
    ])
  ]
]

-- a list is a proper prefix of a word
abbrev IsInside : List ℕ → List ℕ → Type 0
IsInside w b = (rest : List ℕ) × (0 < length rest) × (w ≡ b ++ rest)

inside-of : (w b : List ℕ) → ((rest : List ℕ) × (w ≡ b ++ rest)) ⊎ ((rest : List ℕ) → w ≡ b ++ rest → ⊥) → IsInside w b ⊎ (IsInside w b → ⊥)
inside-of w b (inl ([], e)) = inr (λ i. omega (arith, i.1, ap (length {A = ℕ}) e, ap (length {A = ℕ}) i.2, length-append b i.0, length-append {A = ℕ} b []))
inside-of w b (inl (x ∷ rest, e)) = inl (x ∷ rest, omega arith, e)
inside-of w b (inr never) = inr (λ i. never i.0 i.2)

ends-or : (word : ℕ → List ℕ) (n : ℕ) (b : List ℕ) → EndsInside word n b ⊎ (EndsInside word n b → ⊥)
ends-or word zero b = elim (inside-of (word 0) b (prefix-or b (word 0))) [
  | inl i ↦ inl (0, omega arith, i)
  | inr never ↦ inr (λ e. let zero_is : e.0 ≡ 0 = omega (arith, e.1) in never (subst (λ (v : ℕ). IsInside (word v) b) zero_is e.2))
]
ends-or word (suc n) b = elim (ends-or word n b) [
  | inl e ↦ inl (e.0, omega (arith, e.1), e.2)
  | inr none ↦ elim (inside-of (word (suc n)) b (prefix-or b (word (suc n)))) [
    | inl i ↦ inl (suc n, omega arith, i)
    | inr never ↦ inr (λ e. elim (cases_lt e.0 (suc n)) [
      | inl lt ↦ none (e.0, omega arith, e.2)
      | inr ge ↦ (let last : e.0 ≡ suc n = omega (arith, e.1) in never (subst (λ (v : ℕ). IsInside (word v) b) last e.2))
    ])
  ]
]

abbrev after : Unread → List ℕ → List ℕ → Unread
after old word rest = record { left = rest; place = old.place + length word }

-- a number is at the start of the bits, or they break there
data NumberOr (k limit : ℕ) (old : Unread) : Type 0 where
  value : (v : ℕ) (new : Unread) → v ≤ limit → Takes old new (code_word k v) → AreDigits 2 new.left → NumberOr k limit old
  fails : (why : BlockBreak) → ((most v : ℕ) → BreaksAt (coded_value k limit most v) (rule_of why) old.left) → NumberOr k limit old

digits-after : (xs w rest : List ℕ) → AreDigits 2 xs → xs ≡ w ++ rest → AreDigits 2 rest
digits-after xs w rest all e = subst (AreDigits 2) (ap (drop (length w)) e ∙ drop_at w rest (length w) refl) (digits-drop 2 (length w) xs all)

number-fails : (k limit : ℕ) (old : Unread) → ((v : ℕ) → HasValue (code_word k) limit old.left v → ⊥) → NumberOr k limit old
number-fails k limit old none = elim (ends-or (code_word k) limit old.left) [
  | inl e ↦ fails Ends (λ most v. e)
  | inr never ↦ fails Over (λ most v. (none, never))
]

number-or : (k limit : ℕ) (old : Unread) → AreDigits 2 old.left → NumberOr k limit old
number-or k limit old all = elim (value-or (code_word k) limit old.left) [
  | inl h ↦ value h.0 (after old (code_word k h.0) h.1.1.0) h.1.0 (record { prefix = h.1.1.1; place = refl }) (digits-after old.left (code_word k h.0) h.1.1.0 all h.1.1.1)
  | inr none ↦ number-fails k limit old none
]

-- ---- a sign

data SignOr (old : Unread) : Type 0 where
  bit : (s : ℕ) (new : Unread) → s < 2 → Takes old new (bin 1 s) → AreDigits 2 new.left → SignOr old
  none_left : length old.left < 1 → SignOr old

sign-at : (old : Unread) (left : List ℕ) → old.left ≡ left → AreDigits 2 left → SignOr old
sign-at old [] e all = none_left (omega (arith, ap (length {A = ℕ}) e))
sign-at old (s ∷ rest) e all =
    let small : s < 2 = all 0 in
    bit s (after old (bin 1 s) rest) small (record { prefix = e ∙ ap (λ (w : List ℕ). w ++ rest) (sym (one_bit s small)); place = refl }) (digits-after (s ∷ rest) (s ∷ []) rest all refl)

sign-or : (old : Unread) → AreDigits 2 old.left → SignOr old
sign-or old all = sign-at old old.left refl all

not-below : (n : ℕ) → 2 ^ 15 ≤ n → n < 2 ^ 15 → ⊥
not-below n ge lt = omega arith

level-or : (l : ℤ) → IsLevel l ⊎ (IsLevel l → ⊥)
level-or (pos n) = elim (cases_lt n (2 ^ 15)) [ inl lt ↦ inl lt | inr ge ↦ inr (not-below n ge) ]
level-or (negsuc n) = elim (cases_lt n (2 ^ 15)) [ inl lt ↦ inl lt | inr ge ↦ inr (not-below n ge) ]

-- ---- the first level

data DcOr (context : Context) (old : Unread) : Type 0 where
  dc_level : (level : ℤ) (new : Unread) → IsLevel level → AreDigits 2 new.left → Takes old new (bits_of (dc_elements context level)) → DcOr context old
  dc_broken : (why : BlockBreak) → DcBreaks context old.left why → DcOr context old

-- the same level as before
dc-same : (context : Context) → bits_of (dc_elements context context.dc) ≡ code_word (min 5 (context.diff / 2)) 0
dc-same context =
    let step : context.dc -ℤ context.dc ≡ pos 0 = omega (arith, ints) in
    rw step (append-nil (code_word (min 5 (context.diff / 2)) 0))

dc-sign : (context : Context) (old mid : Unread) (v : ℕ) → 0 < v → v ≤ 65535 → Takes old mid (code_word (min 5 (context.diff / 2)) v) → SignOr mid → DcOr context old
dc-sign context old mid v more le t (none_left short) =
    dc_broken Ends (dc_breaks_sign context old mid v Ends more le t (no_sign (context.dc +ℤ pos v) (context.dc -ℤ pos v) mid.left short))
dc-sign context old mid v more le t (bit s new small u all) = elim (level-or (signed (context.dc +ℤ pos v) (context.dc -ℤ pos v) s)) [
  | inl is ↦ dc_level (signed (context.dc +ℤ pos v) (context.dc -ℤ pos v) s) new is all (dc_reads context old mid new (signed (context.dc +ℤ pos v) (context.dc -ℤ pos v) s) v s more small t u refl)
  | inr bad ↦ dc_broken Level (dc_breaks_sign context old mid v Level more le t (bad_sign (context.dc +ℤ pos v) (context.dc -ℤ pos v) s mid new small u bad))
]

dc-number : (context : Context) (old : Unread) → IsContext context → NumberOr (min 5 (context.diff / 2)) 65535 old → DcOr context old
dc-number context old ok (fails why at) = dc_broken why (dc_breaks_number context old.left why (at 65535 0))
dc-number context old ok (value v mid le t all) = elim (cases_eq v 0) [
  | inl none ↦ dc_level context.dc mid ok.dc all (subst (λ (w : List ℕ). Takes old mid w) (ap (code_word (min 5 (context.diff / 2))) none ∙ sym (dc-same context)) t)
  | inr some ↦ dc-sign context old mid v (omega arith) le t (sign-or mid all)
]

dc-or : (context : Context) (old : Unread) → IsContext context → AreDigits 2 old.left → DcOr context old
dc-or context old ok all = dc-number context old ok (number-or (min 5 (context.diff / 2)) 65535 old all)

-- ---- a run and the level after it

data StepOr (run_k level_k room : ℕ) (old : Unread) : Type 0 where
  step_end : (new : Unread) → AreDigits 2 new.left → Takes old new (code_word run_k room) → StepOr run_k level_k room old
  step_level : (run size : ℕ) (level : ℤ) (new : Unread) → run < room → 0 < size → size ≡ unsigned_abs level → IsLevel level → AreDigits 2 new.left
      → Takes old new (bits_of (run_level_elements run_k level_k room run size (sign_of level))) → StepOr run_k level_k room old
  step_broken : (why : BlockBreak) → RunLevelBreaks run_k level_k room old.left why → StepOr run_k level_k room old

step-sign : (run_k level_k room run v : ℕ) (old mid late : Unread) → run < room → v ≤ 32767 → Takes old mid (code_word run_k run) → Takes mid late (code_word level_k v) → SignOr late → StepOr run_k level_k room old
step-sign run_k level_k room run v old mid late lt le t u (none_left short) =
    step_broken Ends (step_breaks_sign run_k level_k room run v old mid late Ends lt le t u (no_sign (pos (v + 1)) (neg_ℤ (pos (v + 1))) late.left short))
step-sign run_k level_k room run v old mid late lt le t u (bit s new small w all) =
    let level : ℤ = signed (pos 0 +ℤ pos (v + 1)) (pos 0 -ℤ pos (v + 1)) s in
    elim (level-or (signed (pos 0 +ℤ pos (v + 1)) (pos 0 -ℤ pos (v + 1)) s)) [
      | inl is ↦ (let parts = level_parts (signed (pos 0 +ℤ pos (v + 1)) (pos 0 -ℤ pos (v + 1)) s) (v + 1) s (omega arith) small refl in
          step_level run (v + 1) (signed (pos 0 +ℤ pos (v + 1)) (pos 0 -ℤ pos (v + 1)) s) new lt (omega arith) (sym parts.0) is all
          (step_reads run_k level_k room run v s (signed (pos 0 +ℤ pos (v + 1)) (pos 0 -ℤ pos (v + 1)) s) old mid late new small parts.1 t u w))
      | inr bad ↦ step_broken Level (step_breaks_sign run_k level_k room run v old mid late Level lt le t u (bad_level (v + 1) s late new small w bad))
    ]

step-size : (run_k level_k room run : ℕ) (old mid : Unread) → run < room → Takes old mid (code_word run_k run) → NumberOr level_k 32767 mid → StepOr run_k level_k room old
step-size run_k level_k room run old mid lt t (fails why at) = step_broken why (step_breaks_size run_k level_k room run old mid why lt t (at 32767 0))
step-size run_k level_k room run old mid lt t (value v late le u all) = step-sign run_k level_k room run v old mid late lt le t u (sign-or late all)

step-run : (run_k level_k room : ℕ) (old : Unread) → 0 < room → NumberOr run_k 63 old → StepOr run_k level_k room old
step-run run_k level_k room old some (fails why at) = step_broken why (step_breaks_run run_k level_k room old.left why some (at 63 0))
step-run run_k level_k room old some (value run mid le t all) = elim (cases_lt room run) [
  | inl long ↦ step_broken Run (step_breaks_long run_k level_k room run old mid some long le t)
  | inr within ↦ elim (cases_eq run room) [
    | inl whole ↦ step_end mid all (subst (λ (v : ℕ). Takes old mid (code_word run_k v)) whole t)
    | inr short ↦ step-size run_k level_k room run old mid (omega arith) t (number-or level_k 32767 mid all)
  ]
]

step-or : (run_k level_k room : ℕ) (old : Unread) → 0 < room → AreDigits 2 old.left → StepOr run_k level_k room old
step-or run_k level_k room old some all = step-run run_k level_k room old some (number-or run_k 63 old all)

-- ---- the levels after the first

data AcOr (dc : ℤ) (first : ℕ) (old : Unread) : Type 0 where
  ac_whole : (xs : List ℤ) (new : Unread) → length xs ≡ 64 → level_at xs 0 ≡ dc → ((p : ℕ) → p < 64 → IsLevel (level_at xs p)) → AreDigits 2 new.left
      → Takes old new (bits_of (ac_from (level_at xs) 0 0 first 1)) → AcOr dc first old
  ac_broken : (rule : Rule) → AcBreaks dc first old.left rule → AcOr dc first old

-- the levels up to a place are read, and those after it are 0
record IsSoFar (dc : ℤ) (first : ℕ) (old : Unread) (p rb lb found : ℕ) (xs : List ℤ) (mid : Unread) : Type 0 where
  low : 0 < p
  high : p ≤ 64
  count : length xs ≡ 64
  first_level : level_at xs 0 ≡ dc
  levels : (q : ℕ) → q < 64 → IsLevel (level_at xs q)
  zeros : (q : ℕ) → p ≤ q → q < 64 → level_at xs q ≡ pos 0
  left : AreDigits 2 mid.left
  walk : Walk first old (level_at xs) p rb lb found mid

more-so-far : (dc : ℤ) (first : ℕ) (old : Unread) (p rb lb found : ℕ) (xs : List ℤ) (mid new : Unread) (run size : ℕ) (level : ℤ) → IsSoFar dc first old p rb lb found xs mid → run < 64 - p → 0 < size
    → size ≡ unsigned_abs level → IsLevel level → AreDigits 2 new.left → Takes mid new (bits_of (run_level_elements (min 2 (rb / 4)) (min 4 (lb / 4)) (64 - p) run size (sign_of level)))
    → IsSoFar dc first old (p + run + 1) run size (cond (eqb found 0) size found) (set xs (scan (p + run)) level) new
more-so-far dc first old p rb lb found xs mid new run size level i lt some is permitted all t = record {
  low = omega arith;
  high = omega arith;
  count = length-set xs _ level ∙ i.count;
  first_level = level_at-set_other xs (p + run) 0 level (omega arith) (omega arith) (omega (arith, i.low)) ∙ i.first_level;
  levels = step_levels xs (p + run) level i.count (omega arith) permitted i.levels;
  zeros = step_zeros xs (p + run) level p (omega arith) (omega arith) i.zeros;
  left = all;
  walk = step_walk first old mid new xs p rb lb run size found (cond (eqb found 0) size found) level i.count i.walk i.low (omega arith) i.zeros t some is permitted refl;
}

ac-loop : (fuel : ℕ) (dc : ℤ) (first : ℕ) (old : Unread) (p rb lb found : ℕ) (xs : List ℤ) (mid : Unread) → 64 - p < fuel → IsSoFar dc first old p rb lb found xs mid → AcOr dc first old
ac-loop zero dc first old p rb lb found xs mid lt i = absurd (omega arith)
ac-loop (suc fuel) dc first old p rb lb found xs mid lt i = elim (cases_lt p 64) [
  | inr ge ↦ ac_whole xs mid i.count i.first_level i.levels i.left (walk_end first old mid (level_at xs) p rb lb found i.walk (omega (arith, i.high)))
  | inl below ↦ elim (step-or (min 2 (rb / 4)) (min 4 (lb / 4)) (64 - p) mid (omega arith) i.left) [
    | step_end new all t ↦ ac_whole xs new i.count i.first_level i.levels all (walk_end_run first old mid new (level_at xs) p rb lb found i.walk i.low below i.zeros t)
    | step_level run size level new within some is permitted all t ↦ ac-loop fuel dc first old (p + run + 1) run size (cond (eqb found 0) size found) (set xs (scan (p + run)) level) new (omega arith)
        (more-so-far dc first old p rb lb found xs mid new run size level i within some is permitted all t)
    | step_broken why b ↦ ac_broken (rule_of why) (subst (λ (l : ℤ). AcBreaks l first old.left (rule_of why)) i.first_level
        (walk_breaks first old mid (level_at xs) p rb lb found why i.walk i.low below (all_levels xs i.levels) i.zeros b))
  ]
]

length-zeros_list : length zeros_list ≡ 64
unfolding zeros_list
length-zeros_list = refl

-- before the first of them
so-far-none : (dc : ℤ) (first : ℕ) (old : Unread) → IsLevel dc → AreDigits 2 old.left → IsSoFar dc first old 1 0 first 0 (set zeros_list (scan 0) dc) old
so-far-none dc first old is all =
    let here : level_at (set zeros_list (scan 0) dc) 0 ≡ dc = level_at-set_same zeros_list 0 dc length-zeros_list (lit< tt) in
    let zeros : (q : ℕ) → 1 ≤ q → q < 64 → level_at (set zeros_list (scan 0) dc) q ≡ pos 0 = λ q low high. level_at-set_other zeros_list 0 q dc (lit< tt) high (omega arith) ∙ level_at-zeros q high in
    record {
      low = omega arith;
      high = omega arith;
      count = length-set zeros_list _ dc ∙ length-zeros_list;
      first_level = here;
      levels = start_levels (set zeros_list (scan 0) dc) (subst IsLevel (sym here) is) (λ q low high. zeros q (omega arith) high);
      zeros = zeros;
      left = all;
      walk = walk_start first old (level_at (set zeros_list (scan 0) dc));
    }

ac-or : (dc : ℤ) (first : ℕ) (old : Unread) → IsLevel dc → AreDigits 2 old.left → AcOr dc first old
ac-or dc first old is all = ac-loop 64 dc first old 1 0 first 0 (set zeros_list (scan 0) dc) old (omega arith) (so-far-none dc first old is all)

-- ---- a block

data BlockOr (context : Context) (b : List ℕ) : Type 0 where
  whole : (block : List ℤ) (left : List ℕ) → IsBlock block → AreDigits 2 left → b ≡ block_bits context (level_at block) ++ left → BlockOr context b
  broken : (rule : Rule) → BlockBreaks context b rule → BlockOr context b

block-ac : (context : Context) (old mid : Unread) (level : ℤ) → IsContext context → IsLevel level → Takes old mid (bits_of (dc_elements context level)) → AcOr level context.first mid → BlockOr context old.left
block-ac context old mid level ok is t (ac_broken rule b) = broken rule (block_breaks_ac context old mid level rule ok is t b)
block-ac context old mid level ok is t (ac_whole xs new count first_level levels all u) =
    whole xs new.left (record { count = count; levels = all_levels xs levels }) all (block_reads context old mid new level (level_at xs) first_level t u).prefix

block-dc : (context : Context) (old : Unread) → IsContext context → DcOr context old → BlockOr context old.left
block-dc context old ok (dc_broken why b) = broken (rule_of why) (block_breaks_dc context old why b)
block-dc context old ok (dc_level level mid is all t) = block-ac context old mid level ok is t (ac-or level context.first mid is all)

block-or : (context : Context) (b : List ℕ) → IsContext context → AreDigits 2 b → BlockOr context b
block-or context b ok all = block-dc context (record { left = b; place = 0 }) ok (dc-or context (record { left = b; place = 0 }) ok all)

-- ---- the blocks of a component

data BlocksOr (n : ℕ) (context : Context) (b : List ℕ) : Type 0 where
  all_whole : (blocks : List (List ℤ)) (left : List ℕ) → length blocks ≡ n → AreBlocks blocks → b ≡ component_bits context blocks ++ left → BlocksOr n context b
  one_broken : (rule : Rule) (blocks : List (List ℤ)) (left : List ℕ) → length blocks < n → AreBlocks blocks → b ≡ component_bits context blocks ++ left
      → BlockBreaks (context_after context blocks) left rule → BlocksOr n context b

one-more : (n : ℕ) (context : Context) (b left : List ℕ) (block : List ℤ) → IsBlock block → b ≡ block_bits context (level_at block) ++ left → BlocksOr n (next_context context (level_at block)) left → BlocksOr (suc n) context b
one-more n context b left block is e (all_whole blocks rest count sound f) =
    all_whole (block ∷ blocks) rest (ap suc count) (is, sound) (e ∙ ap (λ (xs : List ℕ). block_bits context (level_at block) ++ xs) f ∙ sym (append_assoc (block_bits context (level_at block)) (component_bits (next_context context (level_at block)) blocks) rest))
one-more n context b left block is e (one_broken rule blocks rest lt sound f br) =
    one_broken rule (block ∷ blocks) rest (omega arith) (is, sound) (e ∙ ap (λ (xs : List ℕ). block_bits context (level_at block) ++ xs) f ∙ sym (append_assoc (block_bits context (level_at block)) (component_bits (next_context context (level_at block)) blocks) rest)) br

blocks-or : (n : ℕ) (context : Context) (b : List ℕ) → IsContext context → AreDigits 2 b → BlocksOr n context b
blocks-or zero context b ok all = all_whole [] b refl tt refl
blocks-or (suc n) context b ok all = elim (block-or context b ok all) [
  | broken rule br ↦ one_broken rule [] b (omega arith) tt refl br
  | whole block left is rest e ↦ one-more n context b left block is e (blocks-or n (next_context context (level_at block)) left (next_is_context context (level_at block) ok is.levels) rest)
]

-- ---- bytes

digits-both : (xs ys : List ℕ) → AreDigits 2 xs → AreDigits 2 ys → AreDigits 2 (xs ++ ys)
digits-both [] ys p q i = q i
digits-both (x ∷ xs) ys p q zero = p 0
digits-both (x ∷ xs) ys p q (suc i) = digits-both xs ys (λ j. p (suc j)) q i

digits-bin : (n v : ℕ) → AreDigits 2 (bin n v)
unfolding digits
digits-bin zero v i = lit< tt
digits-bin (suc n) v zero = mod-lt (v / 2 ^ n) (lit< tt)
digits-bin (suc n) v (suc i) = digits-bin n v i

digits-bits : (xs : List ℕ) → AreDigits 2 (bits xs)
digits-bits [] i = lit< tt
digits-bits (x ∷ xs) i = digits-both (bin 8 x) (bits xs) (digits-bin 8 x) (digits-bits xs) i

contains-not : (x y : ℕ) (xs : List ℕ) → x ≢ y → (Contains xs y → ⊥) → Contains (x ∷ xs) y → ⊥
contains-not x y xs ne never (zero, lt, e) = ne e
contains-not x y xs ne never (suc k, lt, e) = never (k, omega arith, e)

contains-more : (x y : ℕ) (xs : List ℕ) → x ≢ y → Contains xs y ⊎ (Contains xs y → ⊥) → Contains (x ∷ xs) y ⊎ (Contains (x ∷ xs) y → ⊥)
contains-more x y xs ne (inl (k, lt, e)) = inl (suc k, omega arith, e)
contains-more x y xs ne (inr never) = inr (contains-not x y xs ne never)

contains-or : (xs : List ℕ) (y : ℕ) → Contains xs y ⊎ (Contains xs y → ⊥)
contains-or [] y = inr (λ c. omega (arith, c.1))
contains-or (x ∷ xs) y = elim (cases_eq x y) [
  | inl e ↦ inl (0, omega arith, e)
  | inr ne ↦ contains-more x y xs ne (contains-or xs y)
]

component-answer : (n : ℕ) (x : List ℕ) → BlocksOr n start (bits x) → ((blocks : List (List ℤ)) × IsComponent n x blocks) ⊎ ((rule : Rule) × ComponentBreaks n x rule)
component-answer n x (one_broken rule blocks left lt sound e br) = inr (rule, in_block rule blocks left lt (record { sound = sound; prefix = e }) br)
component-answer n x (all_whole blocks left count sound e) = elim (contains-or (take (padding (length (component_bits start blocks))) left) 1) [
  | inl one ↦ inr (V31, in_alignment blocks left count (record { sound = sound; prefix = e }) one)
  | inr never ↦ inl (blocks, record { count = count; left = left; begins = record { sound = sound; prefix = e }; aligned = never })
]

start-is-context : IsContext start
start-is-context = record { dc = lit< tt; diff = omega arith; first = omega arith }

pub component-some : ComponentsHaveSome
component-some n x = component-answer n x (blocks-or n start (bits x) start-is-context (digits-bits x))
