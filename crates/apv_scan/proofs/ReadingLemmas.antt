-- Reading the first level of a block, and a run and the level after it.
use Rattle.std.proofs.Common.{◌≡◌, ℕ, zero, suc, ℤ, pos, negsuc, neg_ℤ, ◌+ℤ◌, ◌-ℤ◌, ◌+◌, ◌-◌, ◌/◌, ◌%◌, ◌^◌, ◌<◌, ◌≤◌, ◌++◌, min, length, take, List, [], ◌∷◌, unsigned_abs, eqb, cond, refl, sym, ap, ap₂, ◌∙◌, arith}
use Rattle.std.proofs.lemmas.Bool.{ne_eqb}
use Rattle.std.proofs.lemmas.Int.{ints}
use Rattle.std.proofs.lemmas.List.{append-nil, append_assoc, length-append, nil_from_length, take-take, take_at}
use Rattle.std.specs.Prelude.{Option, Some, None, IfSome, SomeIff}
use Rattle.apv_base.specs.model.Bits.{digits, bin}
use Rattle.apv_base.specs.model.CodeWord.{code_word}
use Rattle.apv_base.specs.model.Quant.{IsLevel}
use Rattle.apv_base.specs.model.Block.{Context, coded_value, sign_bit, bits_of, sign_of, dc_elements, signed, BreaksAt}
use Rattle.apv_bits.specs.Reader.{Unread, Takes, IsWindow}
use Rattle.apv_bits.proofs.ReaderLemmas.{takes_both}
use Rattle.apv_scan.specs.BlockBreak.{rule_of}
use Rattle.apv_scan.specs.Reading.{DcBreaks, run_level_elements, RunLevelBreaks}
use Rattle.apv_scan.specs.declared.block_break.BlockBreak.{BlockBreak}
use Rattle.apv_scan.specs.declared.block_break.BlockBreak.TheVariants.{Ends, Over, Run, Level}

-- one bit of a number is that number
pub one_bit : (s : ℕ) → s < 2 → bin 1 s ≡ s ∷ []
unfolding digits
one_bit s h = let e : s / 2 ^ 0 % 2 ≡ s = omega arith in ap (λ b. b ∷ []) e

-- a break of a number with other bounds on what a block has there
any_most : (k limit most v : ℕ) (left : List ℕ) (why : BlockBreak) → BreaksAt (coded_value k limit limit 0) (rule_of why) left → BreaksAt (coded_value k limit most v) (rule_of why) left
any_most k limit most v left Ends b = b
any_most k limit most v left Over b = b
any_most k limit most v left Run (u, (le, rest), above) = absurd (omega arith)
any_most k limit most v left Level b = b

-- ---- the sign of a level

-- what is left of a level where it's known by its size and sign
pub signed_parts : (dc level : ℤ) (size s : ℕ) → 0 < size → s < 2 → level ≡ signed (dc +ℤ pos size) (dc -ℤ pos size) s
    → (unsigned_abs (level -ℤ dc) ≡ size) × (sign_of (level -ℤ dc) ≡ s)
signed_parts dc level zero s more bit e = absurd (omega arith)
signed_parts dc level (suc n) zero more bit e =
    let step : level -ℤ dc ≡ pos (suc n) = omega (arith, ints) in
    (ap unsigned_abs step, ap sign_of step)
signed_parts dc level (suc n) (suc zero) more bit e =
    let step : level -ℤ dc ≡ negsuc n = omega (arith, ints) in
    (ap unsigned_abs step, ap sign_of step)
signed_parts dc level (suc n) (suc (suc s)) more bit e = absurd (omega arith)

-- the same for a step from 0
pub level_parts : (level : ℤ) (size s : ℕ) → 0 < size → s < 2 → level ≡ signed (pos 0 +ℤ pos size) (pos 0 -ℤ pos size) s
    → (unsigned_abs level ≡ size) × (sign_of level ≡ s)
level_parts level size s more bit e =
    let same : level -ℤ pos 0 ≡ level = omega (arith, ints) in
    rw same at (signed_parts (pos 0) level size s more bit e)

from_zero : (size s : ℕ) → signed (pos 0 +ℤ pos size) (pos 0 -ℤ pos size) s ≡ signed (pos size) (neg_ℤ (pos size)) s
from_zero size s =
    let up : pos 0 +ℤ pos size ≡ pos size = omega (arith, ints) in
    let down : pos 0 -ℤ pos size ≡ neg_ℤ (pos size) = omega (arith, ints) in
    ap₂ (λ a b. signed a b s) up down

-- a sign that isn't there
pub no_sign : (plus minus : ℤ) (left : List ℕ) → length left < 1 → BreaksAt (sign_bit plus minus 0) (rule_of Ends) left
no_sign plus minus left h = nil_from_length left (omega arith)

-- a sign that gives no level
pub bad_sign : (plus minus : ℤ) (s : ℕ) (old new : Unread) → s < 2 → Takes old new (bin 1 s) → (IsLevel (signed plus minus s) → ⊥)
    → BreaksAt (sign_bit plus minus 0) (rule_of Level) old.left
bad_sign plus minus s old new bit t bad = (s, new.left, (rw (one_bit s bit) at t).prefix, bad)

pub bad_level : (size s : ℕ) (old new : Unread) → s < 2 → Takes old new (bin 1 s) → (IsLevel (signed (pos 0 +ℤ pos size) (pos 0 -ℤ pos size) s) → ⊥)
    → BreaksAt (sign_bit (pos size) (neg_ℤ (pos size)) 0) (rule_of Level) old.left
bad_level size s old new bit t bad = bad_sign (pos size) (neg_ℤ (pos size)) s old new bit t (λ level. bad (rw (from_zero size s) level))

pub some_when : (found : Option ℤ) (P : Type 0) (level : ℤ) (Q : ℤ → Type 0) → SomeIff found P level → (P → Q level) → IfSome found Q
some_when None P level Q is to = tt {0}
some_when (Some other) P level Q (holds, e) to = rw e (to holds)

-- ---- the first level

pub dc_breaks_number : (context : Context) (b : List ℕ) (why : BlockBreak) → BreaksAt (coded_value (min 5 (context.diff / 2)) 65535 65535 0) (rule_of why) b → DcBreaks context b why
dc_breaks_number context b why at = (
  0,
  omega arith,
  record {
    whole = [];
    next = coded_value (min 5 (context.diff / 2)) 65535 65535 (unsigned_abs (context.dc +ℤ pos 0 -ℤ context.dc));
    more = cond (eqb (unsigned_abs (context.dc +ℤ pos 0 -ℤ context.dc)) 0) [] (sign_bit (context.dc +ℤ pos (unsigned_abs (context.dc +ℤ pos 0 -ℤ context.dc)))
        (context.dc -ℤ pos (unsigned_abs (context.dc +ℤ pos 0 -ℤ context.dc))) (sign_of (context.dc +ℤ pos 0 -ℤ context.dc)) ∷ []);
    all = refl;
    permitted = tt {0};
    left = b;
    prefix = refl;
    at = any_most (min 5 (context.diff / 2)) 65535 65535 (unsigned_abs (context.dc +ℤ pos 0 -ℤ context.dc)) b why at;
  },
)

-- the elements of a first level whose step is known
dc_elements-parts : (context : Context) (level : ℤ) (size s : ℕ) → 0 < size → unsigned_abs (level -ℤ context.dc) ≡ size → sign_of (level -ℤ context.dc) ≡ s
    → dc_elements context level ≡ coded_value (min 5 (context.diff / 2)) 65535 65535 size ∷ sign_bit (context.dc +ℤ pos size) (context.dc -ℤ pos size) s ∷ []
dc_elements-parts context level size s more is bit = rw (is, bit, ne_eqb size 0 (λ (e : size ≡ 0). omega arith)) refl

pub dc_breaks_sign : (context : Context) (old new : Unread) (size : ℕ) (why : BlockBreak) → 0 < size → size ≤ 65535 → Takes old new (code_word (min 5 (context.diff / 2)) size)
    → BreaksAt (sign_bit (context.dc +ℤ pos size) (context.dc -ℤ pos size) 0) (rule_of why) new.left → DcBreaks context old.left why
dc_breaks_sign context old new size why more small t at =
    let parts : (unsigned_abs (context.dc +ℤ pos size -ℤ context.dc) ≡ size) × (sign_of (context.dc +ℤ pos size -ℤ context.dc) ≡ 0) =
    signed_parts context.dc (context.dc +ℤ pos size) size 0 more (omega arith) refl in (
      size,
      small,
      record {
        whole = coded_value (min 5 (context.diff / 2)) 65535 65535 size ∷ [];
        next = sign_bit (context.dc +ℤ pos size) (context.dc -ℤ pos size) 0;
        more = [];
        all = dc_elements-parts context (context.dc +ℤ pos size) size 0 more parts.0 parts.1;
        permitted = (tt {0}, tt {0});
        left = new.left;
        prefix = t.prefix ∙ ap (λ c. c ++ new.left) (sym (append-nil (code_word (min 5 (context.diff / 2)) size)));
        at = at;
      },
    )

-- the bits of a first level whose step is known
pub dc_bits-parts : (context : Context) (level : ℤ) (size s : ℕ) → 0 < size → s < 2 → level ≡ signed (context.dc +ℤ pos size) (context.dc -ℤ pos size) s
    → bits_of (dc_elements context level) ≡ code_word (min 5 (context.diff / 2)) size ++ bin 1 s
dc_bits-parts context level size s more bit e =
    let parts : (unsigned_abs (level -ℤ context.dc) ≡ size) × (sign_of (level -ℤ context.dc) ≡ s) = signed_parts context.dc level size s more bit e in
    rw (one_bit s bit) (ap bits_of (dc_elements-parts context level size s more parts.0 parts.1))

pub dc_reads : (context : Context) (old mid new : Unread) (level : ℤ) (size s : ℕ) → 0 < size → s < 2 → Takes old mid (code_word (min 5 (context.diff / 2)) size) → Takes mid new (bin 1 s)
    → level ≡ signed (context.dc +ℤ pos size) (context.dc -ℤ pos size) s → Takes old new (bits_of (dc_elements context level))
dc_reads context old mid new level size s more bit t u e =
    rw (dc_bits-parts context level size s more bit e) (takes_both old mid new (code_word (min 5 (context.diff / 2)) size) (bin 1 s) t u)

-- the same of lists of bits
pub dc_prefix : (context : Context) (a b c : List ℕ) (level : ℤ) (size s : ℕ) → 0 < size → s < 2 → a ≡ code_word (min 5 (context.diff / 2)) size ++ b → b ≡ bin 1 s ++ c
    → level ≡ signed (context.dc +ℤ pos size) (context.dc -ℤ pos size) s → a ≡ bits_of (dc_elements context level) ++ c
dc_prefix context a b c level size s more bit t u e =
    rw (dc_bits-parts context level size s more bit e)
    (t ∙ ap (λ x. code_word (min 5 (context.diff / 2)) size ++ x) u ∙ sym (append_assoc (code_word (min 5 (context.diff / 2)) size) (bin 1 s) c))

-- ---- a run and the level after it

pub step_breaks_run : (run_k level_k room : ℕ) (b : List ℕ) (why : BlockBreak) → 0 < room → BreaksAt (coded_value run_k 63 63 0) (rule_of why) b → RunLevelBreaks run_k level_k room b why
step_breaks_run run_k level_k room b why some at = (
  0,
  1,
  some,
  omega arith,
  omega arith,
  record {
    whole = [];
    next = coded_value run_k 63 room 0;
    more = coded_value level_k 32767 32767 0 ∷ sign_bit (pos 1) (neg_ℤ (pos 1)) 0 ∷ [];
    all = refl;
    permitted = tt {0};
    left = b;
    prefix = refl;
    at = any_most run_k 63 room 0 b why at;
  },
)

pub step_breaks_long : (run_k level_k room run : ℕ) (old new : Unread) → 0 < room → room < run → run ≤ 63 → Takes old new (code_word run_k run) → RunLevelBreaks run_k level_k room old.left Run
step_breaks_long run_k level_k room run old new some long few t = (
  0,
  1,
  some,
  omega arith,
  omega arith,
  record {
    whole = [];
    next = coded_value run_k 63 room 0;
    more = coded_value level_k 32767 32767 0 ∷ sign_bit (pos 1) (neg_ℤ (pos 1)) 0 ∷ [];
    all = refl;
    permitted = tt {0};
    left = old.left;
    prefix = refl;
    at = (run, (few, (new.left, t.prefix)), long);
  },
)

pub step_breaks_size : (run_k level_k room run : ℕ) (old new : Unread) (why : BlockBreak) → run < room → Takes old new (code_word run_k run)
    → BreaksAt (coded_value level_k 32767 32767 0) (rule_of why) new.left → RunLevelBreaks run_k level_k room old.left why
step_breaks_size run_k level_k room run old new why within t at = (
  run,
  1,
  within,
  omega arith,
  omega arith,
  record {
    whole = coded_value run_k 63 room run ∷ [];
    next = coded_value level_k 32767 32767 0;
    more = sign_bit (pos 1) (neg_ℤ (pos 1)) 0 ∷ [];
    all = refl;
    permitted = (tt {0}, tt {0});
    left = new.left;
    prefix = t.prefix ∙ ap (λ c. c ++ new.left) (sym (append-nil (code_word run_k run)));
    at = at;
  },
)

pub step_breaks_sign : (run_k level_k room run v : ℕ) (old mid new : Unread) (why : BlockBreak) → run < room → v ≤ 32767
    → Takes old mid (code_word run_k run) → Takes mid new (code_word level_k v)
    → BreaksAt (sign_bit (pos (v + 1)) (neg_ℤ (pos (v + 1))) 0) (rule_of why) new.left → RunLevelBreaks run_k level_k room old.left why
step_breaks_sign run_k level_k room run v old mid new why within small t u at =
    let n : v ≡ v + 1 - 1 = omega arith in (
      run,
      v + 1,
      within,
      omega arith,
      omega arith,
      record {
        whole = coded_value run_k 63 room run ∷ coded_value level_k 32767 32767 v ∷ [];
        next = sign_bit (pos (v + 1)) (neg_ℤ (pos (v + 1))) 0;
        more = [];
        all = ap (λ m. coded_value run_k 63 room run ∷ coded_value level_k 32767 32767 m ∷ sign_bit (pos (v + 1)) (neg_ℤ (pos (v + 1))) 0 ∷ []) (sym n);
        permitted = (tt {0}, (tt {0}, tt {0}));
        left = new.left;
        prefix = (takes_both old mid new (code_word run_k run) (code_word level_k v) t u).prefix
            ∙ ap (λ c. code_word run_k run ++ c ++ new.left) (sym (append-nil (code_word level_k v)));
        at = at;
      },
    )

-- the bits of a run and of a level whose size and sign are known
pub run_level_bits-parts : (run_k level_k room run v s : ℕ) (level : ℤ) → s < 2 → sign_of level ≡ s
    → bits_of (run_level_elements run_k level_k room run (v + 1) (sign_of level)) ≡ code_word run_k run ++ (code_word level_k v ++ bin 1 s)
run_level_bits-parts run_k level_k room run v s level bit is =
    let n : v + 1 - 1 ≡ v = omega arith in
    rw (is, n, one_bit s bit) refl

pub step_reads : (run_k level_k room run v s : ℕ) (level : ℤ) (old mid mid' new : Unread) → s < 2 → sign_of level ≡ s
    → Takes old mid (code_word run_k run) → Takes mid mid' (code_word level_k v) → Takes mid' new (bin 1 s)
    → Takes old new (bits_of (run_level_elements run_k level_k room run (v + 1) (sign_of level)))
step_reads run_k level_k room run v s level old mid mid' new bit is t u w =
    rw (run_level_bits-parts run_k level_k room run v s level bit is)
    (takes_both old mid new (code_word run_k run) (code_word level_k v ++ bin 1 s) t (takes_both mid mid' new (code_word level_k v) (bin 1 s) u w))

-- the same of lists of bits
pub step_prefix : (run_k level_k room run v s : ℕ) (level : ℤ) (a b c d : List ℕ) → s < 2 → sign_of level ≡ s
    → a ≡ code_word run_k run ++ b → b ≡ code_word level_k v ++ c → c ≡ bin 1 s ++ d
    → a ≡ bits_of (run_level_elements run_k level_k room run (v + 1) (sign_of level)) ++ d
step_prefix run_k level_k room run v s level a b c d bit is t u w =
    rw (run_level_bits-parts run_k level_k room run v s level bit is)
    (t ∙ ap (λ x. code_word run_k run ++ x) (u ∙ ap (λ x. code_word level_k v ++ x) w)
    ∙ ap (λ x. code_word run_k run ++ x) (sym (append_assoc (code_word level_k v) (bin 1 s) d))
    ∙ sym (append_assoc (code_word run_k run) (code_word level_k v ++ bin 1 s) d))

-- ---- bits seen in a window

pub takes_seen : (n : ℕ) (old new : Unread) (window rest word : List ℕ) → IsWindow window old.left → n + length rest ≡ 57 → window ≡ word ++ rest
    → Takes old new (take n old.left) → Takes old new word
takes_seen n old new window rest word seen len split t =
    let long : length word ≡ n = omega (arith, ap length split, length-append word rest, seen.len) in
    let e : take n old.left ≡ word = sym (take-take n 57 old.left (omega arith)) ∙ ap (take n) (sym seen.prefix ∙ split) ∙ take_at word rest n long in
    rw e at t
