-- The table of steps: what its entries are filled with, and what is looked up in them.
use Rattle.std.proofs.Common.{◌≡◌, ℕ, zero, suc, ℤ, w64, ◌+◌, ◌-◌, ◌*◌, ◌/◌, ◌%◌, ◌^◌, ◌<◌, ◌≤◌, ◌++◌, length, take, drop, List, [], ◌∷◌, get_or, unsigned_abs, refl, sym, ap, ◌∙◌, ⊎_elim, arith}
use Rattle.std.proofs.Math.Nat.{div-one}
use Rattle.std.proofs.lemmas.Bool.{cases_lt}
use Rattle.std.proofs.lemmas.List.{take_at, take-take, length-take, get_or_append_left, get_or_push}
use Rattle.std.specs.Int.{bytes_high_first, to_be_bytes}
use Rattle.apv_base.specs.model.Bits.{digits, bin, be, bits}
use Rattle.apv_base.specs.model.Block.{bits_of, sign_of}
use Rattle.apv_base.proofs.BitsLemmas.{bits-be, bin-add, length-bin}
use Rattle.apv_bits.specs.Reader.{IsWindow}
use Rattle.apv_bits.proofs.WindowLemmas.{seen_prefix}
use Rattle.apv_scan.specs.Reading.{run_level_elements}
use Rattle.apv_scan.specs.Table.{context_number, BeginsWithMove, IsMove, IsEntry, AreEntries}
use Rattle.apv_scan.specs.declared.tables.step_table.Move.{Move}
use Rattle.apv_scan.specs.declared.tables.step_table.Entry.{Entry}

-- ---- filling the table

high_first_is_be : (n v : ℕ) → bytes_high_first n v ≡ be n v
unfolding digits
high_first_is_be zero v = refl
high_first_is_be (suc zero) v = ap (λ x. x % 256 ∷ []) (sym (div-one v))
high_first_is_be (suc (suc n)) v = ap (λ bs. v / 256 ^ suc n % 256 ∷ bs) (high_first_is_be (suc n) v)

-- the bits of eight bytes
pub eight_bits : (v : ℕ) (bytes : List ℕ) → bytes ≡ to_be_bytes w64 v → bits bytes ≡ bin 64 v
eight_bits v bytes spelled = ap bits (spelled ∙ high_first_is_be 8 v) ∙ bits-be 8 v

-- what was taken from a window of a number's bits
pub move_spells : (context most n run size next : ℕ) (level : ℤ) (left window rest : List ℕ) → IsWindow window left
    → window ≡ bits_of (run_level_elements (context / 5) (context % 5) 64 run size (sign_of level)) ++ rest → n + length rest ≡ 57 → n ≤ most
    → 0 < size → size ≡ unsigned_abs level → next ≡ context_number run size
    → BeginsWithMove context (take most left) (record { length = n; advance = run + 1; next = next; level = level })
move_spells context most n run size next level left window rest seen split few short more is to =
    let e : run + 1 - 1 ≡ run = omega arith in
    let word : take n (take most left) ≡ bits_of (run_level_elements (context / 5) (context % 5) 64 run size (sign_of level)) =
    take-take n most left short ∙ seen_prefix n left window rest (bits_of (run_level_elements (context / 5) (context % 5) 64 run size (sign_of level))) seen split few in
    record {
      run = omega arith;
      level = omega arith;
      few = omega (arith, length-take most left, seen.enough);
      word = rw (e, ← is) word;
      next = rw (e, ← is) to;
    }

-- the bits of a prefix at the top of a number
pub top_prefix : (p v : ℕ) → v ≡ p * 2 ^ 53 → take 11 (bin 64 v) ≡ bin 11 p
top_prefix p v is =
    let top : v / 2 ^ 53 ≡ p = omega arith in
    ap (take 11) (bin-add 11 53 v) ∙ take_at (bin 11 (v / 2 ^ 53)) (bin 53 v) 11 (length-bin 11 (v / 2 ^ 53)) ∙ ap (bin 11) top

-- an entry of one step
pub entry_one : (context : ℕ) (b : List ℕ) (step : Move) → IsMove context b step → IsEntry context b (record { first = step; all = step })
entry_one context b step is = record {
  first = is;
  all = λ few.
      record {
        first = is few;
        one = λ same. record { length = refl; advance = refl; next = refl; level = refl };
        two = λ more. absurd (omega arith);
        longer = omega arith;
        farther = omega arith;
      };
}

-- an entry of two steps
pub entry_two : (context : ℕ) (b : List ℕ) (first second all : Move) → BeginsWithMove context b first → BeginsWithMove first.next (drop first.length b) second
    → all.length ≡ first.length + second.length → all.advance ≡ first.advance + second.advance → all.next ≡ second.next → all.level ≡ second.level
    → IsEntry context b (record { first = first; all = all })
entry_two context b first second all spells after lengths advances next level =
    let run : 0 < second.advance = after.run in
    let l : all.length - first.length ≡ second.length = omega arith in
    let a : all.advance - first.advance ≡ second.advance = omega arith in
    record {
      first = λ few. spells;
      all = λ few.
          record {
            first = spells;
            one = λ same. absurd (omega arith);
            two = λ more. rw (l, a, next, level) after;
            longer = omega arith;
            farther = omega arith;
          };
    }

-- ---- the list of entries

pub entries_push : (entries : List Entry) (entry : Entry) (n : ℕ) → length entries ≡ n → IsEntry (n / 2048) (bin 11 (n % 2048)) entry
    → ((i : ℕ) (none : Entry) → i < n → IsEntry (i / 2048) (bin 11 (i % 2048)) (get_or entries i none))
    → (i : ℕ) (none : Entry) → i < n + 1 → IsEntry (i / 2048) (bin 11 (i % 2048)) (get_or (entries ++ entry ∷ []) i none)
entries_push entries entry n len is so i none h =
    ⊎_elim
    (λ (lt : i < n). rw (get_or_append_left entries (entry ∷ []) none i (rw len lt)) (so i none lt))
    (λ (le : n ≤ i).
    let e : i ≡ n = omega arith in
    rw (e, get_or_push entries entry none n len) is)
    (cases_lt i n)

-- ---- looking up

pub looked_up : (entries : List Entry) (context b : ℕ) (window : List ℕ) (none : Entry) → AreEntries entries → context < 15 → b < 2 ^ 64
    → window ≡ take (length window) (bin 64 b) → 11 ≤ length window → IsEntry context (take 11 window) (get_or entries (2048 * context + b / 2 ^ 53) none)
looked_up entries context b window none are few fits seen ahead =
    let prefix : b / 2 ^ 53 < 2048 = omega arith in
    let here : (2048 * context + b / 2 ^ 53) / 2048 ≡ context = omega arith in
    let low : (2048 * context + b / 2 ^ 53) % 2048 ≡ b / 2 ^ 53 = omega arith in
    let prefix : take 11 window ≡ bin 11 (b / 2 ^ 53) =
    ap (take 11) seen ∙ take-take 11 (length window) (bin 64 b) ahead ∙ ap (take 11) (bin-add 11 53 b) ∙ take_at (bin 11 (b / 2 ^ 53)) (bin 53 b) 11 (length-bin 11 (b / 2 ^ 53)) in
    rw prefix (rw (here, low) at (are.right (2048 * context + b / 2 ^ 53) none (omega (arith, are.count))))
