-- Reading the levels after the first, a run and a level at a time.
use Rattle.std.proofs.Common.{◌≡◌, ℕ, ℤ, pos, ◌+ℤ◌, ◌-ℤ◌, ◌+◌, ◌-◌, ◌/◌, ◌<◌, ◌≤◌, ◌≢◌, ◌++◌, min, length, List, [], ◌∷◌, unsigned_abs, eqb, cond, refl, sym, ap, ap₂, ◌∙◌, ⊎_elim, eq-eqb, arith, lit<}
use Rattle.std.proofs.Math.ListN.{set}
use Rattle.std.proofs.lemmas.Bool.{ne_eqb, cases_eq}
use Rattle.std.proofs.lemmas.Int.{ints}
use Rattle.std.proofs.lemmas.List.{append-nil, append_assoc}
use Rattle.std.proofs.lemmas.Grind.{flat_map-append}
use Rattle.apv_base.specs.declared.rules.Rule.{Rule}
use Rattle.apv_base.specs.model.CodeWord.{code_word}
use Rattle.apv_base.specs.model.Quant.{IsLevel}
use Rattle.apv_base.specs.model.Scan.{scan, level_at}
use Rattle.apv_base.specs.model.Block.{Context, IsContext, Element, coded_value, element_bits, bits_of, sign_of, dc_elements, level_elements, ac_from, elements, block_bits, ArePermitted, HasCodableLevels, BreaksAmong, BlockBreaks}
use Rattle.apv_bits.specs.Reader.{Unread, Takes}
use Rattle.apv_scan.specs.BlockBreak.{rule_of}
use Rattle.apv_scan.specs.Reading.{DcBreaks, run_level_elements, RunLevelBreaks, AcBreaks}
use Rattle.apv_scan.specs.declared.block_break.BlockBreak.{BlockBreak}
use Rattle.apv_scan.specs.Walk.{first_from, Agrees, Walk}
use Rattle.apv_scan.proofs.ElementLemmas.{from_level, from_end_run, from_end_level, from_skip, first_level, first_none, first_skip}
use Rattle.apv_scan.proofs.OnceLemmas.{signed_size, signed_step, size_of_level, size_of_step, step_sign, permitted_step}
use Rattle.apv_scan.proofs.ScanLemmas.{level_at-set_same, level_at-set_other}
use Rattle.apv_bits.proofs.ReaderLemmas.{takes_none, takes_both}

pub walk_start : (first : ℕ) (old : Unread) (y : ℕ → ℤ) → Walk first old y 1 0 first 0 old
walk_start first old y = record { whole = []; takes = takes_none old; permitted = tt {0}; all = λ z agrees. refl; found_is = λ z agrees. refl }

permitted_both : (a b : List Element) → ArePermitted a → ArePermitted b → ArePermitted (a ++ b)
permitted_both [] b p q = q
permitted_both (e ∷ a) b p q = (p.0, permitted_both a b p.1 q)

-- the elements after the place p, where r zeros follow and then a level
next_level : (z : ℕ → ℤ) (rb lb p r : ℕ) → 0 < p → p + r < 64 → ((q : ℕ) → p ≤ q → q < p + r → unsigned_abs (z q) ≡ 0) → 0 < unsigned_abs (z (p + r))
    → ac_from z (p - 1) rb lb p ≡ level_elements (p - 1) rb r lb (unsigned_abs (z (p + r))) (sign_of (z (p + r))) ++ ac_from z (p + r) r (unsigned_abs (z (p + r))) (p + r + 1)
next_level z rb lb p r hp h none more =
    let e : p + r - (p - 1) - 1 ≡ r = omega arith in
    from_skip z (p - 1) rb lb p r (omega arith) none ∙ from_level z (p - 1) rb lb (p + r) h more
    ∙ ap (λ n. level_elements (p - 1) rb n lb (unsigned_abs (z (p + r))) (sign_of (z (p + r))) ++ ac_from z (p + r) n (unsigned_abs (z (p + r))) (p + r + 1)) e

-- the size of the first level, where r zeros follow and then a level
next_found : (z : ℕ → ℤ) (first p r found found' size : ℕ) → p + r < 64 → ((q : ℕ) → p ≤ q → q < p + r → unsigned_abs (z q) ≡ 0)
    → 0 < size → unsigned_abs (z (p + r)) ≡ size → found' ≡ cond (eqb found 0) size found
    → cond (eqb found 0) (first_from z p first) found ≡ cond (eqb found' 0) (first_from z (p + r + 1) first) found'
next_found z first p r found found' size h none more is new =
    let here : first_from z p first ≡ size = first_skip z p r first (omega arith) none ∙ first_level z (p + r) first h (rw is more) ∙ is in
    ⊎_elim
    (λ (e : found ≡ 0).
    let to : found' ≡ size = rw e at new in
    rw (to, e, ne_eqb size 0 (λ (f : size ≡ 0). omega arith)) here)
    (λ (ne : found ≢ 0).
    let to : found' ≡ found = rw (ne_eqb found 0 ne) at new in
    rw (to, ne_eqb found 0 ne) refl)
    (cases_eq found 0)

walk_level : (first : ℕ) (old mid new : Unread) (y x : ℕ → ℤ) (p rb lb r size found found' : ℕ) → Walk first old y p rb lb found mid → 0 < p → p + r < 64
    → Agrees x y p → ((q : ℕ) → p ≤ q → q < p + r → x q ≡ pos 0) → 0 < size → size ≡ unsigned_abs (x (p + r)) → IsLevel (x (p + r))
    → Takes mid new (bits_of (level_elements (p - 1) rb r lb size (sign_of (x (p + r))))) → found' ≡ cond (eqb found 0) size found
    → Walk first old x (p + r + 1) r size found' new
walk_level first old mid new y x p rb lb r size found found' w hp h agrees none more is level t to = record {
  whole = w.whole ++ level_elements (p - 1) rb r lb size (sign_of (x (p + r)));
  takes = rw (flat_map-append element_bits w.whole (level_elements (p - 1) rb r lb size (sign_of (x (p + r)))))
      (takes_both old mid new (bits_of w.whole) (bits_of (level_elements (p - 1) rb r lb size (sign_of (x (p + r))))) w.takes t);
  permitted = permitted_both w.whole (level_elements (p - 1) rb r lb size (sign_of (x (p + r)))) w.permitted
      (tt {0}, (tt {0}, (rw (is, signed_size (x (p + r))) level, tt {0})));
  all = λ z same.
      let here : z (p + r) ≡ x (p + r) = same (p + r) (omega arith) (omega arith) in
      let big : 0 < unsigned_abs (z (p + r)) = rw here (omega arith) in
      let n : p + r + 1 - 1 ≡ p + r = omega arith in
      let e : ac_from z 0 0 first 1 ≡ w.whole ++ ac_from z (p - 1) rb lb p = w.all z (λ q low high. same q low (omega arith) ∙ agrees q low high) in
      let f : ac_from z (p - 1) rb lb p ≡ level_elements (p - 1) rb r lb (unsigned_abs (z (p + r))) (sign_of (z (p + r))) ++ ac_from z (p + r) r (unsigned_abs (z (p + r))) (p + r + 1) =
      next_level z rb lb p r hp h (λ q low high. ap unsigned_abs (same q (omega arith) (omega arith) ∙ none q low high)) big in
      let g : ac_from z (p - 1) rb lb p ≡ level_elements (p - 1) rb r lb size (sign_of (x (p + r))) ++ ac_from z (p + r) r size (p + r + 1) =
      f ∙ ap₂ (λ m s. level_elements (p - 1) rb r lb m s ++ ac_from z (p + r) r m (p + r + 1)) (ap unsigned_abs here ∙ sym is) (ap sign_of here) in
      rw n (e ∙ ap (λ c. w.whole ++ c) g ∙ sym (append_assoc w.whole (level_elements (p - 1) rb r lb size (sign_of (x (p + r)))) (ac_from z (p + r) r size (p + r + 1))));
  found_is = λ z same.
      w.found_is z (λ q low high. same q low (omega arith) ∙ agrees q low high)
      ∙ next_found z first p r found found' size h (λ q low high. ap unsigned_abs (same q (omega arith) (omega arith) ∙ none q low high)) more
      (ap unsigned_abs (same (p + r) (omega arith) (omega arith)) ∙ sym is) to;
}

-- ---- the end of a block

pub walk_end_run : (first : ℕ) (old mid new : Unread) (y : ℕ → ℤ) (p rb lb found : ℕ) → Walk first old y p rb lb found mid → 0 < p → p < 64
    → ((q : ℕ) → p ≤ q → q < 64 → y q ≡ pos 0) → Takes mid new (code_word (min 2 (rb / 4)) (64 - p)) → Takes old new (bits_of (ac_from y 0 0 first 1))
walk_end_run first old mid new y p rb lb found w hp h none t =
    let end : p + (64 - p) ≡ 64 = omega arith in
    let m : 63 - (p - 1) ≡ 64 - p = omega arith in
    let e : ac_from y (p - 1) rb lb p ≡ coded_value (min 2 (rb / 4)) 63 (64 - p) (64 - p) ∷ [] =
    from_skip y (p - 1) rb lb p (64 - p) (omega arith) (λ q low high. ap unsigned_abs (none q low (omega arith))) ∙ ap (ac_from y (p - 1) rb lb) end
    ∙ from_end_run y (p - 1) rb lb (omega arith) ∙ ap (λ n. coded_value (min 2 (rb / 4)) 63 n n ∷ []) m in
    let all : bits_of (ac_from y 0 0 first 1) ≡ bits_of w.whole ++ code_word (min 2 (rb / 4)) (64 - p) =
    ap bits_of (w.all y (λ q low high. refl) ∙ ap (λ c. w.whole ++ c) e) ∙ flat_map-append element_bits w.whole (coded_value (min 2 (rb / 4)) 63 (64 - p) (64 - p) ∷ [])
    ∙ ap (λ c. bits_of w.whole ++ c) (append-nil (code_word (min 2 (rb / 4)) (64 - p))) in
    rw all (takes_both old mid new (bits_of w.whole) (code_word (min 2 (rb / 4)) (64 - p)) w.takes t)

pub walk_end : (first : ℕ) (old mid : Unread) (y : ℕ → ℤ) (p rb lb found : ℕ) → Walk first old y p rb lb found mid → p ≡ 64 → Takes old mid (bits_of (ac_from y 0 0 first 1))
walk_end first old mid y p rb lb found w end =
    let e : ac_from y (p - 1) rb lb p ≡ [] = ap (λ n. ac_from y (n - 1) rb lb n) end ∙ from_end_level y 63 rb lb (omega arith) in
    let all : bits_of (ac_from y 0 0 first 1) ≡ bits_of w.whole =
    ap bits_of (w.all y (λ q low high. refl) ∙ ap (λ c. w.whole ++ c) e ∙ append-nil w.whole) in
    rw all w.takes

pub walk_found : (first : ℕ) (old mid : Unread) (y : ℕ → ℤ) (p rb lb found : ℕ) → Walk first old y p rb lb found mid → p ≤ 64
    → ((q : ℕ) → p ≤ q → q < 64 → y q ≡ pos 0) → first_from y 1 first ≡ cond (eqb found 0) first found
walk_found first old mid y p rb lb found w h none =
    let end : p + (64 - p) ≡ 64 = omega arith in
    let e : first_from y p first ≡ first =
    first_skip y p (64 - p) first (omega arith) (λ q low high. ap unsigned_abs (none q low (omega arith))) ∙ ap (λ n. first_from y n first) end ∙ first_none y first in
    w.found_is y (λ q low high. refl) ∙ ap (λ n. cond (eqb found 0) n found) e

-- ---- breaks

-- a break after elements that were taken
pub breaks_after : (all prefix es rest : List Element) (old mid : Unread) (rule : Rule) → all ≡ prefix ++ (es ++ rest) → ArePermitted prefix → Takes old mid (bits_of prefix)
    → BreaksAmong es mid.left rule → BreaksAmong all old.left rule
breaks_after all prefix es rest old mid rule e permitted t k = record {
  whole = prefix ++ k.whole;
  next = k.next;
  more = k.more ++ rest;
  all = e ∙ ap (λ c. prefix ++ (c ++ rest)) k.all ∙ ap (λ c. prefix ++ c) (append_assoc k.whole (k.next ∷ k.more) rest) ∙ sym (append_assoc prefix k.whole (k.next ∷ (k.more ++ rest)));
  permitted = permitted_both prefix k.whole permitted k.permitted;
  left = k.left;
  prefix = t.prefix ∙ ap (λ c. bits_of prefix ++ c) k.prefix ∙ sym (append_assoc (bits_of prefix) (bits_of k.whole) k.left)
      ∙ ap (λ c. c ++ k.left) (sym (flat_map-append element_bits prefix k.whole));
  at = k.at;
}

-- the levels with another one at a place
with_level : (ℕ → ℤ) → ℕ → ℤ → ℕ → ℤ
with_level y a l q = cond (eqb q a) l (y q)

with_same : (y : ℕ → ℤ) (a : ℕ) (l : ℤ) → with_level y a l a ≡ l
unfolding with_level
with_same y a l = rw (eq-eqb a a refl) refl

with_other : (y : ℕ → ℤ) (a : ℕ) (l : ℤ) (q : ℕ) → q ≢ a → with_level y a l q ≡ y q
unfolding with_level
with_other y a l q ne = rw (ne_eqb q a ne) refl

with_wide : (y : ℕ → ℤ) (a n : ℕ) → n ≤ 32768 → ((q : ℕ) → IsLevel (y q)) → (q : ℕ) → unsigned_abs (with_level y a (pos n) q) ≤ 32768
with_wide y a n small levels q =
    ⊎_elim (λ (e : q ≡ a). rw (e, with_same y a (pos n)) small) (λ (ne : q ≢ a). rw (with_other y a (pos n) q ne) (size_of_level (y q) (levels q))) (cases_eq q a)

pub walk_breaks : (first : ℕ) (old mid : Unread) (y : ℕ → ℤ) (p rb lb found : ℕ) (why : BlockBreak) → Walk first old y p rb lb found mid → 0 < p → p < 64
    → ((q : ℕ) → IsLevel (y q)) → ((q : ℕ) → p ≤ q → q < 64 → y q ≡ pos 0)
    → RunLevelBreaks (min 2 (rb / 4)) (min 4 (lb / 4)) (64 - p) mid.left why → AcBreaks (y 0) first old.left (rule_of why)
walk_breaks first old mid y p rb lb found why w low high levels zeros (run, size, within, more, small, k) =
    let x : ℕ → ℤ = with_level y (p + run) (pos size) in
    let here : with_level y (p + run) (pos size) (p + run) ≡ pos size = with_same y (p + run) (pos size) in
    let m : 63 - (p - 1) ≡ 64 - p = omega arith in
    let all : ac_from (with_level y (p + run) (pos size)) 0 0 first 1
    ≡ w.whole ++ (run_level_elements (min 2 (rb / 4)) (min 4 (lb / 4)) (64 - p) run size 0 ++ ac_from (with_level y (p + run) (pos size)) (p + run) run size (p + run + 1)) =
    w.all (with_level y (p + run) (pos size)) (λ q l h. with_other y (p + run) (pos size) q (omega arith))
    ∙ ap (λ c. w.whole ++ c)
    (next_level (with_level y (p + run) (pos size)) rb lb p run low (omega arith)
    (λ q l h. ap unsigned_abs (with_other y (p + run) (pos size) q (omega arith) ∙ zeros q l (omega arith))) (rw here more)
    ∙ ap₂ (λ n l. run_level_elements (min 2 (rb / 4)) (min 4 (lb / 4)) n run (unsigned_abs l) (sign_of l) ++ ac_from (with_level y (p + run) (pos size)) (p + run) run (unsigned_abs l) (p + run + 1)) m here) in
    record {
      block = with_level y (p + run) (pos size);
      first_level = with_other y (p + run) (pos size) 0 (omega arith);
      wide = λ q l. with_wide y (p + run) size small levels q;
      breaks = breaks_after (ac_from (with_level y (p + run) (pos size)) 0 0 first 1) w.whole (run_level_elements (min 2 (rb / 4)) (min 4 (lb / 4)) (64 - p) run size 0)
          (ac_from (with_level y (p + run) (pos size)) (p + run) run size (p + run + 1)) old mid (rule_of why) all w.permitted w.takes k;
    }

-- ---- the list of levels

pub step_walk : (first : ℕ) (old mid new : Unread) (xs : List ℤ) (p rb lb r size found found' : ℕ) (level : ℤ) → length xs ≡ 64
    → Walk first old (level_at xs) p rb lb found mid → 0 < p → p + r < 64 → ((q : ℕ) → p ≤ q → q < 64 → level_at xs q ≡ pos 0)
    → Takes mid new (bits_of (run_level_elements (min 2 (rb / 4)) (min 4 (lb / 4)) (64 - p) r size (sign_of level)))
    → 0 < size → size ≡ unsigned_abs level → IsLevel level → found' ≡ cond (eqb found 0) size found
    → Walk first old (level_at (set xs (scan (p + r)) level)) (p + r + 1) r size found' new
step_walk first old mid new xs p rb lb r size found found' level len w hp h zeros t more is ok to =
    let here : level_at (set xs (scan (p + r)) level) (p + r) ≡ level = level_at-set_same xs (p + r) level len h in
    walk_level first old mid new (level_at xs) (level_at (set xs (scan (p + r)) level)) p rb lb r size found found' w hp h
    (λ q low high. level_at-set_other xs (p + r) q level h (omega arith) (omega arith))
    (λ q low high. level_at-set_other xs (p + r) q level h (omega arith) (omega arith) ∙ zeros q low (omega arith))
    more (rw here is) (rw here ok) (rw here t) to

pub step_levels : (xs : List ℤ) (a : ℕ) (level : ℤ) → length xs ≡ 64 → a < 64 → IsLevel level → ((q : ℕ) → q < 64 → IsLevel (level_at xs q))
    → (q : ℕ) → q < 64 → IsLevel (level_at (set xs (scan a) level) q)
step_levels xs a level len h is levels q u =
    ⊎_elim
    (λ (e : q ≡ a). rw (e, level_at-set_same xs a level len h) is)
    (λ (ne : q ≢ a). rw (level_at-set_other xs a q level h u ne) (levels q u))
    (cases_eq q a)

-- the first level is permitted, and the others are 0
pub start_levels : (xs : List ℤ) → IsLevel (level_at xs 0) → ((q : ℕ) → 0 < q → q < 64 → level_at xs q ≡ pos 0) → (q : ℕ) → q < 64 → IsLevel (level_at xs q)
start_levels xs is zeros q u =
    ⊎_elim
    (λ (e : q ≡ 0). rw e is)
    (λ (ne : q ≢ 0). rw (zeros q (omega arith) u) (lit< tt))
    (cases_eq q 0)

pub step_zeros : (xs : List ℤ) (a : ℕ) (level : ℤ) (p : ℕ) → p ≤ a → a < 64 → ((q : ℕ) → p ≤ q → q < 64 → level_at xs q ≡ pos 0)
    → (q : ℕ) → a + 1 ≤ q → q < 64 → level_at (set xs (scan a) level) q ≡ pos 0
step_zeros xs a level p low h zeros q l u = level_at-set_other xs a q level h u (omega arith) ∙ zeros q (omega arith) u

pub found_small : (found size found' n : ℕ) → found' ≡ cond (eqb found 0) size found → size ≤ n → found ≤ n → found' ≤ n
found_small found size found' n to small few =
    ⊎_elim
    (λ (e : found ≡ 0). rw (to, e) small)
    (λ (ne : found ≢ 0). rw (to, ne_eqb found 0 ne) few)
    (cases_eq found 0)

-- ---- a block

permitted_dc : (context : Context) (level : ℤ) → IsLevel level → ArePermitted (dc_elements context level)
permitted_dc context level is =
    rw (append-nil (step_sign context.dc (unsigned_abs (level -ℤ context.dc)) (sign_of (level -ℤ context.dc)))) at
    (permitted_step context.dc (min 5 (context.diff / 2)) (unsigned_abs (level -ℤ context.dc)) (sign_of (level -ℤ context.dc)) []
    (rw (signed_step context.dc level (level -ℤ context.dc) refl) is) (tt {0}))

pub block_reads : (context : Context) (old mid new : Unread) (dc : ℤ) (z : ℕ → ℤ) → z 0 ≡ dc → Takes old mid (bits_of (dc_elements context dc))
    → Takes mid new (bits_of (ac_from z 0 0 context.first 1)) → Takes old new (block_bits context z)
block_reads context old mid new dc z e t u =
    rw (flat_map-append element_bits (dc_elements context (z 0)) (ac_from z 0 0 context.first 1), e)
    (takes_both old mid new (bits_of (dc_elements context dc)) (bits_of (ac_from z 0 0 context.first 1)) t u)

block_breaks : (context : Context) (b : List ℕ) (rule : Rule) (z : ℕ → ℤ) → HasCodableLevels context z → BreaksAmong (elements context z) b rule → BlockBreaks context b rule
block_breaks context b rule z wide k = record { block = z; wide = wide; breaks = k }

pub block_breaks_dc : (context : Context) (old : Unread) (why : BlockBreak) → DcBreaks context old.left why → BlockBreaks context old.left (rule_of why)
block_breaks_dc context old why (size, small, k) =
    let dc : ℤ = context.dc +ℤ pos size in
    let here : with_level (λ q. pos 0) 0 (context.dc +ℤ pos size) 0 ≡ context.dc +ℤ pos size = with_same (λ q. pos 0) 0 (context.dc +ℤ pos size) in
    let away : context.dc +ℤ pos size -ℤ context.dc ≡ pos size = omega (arith, ints) in
    let z : ℕ → ℤ = with_level (λ q. pos 0) 0 (context.dc +ℤ pos size) in
    block_breaks context old.left (rule_of why) (with_level (λ q. pos 0) 0 (context.dc +ℤ pos size))
    (record { dc = rw (here, away) small; ac = λ q low. rw (with_other (λ q. pos 0) 0 (context.dc +ℤ pos size) q (omega arith)) (omega arith) })
    (breaks_after (elements context (with_level (λ q. pos 0) 0 (context.dc +ℤ pos size))) [] (dc_elements context (context.dc +ℤ pos size))
    (ac_from (with_level (λ q. pos 0) 0 (context.dc +ℤ pos size)) 0 0 context.first 1) old old (rule_of why)
    (ap (λ l. dc_elements context l ++ ac_from (with_level (λ q. pos 0) 0 (context.dc +ℤ pos size)) 0 0 context.first 1) here) (tt {0}) (takes_none old) k)

pub block_breaks_ac : (context : Context) (old mid : Unread) (dc : ℤ) (rule : Rule) → IsContext context → IsLevel dc → Takes old mid (bits_of (dc_elements context dc))
    → AcBreaks dc context.first mid.left rule → BlockBreaks context old.left rule
block_breaks_ac context old mid dc rule ok level t k =
    block_breaks context old.left rule k.block
    (record { dc = rw k.first_level (size_of_step dc context.dc level ok.dc); ac = k.wide })
    (breaks_after (elements context k.block) (dc_elements context dc) (ac_from k.block 0 0 context.first 1) [] old mid rule
    (ap (λ l. dc_elements context l ++ ac_from k.block 0 0 context.first 1) k.first_level ∙ ap (λ c. dc_elements context dc ++ c) (sym (append-nil (ac_from k.block 0 0 context.first 1))))
    (permitted_dc context dc level) t k.breaks)
