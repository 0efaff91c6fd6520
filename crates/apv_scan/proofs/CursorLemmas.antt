-- Reading the levels after a block's first by a table of steps.
use Rattle.std.proofs.Common.{◌≡◌, ℕ, ℤ, pos, ◌+◌, ◌-◌, ◌/◌, ◌%◌, ◌<◌, ◌≤◌, ◌≢◌, ◌++◌, min, length, take, drop, List, unsigned_abs, eqb, cond, refl, sym, ap, ◌∙◌, ⊎_elim, arith}
use Rattle.std.proofs.Math.ListN.{set}
use Rattle.std.proofs.lemmas.Bool.{ne_eqb, cases_lt}
use Rattle.std.proofs.lemmas.List.{length-set, set-set, length-take-le, length-take, length-drop, take-take, drop-take, drop_at, take-append-drop, drop-drop}
use Rattle.apv_base.specs.model.CodeWord.{code_word}
use Rattle.apv_base.specs.model.Quant.{IsLevel}
use Rattle.apv_base.specs.model.Scan.{scan, level_at}
use Rattle.apv_base.specs.model.Block.{bits_of, sign_of}
use Rattle.apv_bits.specs.Reader.{Unread, Takes, IsWindow}
use Rattle.apv_scan.specs.Reading.{run_level_elements, RunLevelBreaks, AcBreaks}
use Rattle.apv_scan.specs.BlockBreak.{rule_of}
use Rattle.apv_scan.specs.Table.{context_number, BeginsWithMove, added, IsSame, BeginsWithMoves}
use Rattle.apv_scan.specs.Walk.{Progress, Walked, last_size, TakesRunLevel, TakesMore, TakesSome, Begins, EndsBlock, BreaksNext, BreaksLater, ReadsAc, Finishes, IsSeen, first_from}
use Rattle.apv_scan.specs.declared.block_break.BlockBreak.{BlockBreak}
use Rattle.apv_scan.specs.declared.tables.step_table.Move.{Move}
use Rattle.apv_scan.specs.declared.tables.step_table.Entry.{Entry}
use Rattle.apv_scan.proofs.ScanLemmas.{level_at-set_same, level_at-set_other, all_levels}
use Rattle.apv_scan.proofs.WalkLemmas.{walk_start, start_levels, step_walk, step_levels, step_zeros, walk_end_run, walk_end, walk_found, walk_breaks}

-- ---- bits seen in a window

seen_few : (window left : List ℕ) → IsSeen window left → length window ≤ length left
seen_few window left seen = omega (arith, ap length seen, length-take (length window) left)

-- two windows of the same bits begin alike
pub seen_same : (n : ℕ) (window other left : List ℕ) → IsSeen window left → IsSeen other left → n ≤ length window → n ≤ length other → take n window ≡ take n other
seen_same n window other left seen also few less =
    ap (take n) seen ∙ take-take n (length window) left few ∙ sym (ap (take n) also ∙ take-take n (length other) left less)

-- the first bits of a window, and those after them
pub seen_prefix : (n : ℕ) (window left : List ℕ) → IsSeen window left → n ≤ length window → IsSeen (take n window) left
seen_prefix n window left seen few =
    rw (length-take-le n window few) (ap (take n) seen ∙ take-take n (length window) left few)

seen_drop : (n : ℕ) (window left : List ℕ) → IsSeen window left → n ≤ length window → IsSeen (drop n window) (drop n left)
seen_drop n window left seen few =
    let k : n + (length window - n) ≡ length window = omega arith in
    rw (length-drop n window) (ap (drop n) seen ∙ ap (λ m. drop n (take m left)) (sym k) ∙ drop-take n (length window - n) left)

pub seen_word : (n : ℕ) (window left : List ℕ) → IsSeen window left → n ≤ length window → take n left ≡ take n window
seen_word n window left seen few = sym (ap (take n) seen ∙ take-take n (length window) left few)

pub seen_window : (window left : List ℕ) → IsWindow window left → IsSeen window left
seen_window window left w = w.prefix ∙ ap (λ n. take n left) (sym w.len)

-- what is left after bits that were taken
rest_is : (n : ℕ) (old new : Unread) → n ≤ length old.left → Takes old new (take n old.left) → new.left ≡ drop n old.left
rest_is n old new few t = sym (ap (drop n) t.prefix ∙ drop_at (take n old.left) new.left n (length-take-le n old.left few))

pub seen_skip : (n : ℕ) (window window' : List ℕ) (old new : Unread) → IsSeen window old.left → n ≤ length window → window' ≡ drop n window
    → Takes old new (take n old.left) → IsSeen window' new.left
seen_skip n window window' old new seen few passed t =
    rw (passed, rest_is n old new (omega (arith, seen_few window old.left seen)) t) (seen_drop n window old.left seen few)

passed : ℕ → Unread → Unread
passed n old = record { left = drop n old.left; place = old.place + n }

takes_prefix : (n : ℕ) (old : Unread) → n ≤ length old.left → Takes old (passed n old) (take n old.left)
unfolding passed
takes_prefix n old few = record { prefix = sym (take-append-drop n old.left); place = ap (λ m. old.place + m) (sym (length-take-le n old.left few)) }

takes_after : (n m : ℕ) (old new : Unread) → n + m ≤ length old.left → Takes old new (take (n + m) old.left) → Takes (passed n old) new (take m (drop n old.left))
unfolding passed
takes_after n m old new few t = record {
  prefix = sym (take-append-drop m (drop n old.left))
      ∙ ap (λ x. take m (drop n old.left) ++ x) (drop-drop m n old.left ∙ sym (rest_is (n + m) old new few t));
  place = omega (arith, t.place, length-take-le (n + m) old.left few, length-take-le m (drop n old.left) (omega (arith, length-drop n old.left)));
}

-- ---- a step more

context_parts : (context run size : ℕ) → context ≡ context_number run size → (context / 5 ≡ min 2 (run / 4)) × (context % 5 ≡ min 4 (size / 4))
context_parts context run size e = (omega arith, omega arith)

pub step_more : (old : Progress) (r size : ℕ) (level : ℤ) (context : ℕ) (new : Unread) → length old.levels ≡ 64 → 0 < old.place → old.place + r < 64 → 0 < size → size ≡ unsigned_abs level
    → IsLevel level → context ≡ context_number r size → Takes old.unread new (bits_of (run_level_elements (old.context / 5) (old.context % 5) (64 - old.place) r size (sign_of level)))
    → TakesRunLevel old (record { levels = set old.levels (scan (old.place + r)) level; place = old.place + r + 1; context = context; unread = new })
step_more old r size level context new count low within more is ok to t =
    let n : old.place + r + 1 - 1 ≡ old.place + r = omega arith in
    let here : level_at (set old.levels (scan (old.place + r)) level) (old.place + r) ≡ level = level_at-set_same old.levels (old.place + r) level count within in
    let last : unsigned_abs (level_at (set old.levels (scan (old.place + r)) level) (old.place + r + 1 - 1)) ≡ size = rw n (ap unsigned_abs here ∙ sym is) in
    record {
      later = omega arith;
      dc = level_at-set_other old.levels (old.place + r) 0 level within (omega arith) (omega arith);
      some = rw last more;
      walked = λ first start found w.
          let parts = context_parts old.context w.run w.size w.context in
          record {
            run = r;
            size = size;
            walk = step_walk first start old.unread new old.levels old.place w.run w.size r size found
                (cond (eqb found 0) (unsigned_abs (level_at (set old.levels (scan (old.place + r)) level) (old.place + r + 1 - 1))) found) level w.count w.walk low within w.zeros
                (rw (parts.0, parts.1) at t) more is ok (ap (λ m. cond (eqb found 0) m found) last);
            context = to;
            count = length-set old.levels (scan (old.place + r)) level ∙ w.count;
            permitted = step_levels old.levels (old.place + r) level w.count within ok w.permitted;
            zeros = step_zeros old.levels (old.place + r) level old.place (omega arith) within w.zeros;
          };
    }

-- the step of a move
pub move_more : (old : Progress) (b : List ℕ) (step : Move) (new : Unread) → length old.levels ≡ 64 → 0 < old.place → old.place + step.advance ≤ 64 → IsLevel step.level
    → IsSeen b old.unread.left → BeginsWithMove old.context b step → Takes old.unread new (take step.length old.unread.left)
    → TakesRunLevel old (record { levels = set old.levels (scan (old.place + step.advance - 1)) step.level; place = old.place + step.advance; context = step.next; unread = new })
move_more old b step new count low within ok seen spells t =
    let run : 0 < step.advance = spells.run in
    let p : old.place + step.advance - 1 ≡ old.place + (step.advance - 1) = omega arith in
    let q : old.place + step.advance ≡ old.place + (step.advance - 1) + 1 = omega arith in
    let word : take step.length old.unread.left
    ≡ bits_of (run_level_elements (old.context / 5) (old.context % 5) (64 - old.place) (step.advance - 1) (unsigned_abs step.level) (sign_of step.level)) =
    seen_word step.length b old.unread.left seen spells.few ∙ spells.word in
    rw (p, q)
    (step_more old (step.advance - 1) (unsigned_abs step.level) step.level step.next new count low (omega arith) spells.level refl ok spells.next (rw word at t))

-- the size of its level
last_moved : (old : Progress) (step : Move) (new : Unread) → length old.levels ≡ 64 → 0 < step.advance → old.place + step.advance ≤ 64
    → last_size (record { levels = set old.levels (scan (old.place + step.advance - 1)) step.level; place = old.place + step.advance; context = step.next; unread = new }) ≡ unsigned_abs step.level
last_moved old step new count run within = ap unsigned_abs (level_at-set_same old.levels (old.place + step.advance - 1) step.level count (omega arith))

-- ---- more steps

pub goes_none : (now : Progress) → TakesMore now now
goes_none now = record { later = omega arith; dc = refl; walked = λ first start found some w. w }

pub goes_step : (old mid new : Progress) → TakesMore old mid → TakesRunLevel mid new → TakesMore old new
goes_step old mid new g s = record {
  later = omega (arith, g.later, s.later);
  dc = s.dc ∙ g.dc;
  walked = λ first start found some w.
      let ne : found ≢ 0 = λ (e : found ≡ 0). omega arith in
      rw (ne_eqb found 0 ne) at (s.walked first start found (g.walked first start found some w));
}

pub goes_same : (old mid new : Progress) → TakesMore old mid → new ≡ mid → TakesMore old new
goes_same old mid new g e = rw e g

goes_on_one : (old new : Progress) → TakesRunLevel old new → TakesSome old new
goes_on_one old new s = record { later = s.later; goes = goes_step old old new (goes_none old) s }

goes_on_two : (old mid new : Progress) → TakesRunLevel old mid → TakesRunLevel mid new → TakesSome old new
goes_on_two old mid new s t = record {
  later = omega (arith, s.later, t.later);
  goes = goes_step old mid new (goes_step old old mid (goes_none old) s) t;
}

pub begins_one : (old new : Progress) (size : ℕ) → TakesRunLevel old new → last_size new ≡ size → Begins old new size
begins_one old new size s e = record {
  dc = s.dc;
  some = rw e at s.some;
  walked = λ first start w. rw e at (s.walked first start 0 w);
}

begins_two : (old mid new : Progress) (size : ℕ) → TakesRunLevel old mid → last_size mid ≡ size → TakesRunLevel mid new → Begins old new size
begins_two old mid new size s e t =
    let some : 0 < size = rw e at s.some in
    let ne : size ≢ 0 = λ (zero : size ≡ 0). omega arith in
    record {
      dc = t.dc ∙ s.dc;
      some = some;
      walked = λ first start w. rw (ne_eqb size 0 ne) at (t.walked first start size (rw e at (s.walked first start 0 w)));
    }

-- what an entry makes of the progress: its first level is set, and then its last
abbrev pub moved : Progress → Entry → Unread → Progress
moved old entry new = record {
  levels = set (set old.levels (scan (old.place + entry.first.advance - 1)) entry.first.level) (scan (old.place + entry.all.advance - 1)) entry.all.level;
  place = old.place + entry.all.advance;
  context = entry.all.next;
  unread = new;
}

-- an entry of one step
entry_one : (old : Progress) (b : List ℕ) (entry : Entry) (new : Unread) → length old.levels ≡ 64 → 0 < old.place → old.place + entry.all.advance ≤ 64 → IsLevel entry.first.level
    → IsSeen b old.unread.left → BeginsWithMove old.context b entry.first → IsSame entry.all entry.first → Takes old.unread new (take entry.all.length old.unread.left)
    → TakesSome old (moved old entry new) × Begins old (moved old entry new) (unsigned_abs entry.first.level)
entry_one old b entry new count low within ok seen spells same t =
    let far : old.place + entry.first.advance ≤ 64 = rw same.advance at within in
    let one = move_more old b entry.first new count low far ok seen spells (rw same.length at t) in
    rw (same.advance, same.next, same.level, set-set) (
      goes_on_one old _ one,
      begins_one old _ (unsigned_abs entry.first.level) one (last_moved old entry.first new count spells.run far),
    )

-- an entry of two steps
entry_two : (old : Progress) (b : List ℕ) (entry : Entry) (new : Unread) → length old.levels ≡ 64 → 0 < old.place → old.place + entry.all.advance ≤ 64 → IsLevel entry.first.level
    → IsLevel entry.all.level → IsSeen b old.unread.left → BeginsWithMoves old.context b entry → entry.first.advance < entry.all.advance
    → Takes old.unread new (take entry.all.length old.unread.left) → TakesSome old (moved old entry new) × Begins old (moved old entry new) (unsigned_abs entry.first.level)
unfolding passed
entry_two old b entry new count low within ok okay seen spells more t =
    let first = spells.first in
    let second = spells.two more in
    let lengths : entry.first.length + (entry.all.length - entry.first.length) ≡ entry.all.length = omega (arith, spells.longer) in
    let far : old.place + entry.first.advance + (entry.all.advance - entry.first.advance) ≡ old.place + entry.all.advance = omega arith in
    let long : entry.first.length + (entry.all.length - entry.first.length) ≤ length old.unread.left =
    omega (arith, seen_few b old.unread.left seen, second.few, length-drop entry.first.length b, first.few) in
    let mid : Progress = record {
      levels = set old.levels (scan (old.place + entry.first.advance - 1)) entry.first.level;
      place = old.place + entry.first.advance;
      context = entry.first.next;
      unread = record { left = drop entry.first.length old.unread.left; place = old.unread.place + entry.first.length };
    } in
    let one : TakesRunLevel old mid = move_more old b entry.first mid.unread count low (omega arith) ok seen first (takes_prefix entry.first.length old.unread (omega arith)) in
    let two = move_more mid (drop entry.first.length b) (added entry.first entry.all) new (length-set old.levels _ entry.first.level ∙ count) (omega arith) (omega arith) okay
    (seen_drop entry.first.length b old.unread.left seen first.few) second
    (takes_after entry.first.length (entry.all.length - entry.first.length) old.unread new long (rw (← lengths) at t)) in
    let both = rw far at two in (
      goes_on_two old mid (moved old entry new) one both,
      begins_two old mid (moved old entry new) (unsigned_abs entry.first.level) one (last_moved old entry.first mid.unread count first.run (omega arith)) both,
    )

pub spells_few : (context : ℕ) (b : List ℕ) (entry : Entry) → BeginsWithMoves context b entry → entry.all.length ≤ length b
spells_few context b entry spells =
    ⊎_elim
    (λ (more : entry.first.advance < entry.all.advance). omega (arith, (spells.two more).few, length-drop entry.first.length b, spells.first.few))
    (λ (one : entry.all.advance ≤ entry.first.advance). omega (arith, (spells.one one).length, spells.first.few))
    (cases_lt entry.first.advance entry.all.advance)

-- the steps of an entry
pub entry_more : (old : Progress) (b : List ℕ) (entry : Entry) (new : Unread) → length old.levels ≡ 64 → 0 < old.place → old.place + entry.all.advance ≤ 64 → IsLevel entry.first.level
    → IsLevel entry.all.level → IsSeen b old.unread.left → BeginsWithMoves old.context b entry → Takes old.unread new (take entry.all.length old.unread.left)
    → TakesSome old (moved old entry new) × Begins old (moved old entry new) (unsigned_abs entry.first.level)
entry_more old b entry new count low within ok okay seen spells t =
    ⊎_elim
    (λ (more : entry.first.advance < entry.all.advance). entry_two old b entry new count low within ok okay seen spells more t)
    (λ (one : entry.all.advance ≤ entry.first.advance). entry_one old b entry new count low within ok seen spells.first (spells.one one) t)
    (cases_lt entry.first.advance entry.all.advance)

-- ---- the end of a block, and breaks

pub ends_step : (now : Progress) (new : Unread) → 0 < now.place → now.place < 64 → Takes now.unread new (code_word (now.context / 5) (64 - now.place)) → EndsBlock now new
ends_step now new low high t = λ first start found w.
    let parts = context_parts now.context w.run w.size w.context in
    walk_end_run first start now.unread new (level_at now.levels) now.place w.run w.size found w.walk low high w.zeros (rw parts.0 at t)

pub ends_full : (now : Progress) → now.place ≡ 64 → EndsBlock now now.unread
ends_full now full = λ first start found w. walk_end first start now.unread (level_at now.levels) now.place w.run w.size found w.walk full

pub stops_step : (now : Progress) (why : BlockBreak) → 0 < now.place → now.place < 64 → RunLevelBreaks (now.context / 5) (now.context % 5) (64 - now.place) now.unread.left why → BreaksNext now why
stops_step now why low high k = λ first start found w.
    let parts = context_parts now.context w.run w.size w.context in
    walk_breaks first start now.unread (level_at now.levels) now.place w.run w.size found why w.walk low high (all_levels now.levels w.permitted) w.zeros (rw (parts.0, parts.1) at k)

pub goes_both : (old mid new : Progress) → TakesMore old mid → TakesMore mid new → TakesMore old new
goes_both old mid new f g = record {
  later = omega (arith, f.later, g.later);
  dc = g.dc ∙ f.dc;
  walked = λ first start found some w. g.walked first start found some (f.walked first start found some w);
}

pub stops_later : (old now : Progress) (why : BlockBreak) → TakesMore old now → BreaksNext now why → BreaksLater old why
stops_later old now why g s = λ first start found some w. rw g.dc at (s first start found (g.walked first start found some w))

-- what was found is the size of the first level
read_size : (first : ℕ) (start : Unread) (found : ℕ) (now : Progress) → now.place ≤ 64 → Walked first start found now
    → first_from (level_at now.levels) 1 first ≡ cond (eqb found 0) first found
read_size first start found now within w = walk_found first start now.unread (level_at now.levels) now.place w.run w.size found w.walk within w.zeros

pub finishes : (old now : Progress) (new : Unread) → TakesMore old now → now.place ≤ 64 → EndsBlock now new → Finishes old now.levels new
finishes old now new g within ends = record {
  dc = g.dc;
  read = λ first start found some w.
      let to = g.walked first start found some w in
      let ne : found ≢ 0 = λ (e : found ≡ 0). omega arith in
      record { takes = ends first start found to; size = sym (rw (ne_eqb found 0 ne) at (read_size first start found now within to)) };
}

-- ---- the levels after a block's first

pub walked_start : (first : ℕ) (start : Unread) (now : Progress) → length now.levels ≡ 64 → IsLevel (level_at now.levels 0)
    → ((q : ℕ) → 0 < q → q < 64 → level_at now.levels q ≡ pos 0) → now.place ≡ 1 → now.context ≡ context_number 0 first → now.unread ≡ start → Walked first start 0 now
walked_start first start now count is zeros place to same = record {
  run = 0;
  size = first;
  walk = rw (place, same) (walk_start first start (level_at now.levels));
  context = to;
  count = count;
  permitted = start_levels now.levels is zeros;
  zeros = λ q low high. zeros q (omega arith) high;
}

-- no level after the first
pub read_none : (first : ℕ) (start new : Unread) (now : Progress) → now.place ≤ 64 → Walked first start 0 now → EndsBlock now new → ReadsAc first start first now.levels new
read_none first start new now within w ends = record { takes = ends first start 0 w; size = sym (read_size first start 0 now within w) }

pub read_some : (first : ℕ) (start new : Unread) (old mid : Progress) (size : ℕ) (levels : List ℤ) → Walked first start 0 old → Begins old mid size → Finishes mid levels new
    → ReadsAc first start size levels new
read_some first start new old mid size levels w b f = f.read first start size b.some (b.walked first start w)

pub breaks_later : (first : ℕ) (start : Unread) (old mid : Progress) (size : ℕ) (why : BlockBreak) → Walked first start 0 old → Begins old mid size → BreaksLater mid why
    → AcBreaks (level_at old.levels 0) first start.left (rule_of why)
breaks_later first start old mid size why w b k = rw b.dc at (k first start size b.some (b.walked first start w))
