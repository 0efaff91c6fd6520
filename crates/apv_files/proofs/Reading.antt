-- A run of reads of n bytes, read by read.
use Rattle.std.proofs.Common.{◌≡◌, ℕ, ◌+◌, ◌≤◌, List, length, take, ◌++◌, length-append, length-take, arith}
use Rattle.std.proofs.lemmas.List.{take-append-le}
use Rattle.apv_files.specs.Loops.{TookAll, ReadsStopped}
use Rattle.apv_files.specs.SlotView.{SlotView, Took}
use Rattle.apv_files.proofs.Prefixes.{take-written}
use Rattle.apv_files.proofs.Many.{took-more}
use borrow.Rule.Slice.PartMut.{put_mid}

-- the bytes taken follow those before, and of count these are left to take
pub record ReadSoFar (old : SlotView) (count left : ℕ) (before after : List ℕ) (now : SlotView) : Type 0 where
  pub taken : List ℕ
  pub grown : after ≡ before ++ taken
  pub counted : length taken + left ≡ count
  pub took : TookAll old taken now

-- memory ran out after one more read
pub so-far-stopped : (old mid new : SlotView) (count left n : ℕ) (before after buf : List ℕ) → ReadSoFar old count left before after mid → Took mid n buf new → n ≤ left → ReadsStopped old count new
so-far-stopped old mid new count left n before after buf h t room = record {
  taken = h.taken ++ take n buf;
  most = omega (arith, h.counted, length-append h.taken (take n buf), length-take n buf, t.fits);
  took = took-more old mid new h.taken buf n h.took t;
}

-- one more read into the rest of a buffer
pub filled-more : (old mid new : SlotView) (a n k : ℕ) (xs ys : List ℕ) → TookAll old (take a xs) mid → Took mid n ys new → a ≤ length xs → TookAll old (take (a + n) (put_mid a k xs ys)) new
filled-more old mid new a n k xs ys h t inside = rw (take-written a n k xs ys inside t.fits) (took-more old mid new (take a xs) ys n h t)

-- a read into the start of a buffer
pub took-start : (old new : SlotView) (n : ℕ) (xs ys : List ℕ) → Took old n xs new → Took old n (xs ++ ys) new
took-start old new n xs ys t = record {
  fits = omega (arith, t.fits, length-append xs ys);
  prefix = rw (take-append-le n xs ys t.fits) t.prefix;
  end = t.end;
  rest = t.rest;
}
