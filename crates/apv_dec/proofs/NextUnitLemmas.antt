-- What the bytes that were taken say of the next unit.
use Rattle.std.proofs.Common.{◌≡◌, ◌≢◌, ℕ, ◌+◌, ◌-◌, ◌<◌, ◌≤◌, List, [], ◌++◌, length, take, drop, refl, sym, ap, ◌∙◌, subst, arith, inl, inr, length-append, Bool, Result, Err}
use Rattle.std.proofs.lemmas.List.{take_at, take_all, take-append-le, length-take, length-take-le, length-drop}
use Rattle.std.proofs.lemmas.Slice.{take-put_mid, drop-put_mid}
use Rattle.apv_base.specs.declared.exits.Exit.TheVariants as exits
use Rattle.apv_base.specs.declared.rules.Rule.TheVariants.{V1, V2}
use Rattle.apv_base.specs.declared.rules.Limit.TheVariants.{L1, L3}
use Rattle.apv_base.specs.model.Answer.{place_of}
use Rattle.apv_base.specs.model.Bits.{number, be}
use Rattle.apv_base.specs.model.Run.{MAX_UNIT, MAX_UNITS, HasAuSize, full, no_size, large, cut}
use Rattle.apv_files.specs.SlotView.{SlotView, Took}
use Rattle.apv_files.specs.declared.files.Failed.{Failed}
use Rattle.apv_files.specs.declared.files.Failed.TheVariants.{Device, Memory as OutOfMemory}
use Rattle.apv_files.specs.Loops.{TookAll, TookMore, Filled, ReadsFailed, ReadsMore, ReadsStopped}
use Rattle.apv_files.proofs.Many.{took-took, took-failed}
use Rattle.apv_files.proofs.Reading.{filled-more}
use borrow.Rule.Slice.PartMut.{put_mid}
use Rattle.apv_dec.specs.declared.unit.UnitRead.{UnitRead}
use Rattle.apv_dec.specs.Exits.{read_end}
use Rattle.apv_dec.specs.NextUnit.{NextUnit, IsWithinUnit, TookUnit, StopsAtEnd, StopsBefore, ReadFails, MemoryFails}

some-bytes : (xs ys : List ℕ) → 0 < length xs → (xs ++ ys) ≢ []
some-bytes xs ys lt e = omega (arith, ap (length {A = ℕ}) e, length-append xs ys)

length-prefix : (n : ℕ) (buf : List ℕ) → length buf ≡ 4 → n ≤ length buf → length (take n buf) ≡ n
length-prefix n buf e le = length-take-le n buf le

-- a byte is left after as many units as a run has
pub is-full : (number n : ℕ) (old new : SlotView) (buf : List ℕ) → Filled old n buf new → length buf ≡ 4 → n ≢ 0 → number ≡ MAX_UNITS → StopsBefore number old (exits.LimitMet L3 4294967296) new
is-full number n old new buf f four some e =
    let len = length-prefix n buf four f.fits in
    record {
      taken = take n buf;
      took = f.took;
      stops = λ more. full (some-bytes (take n buf) more (omega (arith, len, some))) e;
      short = omega (arith, len, f.fits);
    }

-- one to three bytes are left
pub is-no_size : (number n : ℕ) (old new : SlotView) (buf : List ℕ) → Filled old n buf new → length buf ≡ 4 → n ≢ 0 → number < MAX_UNITS → n < 4
    → StopsAtEnd number old (exits.Broken (record { rule = V1; place = place_of number 0 })) new
is-no_size number n old new buf f four some lt few =
    let len = length-prefix n buf four f.fits in
    record {
      taken = take n buf;
      took = f.took;
      end = f.end (omega arith);
      stops = no_size (λ e. omega (arith, len, some, ap (length {A = ℕ}) e)) lt (omega (arith, len));
      within = inl (omega (arith, len));
    }

-- the four bytes of a size were taken
pub record HasHead (old : SlotView) (head : List ℕ) (size : ℕ) (mid : SlotView) : Type 0 where
  pub took : TookAll old head mid
  pub four : length head ≡ 4
  pub spelled : head ≡ be 4 size
  pub sized : (more : List ℕ) → HasAuSize (head ++ more) size

pub head-taken : (n size : ℕ) (old mid : SlotView) (buf : List ℕ) → Filled old n buf mid → length buf ≡ 4 → 4 ≤ n → size ≡ number 256 buf → be 4 size ≡ buf → HasHead old buf size mid
head-taken n size old mid buf f four le is spelled =
    let whole : take n buf ≡ buf = take_all n buf (omega (arith, four)) in
    record {
      took = subst (λ (xs : List ℕ). TookAll old xs mid) whole f.took;
      four = four;
      spelled = sym spelled;
      sized = λ more. record { long = omega (arith, four, length-append buf more); is = is ∙ ap (number 256) (sym (take_at buf more 4 four)) };
    }

pub is-large : (number size : ℕ) (old mid : SlotView) (head : List ℕ) → HasHead old head size mid → number < MAX_UNITS → MAX_UNIT < size → StopsBefore number old (exits.LimitMet L1 size) mid
is-large number size old mid head h lt gt = record { taken = head; took = h.took; stops = λ more. large size lt (h.sized more) gt; short = omega (arith, h.four) }

within-size : (size : ℕ) (old mid : SlotView) (head part : List ℕ) → HasHead old head size mid → size ≤ MAX_UNIT → length part ≤ size → IsWithinUnit (head ++ part)
within-size size old mid head part h le most = inr (size, h.sized part, le, omega (arith, h.four, length-append head part))

pub is-cut : (number size : ℕ) (old mid new : SlotView) (head unit : List ℕ) → HasHead old head size mid → number < MAX_UNITS → size ≤ MAX_UNIT → TookMore mid size [] unit new → length unit < size
    → StopsAtEnd number old (exits.Broken (record { rule = V2; place = place_of number 0 })) new
is-cut number size old mid new head unit h lt le t short =
    let few : length t.taken < size = omega (arith, short, ap (length {A = ℕ}) t.grown) in
    record {
      taken = head ++ t.taken;
      took = took-took old mid new head t.taken h.took t.some.took;
      end = t.some.end few;
      stops = cut size lt (h.sized t.taken) le (omega (arith, h.four, few, length-append head t.taken));
      within = within-size size old mid head t.taken h le (omega arith);
    }

pub is-taken : (number size : ℕ) (old mid new : SlotView) (head unit : List ℕ) → HasHead old head size mid → number < MAX_UNITS → size ≤ MAX_UNIT → TookMore mid size [] unit new → size ≤ length unit → TookUnit number old unit new
is-taken number size old mid new head unit h lt le t long =
    let same : size ≡ length unit = omega (arith, long, t.some.most, ap (length {A = ℕ}) t.grown) in
    let prefix : head ≡ be 4 (length unit) = h.spelled ∙ ap (be 4) same in
    record {
      took = subst (λ (xs : List ℕ). TookAll old (xs ++ unit) new) prefix (subst (λ (xs : List ℕ). TookAll old (head ++ xs) new) (sym t.grown) (took-took old mid new head t.taken h.took t.some.took));
      small = omega (arith, le, same);
      more = lt;
    }

read-fails : (size : ℕ) (old mid new : SlotView) (head : List ℕ) → HasHead old head size mid → size ≤ MAX_UNIT → ReadsFailed mid size new → ReadFails old new
read-fails size old mid new head h le f =
    let all = took-failed old mid new head f.taken h.took f.failed in
    record { taken = head ++ f.taken; within = within-size size old mid head f.taken h le (omega (arith, f.short)); prefix = all.prefix; fault = all.fault; rest = all.rest }

memory-fails : (size : ℕ) (old mid new : SlotView) (head : List ℕ) → HasHead old head size mid → size ≤ MAX_UNIT → ReadsStopped mid size new → MemoryFails old new
memory-fails size old mid new head h le f =
    record { taken = head ++ f.taken; within = within-size size old mid head f.taken h le f.most; took = took-took old mid new head f.taken h.took f.took }

-- the read of the unit failed
pub unit-fails : (number size : ℕ) (old mid new : SlotView) (head before unit : List ℕ) (failed : Failed) (end : Result Bool UnitRead) → HasHead old head size mid → size ≤ MAX_UNIT
    → ReadsMore {T = Unit {0}} mid size (Err failed) before unit new → end ≡ Err (read_end failed) → NextUnit number old end unit new
unit-fails number size old mid new head before unit failed end h le reads is = subst (λ (r : Result Bool UnitRead). NextUnit number old r unit new) (sym is) (by failed reads)
  where
    by : (f : Failed) → ReadsMore {T = Unit {0}} mid size (Err f) before unit new → NextUnit number old (Err (read_end f)) unit new
    by Device r = read-fails size old mid new head h le r
    by OutOfMemory r = memory-fails size old mid new head h le r

-- ---- bytes read straight into a vector

-- the first `done` bytes of a vector were taken, of at most `count`
pub record ReadInto (old : SlotView) (count done : ℕ) (bytes : List ℕ) (now : SlotView) : Type 0 where
  pub within : done ≤ length bytes
  pub most : length bytes ≤ count
  pub took : TookAll old (take done bytes) now

-- a write to the rest of a list leaves its length
length-put : (done : ℕ) (xs ys : List ℕ) → done ≤ length xs → length xs ≡ done + length ys → length (put_mid done (length xs - done) xs ys) ≡ length xs
length-put done xs ys inside whole =
    let none : length (drop (length xs) (put_mid done (length xs - done) xs ys)) ≡ 0 =
    ap (length {A = ℕ}) (drop-put_mid done (length xs - done) xs ys (length xs) (omega (arith, inside)) inside (omega (arith, whole))) ∙ length-drop (length xs) xs ∙ omega arith in
    let some : length (take (length xs) (put_mid done (length xs - done) xs ys)) ≡ length xs =
    ap (length {A = ℕ}) (take-put_mid done (length xs - done) xs ys (length xs) whole inside) ∙ length-append (take done xs) ys ∙ omega (arith, length-take-le done xs inside, whole) in
    omega (arith, none, some, length-take (length xs) (put_mid done (length xs - done) xs ys), length-drop (length xs) (put_mid done (length xs - done) xs ys))

-- one more read into the vector, which held xs when it was lent
pub into-more : (old mid new : SlotView) (count done n len : ℕ) (before more xs ys rest : List ℕ) → ReadInto old count done before mid → xs ≡ before ++ more → length xs ≡ len → len ≤ count → length ys ≡ length xs - done → Took mid n ys new
    → ReadInto old count (done + n) (take len (put_mid done (length xs - done) xs ys ++ rest)) new
into-more old mid new count done n len before more xs ys rest r parts long few room t =
    let inside : done ≤ length xs = omega (arith, r.within, ap (length {A = ℕ}) parts, length-append before more) in
    let whole : length xs ≡ done + length ys = omega (arith, room, inside) in
    let part : length (put_mid done (length xs - done) xs ys) ≡ len = length-put done xs ys inside whole ∙ long in
    let same : take done xs ≡ take done before = ap (take done) parts ∙ take-append-le done before more r.within in
    rw (take_at (put_mid done (length xs - done) xs ys) rest len part) (record {
      within = omega (arith, part, long, room, t.fits, inside);
      most = omega (arith, part, few);
      took = filled-more old mid new done n (length xs - done) xs ys (subst (λ (b : List ℕ). TookAll old b mid) (sym same) r.took) t inside;
    })

-- all that is wanted was read
pub into-whole : (old now : SlotView) (count done : ℕ) (bytes : List ℕ) → ReadInto old count done bytes now → count ≤ done → TookMore old count [] bytes now
into-whole old now count done bytes r le = record {
  taken = bytes;
  grown = refl;
  some = record { took = subst (λ (b : List ℕ). TookAll old b now) (take_all done bytes (omega (arith, r.most, le))) r.took; most = r.most; end = λ lt. absurd (omega (arith, lt, le, r.within)) };
}
