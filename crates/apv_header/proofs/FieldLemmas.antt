-- What was read of a field, as a step of the walk over a table.
use Rattle.std.proofs.Common.{◌≡◌, ◌≢◌, ℕ, suc, ◌+◌, ◌-◌, ◌^◌, ◌<◌, ◌≤◌, List, [], ◌∷◌, ◌++◌, length, take, drop, refl, sym, ap, ◌∙◌, subst, Option, Some, None, Result, Ok, Err, append_assoc, length-append, append-nil, arith}
use Rattle.std.specs.Prelude.{IfOk, IfErr}
use Rattle.std.specs.Result.{IsErrAnd}
use Rattle.std.proofs.lemmas.Bool.{ne_eqb}
use Rattle.std.proofs.lemmas.List.{take_at, drop_at}
use Rattle.apv_base.specs.declared.rules.HeadEnd.{HeadEnd}
use Rattle.apv_base.specs.declared.rules.HeadEnd.TheVariants.{Rule as breaks}
use Rattle.apv_base.specs.declared.rules.Rule.TheVariants.{V8}
use Rattle.apv_base.specs.model.Bits.{bin, number}
use Rattle.apv_base.specs.model.Table.{Table, done, field, fields, spell, must_be_zero}
use Rattle.apv_base.proofs.DigitsLemmas.{number-digits}
use Rattle.apv_base.proofs.BitsLemmas.{length-bin}
use Rattle.apv_base.proofs.WalkLemmas.{Gives, field-passes, field-fault, field-short, onward-start, onward-onward, onward-fails, onward-done}
use Rattle.apv_bits.specs.Reader.{Unread, Takes}
use Rattle.apv_header.specs.Fields.{ReadsNumber, IsCut, WalksBits, BitsBreak}

-- what a field's premises ask of the bits
record Prefix (n : ℕ) (xs : List ℕ) (value : ℕ) (ys : List ℕ) : Type 0 where
  long : n ≤ length xs
  left : length xs - n ≡ length ys
  is : number 2 (take n xs) ≡ value
  after : drop n xs ≡ ys

prefix-of : (n value : ℕ) (xs ys : List ℕ) → value < 2 ^ n → xs ≡ bin n value ++ ys → Prefix n xs value ys
prefix-of n value xs ys small e =
    let len : length (bin n value) ≡ n = length-bin n value in
    let all : length xs ≡ n + length ys = rw e (omega (arith, length-append (bin n value) ys)) in
    record {
      long = omega arith;
      left = omega arith;
      is = rw (e, take_at (bin n value) ys n len) (number-digits 2 n value (omega arith) small);
      after = rw (e, drop_at (bin n value) ys n len) refl;
    }

-- a value in which no fault is found
pub reads-walks : {n : ℕ} {old : Unread} {value : ℕ} {new : Unread} (short : HeadEnd) (check : ℕ → ℕ → Option HeadEnd) (next : ℕ → Table HeadEnd)
    → ReadsNumber n old value new → ((left : ℕ) → check value left ≡ None) → WalksBits (field n short check next) old n (value ∷ []) (next value) new
unfolding spell
reads-walks {n} {old} {value} {new} short check next reads sound =
    let f = prefix-of n value old.left new.left reads.small reads.taken.prefix in
    record {
      onward = field-passes 2 n short check next old.left value (length new.left) new.left f.long f.left f.is (sound (length new.left)) f.after;
      read = bin n value;
      taken = reads.taken;
      count = length-bin n value;
      spelled = λ more. refl;
    }

-- a value in which a fault is found
pub reads-breaks : {n : ℕ} {old : Unread} {value : ℕ} {new : Unread} (short : HeadEnd) (check : ℕ → ℕ → Option HeadEnd) (next : ℕ → Table HeadEnd) (end : HeadEnd)
    → ReadsNumber n old value new → ((left : ℕ) → check value left ≡ Some end) → BitsBreak (field n short check next) old end
reads-breaks {n} {old} {value} {new} short check next end reads fault =
    let f = prefix-of n value old.left new.left reads.small reads.taken.prefix in
    record { fails = field-fault 2 n short check next old.left value (length new.left) end f.long f.left f.is (fault (length new.left)) }

-- no value, since the bits end
pub cut-breaks : {n : ℕ} {old : Unread} {end : HeadEnd} (check : ℕ → ℕ → Option HeadEnd) (next : ℕ → Table HeadEnd)
    → IsCut n old end → BitsBreak (field n (breaks V8) check next) old end
cut-breaks {n} {old} {end} check next cut =
    record { fails = rw cut.rule (field-short 2 n (breaks V8) check next old.left cut.few) }

-- ---- one after the other

pub walks-start : (table : Table HeadEnd) (old : Unread) → WalksBits table old 0 [] table old
walks-start table old = record {
  onward = onward-start 2 table old.left;
  read = [];
  taken = record { prefix = refl; place = omega arith };
  count = refl;
  spelled = λ more. refl;
}

pub walks-walks : {table middle later : Table HeadEnd} {old mid new : Unread} {n m : ℕ} {prefix more : List ℕ}
    → WalksBits table old n prefix middle mid → WalksBits middle mid m more later new → WalksBits table old (n + m) (prefix ++ more) later new
walks-walks {table} {middle} {later} {old} {mid} {new} {n} {m} {prefix} {more} one two = record {
  onward = onward-onward 2 table old.left prefix middle mid.left more later new.left one.onward two.onward;
  read = one.read ++ two.read;
  taken = record {
    prefix = one.taken.prefix ∙ ap (λ (bits : List ℕ). one.read ++ bits) two.taken.prefix ∙ sym (append_assoc one.read two.read new.left);
    place = omega (arith, one.taken.place, two.taken.place, length-append one.read two.read);
  };
  count = omega (arith, one.count, two.count, length-append one.read two.read);
  spelled = λ others.
      ap (spell 2 table) (append_assoc prefix more others) ∙ one.spelled (more ++ others)
      ∙ ap (λ (bits : List ℕ). one.read ++ bits) (two.spelled others) ∙ sym (append_assoc one.read two.read (spell 2 later others));
}

pub walks-breaks : {table middle : Table HeadEnd} {old mid : Unread} {n : ℕ} {prefix : List ℕ} {end : HeadEnd}
    → WalksBits table old n prefix middle mid → BitsBreak middle mid end → BitsBreak table old end
walks-breaks {table} {middle} {old} {mid} {n} {prefix} {end} one two =
    record { fails = onward-fails 2 table old.left prefix middle mid.left end one.onward two.fails }

-- what a walk that found nothing wrong says of the fields and of the reader
pub walks-gives : {table : Table HeadEnd} {old new : Unread} {n : ℕ} {values : List ℕ} → WalksBits table old n values done new → Gives 2 table old.left values new.left
walks-gives {table} {old} {new} {n} {values} all = onward-done 2 table old.left values new.left all.onward

pub walks-taken : {table : Table HeadEnd} {old new : Unread} {n : ℕ} {values : List ℕ} → WalksBits table old n values done new → Takes old new (spell 2 table values)
unfolding spell
walks-taken {table} {old} {new} {n} {values} all =
    let e : spell 2 table values ≡ all.read = sym (ap (spell 2 table) (append-nil values)) ∙ all.spelled [] ∙ append-nil all.read in
    rw e all.taken

-- ---- fields of one kind

pub fields-more : (n m : ℕ) (short : HeadEnd) (check : ℕ → ℕ → Option HeadEnd) (next : Table HeadEnd)
    → fields (suc n) m short check (λ values. next) ≡ field m short check (λ value. fields n m short check (λ values. next))
unfolding fields
fields-more n m short check next = refl

pub fields-none : (m : ℕ) (short : HeadEnd) (check : ℕ → ℕ → Option HeadEnd) (next : Table HeadEnd) → fields 0 m short check (λ values. next) ≡ next
unfolding fields
fields-none m short check next = refl

-- ---- the exit of a `?`

pub err-gives : {T : Type 0} (r : Result T HeadEnd) (end : HeadEnd) (Q : HeadEnd → Type 0) → IsErrAnd r (λ given. given ≡ end) → Q end → IfErr r Q
err-gives (Ok x) end Q is q = tt
err-gives (Err given) end Q is q = subst Q (sym is) q

-- ---- fields that must be 0

pub must_be_zero-fault : (fault : HeadEnd) (value : ℕ) → value ≢ 0 → (left : ℕ) → must_be_zero fault value left ≡ Some fault
must_be_zero-fault fault value ne left = rw (ne_eqb value 0 ne) refl

pub zero-breaks : {n value : ℕ} {old new : Unread} (fault : HeadEnd) (next : Table HeadEnd)
    → ReadsNumber n old value new → value ≢ 0 → BitsBreak (field n (breaks V8) (must_be_zero fault) (λ zero. next)) old fault
zero-breaks {n} {value} {old} {new} fault next reads ne =
    reads-breaks (breaks V8) (must_be_zero fault) (λ zero. next) fault reads (must_be_zero-fault fault value ne)

pub zero-walks : {n value : ℕ} {old new : Unread} (fault : HeadEnd) (next : Table HeadEnd)
    → ReadsNumber n old value new → value ≡ 0 → WalksBits (field n (breaks V8) (must_be_zero fault) (λ zero. next)) old n (0 ∷ []) next new
zero-walks {n} {value} {old} {new} fault next reads is =
    let zero : ReadsNumber n old 0 new = subst (λ (v : ℕ). ReadsNumber n old v new) is reads in
    reads-walks (breaks V8) (must_be_zero fault) (λ zero. next) zero (λ left. refl)

pub ok-gives : {T E : Type 0} (r : Result T E) (P Q : T → Type 0) → IfOk r P → ((x : T) → P x → Q x) → IfOk r Q
ok-gives (Ok x) P Q is q = q x is
ok-gives (Err end) P Q is q = tt

-- ---- other words for the same step

pub walks-as : {table : Table HeadEnd} {old new : Unread} {n m : ℕ} {values others : List ℕ} {later next : Table HeadEnd}
    → n ≡ m → values ≡ others → later ≡ next → WalksBits table old n values later new → WalksBits table old m others next new
walks-as {table} {old} {new} {n} {m} {values} {others} {later} {next} count same tables all =
    subst (λ (k : ℕ). WalksBits table old k others next new) count (
    subst (λ (vs : List ℕ). WalksBits table old n vs next new) same (
    subst (λ (t : Table HeadEnd). WalksBits table old n values t new) tables all))

pub reads-as : {n value other : ℕ} {old new : Unread} → value ≡ other → ReadsNumber n old value new → ReadsNumber n old other new
reads-as {n} {value} {other} {old} {new} same reads = subst (λ (v : ℕ). ReadsNumber n old v new) same reads

-- the first of some fields that are left, where a fault is found
pub fields-breaks : {table : Table HeadEnd} {old mid : Unread} {bits width : ℕ} {values : List ℕ} {short end : HeadEnd} {check : ℕ → ℕ → Option HeadEnd} (next : Table HeadEnd) (count n : ℕ) → count ≡ suc n
    → WalksBits table old bits values (fields count width short check (λ others. next)) mid
    → BitsBreak (field width short check (λ value. fields n width short check (λ others. next))) mid end → BitsBreak table old end
fields-breaks {table} {old} {mid} {bits} {width} {values} {short} {end} {check} next count n more prefix refuses =
    let tables : fields count width short check (λ others. next) ≡ field width short check (λ value. fields n width short check (λ others. next)) =
    ap (λ (k : ℕ). fields k width short check (λ others. next)) more ∙ fields-more n width short check next in
    walks-breaks (walks-as refl refl tables prefix) refuses

-- and where none is found
pub fields-walks : {table : Table HeadEnd} {old mid new : Unread} {bits width value : ℕ} {values : List ℕ} {short : HeadEnd} {check : ℕ → ℕ → Option HeadEnd} (next : Table HeadEnd) (count n : ℕ) → count ≡ suc n
    → WalksBits table old bits values (fields count width short check (λ others. next)) mid
    → WalksBits (field width short check (λ value. fields n width short check (λ others. next))) mid width (value ∷ []) (fields n width short check (λ others. next)) new
    → WalksBits table old (bits + width) (values ++ value ∷ []) (fields n width short check (λ others. next)) new
fields-walks {table} {old} {mid} {new} {bits} {width} {value} {values} {short} {check} next count n more prefix step =
    let tables : fields count width short check (λ others. next) ≡ field width short check (λ value. fields n width short check (λ others. next)) =
    ap (λ (k : ℕ). fields k width short check (λ others. next)) more ∙ fields-more n width short check next in
    walks-walks (walks-as refl refl tables prefix) step
