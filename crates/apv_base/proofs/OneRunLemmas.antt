-- A file of access units has one run at most: the accepted units at its start and what stops a reader after them.
use Rattle.std.proofs.Common.{◌≡◌, ◌≢◌, ℕ, ◌+◌, ◌^◌, ◌<◌, ◌≤◌, List, [], ◌∷◌, ◌++◌, length, take, drop, refl, sym, ap, ap₂, ◌∙◌, subst, arith, lit<, Option, Some, None, nat_lt, append_assoc, append-nil, length-append}
use Rattle.std.specs.Prelude.{if◌then◌else◌, ◌==◌}
use Rattle.std.proofs.lemmas.Bool.{lt-ltb, le-ltb, eq-eqb, ne_eqb}
use Rattle.std.proofs.lemmas.List.{take_at, drop_at}
use Rattle.apv_base.specs.declared.rules.Rule.TheVariants.{V1, V2}
use Rattle.apv_base.specs.declared.rules.Limit.TheVariants.{L1, L3}
use Rattle.apv_base.specs.declared.exits.Exit.{Exit}
use Rattle.apv_base.specs.declared.exits.Exit.TheVariants.{Done, Broken, LimitMet}
use Rattle.apv_base.specs.laws.Run.{JudgesOnce, HasOneRun}
use Rattle.apv_base.specs.model.Answer.{place_of}
use Rattle.apv_base.specs.model.Bits.{be, number}
use Rattle.apv_base.specs.model.Run.{MAX_UNIT, MAX_UNITS, sized, SizedAt, SizeStops, at_end, full, no_size, large, cut, Judgement, AreAccepted, spelled, AcceptedPrefix, StopsAfter, by_size, refused, HasRun}
use Rattle.apv_base.proofs.DigitsLemmas.{length-digits, number-digits}

-- ---- sizes

-- the four bytes of a size, and what follows them
pub sized-size : (xs unit after : List ℕ) → SizedAt xs unit after → take 4 xs ≡ be 4 (length unit)
sized-size xs unit after at = rw (at.bytes, append_assoc (be 4 (length unit)) unit after) (take_at (be 4 (length unit)) (unit ++ after) 4 (length-digits 256 4 (length unit)))

pub sized-after : (xs unit after : List ℕ) → SizedAt xs unit after → drop 4 xs ≡ unit ++ after
sized-after xs unit after at = rw (at.bytes, append_assoc (be 4 (length unit)) unit after) (drop_at (be 4 (length unit)) (unit ++ after) 4 (length-digits 256 4 (length unit)))

-- they spell its length
pub sized-number : (xs unit after : List ℕ) → SizedAt xs unit after → number 256 (take 4 xs) ≡ length unit
sized-number xs unit after at =
    let fits : length unit < 256 ^ 4 = omega (arith, at.small) in
    ap (number 256) (sized-size xs unit after at) ∙ number-digits 256 4 (length unit) (lit< tt) fits

-- the unit and what follows it, by the number that the four bytes spell
pub sized-unit : (xs unit after : List ℕ) → SizedAt xs unit after → take (number 256 (take 4 xs)) (drop 4 xs) ≡ unit
sized-unit xs unit after at = rw (sized-number xs unit after at, sized-after xs unit after at) (take_at unit after (length unit) refl)

pub sized-rest : (xs unit after : List ℕ) → SizedAt xs unit after → drop (number 256 (take 4 xs)) (drop 4 xs) ≡ after
sized-rest xs unit after at = rw (sized-number xs unit after at, sized-after xs unit after at) (drop_at unit after (length unit) refl)

pub sized-length : (xs unit after : List ℕ) → SizedAt xs unit after → length xs ≡ 4 + (length unit + length after)
sized-length xs unit after at =
    omega (arith, ap length at.bytes, length-append (sized unit) after, length-append (be 4 (length unit)) unit, length-digits 256 4 (length unit))

-- one unit at most is at the start of a list
pub one-sized : (xs unit unit' after after' : List ℕ) → SizedAt xs unit after → SizedAt xs unit' after' → (unit ≡ unit') × (after ≡ after')
one-sized xs unit unit' after after' at at' =
    (sym (sized-unit xs unit after at) ∙ sized-unit xs unit' after' at', sym (sized-rest xs unit after at) ∙ sized-rest xs unit' after' at')

-- ---- where sizes stop a reader

-- the answer after n units, where n bytes are left, the first four of them spell size, and no more decides it
early : (n left size : ℕ) → Option Exit
early n left size =
    if left == 0 then Some Done
    else (if n == MAX_UNITS then Some (LimitMet L3 (MAX_UNITS + 1))
    else (if nat_lt left 4 then Some (Broken (record { rule = V1; place = place_of n 0 }))
    else (if nat_lt MAX_UNIT size then Some (LimitMet L1 size)
    else (if nat_lt left (4 + size) then Some (Broken (record { rule = V2; place = place_of n 0 })) else None))))

abbrev early_at : ℕ → List ℕ → Option Exit
early_at n xs = early n (length xs) (number 256 (take 4 xs))

-- no more decides it where the unit is whole and small
late-sized : (n left size : ℕ) → n < MAX_UNITS → size ≤ MAX_UNIT → 4 + size ≤ left → early n left size ≡ None
unfolding early
late-sized n left size lt le whole =
    let more : left ≢ 0 = omega arith in
    let count : n ≢ MAX_UNITS = omega arith in
    let long : 4 ≤ left = omega arith in
    rw (ne_eqb left 0 more, ne_eqb n MAX_UNITS count, le-ltb left 4 long, le-ltb MAX_UNIT size le, le-ltb left (4 + size) whole) refl

late-at : (n : ℕ) (xs unit after : List ℕ) → n < MAX_UNITS → SizedAt xs unit after → early_at n xs ≡ None
late-at n xs unit after lt at =
    let size : number 256 (take 4 xs) ≡ length unit = sized-number xs unit after at in
    late-sized n (length xs) (number 256 (take 4 xs)) lt (omega (arith, at.small)) (omega (arith, sized-length xs unit after at))

early-end : (n left size : ℕ) → left ≡ 0 → early n left size ≡ Some Done
unfolding early
early-end n left size e = rw (eq-eqb left 0 e) refl

early-full : (n left size : ℕ) → left ≢ 0 → n ≡ MAX_UNITS → early n left size ≡ Some (LimitMet L3 (MAX_UNITS + 1))
unfolding early
early-full n left size ne e = rw (ne_eqb left 0 ne, eq-eqb n MAX_UNITS e) refl

early-short : (n left size : ℕ) → left ≢ 0 → n < MAX_UNITS → left < 4 → early n left size ≡ Some (Broken (record { rule = V1; place = place_of n 0 }))
unfolding early
early-short n left size ne lt short =
    let count : n ≢ MAX_UNITS = omega arith in
    rw (ne_eqb left 0 ne, ne_eqb n MAX_UNITS count, lt-ltb left 4 short) refl

early-large : (n left size : ℕ) → n < MAX_UNITS → 4 ≤ left → MAX_UNIT < size → early n left size ≡ Some (LimitMet L1 size)
unfolding early
early-large n left size lt long above =
    let more : left ≢ 0 = omega arith in
    let count : n ≢ MAX_UNITS = omega arith in
    rw (ne_eqb left 0 more, ne_eqb n MAX_UNITS count, le-ltb left 4 long, lt-ltb MAX_UNIT size above) refl

early-cut : (n left size : ℕ) → n < MAX_UNITS → 4 ≤ left → size ≤ MAX_UNIT → left < 4 + size → early n left size ≡ Some (Broken (record { rule = V2; place = place_of n 0 }))
unfolding early
early-cut n left size lt long small short =
    let more : left ≢ 0 = omega arith in
    let count : n ≢ MAX_UNITS = omega arith in
    rw (ne_eqb left 0 more, ne_eqb n MAX_UNITS count, le-ltb left 4 long, le-ltb MAX_UNIT size small, lt-ltb left (4 + size) short) refl

nonempty : (xs : List ℕ) → xs ≢ [] → length xs ≢ 0
nonempty [] ne e = ne refl
nonempty (x ∷ xs) ne e = omega arith

-- a stop by size is decided by these numbers
stop-early : (n : ℕ) (xs : List ℕ) (exit : Exit) → SizeStops n xs exit → early_at n xs ≡ Some exit
stop-early n xs exit (at_end e) = early-end n (length xs) (number 256 (take 4 xs)) (ap length e)
stop-early n xs exit (full ne e) = early-full n (length xs) (number 256 (take 4 xs)) (nonempty xs ne) e
stop-early n xs exit (no_size ne lt short) = early-short n (length xs) (number 256 (take 4 xs)) (nonempty xs ne) lt short
stop-early n xs exit (large size lt has gt) = rw has.is (early-large n (length xs) (number 256 (take 4 xs)) lt has.long (omega (arith, has.is)))
stop-early n xs exit (cut size lt has le short) = early-cut n (length xs) (number 256 (take 4 xs)) lt has.long (omega (arith, has.is)) (omega (arith, has.is))

-- a unit of a permitted size isn't stopped by its size
pub not-stopped : {A : Type 0} (n : ℕ) (xs unit after : List ℕ) (exit : Exit) → n < MAX_UNITS → SizedAt xs unit after → SizeStops n xs exit → A
not-stopped n xs unit after exit lt at stop = absurd (let no : ⊥ = cc (late-at n xs unit after lt at, stop-early n xs exit stop) in no)

-- sizes stop a reader with one answer
pub one-size-stop : (n : ℕ) (xs : List ℕ) (e f : Exit) → SizeStops n xs e → SizeStops n xs f → e ≡ f
one-size-stop n xs e f s t = cc (stop-early n xs e s, stop-early n xs f t)

-- ---- accepted units

-- units before accepted ones are accepted
pub accepted-prefix : {A : Type 0} (j : Judgement A) (us more : List A) → AreAccepted j (us ++ more) → AreAccepted j us
accepted-prefix j us more all before unit later e =
    all before unit (later ++ more) (ap (λ (xs : List _). xs ++ more) e ∙ append_assoc before (unit ∷ later) more)

-- the same with one more unit before the others
accepted-shift : {A : Type 0} (j : Judgement A) (before us : List A) (u : A) → AreAccepted j (before ++ u ∷ us) → AreAccepted j ((before ++ u ∷ []) ++ us)
accepted-shift j before us u all = subst (AreAccepted j) (sym (append_assoc before (u ∷ []) us)) all

-- two lists of units at the start of one list are equal, or one goes on where the other ends
data Compared {A : Type 0} (j : Judgement A) (us vs : List A) (xs ys : List ℕ) : Type 0 where
  same : us ≡ vs → xs ≡ ys → Compared j us vs xs ys
  shorter : (v : A) (more : List A) → vs ≡ us ++ v ∷ more → xs ≡ spelled j (v ∷ more) ++ ys → Compared j us vs xs ys
  longer : (u : A) (more : List A) → us ≡ vs ++ u ∷ more → ys ≡ spelled j (u ∷ more) ++ xs → Compared j us vs xs ys

compared-more : {A : Type 0} (j : Judgement A) (u v : A) (us vs : List A) (xs ys : List ℕ) → u ≡ v → Compared j us vs xs ys → Compared j (u ∷ us) (v ∷ vs) xs ys
compared-more {A} j u v us vs xs ys e (same f g) = same (ap₂ (λ (a : A) (all : List A). a ∷ all) e f) g
compared-more {A} j u v us vs xs ys e (shorter w more f g) = shorter w more (ap₂ (λ (a : A) (all : List A). a ∷ all) (sym e) f) g
compared-more {A} j u v us vs xs ys e (longer w more f g) = longer w more (ap₂ (λ (a : A) (all : List A). a ∷ all) e f) g

-- the first unit of a list is at its start
unit-at : {A : Type 0} (j : Judgement A) (u : A) (us : List A) (xs : List ℕ) → length (j.bytes u) ≤ MAX_UNIT → SizedAt (spelled j (u ∷ us) ++ xs) (j.bytes u) (spelled j us ++ xs)
unit-at j u us xs small = record { bytes = append_assoc (sized (j.bytes u)) (spelled j us) xs; small = small }

compared : {A : Type 0} (j : Judgement A) → JudgesOnce j → (before us vs : List A) (xs ys : List ℕ) → AreAccepted j (before ++ us) → AreAccepted j (before ++ vs)
    → spelled j us ++ xs ≡ spelled j vs ++ ys → Compared j us vs xs ys
compared j once before [] [] xs ys p q e = same refl e
compared j once before [] (v ∷ vs) xs ys p q e = shorter v vs refl e
compared j once before (u ∷ us) [] xs ys p q e = longer u us refl (sym e)
compared {A} j once before (u ∷ us) (v ∷ vs) xs ys p q e =
    let pu = p before u us refl in
    let qv = q before v vs refl in
    let at = unit-at j u us xs pu.0 in
    let bt : SizedAt (spelled j (u ∷ us) ++ xs) (j.bytes v) (spelled j vs ++ ys) = subst (λ (x : List ℕ). SizedAt x (j.bytes v) (spelled j vs ++ ys)) (sym e) (unit-at j v vs ys qv.0) in
    let bytes = one-sized (spelled j (u ∷ us) ++ xs) (j.bytes u) (j.bytes v) (spelled j us ++ xs) (spelled j vs ++ ys) at bt in
    let units : u ≡ v = (once before (j.bytes v) (accepted-prefix j before (u ∷ us) p)).accepted u v (bytes.0, pu.1) (refl, qv.1) in
    let q' : AreAccepted j ((before ++ u ∷ []) ++ vs) = subst (λ (w : A). AreAccepted j ((before ++ w ∷ []) ++ vs)) (sym units) (accepted-shift j before vs v q) in
    compared-more j u v us vs xs ys units (compared j once (before ++ u ∷ []) us vs xs ys (accepted-shift j before us u p) q' bytes.1)

-- ---- one run

-- no accepted unit is where a run stops
stops-there : {A B : Type 0} (j : Judgement A) → JudgesOnce j → (us : List A) (u : A) (xs after : List ℕ) (exit : Exit) → AreAccepted j us → length us < MAX_UNITS
    → SizedAt xs (j.bytes u) after → j.Accepts us u → StopsAfter j us xs exit → B
stops-there j once us u xs after exit all lt at accepts (by_size e stop) = not-stopped (length us) xs (j.bytes u) after e lt at stop
stops-there j once us u xs after exit all lt at accepts (refused e bytes after' lt' bt refuses) =
    let same = one-sized xs (j.bytes u) bytes after after' at bt in
    absurd ((once us bytes all).not_both u e (same.0, accepts) refuses)

-- a run stops with one answer
one-stop : {A : Type 0} (j : Judgement A) → JudgesOnce j → (us : List A) (xs : List ℕ) (e f : Exit) → AreAccepted j us → StopsAfter j us xs e → StopsAfter j us xs f → e ≡ f
one-stop j once us xs e f all (by_size e' s) (by_size f' t) = one-size-stop (length us) xs e f s t
one-stop j once us xs e f all (by_size e' s) (refused f' bytes after lt at r) = not-stopped (length us) xs bytes after e lt at s
one-stop j once us xs e f all (refused e' bytes after lt at r) (by_size f' t) = not-stopped (length us) xs bytes after f lt at t
one-stop j once us xs e f all (refused e' bytes after lt at r) (refused f' bytes' after' lt' at' r') =
    let same = one-sized xs bytes bytes' after after' at at' in
    (once us bytes' all).refused e f (subst (λ (b : List ℕ). j.Refuses us b e) same.0 r) r'

-- no list of accepted units goes on where a run stops
not-longer : {A B : Type 0} (j : Judgement A) → JudgesOnce j → (us vs more : List A) (v : A) (xs ys : List ℕ) (exit : Exit) → vs ≡ us ++ v ∷ more → AreAccepted j vs
    → length vs ≤ MAX_UNITS → xs ≡ spelled j (v ∷ more) ++ ys → StopsAfter j us xs exit → B
not-longer {A} j once us vs more v xs ys exit e all le f stops =
    let qv = all us v more e in
    let prefix : AreAccepted j us = accepted-prefix j us (v ∷ more) (subst (AreAccepted j) e all) in
    let lt : length us < MAX_UNITS = omega (arith, le, ap (length {A = A}) e, length-append us (v ∷ more)) in
    let at : SizedAt xs (j.bytes v) (spelled j more ++ ys) = subst (λ (x : List ℕ). SizedAt x (j.bytes v) (spelled j more ++ ys)) (sym f) (unit-at j v more ys qv.0) in
    stops-there j once us v xs (spelled j more ++ ys) exit prefix lt at qv.1 stops

pub longest : {A : Type 0} (j : Judgement A) → JudgesOnce j → (file : List ℕ) (us vs : List A) (e : Exit) (rest : List ℕ) → HasRun j file us e → AcceptedPrefix j file vs rest → (more : List A) × (us ≡ vs ++ more)
longest j once file us vs e rest r s = elim (compared j once [] us vs r.rest rest r.prefix.accepted s.accepted (sym r.prefix.parts ∙ s.parts)) [
  | same f g ↦ ([], f ∙ sym (append-nil vs))
  | shorter v more f g ↦ not-longer j once us vs more v r.rest rest e f s.accepted s.count g r.stops
  | longer u more f g ↦ (u ∷ more, f)
]

stops-along : {A : Type 0} (j : Judgement A) (us vs : List A) (xs ys : List ℕ) (e : Exit) → us ≡ vs → xs ≡ ys → StopsAfter j us xs e → StopsAfter j vs ys e
stops-along {A} j us vs xs ys e f g s = subst (λ (x : List ℕ). StopsAfter j vs x e) g (subst (λ (u : List A). StopsAfter j u xs e) f s)

pub one-run : {A : Type 0} (j : Judgement A) → JudgesOnce j → (file : List ℕ) (us vs : List A) (e f : Exit) → HasRun j file us e → HasRun j file vs f → (us ≡ vs) × (e ≡ f)
one-run j once file us vs e f r s = elim (compared j once [] us vs r.rest s.rest r.prefix.accepted s.prefix.accepted (sym r.prefix.parts ∙ s.prefix.parts)) [
  | same p q ↦ (p, one-stop j once vs s.rest e f s.prefix.accepted (stops-along j us vs r.rest s.rest e p q r.stops) s.stops)
  | shorter v more p q ↦ not-longer j once us vs more v r.rest s.rest e p s.prefix.accepted s.prefix.count q r.stops
  | longer u more p q ↦ not-longer j once vs us more u s.rest r.rest f p r.prefix.accepted r.prefix.count q s.stops
]

-- a judgement that judges in one way gives a file one run at most
pub has-one-run : {A : Type 0} (j : Judgement A) → JudgesOnce j → (file : List ℕ) → HasOneRun j file
has-one-run j once file = record { one = one-run j once file; longest = λ us vs e rest. longest j once file us vs e rest }
