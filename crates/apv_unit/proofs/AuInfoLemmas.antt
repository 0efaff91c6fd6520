-- Access unit information, field by field.
use Rattle.std.proofs.Common.{◌≡◌, ◌≢◌, ℕ, suc, ◌+◌, ◌-◌, ◌*◌, ◌/◌, ◌^◌, ◌<◌, ◌≤◌, List, [], ◌∷◌, ◌++◌, length, take, drop, refl, sym, subst, ap, ◌∙◌, arith, false, inl, inr}
use Rattle.std.proofs.lemmas.List.{take_at, drop_at, drop-drop, length-take-le, length-drop, length-append}
use Rattle.std.proofs.lemmas.Bool.{cases_lt, ne_eqb}
use Rattle.apv_base.specs.declared.rules.Rule.TheVariants.{V8, V14}
use Rattle.apv_base.specs.declared.rules.HeadEnd.{HeadEnd}
use Rattle.apv_base.specs.declared.rules.HeadEnd.TheVariants.{Rule as breaks}
use Rattle.apv_base.specs.model.Bits.{bin, bits, number}
use Rattle.apv_base.specs.model.Table.{Table, done, no_check, must_be_zero, walk, with_values}
use Rattle.apv_base.specs.model.Header.{free, reserved, info_fields}
use Rattle.apv_base.specs.model.AuInfo.{entry_fields, entries_fields, au_info_table}
use Rattle.apv_base.proofs.BitsLemmas.{length-bin, length-bits}
use Rattle.apv_base.proofs.DigitsLemmas.{number-digits}
use Rattle.apv_base.proofs.WalkLemmas.{Onward, Fails, onward-start, onward-onward, onward-fails, onward-done, field-short, field-fault, field-passes}
use Rattle.apv_unit.specs.AuInfo.{PassesReserved, BreaksReserved, short, not_zero, PassesEntry, BreaksEntry, PassesFields, BreaksFields}

-- ---- bits that are passed and a reserved field that is read

skipped : (n : ℕ) (old mid : List ℕ) → n ≤ length old → old ≡ take n old ++ mid → drop n old ≡ mid
skipped n old mid le e = ap (drop n) e ∙ drop_at (take n old) mid n (length-take-le n old le)

value-read : (n v : ℕ) (old new : List ℕ) → v < 2 ^ n → old ≡ bin n v ++ new → number 2 (take n old) ≡ v
value-read n v old new lt e =
    ap (λ (b : List ℕ). number 2 (take n b)) e ∙ ap (number 2) (take_at (bin n v) new n (length-bin n v)) ∙ number-digits 2 n v (omega arith) lt

pub reserved-zero : (n m v : ℕ) (old mid new : List ℕ) → n ≤ length old → old ≡ take n old ++ mid → v < 2 ^ m → mid ≡ bin m v ++ new → v ≡ 0 → PassesReserved n m old new
reserved-zero n m v old mid new le e lt f z =
    let at : drop n old ≡ mid = skipped n old mid le e in
    record {
      enough = omega (arith, ap length at, length-drop n old, ap length f, length-append (bin m v) new, length-bin m v);
      zero = ap (λ (b : List ℕ). number 2 (take m b)) at ∙ value-read m v mid new lt f ∙ z;
      rest = sym (drop_at (bin m v) new m (length-bin m v)) ∙ ap (drop m) (sym f ∙ sym at) ∙ drop-drop m n old;
    }

pub reserved-set : (n m v : ℕ) (old mid new : List ℕ) → n ≤ length old → old ≡ take n old ++ mid → v < 2 ^ m → mid ≡ bin m v ++ new → v ≢ 0 → BreaksReserved n m old (breaks V14)
reserved-set n m v old mid new le e lt f ne =
    let at : drop n old ≡ mid = skipped n old mid le e in
    not_zero
    (omega (arith, ap length at, length-drop n old, ap length f, length-append (bin m v) new, length-bin m v))
    (λ z. ne (sym (value-read m v mid new lt f) ∙ ap (λ (b : List ℕ). number 2 (take m b)) (sym at) ∙ z))

pub reserved-cut : (n m : ℕ) (old mid : List ℕ) → n ≤ length old → old ≡ take n old ++ mid → length mid < m → BreaksReserved n m old (breaks V8)
reserved-cut n m old mid le e lt = short (omega (arith, ap length (skipped n old mid le e), length-drop n old))

-- ---- free fields

-- the table begins with free fields of n bits in all, and goes on with another
data Frees (next : Table HeadEnd) : ℕ → Table HeadEnd → Type 0 where
  here : Frees next 0 next
  there : (n m : ℕ) (step : ℕ → Table HeadEnd) → ((value : ℕ) → Frees next m (step value)) → Frees next (n + m) (free n step)

frees-short : (next : Table HeadEnd) (n : ℕ) (table : Table HeadEnd) (xs : List ℕ) → Frees next n table → length xs < n → Fails 2 table xs (breaks V8)
frees-short next n table xs here lt = absurd (omega arith)
frees-short next n table xs (there k m step later) lt = elim (cases_lt (length xs) k) [
  | inl small ↦ field-short 2 k (breaks V8) no_check step xs small
  | inr le ↦ (let value : ℕ = number 2 (take k xs) in
      onward-fails 2 (free k step) xs (value ∷ []) (step value) (drop k xs) (breaks V8)
      (field-passes 2 k (breaks V8) no_check step xs value (length xs - k) (drop k xs) le refl refl refl refl)
      (frees-short next m (step value) (drop k xs) (later value) (omega (arith, length-drop k xs))))
]

frees-pass : (next : Table HeadEnd) (n : ℕ) (table : Table HeadEnd) (xs : List ℕ) → Frees next n table → n ≤ length xs → (values : List ℕ) × Onward 2 table xs values next (drop n xs)
frees-pass next n table xs here le = ([], onward-start 2 table xs)
frees-pass next n table xs (there k m step later) le =
    let value : ℕ = number 2 (take k xs) in
    let rest = frees-pass next m (step value) (drop k xs) (later value) (omega (arith, length-drop k xs)) in (
      value ∷ rest.0,
      onward-onward 2 (free k step) xs (value ∷ []) (step value) (drop k xs) rest.0 next (drop (k + m) xs)
          (field-passes 2 k (breaks V8) no_check step xs value (length xs - k) (drop k xs) (omega arith) refl refl refl refl)
          (rest.1 ∙ ap (λ (ys : List ℕ). with_values rest.0 (walk 2 next ys)) (drop-drop m k xs)),
    )

-- free fields and a reserved field after them
reserved-pass : (next : Table HeadEnd) (n m : ℕ) (table : Table HeadEnd) (xs ys : List ℕ) → Frees (reserved m next) n table → PassesReserved n m xs ys → (values : List ℕ) × Onward 2 table xs values next ys
reserved-pass next n m table xs ys f p =
    let prefix = frees-pass (reserved m next) n table xs f (omega (arith, p.enough)) in (
      prefix.0 ++ 0 ∷ [],
      onward-onward 2 table xs prefix.0 (reserved m next) (drop n xs) (0 ∷ []) next ys prefix.1
          (field-passes 2 m (breaks V8) (must_be_zero (breaks V14)) (λ zero. next) (drop n xs) 0 (length (drop n xs) - m) ys (omega (arith, p.enough, length-drop n xs)) refl p.zero refl
          (drop-drop m n xs ∙ sym p.rest)),
    )

reserved-breaks : (next : Table HeadEnd) (n m : ℕ) (table : Table HeadEnd) (xs : List ℕ) (end : HeadEnd) → Frees (reserved m next) n table → BreaksReserved n m xs end → Fails 2 table xs end
reserved-breaks next n m table xs end f (short lt) = elim (cases_lt (length xs) n) [
  | inl small ↦ frees-short (reserved m next) n table xs f small
  | inr le ↦ (let prefix = frees-pass (reserved m next) n table xs f le in
      onward-fails 2 table xs prefix.0 (reserved m next) (drop n xs) (breaks V8) prefix.1
      (field-short 2 m (breaks V8) (must_be_zero (breaks V14)) (λ zero. next) (drop n xs) (omega (arith, length-drop n xs))))
]
reserved-breaks next n m table xs end f (not_zero le ne) =
    let prefix = frees-pass (reserved m next) n table xs f (omega arith) in
    let value : ℕ = number 2 (take m (drop n xs)) in
    onward-fails 2 table xs prefix.0 (reserved m next) (drop n xs) (breaks V14) prefix.1
    (field-fault 2 m (breaks V8) (must_be_zero (breaks V14)) (λ zero. next) (drop n xs) value (length (drop n xs) - m) (breaks V14) (omega (arith, length-drop n xs)) refl refl
    (rw (ne_eqb value 0 ne) refl))

-- ---- an entry

-- the fields of an entry after band_idc and the bits after it
abbrev after_band : Table HeadEnd → Table HeadEnd
after_band next = free 24 (λ width. free 24 (λ height. free 4 (λ idc. free 4 (λ depth. free 8 (λ capture. reserved 8 next)))))

abbrev info : Table HeadEnd → Table HeadEnd
info next = info_fields false (λ format. next)

frees-group : (next : Table HeadEnd) → Frees (reserved 8 (info next)) 24 (entry_fields next)
frees-group next = there 8 16 _ (λ kind. there 16 0 _ (λ group. here))

frees-band : (next : Table HeadEnd) → Frees (reserved 5 (after_band next)) 19 (info next)
frees-band next = there 8 11 _ (λ profile. there 8 3 _ (λ level. there 3 0 _ (λ band. here)))

frees-capture : (next : Table HeadEnd) → Frees (reserved 8 next) 64 (after_band next)
frees-capture next = there 24 40 _ (λ width. there 24 16 _ (λ height. there 4 12 _ (λ idc. there 4 8 _ (λ depth. there 8 0 _ (λ capture. here)))))

pub entry-group : (xs : List ℕ) (end : HeadEnd) → BreaksReserved 24 8 xs end → BreaksEntry xs end
entry-group xs end b next = reserved-breaks (info next) 24 8 (entry_fields next) xs end (frees-group next) b

pub entry-band : (xs ys : List ℕ) (end : HeadEnd) → PassesReserved 24 8 xs ys → BreaksReserved 19 5 ys end → BreaksEntry xs end
entry-band xs ys end p b next =
    let prefix = reserved-pass (info next) 24 8 (entry_fields next) xs ys (frees-group next) p in
    onward-fails 2 (entry_fields next) xs prefix.0 (info next) ys end prefix.1
    (reserved-breaks (after_band next) 19 5 (info next) ys end (frees-band next) b)

-- up to the bits after band_idc
to-band : (next : Table HeadEnd) (xs ys zs : List ℕ) → PassesReserved 24 8 xs ys → PassesReserved 19 5 ys zs → (values : List ℕ) × Onward 2 (entry_fields next) xs values (after_band next) zs
to-band next xs ys zs p q =
    let prefix = reserved-pass (info next) 24 8 (entry_fields next) xs ys (frees-group next) p in
    let more = reserved-pass (after_band next) 19 5 (info next) ys zs (frees-band next) q in
    (prefix.0 ++ more.0, onward-onward 2 (entry_fields next) xs prefix.0 (info next) ys more.0 (after_band next) zs prefix.1 more.1)

pub entry-capture : (xs ys zs : List ℕ) (end : HeadEnd) → PassesReserved 24 8 xs ys → PassesReserved 19 5 ys zs → BreaksReserved 64 8 zs end → BreaksEntry xs end
entry-capture xs ys zs end p q b next =
    let prefix = to-band next xs ys zs p q in
    onward-fails 2 (entry_fields next) xs prefix.0 (after_band next) zs end prefix.1
    (reserved-breaks next 64 8 (after_band next) zs end (frees-capture next) b)

shorter : (n m : ℕ) (xs ys : List ℕ) → PassesReserved n m xs ys → length ys ≤ length xs
shorter n m xs ys p = omega (arith, ap length p.rest, length-drop (n + m) xs)

pub entry-passes : (xs ys zs left : List ℕ) → PassesReserved 24 8 xs ys → PassesReserved 19 5 ys zs → PassesReserved 64 8 zs left → PassesEntry xs left
entry-passes xs ys zs left p q r = record {
  walked = λ next.
      let prefix = to-band next xs ys zs p q in
      let more = reserved-pass next 64 8 (after_band next) zs left (frees-capture next) r in
      (prefix.0 ++ more.0, onward-onward 2 (entry_fields next) xs prefix.0 (after_band next) zs more.0 next left prefix.1 more.1);
  shorter = omega (arith, shorter 24 8 xs ys p, shorter 19 5 ys zs q, shorter 64 8 zs left r);
}

-- ---- all fields

-- the reserved byte after the entries
abbrev last_byte : Table HeadEnd
last_byte = reserved 8 done

pub fields-short : (body xs : List ℕ) → xs ≡ bits body → length xs < 16 → BreaksFields body (breaks V8)
fields-short body xs e lt = field-short 2 16 (breaks V8) no_check (λ count. entries_fields count last_byte) (bits body) (rw (← e) lt)

-- up to the last n entries the fields break no rule
pub record InEntries (body : List ℕ) (count : ℕ) (left : List ℕ) : Type 0 where
  pub inside : length left ≤ 8 * length body
  pub walked : (values : List ℕ) × Onward 2 au_info_table (bits body) values (entries_fields count (reserved 8 done)) left

pub entries-start : (body xs left : List ℕ) (count more : ℕ) → xs ≡ bits body → count < 2 ^ 16 → xs ≡ bin 16 count ++ left → count ≡ more → InEntries body more left
entries-start body xs left count more e lt f same =
    let all : length xs ≡ 16 + length left = omega (arith, ap length f, length-append (bin 16 count) left, length-bin 16 count) in
    let prefix = field-passes 2 16 (breaks V8) no_check (λ count. entries_fields count last_byte) xs count (length xs - 16) left (omega arith) refl (value-read 16 count xs left lt f) refl
    (ap (drop 16) f ∙ drop_at (bin 16 count) left 16 (length-bin 16 count)) in
    record {
      inside = omega (arith, ap length e, length-bits body);
      walked = (
        count ∷ [],
        subst (λ (n : ℕ). Onward 2 au_info_table (bits body) (count ∷ []) (entries_fields n (reserved 8 done)) left) same
            (subst (λ (ys : List ℕ). Onward 2 au_info_table ys (count ∷ []) (entries_fields count (reserved 8 done)) left) e prefix),
      );
    }

pub entries-next : (body : List ℕ) (count fewer : ℕ) (left after : List ℕ) → count ≡ suc fewer → InEntries body count left → PassesEntry left after → InEntries body fewer after
unfolding entries_fields
entries-next body count fewer left after e i p =
    let here : Onward 2 au_info_table (bits body) i.walked.0 (entries_fields (suc fewer) (reserved 8 done)) left = subst (λ (n : ℕ). Onward 2 au_info_table (bits body) i.walked.0 (entries_fields n (reserved 8 done)) left) e i.walked.1 in
    let more = p.walked (entries_fields fewer (reserved 8 done)) in
    record {
      inside = omega (arith, i.inside, p.shorter);
      walked = (i.walked.0 ++ more.0, onward-onward 2 au_info_table (bits body) i.walked.0 (entries_fields (suc fewer) (reserved 8 done)) left more.0 (entries_fields fewer (reserved 8 done)) after here more.1);
    }

pub entries-break : (body : List ℕ) (count fewer : ℕ) (left : List ℕ) (end : HeadEnd) → count ≡ suc fewer → InEntries body count left → BreaksEntry left end → BreaksFields body end
unfolding entries_fields
entries-break body count fewer left end e i b =
    let here : Onward 2 au_info_table (bits body) i.walked.0 (entries_fields (suc fewer) (reserved 8 done)) left = subst (λ (n : ℕ). Onward 2 au_info_table (bits body) i.walked.0 (entries_fields n (reserved 8 done)) left) e i.walked.1 in
    onward-fails 2 au_info_table (bits body) i.walked.0 (entries_fields (suc fewer) (reserved 8 done)) left end here (b (entries_fields fewer (reserved 8 done)))

-- no entry is left
at-last : (body : List ℕ) (count : ℕ) (left : List ℕ) → count ≡ 0 → (i : InEntries body count left) → Onward 2 au_info_table (bits body) i.walked.0 last_byte left
unfolding entries_fields
at-last body count left e i = rw e at i.walked.1

pub last-breaks : (body : List ℕ) (count : ℕ) (left : List ℕ) (end : HeadEnd) → count ≡ 0 → InEntries body count left → BreaksReserved 0 8 left end → BreaksFields body end
last-breaks body count left end e i b =
    onward-fails 2 au_info_table (bits body) i.walked.0 last_byte left end (at-last body count left e i) (reserved-breaks done 0 8 last_byte left end here b)

pub last-inside : (body : List ℕ) (count : ℕ) (left after : List ℕ) (n : ℕ) → InEntries body count left → PassesReserved 0 8 left after → n ≡ length after → n / 8 ≤ length body
last-inside body count left after n i p e = omega (arith, i.inside, shorter 0 8 left after p)

pub fields-pass : (body : List ℕ) (count : ℕ) (left after bytes : List ℕ) (n : ℕ) → count ≡ 0 → InEntries body count left → PassesReserved 0 8 left after → n ≡ length after
    → bytes ≡ drop (length body - n / 8) body → PassesFields body bytes
fields-pass body count left after bytes n e i p len b =
    let more = reserved-pass done 0 8 last_byte left after here p in
    record {
      values = i.walked.0 ++ more.0;
      left = after;
      walked = onward-done 2 au_info_table (bits body) (i.walked.0 ++ more.0) after
          (onward-onward 2 au_info_table (bits body) i.walked.0 last_byte left more.0 done after (at-last body count left e i) more.1);
      bytes = b ∙ ap (λ (k : ℕ). drop (length body - k / 8) body) len;
    }
