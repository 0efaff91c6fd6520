-- A file of bytes has a run: an accepted unit is at the start of what is left, or a reader stops there.
use Rattle.std.proofs.Common.{◌≡◌, ◌≢◌, ℕ, zero, suc, ◌+◌, ◌<◌, ◌≤◌, List, [], ◌∷◌, ◌++◌, length, take, drop, refl, sym, ap, ap₂, ◌∙◌, subst, arith, lit<, append_assoc, append-nil, length-append, length-drop, inl, inr}
use Rattle.std.proofs.lemmas.Bool.{cases_lt}
use Rattle.std.proofs.lemmas.Grind.{flat_map-append}
use Rattle.std.proofs.lemmas.List.{take-append-drop, length-take-le}
use Rattle.apv_base.specs.declared.rules.Rule.TheVariants.{V1, V2}
use Rattle.apv_base.specs.declared.rules.Limit.TheVariants.{L1, L3}
use Rattle.apv_base.specs.declared.exits.Exit.{Exit}
use Rattle.apv_base.specs.declared.exits.Exit.TheVariants.{Done, Broken, LimitMet}
use Rattle.apv_base.specs.laws.Run.{JudgesOnce, JudgesAll, GivesRuns, HasSomeRun}
use Rattle.apv_base.specs.model.Answer.{place_of}
use Rattle.apv_base.specs.model.Bits.{be, number, AreBytes}
use Rattle.apv_base.specs.model.Run.{MAX_UNIT, MAX_UNITS, sized, SizedAt, HasAuSize, SizeStops, at_end, full, no_size, large, cut, Judgement, AreAccepted, spelled, AcceptedPrefix, by_size, refused}
use Rattle.apv_base.proofs.DigitsLemmas.{digits-number, digits-drop, digits-take}
use Rattle.apv_base.proofs.OneRunLemmas.{sized-length, has-one-run}
use Rattle.apv_base.proofs.SplitLemmas.{parted, inside, last}

-- ---- sizes

-- four bytes and as many as they spell are a unit of a permitted size
sized-at : (xs : List ℕ) (size : ℕ) → AreBytes xs → HasAuSize xs size → size ≤ MAX_UNIT → 4 + size ≤ length xs → SizedAt xs (take size (drop 4 xs)) (drop size (drop 4 xs))
sized-at xs size bytes has le fits =
    let within : size ≤ length (drop 4 xs) = omega (arith, length-drop 4 xs) in
    let len : length (take size (drop 4 xs)) ≡ size = length-take-le size (drop 4 xs) within in
    let four : length (take 4 xs) ≡ 4 = length-take-le 4 xs has.long in
    let spelled : be 4 size ≡ take 4 xs = ap₂ be (sym four) has.is ∙ digits-number 256 (take 4 xs) (lit< tt) (digits-take 256 4 xs (lit< tt) bytes) in
    let prefix : be 4 (length (take size (drop 4 xs))) ≡ take 4 xs = ap (be 4) len ∙ spelled in
    record {
      bytes = sym (take-append-drop 4 xs) ∙ (ap₂ (λ (a b : List ℕ). a ++ b) (sym prefix) (sym (take-append-drop size (drop 4 xs)))
          ∙ sym (append_assoc (be 4 (length (take size (drop 4 xs)))) (take size (drop 4 xs)) (drop size (drop 4 xs))));
      small = omega arith;
    }

-- a unit of a permitted size is at the start, or its size stops a reader there
data SizedOr (n : ℕ) (xs : List ℕ) : Type 0 where
  whole : (unit after : List ℕ) → n < MAX_UNITS → AreBytes unit → AreBytes after → SizedAt xs unit after → SizedOr n xs
  stops : (exit : Exit) → SizeStops n xs exit → SizedOr n xs

-- by its size; by what is left
sized-size-or : (n : ℕ) (xs : List ℕ) (size : ℕ) → n < MAX_UNITS → AreBytes xs → HasAuSize xs size → SizedOr n xs
sized-size-or n xs size lt bytes has = elim (cases_lt MAX_UNIT size) [
  | inl above ↦ stops (LimitMet L1 size) (large size lt has above)
  | inr le ↦ elim (cases_lt (length xs) (4 + size)) [
    | inl short ↦ stops (Broken (record { rule = V2; place = place_of n 0 })) (cut size lt has le short)
    | inr fits ↦ (let later : AreBytes (drop 4 xs) = digits-drop 256 4 xs bytes in
        whole (take size (drop 4 xs)) (drop size (drop 4 xs)) lt (digits-take 256 size (drop 4 xs) (lit< tt) later) (digits-drop 256 size (drop 4 xs) later) (sized-at xs size bytes has le fits))
  ]
]

sized-bytes-or : (n : ℕ) (xs : List ℕ) → xs ≢ [] → n < MAX_UNITS → AreBytes xs → SizedOr n xs
sized-bytes-or n xs ne lt bytes = elim (cases_lt (length xs) 4) [
  | inl short ↦ stops (Broken (record { rule = V1; place = place_of n 0 })) (no_size ne lt short)
  | inr long ↦ sized-size-or n xs (number 256 (take 4 xs)) lt bytes (record { long = long; is = refl })
]

sized-or : (n : ℕ) (xs : List ℕ) → n ≤ MAX_UNITS → AreBytes xs → SizedOr n xs
sized-or n [] le bytes = stops Done (at_end refl)
sized-or n (x ∷ xs) le bytes = elim (cases_lt n MAX_UNITS) [
  | inl lt ↦ sized-bytes-or n (x ∷ xs) (λ e. let no : ⊥ = cc in no) lt bytes
  | inr ge ↦ stops (LimitMet L3 (MAX_UNITS + 1)) (full (λ e. let no : ⊥ = cc in no) (omega arith))
]

-- ---- one more unit

pub accepted-none : {A : Type 0} (j : Judgement A) → AreAccepted j []
accepted-none {A} j before unit later e = absurd (omega (arith, ap (length {A = A}) e, length-append before (unit ∷ later)))

pub accepted-push : {A : Type 0} (j : Judgement A) (us : List A) (u : A) → AreAccepted j us → length (j.bytes u) ≤ MAX_UNIT → j.Accepts us u → AreAccepted j (us ++ u ∷ [])
accepted-push {A} j us u all small accepts before v later e = elim (parted us u before v later e) [
  | inside more f ↦ all before v more f
  | last f g ↦ (subst (λ (w : A). length (j.bytes w) ≤ MAX_UNIT) g small, subst (λ (w : A). j.Accepts before w) g (subst (λ (xs : List A). j.Accepts xs u) f accepts))
]

pub spelled-push : {A : Type 0} (j : Judgement A) (us : List A) (u : A) → spelled j (us ++ u ∷ []) ≡ spelled j us ++ sized (j.bytes u)
spelled-push {A} j us u = flat_map-append (λ (w : A). sized (j.bytes w)) us (u ∷ []) ∙ ap (λ (xs : List ℕ). spelled j us ++ xs) (append-nil (sized (j.bytes u)))

prefix-push : {A : Type 0} (j : Judgement A) (file : List ℕ) (us : List A) (u : A) (xs after : List ℕ) → AcceptedPrefix j file us xs → length us < MAX_UNITS → SizedAt xs (j.bytes u) after → j.Accepts us u
    → AcceptedPrefix j file (us ++ u ∷ []) after
prefix-push j file us u xs after prefix lt at accepts = record {
  parts = prefix.parts ∙ ap (λ (x : List ℕ). spelled j us ++ x) at.bytes ∙ sym (append_assoc (spelled j us) (sized (j.bytes u)) after) ∙ ap (λ (x : List ℕ). x ++ after) (sym (spelled-push j us u));
  count = omega (arith, length-append us (u ∷ []));
  accepted = accepted-push j us u prefix.accepted at.small accepts;
}

prefix-none : {A : Type 0} (j : Judgement A) (file : List ℕ) → AcceptedPrefix j file [] file
prefix-none j file = record { parts = refl; count = omega arith; accepted = accepted-none j }

-- ---- runs

-- a run that has these units first
run-within : {A : Type 0} (j : Judgement A) → JudgesAll j → (file : List ℕ) (bound : ℕ) (us : List A) (xs : List ℕ) → length xs < bound → AreBytes xs → AcceptedPrefix j file us xs → HasSomeRun j file
run-within j judges file zero us xs lt bytes prefix = absurd (omega arith)
run-within {A} j judges file (suc bound) us xs lt bytes prefix = elim (sized-or (length us) xs prefix.count bytes) [
  | stops exit s ↦ (us, exit, record { rest = xs; prefix = prefix; stops = by_size exit s })
  | whole unit after more unit_bytes later at ↦ elim (judges us unit prefix.accepted unit_bytes at.small) [
    | inr r ↦ (us, r.0, record { rest = xs; prefix = prefix; stops = refused r.0 unit after more at r.1 })
    | inl u ↦ run-within j judges file bound (us ++ u.0 ∷ []) after (omega (arith, sized-length xs unit after at)) later
        (prefix-push j file us u.0 xs after prefix more (subst (λ (b : List ℕ). SizedAt xs b after) (sym u.1.0) at) u.1.1)
  ]
]

pub some-run : {A : Type 0} (j : Judgement A) → JudgesAll j → (file : List ℕ) → AreBytes file → HasSomeRun j file
some-run j judges file bytes = run-within j judges file (suc (length file)) [] file (omega arith) bytes (prefix-none j file)

-- a judgement that judges all bytes in one way gives each file of bytes one run
pub gives-runs : {A : Type 0} (j : Judgement A) → JudgesOnce j → JudgesAll j → GivesRuns j
gives-runs j once judges = record { one = has-one-run j once; some = some-run j judges }
