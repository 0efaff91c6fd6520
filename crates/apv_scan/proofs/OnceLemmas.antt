-- A list of bits has at most one reading as a block.
use Rattle.std.proofs.Common.{◌≡◌, ℕ, zero, suc, ℤ, pos, negsuc, neg_ℤ, ◌+ℤ◌, ◌-ℤ◌, ◌+◌, ◌-◌, ◌/◌, ◌<◌, ◌≤◌, ◌≢◌, ◌++◌, ◌⊎◌, min, length, List, [], ◌∷◌, unsigned_abs, eqb, cond, refl, sym, ap, ap₂, ◌∙◌, ⊎_elim, inl, inr, arith}
use Rattle.std.proofs.lemmas.Bool.{cases_lt, cases_eq, ne_eqb}
use Rattle.std.proofs.lemmas.Int.{ints}
use Rattle.std.proofs.lemmas.List.{append-nil, append_assoc}
use Rattle.apv_base.specs.declared.rules.Rule.{Rule}
use Rattle.apv_base.specs.declared.rules.Rule.TheVariants.{V27, V28, V29, V30}
use Rattle.apv_base.specs.model.CodeWord.{code_word}
use Rattle.apv_base.specs.model.Quant.{IsLevel}
use Rattle.apv_base.specs.model.Block.{Context, IsContext, Element, coded_value, sign_bit, element_bits, bits_of, sign_of, places, level_elements, ac_elements, ac_from, elements, block_bits, AreLevels, signed, ArePermitted, BreaksAt, HasCodableLevels, BlockBreaks}
use Rattle.apv_base.proofs.CodeWordLemmas.{prefix_free, code_word_reading}
use Rattle.apv_scan.specs.BlockBreak.{rule_of}
use Rattle.apv_scan.specs.Laws.{HasOneBlock, IsWholeOrBroken, HasOneBreak}
use Rattle.apv_scan.specs.declared.block_break.BlockBreak.{BlockBreak}
use Rattle.apv_scan.specs.declared.block_break.BlockBreak.TheVariants.{Ends, Over, Run, Level}
use Rattle.apv_scan.proofs.ElementLemmas.{places_zero, places_level, AreRising, places_rise, ac_elements-end, ac_elements-full, ac_elements-cons}

-- the same kind of element, apart from its value
abbrev pub SameShape : Element → Element → Type 0
SameShape (coded_value k l m v) (coded_value k' l' m' v') = (k ≡ k') × (l ≡ l') × (m ≡ m')
SameShape (coded_value k l m v) (sign_bit p q s) = ⊥
SameShape (sign_bit p q s) (coded_value k l m v) = ⊥
SameShape (sign_bit p q s) (sign_bit p' q' s') = (p ≡ p') × (q ≡ q')

-- as long as two lists of elements are equal, the next are of one kind
abbrev pub Alike : List Element → List Element → Type 0
Alike [] [] = Unit {0}
Alike [] (f ∷ fs) = ⊥
Alike (e ∷ es) [] = ⊥
Alike (e ∷ es) (f ∷ fs) = SameShape e f × (e ≡ f → Alike es fs)

-- the value of an element is one that a block has there
abbrev pub IsSound : Element → Type 0
IsSound (coded_value k l m v) = (v ≤ l) × (v ≤ m)
IsSound (sign_bit p q s) = IsLevel (signed p q s)

abbrev pub AreSound : List Element → Type 0
AreSound [] = Unit {0}
AreSound (e ∷ es) = IsSound e × AreSound es

equal_heads : (e f : Element) (x y : List ℕ) → SameShape e f → element_bits e ++ x ≡ element_bits f ++ y → (e ≡ f) × (x ≡ y)
equal_heads (coded_value k l m v) (coded_value k' l' m' v') x y (ek, el, em) same =
    let both : (v ≡ v') × (x ≡ y) = prefix_free k v v' x y (same ∙ ap (λ n. code_word n v' ++ y) (sym ek)) in
    (ap₂ (λ a b. coded_value a b m v) ek el ∙ ap₂ (λ a b. coded_value k' l' a b) em both.0, both.1)
equal_heads (coded_value k l m v) (sign_bit p q s) x y shape same = elim shape [ ]
equal_heads (sign_bit p q s) (coded_value k l m v) x y shape same = elim shape [ ]
equal_heads (sign_bit p q s) (sign_bit p' q' s') x y (ep, eq) same =
    let es : s ≡ s' = cc in
    (ap₂ (λ a b. sign_bit a b s) ep eq ∙ ap (sign_bit p' q') es, cc)

-- two lists of elements whose bits begin one list are equal, or one goes on where the other ends
data Compared (a b r t : List Element) (x y : List ℕ) : Type 0 where
  same : a ≡ b → Alike r t → x ≡ y → Compared a b r t x y
  shorter : (e : Element) (more : List Element) (rest : List ℕ) → IsSound e → Alike r (e ∷ more) → x ≡ element_bits e ++ rest → Compared a b r t x y
  longer : (e : Element) (more : List Element) (rest : List ℕ) → IsSound e → Alike (e ∷ more) t → y ≡ element_bits e ++ rest → Compared a b r t x y

cons_compared : (e f : Element) (a b r t : List Element) (x y : List ℕ) → e ≡ f → Compared a b r t x y → Compared (e ∷ a) (f ∷ b) r t x y
cons_compared e f a b r t x y h (same p q s) = same (ap₂ (λ c d. c ∷ d) h p) q s
cons_compared e f a b r t x y h (shorter g more rest p q s) = shorter g more rest p q s
cons_compared e f a b r t x y h (longer g more rest p q s) = longer g more rest p q s

compared : (a b r t : List Element) (x y : List ℕ) → Alike (a ++ r) (b ++ t) → AreSound a → AreSound b → bits_of a ++ x ≡ bits_of b ++ y → Compared a b r t x y
compared [] [] r t x y alike sa sb e = same refl alike e
compared [] (f ∷ b) r t x y alike sa sb e = shorter f (b ++ t) (bits_of b ++ y) sb.0 alike (e ∙ append_assoc (element_bits f) (bits_of b) y)
compared (g ∷ a) [] r t x y alike sa sb e = longer g (a ++ r) (bits_of a ++ x) sa.0 alike (sym e ∙ append_assoc (element_bits g) (bits_of a) x)
compared (g ∷ a) (f ∷ b) r t x y alike sa sb e =
    let both : (g ≡ f) × (bits_of a ++ x ≡ bits_of b ++ y) =
    equal_heads g f (bits_of a ++ x) (bits_of b ++ y) alike.0
    (sym (append_assoc (element_bits g) (bits_of a) x) ∙ e ∙ append_assoc (element_bits f) (bits_of b) y) in
    cons_compared g f a b r t x y both.0 (compared a b r t x y (alike.1 both.0) sa.1 sb.1 both.1)

-- ---- a break has nothing sound after it

-- the rules that a block breaks are four
why_of : (e : Element) (rule : Rule) (left : List ℕ) → BreaksAt e rule left → (why : BlockBreak) × (rule ≡ rule_of why)
why_of (coded_value k l m v) V27 left b = (Ends, refl)
why_of (coded_value k l m v) V28 left b = (Over, refl)
why_of (coded_value k l m v) V29 left b = (Run, refl)
why_of (coded_value k l m v) rule left b = absurd b
why_of (sign_bit p q s) V27 left b = (Ends, refl)
why_of (sign_bit p q s) V30 left b = (Level, refl)
why_of (sign_bit p q s) rule left b = absurd b

no_value_there : (k l m v w : ℕ) (why : BlockBreak) (x rest : List ℕ) → BreaksAt (coded_value k l m w) (rule_of why) x → v ≤ l → v ≤ m → x ≡ code_word k v ++ rest → ⊥
no_value_there k l m v w Ends x rest b hl hm e = (code_word_reading k).ends l x v (hl, (rest, e)) b
no_value_there k l m v w Over x rest b hl hm e = b.0 v (hl, (rest, e))
no_value_there k l m v w Run x rest (u, has, above) hl hm e = let same : u ≡ v = (code_word_reading k).value l x u v has (hl, (rest, e)) in omega arith
no_value_there k l m v w Level x rest b hl hm e = b

not_sound_there : (e f : Element) (why : BlockBreak) (x rest : List ℕ) → BreaksAt e (rule_of why) x → SameShape e f → IsSound f → x ≡ element_bits f ++ rest → ⊥
not_sound_there (coded_value k l m v) (coded_value k' l' m' v') why x rest b (ek, el, em) (hl, hm) e =
    no_value_there k l m v' v why x rest b (rw el hl) (rw em hm) (e ∙ ap (λ n. code_word n v' ++ rest) (sym ek))
not_sound_there (coded_value k l m v) (sign_bit p q s) why x rest b shape sound e = shape
not_sound_there (sign_bit p q s) (coded_value k l m v) why x rest b shape sound e = shape
not_sound_there (sign_bit p q s) (sign_bit p' q' s') Ends x rest b shape sound e = absurd (omega (arith, ap length (sym b ∙ e)))
not_sound_there (sign_bit p q s) (sign_bit p' q' s') Over x rest b shape sound e = b
not_sound_there (sign_bit p q s) (sign_bit p' q' s') Run x rest b shape sound e = b
not_sound_there (sign_bit p q s) (sign_bit p' q' s') Level x rest (g, r, has, bad) (ep, eq) sound e =
    let both : g ∷ r ≡ s' ∷ rest = sym has ∙ e in
    let eg : g ≡ s' = cc in
    bad (rw (ep, eq, eg) sound)

-- one break at one element
one_at_number : (k l m v w : ℕ) (why why' : BlockBreak) (x : List ℕ) → BreaksAt (coded_value k l m v) (rule_of why) x → BreaksAt (coded_value k l m w) (rule_of why') x → why ≡ why'
one_at_number k l m v w Ends Ends x b c = refl
one_at_number k l m v w Ends Over x b c = absurd (c.1 b)
one_at_number k l m v w Ends Run x b (u, has, above) = absurd ((code_word_reading k).ends l x u has b)
one_at_number k l m v w Ends Level x b c = absurd c
one_at_number k l m v w Over Ends x b c = absurd (b.1 c)
one_at_number k l m v w Over Over x b c = refl
one_at_number k l m v w Over Run x b (u, has, above) = absurd (b.0 u has)
one_at_number k l m v w Over Level x b c = absurd c
one_at_number k l m v w Run Ends x (u, has, above) c = absurd ((code_word_reading k).ends l x u has c)
one_at_number k l m v w Run Over x (u, has, above) c = absurd (c.0 u has)
one_at_number k l m v w Run Run x b c = refl
one_at_number k l m v w Run Level x b c = absurd c
one_at_number k l m v w Level why' x b c = absurd b

one_at_sign : (p q : ℤ) (s t : ℕ) (why why' : BlockBreak) (x : List ℕ) → BreaksAt (sign_bit p q s) (rule_of why) x → BreaksAt (sign_bit p q t) (rule_of why') x → why ≡ why'
one_at_sign p q s t Ends Ends x b c = refl
one_at_sign p q s t Ends Over x b c = absurd c
one_at_sign p q s t Ends Run x b c = absurd c
one_at_sign p q s t Ends Level x b (g, r, has, bad) = absurd (omega (arith, ap length (sym b ∙ has)))
one_at_sign p q s t Over why' x b c = absurd b
one_at_sign p q s t Run why' x b c = absurd b
one_at_sign p q s t Level Ends x (g, r, has, bad) c = absurd (omega (arith, ap length (sym c ∙ has)))
one_at_sign p q s t Level Over x b c = absurd c
one_at_sign p q s t Level Run x b c = absurd c
one_at_sign p q s t Level Level x b c = refl

one_why : (e f : Element) (why why' : BlockBreak) (x : List ℕ) → SameShape e f → BreaksAt e (rule_of why) x → BreaksAt f (rule_of why') x → why ≡ why'
one_why (coded_value k l m v) (coded_value k' l' m' v') why why' x (ek, el, em) b c = one_at_number k l m v v' why why' x b (rw (ek, el, em) c)
one_why (coded_value k l m v) (sign_bit p q s) why why' x shape b c = absurd shape
one_why (sign_bit p q s) (coded_value k l m v) why why' x shape b c = absurd shape
one_why (sign_bit p q s) (sign_bit p' q' s') why why' x (ep, eq) b c = one_at_sign p q s s' why why' x b (rw (ep, eq) c)

shape_sym : (e f : Element) → SameShape e f → SameShape f e
shape_sym (coded_value k l m v) (coded_value k' l' m' v') (ek, el, em) = (sym ek, sym el, sym em)
shape_sym (coded_value k l m v) (sign_bit p q s) shape = shape
shape_sym (sign_bit p q s) (coded_value k l m v) shape = shape
shape_sym (sign_bit p q s) (sign_bit p' q' s') (ep, eq) = (sym ep, sym eq)

-- the same by the rules
not_there : (e f : Element) (rule : Rule) (x rest : List ℕ) → BreaksAt e rule x → SameShape e f → IsSound f → x ≡ element_bits f ++ rest → ⊥
not_there e f rule x rest b shape sound is =
    let why : (why : BlockBreak) × (rule ≡ rule_of why) = why_of e rule x b in
    not_sound_there e f why.0 x rest (rw why.1 at b) shape sound is

one_rule : (e f : Element) (rule other : Rule) (x : List ℕ) → SameShape e f → BreaksAt e rule x → BreaksAt f other x → rule ≡ other
one_rule e f rule other x shape b c =
    let why : (why : BlockBreak) × (rule ≡ rule_of why) = why_of e rule x b in
    let why' : (why : BlockBreak) × (other ≡ rule_of why) = why_of f other x c in
    why.1 ∙ ap rule_of (one_why e f why.0 why'.0 x shape (rw why.1 at b) (rw why'.1 at c)) ∙ sym why'.1

-- ---- the elements of two blocks are alike

alike_ac : (y z : ℕ → ℤ) (a run level : ℕ) (ps qs : List ℕ) → AreRising y a ps → AreRising z a qs → Alike (ac_elements y a run level ps) (ac_elements z a run level qs)
alike_ac y z a run level [] [] rp rq =
    ⊎_elim
    (λ (lt : a < 63). rw (ac_elements-end y a run level lt, ac_elements-end z a run level lt) ((refl, refl, refl), λ e. tt {0}))
    (λ (le : 63 ≤ a). rw (ac_elements-full y a run level le, ac_elements-full z a run level le) (tt {0}))
    (cases_lt a 63)
alike_ac y z a run level [] (c ∷ cs) rp rq =
    let lt : a < 63 = omega (arith, rq.0, rq.1) in
    rw (ac_elements-end y a run level lt, ac_elements-cons z a run level c cs)
    ((refl, refl, refl), λ e. let n : 63 - a ≡ c - a - 1 = cc in absurd (omega (arith, rq.0, rq.1)))
alike_ac y z a run level (b ∷ bs) [] rp rq =
    let lt : a < 63 = omega (arith, rp.0, rp.1) in
    rw (ac_elements-end z a run level lt, ac_elements-cons y a run level b bs)
    ((refl, refl, refl), λ e. let n : b - a - 1 ≡ 63 - a = cc in absurd (omega (arith, rp.0, rp.1)))
alike_ac y z a run level (b ∷ bs) (c ∷ cs) rp rq =
    rw (ac_elements-cons y a run level b bs, ac_elements-cons z a run level c cs) (
      (refl, refl, refl),
      λ e1.
          let n : b - a - 1 ≡ c - a - 1 = cc in
          let here : c ≡ b = omega (arith, rp.0, rq.0) in (
            (refl, refl, refl),
            λ e2.
                let m : unsigned_abs (y b) - 1 ≡ unsigned_abs (z c) - 1 = cc in
                let size : unsigned_abs (z c) ≡ unsigned_abs (y b) = omega (arith, rp.2, rq.2) in (
                  (ap pos (sym size), ap (λ k. neg_ℤ (pos k)) (sym size)),
                  λ e3.
                      rw (size, here) (alike_ac y z b (b - a - 1) (unsigned_abs (y b)) bs cs rp.3 (rw here at rq.3)),
                ),
          ),
    )

-- the sign of a step, if it isn't 0
abbrev pub step_sign : ℤ → ℕ → ℕ → List Element
step_sign dc size s = cond (eqb size 0) [] (sign_bit (dc +ℤ pos size) (dc -ℤ pos size) s ∷ [])

alike_step : (dc : ℤ) (k d d' s s' : ℕ) (r t : List Element) → Alike r t
    → Alike (coded_value k 65535 65535 d ∷ (step_sign dc d s ++ r)) (coded_value k 65535 65535 d' ∷ (step_sign dc d' s' ++ t))
alike_step dc k d d' s s' r t alike = (
  (refl, refl, refl),
  λ e.
      let n : d' ≡ d = cc in
      ⊎_elim
      (λ (none : d ≡ 0). rw (n, none) alike)
      (λ (some : d ≢ 0). rw (n, ne_eqb d 0 some) ((refl, refl), λ f. alike))
      (cases_eq d 0),
)

same_kind : (y z : ℕ → ℤ) (context : Context) → Alike (elements context y) (elements context z)
same_kind y z context =
    alike_step context.dc (min 5 (context.diff / 2)) (unsigned_abs (y 0 -ℤ context.dc)) (unsigned_abs (z 0 -ℤ context.dc)) (sign_of (y 0 -ℤ context.dc)) (sign_of (z 0 -ℤ context.dc))
    (ac_from y 0 0 context.first 1) (ac_from z 0 0 context.first 1)
    (alike_ac y z 0 0 context.first (places y 63 1) (places z 63 1) (places_rise y 63 1 0 (omega arith) (omega arith)) (places_rise z 63 1 0 (omega arith) (omega arith)))

-- ---- the values of a block are sound

abbrev pub AreFit : List Element → Type 0
AreFit [] = Unit {0}
AreFit (coded_value k l m v ∷ es) = (v ≤ l) × (v ≤ m) × AreFit es
AreFit (sign_bit p q s ∷ es) = AreFit es

fit_prefix : (a b : List Element) → AreFit (a ++ b) → AreFit a
fit_prefix [] b h = tt {0}
fit_prefix (coded_value k l m v ∷ a) b h = (h.0, h.1, fit_prefix a b h.2)
fit_prefix (sign_bit p q s ∷ a) b h = fit_prefix a b h

sound_from : (a : List Element) → AreFit a → ArePermitted a → AreSound a
sound_from [] f p = tt {0}
sound_from (coded_value k l m v ∷ a) f p = ((f.0, f.1), sound_from a f.2 p.1)
sound_from (sign_bit x y s ∷ a) f p = (p.0, sound_from a f p.1)

fit_ac : (z : ℕ → ℤ) (a run level : ℕ) (ps : List ℕ) → AreRising z a ps → ((p : ℕ) → 0 < p → unsigned_abs (z p) ≤ 32768) → AreFit (ac_elements z a run level ps)
fit_ac z a run level [] r wide =
    ⊎_elim
    (λ (lt : a < 63). rw (ac_elements-end z a run level lt) (omega arith, omega arith, tt {0}))
    (λ (le : 63 ≤ a). rw (ac_elements-full z a run level le) (tt {0}))
    (cases_lt a 63)
fit_ac z a run level (b ∷ bs) r wide =
    rw (ac_elements-cons z a run level b bs)
    (omega (arith, r.1), omega (arith, r.1), (omega (arith, wide b (omega (arith, r.0))), omega (arith, wide b (omega (arith, r.0))), fit_ac z b (b - a - 1) (unsigned_abs (z b)) bs r.3 wide))

fit_step : (dc : ℤ) (k d s : ℕ) (r : List Element) → d ≤ 65535 → AreFit r → AreFit (coded_value k 65535 65535 d ∷ (step_sign dc d s ++ r))
fit_step dc k d s r small f = (
  small,
  small,
  ⊎_elim
      (λ (none : d ≡ 0). rw none f)
      (λ (some : d ≢ 0). rw (ne_eqb d 0 some) f)
      (cases_eq d 0),
)

fit : (context : Context) (z : ℕ → ℤ) → HasCodableLevels context z → AreFit (elements context z)
fit context z wide =
    fit_step context.dc (min 5 (context.diff / 2)) (unsigned_abs (z 0 -ℤ context.dc)) (sign_of (z 0 -ℤ context.dc)) (ac_from z 0 0 context.first 1) wide.dc
    (fit_ac z 0 0 context.first (places z 63 1) (places_rise z 63 1 0 (omega arith) (omega arith)) wide.ac)

-- the level of its size and sign is the level
pub signed_size : (l : ℤ) → signed (pos (unsigned_abs l)) (neg_ℤ (pos (unsigned_abs l))) (sign_of l) ≡ l
signed_size (pos n) = refl
signed_size (negsuc n) = refl

-- the level at a step from another
pub signed_step : (dc level step : ℤ) → step ≡ level -ℤ dc → signed (dc +ℤ pos (unsigned_abs step)) (dc -ℤ pos (unsigned_abs step)) (sign_of step) ≡ level
signed_step dc level (pos n) e = omega (arith, ints)
signed_step dc level (negsuc n) e = omega (arith, ints)

permitted_ac : (z : ℕ → ℤ) (a run level : ℕ) (ps : List ℕ) → AreLevels z → ArePermitted (ac_elements z a run level ps)
permitted_ac z a run level [] levels =
    ⊎_elim
    (λ (lt : a < 63). rw (ac_elements-end z a run level lt) (tt {0}, tt {0}))
    (λ (le : 63 ≤ a). rw (ac_elements-full z a run level le) (tt {0}))
    (cases_lt a 63)
permitted_ac z a run level (b ∷ bs) levels =
    rw (ac_elements-cons z a run level b bs)
    (tt {0}, (tt {0}, (rw (signed_size (z b)) (levels b), permitted_ac z b (b - a - 1) (unsigned_abs (z b)) bs levels)))

pub permitted_step : (dc : ℤ) (k d s : ℕ) (r : List Element) → IsLevel (signed (dc +ℤ pos d) (dc -ℤ pos d) s) → ArePermitted r
    → ArePermitted (coded_value k 65535 65535 d ∷ (step_sign dc d s ++ r))
permitted_step dc k d s r level p = (
  tt {0},
  ⊎_elim
      (λ (none : d ≡ 0). rw none p)
      (λ (some : d ≢ 0). rw (ne_eqb d 0 some) (level, p))
      (cases_eq d 0),
)

permitted : (context : Context) (z : ℕ → ℤ) → AreLevels z → ArePermitted (elements context z)
permitted context z levels =
    permitted_step context.dc (min 5 (context.diff / 2)) (unsigned_abs (z 0 -ℤ context.dc)) (sign_of (z 0 -ℤ context.dc)) (ac_from z 0 0 context.first 1)
    (rw (signed_step context.dc (z 0) (z 0 -ℤ context.dc) refl) (levels 0)) (permitted_ac z 0 0 context.first (places z 63 1) levels)

pub size_of_level : (l : ℤ) → IsLevel l → unsigned_abs l ≤ 32768
size_of_level (pos n) h = omega arith
size_of_level (negsuc n) h = omega arith

-- two levels are at most 65535 apart
pub size_of_step : (l dc : ℤ) → IsLevel l → IsLevel dc → unsigned_abs (l -ℤ dc) ≤ 65535
size_of_step (pos n) (pos m) h k = omega (arith, ints)
size_of_step (pos n) (negsuc m) h k = omega (arith, ints)
size_of_step (negsuc n) (pos m) h k = omega (arith, ints)
size_of_step (negsuc n) (negsuc m) h k = omega (arith, ints)

pub wide_levels : (context : Context) (z : ℕ → ℤ) → IsContext context → AreLevels z → HasCodableLevels context z
wide_levels context z ok levels = record { dc = size_of_step (z 0) context.dc (levels 0) ok.dc; ac = λ p low. size_of_level (z p) (levels p) }

sound_levels : (context : Context) (z : ℕ → ℤ) → IsContext context → AreLevels z → AreSound (elements context z)
sound_levels context z ok levels = sound_from (elements context z) (fit context z (wide_levels context z ok levels)) (permitted context z levels)

sound_break : (context : Context) (b : List ℕ) (rule : Rule) (k : BlockBreaks context b rule) → AreSound k.breaks.whole
sound_break context b rule k =
    let at = k.breaks in
    sound_from at.whole (fit_prefix at.whole (at.next ∷ at.more) (rw (← at.all) (fit context k.block k.wide))) at.permitted

-- ---- the laws

end_alike : (a b : List Element) → Alike a b → Alike a (b ++ [])
end_alike a b alike = rw (append-nil b) alike

ends_alike : (a b : List Element) → Alike a b → Alike (a ++ []) (b ++ [])
ends_alike a b alike = rw (append-nil a, append-nil b) alike

whole_done : (a b : List Element) (x y : List ℕ) → Compared a b [] [] x y → (a ≡ b) × (x ≡ y)
whole_done a b x y (same p alike q) = (p, q)
whole_done a b x y (shorter e more rest sound alike q) = absurd alike
whole_done a b x y (longer e more rest sound alike q) = absurd alike

-- two blocks of which the one's bits begin the other's have the same elements
pub whole_once : (context : Context) (y z : ℕ → ℤ) (x x' : List ℕ) → IsContext context → AreLevels y → AreLevels z → block_bits context y ++ x ≡ block_bits context z ++ x'
    → (elements context y ≡ elements context z) × (x ≡ x')
whole_once context y z x x' ok ly lz e =
    whole_done (elements context y) (elements context z) x x'
    (compared (elements context y) (elements context z) [] [] x x'
    (ends_alike (elements context y) (elements context z) (same_kind y z context))
    (sound_levels context y ok ly) (sound_levels context z ok lz) e)

break_done : (a b more : List Element) (e : Element) (x y : List ℕ) (rule : Rule) → BreaksAt e rule x → Compared a b (e ∷ more) [] x y → ⊥
break_done a b more e x y rule at (same p alike q) = alike
break_done a b more e x y rule at (shorter f rest t sound alike q) = not_there e f rule x t at alike.0 sound q
break_done a b more e x y rule at (longer f rest t sound alike q) = alike

-- bits that break don't begin with a whole block
pub whole_or_broken : (context : Context) (b : List ℕ) → IsContext context → IsWholeOrBroken context b
whole_or_broken context b ok z x rule levels e k =
    let p = k.breaks in
    break_done p.whole (elements context z) p.more p.next p.left x rule p.at
    (compared p.whole (elements context z) (p.next ∷ p.more) [] p.left x
    (end_alike (p.whole ++ p.next ∷ p.more) (elements context z) (rw (← p.all) (same_kind k.block z context)))
    (sound_break context b rule k) (sound_levels context z ok levels) (sym p.prefix ∙ e))

breaks_done : (a b more more' : List Element) (e f : Element) (x y : List ℕ) (rule other : Rule) → BreaksAt e rule x → BreaksAt f other y
    → Compared a b (e ∷ more) (f ∷ more') x y → rule ≡ other
breaks_done a b more more' e f x y rule other p q (same r alike s) = one_rule e f rule other x alike.0 p (rw s q)
breaks_done a b more more' e f x y rule other p q (shorter g rest t sound alike s) = absurd (not_there e g rule x t p alike.0 sound s)
breaks_done a b more more' e f x y rule other p q (longer g rest t sound alike s) = absurd (not_there f g other y t q (shape_sym g f alike.0) sound s)

-- bits break in one way at most
pub one_break : (context : Context) (b : List ℕ) → HasOneBreak context b
one_break context b rule other k l =
    let p = k.breaks in
    let q = l.breaks in
    breaks_done p.whole q.whole p.more q.more p.next q.next p.left q.left rule other p.at q.at
    (compared p.whole q.whole (p.next ∷ p.more) (q.next ∷ q.more) p.left q.left
    (rw (← p.all, ← q.all) (same_kind k.block l.block context))
    (sound_break context b rule k) (sound_break context b other l) (sym p.prefix ∙ q.prefix))

-- ---- equal elements are those of equal levels

-- after the place a a run of r zeros or more comes first
record RunsOn (a r : ℕ) (list : List Element) : Type 0 where
  k : ℕ
  size : ℕ
  more : List Element
  far : r ≤ size
  is : list ≡ coded_value k 63 (63 - a) size ∷ more

runs_on : (z : ℕ → ℤ) (a run level r : ℕ) (ps : List ℕ) → a < 63 → a + r ≤ 63 → AreRising z (a + r) ps → RunsOn a r (ac_elements z a run level ps)
runs_on z a run level r [] low within rising =
    record { k = min 2 (run / 4); size = 63 - a; more = []; far = omega arith; is = ac_elements-end z a run level low }
runs_on z a run level r (b ∷ bs) low within rising = record {
  k = min 2 (run / 4);
  size = b - a - 1;
  more = coded_value (min 4 (level / 4)) 32767 32767 (unsigned_abs (z b) - 1) ∷ sign_bit (pos (unsigned_abs (z b))) (neg_ℤ (pos (unsigned_abs (z b)))) (sign_of (z b))
      ∷ ac_elements z b (b - a - 1) (unsigned_abs (z b)) bs;
  far = omega (arith, rising.0);
  is = ac_elements-cons z a run level b bs;
}

-- where the one has a level and the other none
uneven : (y z : ℕ → ℤ) (a run level p n : ℕ) (bs : List ℕ) → a < p → p + suc n ≡ 64
    → ac_elements y a run level (places y n (suc p)) ≡ ac_elements z a run level (p ∷ bs) → ⊥
uneven y z a run level p n bs low end e =
    let m : a + (p - a) ≡ p = omega arith in
    let rising : AreRising y (a + (p - a)) (places y n (suc p)) = rw m (places_rise y n (suc p) p (omega arith) (omega arith)) in
    let far : RunsOn a (p - a) (ac_elements y a run level (places y n (suc p))) =
    runs_on y a run level (p - a) (places y n (suc p)) (omega arith) (omega arith) rising in
    let both : coded_value far.k 63 (63 - a) far.size ∷ far.more
    ≡ level_elements a run (p - a - 1) level (unsigned_abs (z p)) (sign_of (z p)) ++ ac_elements z p (p - a - 1) (unsigned_abs (z p)) bs =
    sym far.is ∙ e ∙ ac_elements-cons z a run level p bs in
    let size : far.size ≡ p - a - 1 = cc in
    omega (arith, far.far)

both_zero : (x y : ℤ) → unsigned_abs x ≡ 0 → unsigned_abs y ≡ 0 → x ≡ y
both_zero x y p q = omega (arith, ints)

same_size : (x y : ℤ) → unsigned_abs x ≡ unsigned_abs y → sign_of x ≡ sign_of y → x ≡ y
same_size x y p q = sym (signed_size x) ∙ ap₂ (λ n s. signed (pos n) (neg_ℤ (pos n)) s) p q ∙ signed_size y

-- the heads and tails of equal lists of a level's elements and more
level_same : (a run r level size other s t : ℕ) (x y : List Element) → 0 < size → 0 < other
    → level_elements a run r level size s ++ x ≡ level_elements a run r level other t ++ y → (size ≡ other) × (s ≡ t) × (x ≡ y)
level_same a run r level size other s t x y more most e =
    let n : size - 1 ≡ other - 1 = cc in
    (omega arith, cc, cc)

pub same_levels : (y z : ℕ → ℤ) (n p a run level : ℕ) → p + n ≡ 64 → a < p → ac_elements y a run level (places y n p) ≡ ac_elements z a run level (places z n p)
    → (q : ℕ) → p ≤ q → q < 64 → y q ≡ z q
same_levels y z zero p a run level end low e q from to = absurd (omega arith)
same_levels y z (suc n) p a run level end low e q from to =
    ⊎_elim
    (λ (y0 : unsigned_abs (y p) ≡ 0). ⊎_elim
    (λ (z0 : unsigned_abs (z p) ≡ 0). ⊎_elim
    (λ (here : q ≡ p). rw here (both_zero (y p) (z p) y0 z0))
    (λ (there : q ≢ p). same_levels y z n (suc p) a run level (omega arith) (omega arith) (rw (places_zero y n p y0, places_zero z n p z0) at e) q (omega arith) to)
    (cases_eq q p))
    (λ (z1 : unsigned_abs (z p) ≢ 0). absurd (uneven y z a run level p n (places z n (suc p)) low end (rw (places_zero y n p y0, places_level z n p (omega arith)) at e)))
    (cases_eq (unsigned_abs (z p)) 0))
    (λ (y1 : unsigned_abs (y p) ≢ 0). ⊎_elim
    (λ (z0 : unsigned_abs (z p) ≡ 0). absurd (uneven z y a run level p n (places y n (suc p)) low end (sym (rw (places_zero z n p z0, places_level y n p (omega arith)) at e))))
    (λ (z1 : unsigned_abs (z p) ≢ 0).
    let f : level_elements a run (p - a - 1) level (unsigned_abs (y p)) (sign_of (y p)) ++ ac_elements y p (p - a - 1) (unsigned_abs (y p)) (places y n (suc p))
    ≡ level_elements a run (p - a - 1) level (unsigned_abs (z p)) (sign_of (z p)) ++ ac_elements z p (p - a - 1) (unsigned_abs (z p)) (places z n (suc p)) =
    sym (ap (ac_elements y a run level) (places_level y n p (omega arith)) ∙ ac_elements-cons y a run level p (places y n (suc p)))
    ∙ e ∙ ap (ac_elements z a run level) (places_level z n p (omega arith)) ∙ ac_elements-cons z a run level p (places z n (suc p)) in
    let parts : (unsigned_abs (y p) ≡ unsigned_abs (z p)) × (sign_of (y p) ≡ sign_of (z p))
    × (ac_elements y p (p - a - 1) (unsigned_abs (y p)) (places y n (suc p)) ≡ ac_elements z p (p - a - 1) (unsigned_abs (z p)) (places z n (suc p))) =
    level_same a run (p - a - 1) level (unsigned_abs (y p)) (unsigned_abs (z p)) (sign_of (y p)) (sign_of (z p))
    (ac_elements y p (p - a - 1) (unsigned_abs (y p)) (places y n (suc p))) (ac_elements z p (p - a - 1) (unsigned_abs (z p)) (places z n (suc p)))
    (omega arith) (omega arith) f in
    ⊎_elim
    (λ (here : q ≡ p). rw here (same_size (y p) (z p) parts.0 parts.1))
    (λ (there : q ≢ p). same_levels y z n (suc p) p (p - a - 1) (unsigned_abs (y p)) (omega arith) (omega arith)
    (parts.2 ∙ ap (λ m. ac_elements z p (p - a - 1) m (places z n (suc p))) (sym parts.0)) q (omega arith) to)
    (cases_eq q p))
    (cases_eq (unsigned_abs (z p)) 0))
    (cases_eq (unsigned_abs (y p)) 0)

step_same : (dc : ℤ) (k d d' s s' : ℕ) (x y : List Element) → coded_value k 65535 65535 d ∷ (step_sign dc d s ++ x) ≡ coded_value k 65535 65535 d' ∷ (step_sign dc d' s' ++ y)
    → (d ≡ d') × ((d ≡ 0) ⊎ (s ≡ s')) × (x ≡ y)
step_same dc k d d' s s' x y e =
    let size : d ≡ d' = cc in
    let rest : step_sign dc d s ++ x ≡ step_sign dc d' s' ++ y = cc in
    ⊎_elim
    (λ (none : d ≡ 0).
    let none' : d' ≡ 0 = omega arith in
    (size, inl none, rw (none, none') at rest))
    (λ (some : d ≢ 0).
    let signs : sign_bit (dc +ℤ pos d) (dc -ℤ pos d) s ∷ x ≡ sign_bit (dc +ℤ pos d') (dc -ℤ pos d') s' ∷ y =
    rw (ne_eqb d 0 some, ne_eqb d' 0 (λ f. some (size ∙ f))) at rest in
    (size, inr cc, cc))
    (cases_eq d 0)

same_dc : (dc x y : ℤ) → unsigned_abs (x -ℤ dc) ≡ unsigned_abs (y -ℤ dc) → (unsigned_abs (x -ℤ dc) ≡ 0) ⊎ (sign_of (x -ℤ dc) ≡ sign_of (y -ℤ dc)) → x ≡ y
same_dc dc x y size (inl none) = omega (arith, ints)
same_dc dc x y size (inr signs) = let e : x -ℤ dc ≡ y -ℤ dc = same_size (x -ℤ dc) (y -ℤ dc) size signs in omega (arith, ints)

pub elements_same : (context : Context) (y z : ℕ → ℤ) → elements context y ≡ elements context z → (p : ℕ) → p < 64 → y p ≡ z p
elements_same context y z e p h =
    let parts : (unsigned_abs (y 0 -ℤ context.dc) ≡ unsigned_abs (z 0 -ℤ context.dc)) × ((unsigned_abs (y 0 -ℤ context.dc) ≡ 0) ⊎ (sign_of (y 0 -ℤ context.dc) ≡ sign_of (z 0 -ℤ context.dc)))
    × (ac_from y 0 0 context.first 1 ≡ ac_from z 0 0 context.first 1) =
    step_same context.dc (min 5 (context.diff / 2)) (unsigned_abs (y 0 -ℤ context.dc)) (unsigned_abs (z 0 -ℤ context.dc)) (sign_of (y 0 -ℤ context.dc)) (sign_of (z 0 -ℤ context.dc))
    (ac_from y 0 0 context.first 1) (ac_from z 0 0 context.first 1) e in
    ⊎_elim
    (λ (first : p ≡ 0). rw first (same_dc context.dc (y 0) (z 0) parts.0 parts.1))
    (λ (later : p ≢ 0). same_levels y z 63 1 0 0 context.first refl (omega arith) parts.2 p (omega arith) h)
    (cases_eq p 0)

pub one_block : (context : Context) (b : List ℕ) → IsContext context → HasOneBlock context b
one_block context b ok y z left rest ly lz p q =
    let both : (elements context y ≡ elements context z) × (left ≡ rest) = whole_once context y z left rest ok ly lz (sym p ∙ q) in
    (elements_same context y z both.0, both.1)
