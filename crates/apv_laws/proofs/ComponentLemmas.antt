-- The bytes of a component are n blocks in one way, or break one rule.
use Rattle.std.proofs.Common.{◌≡◌, ℕ, ℤ, ◌<◌, List, [], ◌∷◌, ◌++◌, length, take, refl, sym, ap, ap₂, ◌∙◌, subst, arith, lit<, append_assoc, append-nil, length-append}
use Rattle.std.specs.Prelude.{Contains}
use Rattle.apv_base.specs.declared.rules.Rule.{Rule}
use Rattle.apv_base.specs.laws.Judge.{ComponentsHaveOne}
use Rattle.apv_base.specs.model.Bits.{padding}
use Rattle.apv_base.specs.model.Block.{Context, start, IsContext, block_bits, next_context, BlockBreaks}
use Rattle.apv_base.specs.model.Component.{AreBlocks, context_after, component_bits, BeginsWith, IsComponent, ComponentBreaks, in_block, in_alignment}
use Rattle.apv_base.specs.model.Scan.{level_at}
use Rattle.apv_scan.proofs.ComponentLemmas.{next_is_context, one_component}
use Rattle.apv_scan.proofs.OnceLemmas.{whole_once, elements_same, whole_or_broken, one_break}
use Rattle.apv_scan.proofs.ScanLemmas.{same_blocks}

start-is-context : IsContext start
start-is-context = record { dc = lit< tt; diff = omega arith; first = omega arith }

-- blocks leave a context
context-is : (context : Context) (blocks : List (List ℤ)) → IsContext context → AreBlocks blocks → IsContext (context_after context blocks)
context-is context [] ok sound = ok
context-is context (block ∷ blocks) ok sound =
    context-is (next_context context (level_at block)) blocks (next_is_context context (level_at block) ok sound.0.levels) sound.1

-- of two lists of blocks at the start of one list of bits one is a prefix of the other
data Prefixes (context : Context) (a b : List (List ℤ)) (x y : List ℕ) : Type 0 where
  first : (more : List (List ℤ)) → b ≡ a ++ more → AreBlocks more → x ≡ component_bits (context_after context a) more ++ y → Prefixes context a b x y
  second : (more : List (List ℤ)) → a ≡ b ++ more → AreBlocks more → y ≡ component_bits (context_after context b) more ++ x → Prefixes context a b x y

prefixes-more : (context : Context) (u v : List ℤ) (a b : List (List ℤ)) (x y : List ℕ) → u ≡ v → Prefixes (next_context context (level_at u)) a b x y → Prefixes context (u ∷ a) (v ∷ b) x y
prefixes-more context u v a b x y e (first more f sound g) = first more (ap₂ (λ (w : List ℤ) (ws : List (List ℤ)). w ∷ ws) (sym e) f) sound g
prefixes-more context u v a b x y e (second more f sound g) =
    second more (ap₂ (λ (w : List ℤ) (ws : List (List ℤ)). w ∷ ws) e f) sound (g ∙ ap (λ (w : List ℤ). component_bits (context_after (next_context context (level_at w)) b) more ++ x) e)

prefixes : (context : Context) (a b : List (List ℤ)) (x y : List ℕ) → IsContext context → AreBlocks a → AreBlocks b → component_bits context a ++ x ≡ component_bits context b ++ y → Prefixes context a b x y
prefixes context [] b x y ok sa sb e = first b refl sb e
prefixes context (u ∷ a) [] x y ok sa sb e = second (u ∷ a) refl sa (sym e)
prefixes context (u ∷ a) (v ∷ b) x y ok sa sb e =
    let both = whole_once context (level_at u) (level_at v) (component_bits (next_context context (level_at u)) a ++ x) (component_bits (next_context context (level_at v)) b ++ y) ok sa.0.levels sb.0.levels
    (sym (append_assoc (block_bits context (level_at u)) (component_bits (next_context context (level_at u)) a) x) ∙ e
    ∙ append_assoc (block_bits context (level_at v)) (component_bits (next_context context (level_at v)) b) y) in
    let here : u ≡ v = same_blocks u v sa.0.count sb.0.count (elements_same context (level_at u) (level_at v) both.0) in
    prefixes-more context u v a b x y here
    (prefixes (next_context context (level_at u)) a b x y (next_is_context context (level_at u) ok sa.0.levels) sa.1 sb.1
    (both.1 ∙ ap (λ (w : List ℤ). component_bits (next_context context (level_at w)) b ++ y) (sym here)))

prefixes-of : (x : List ℕ) (a b : List (List ℤ)) (left left' : List ℕ) → BeginsWith x a left → BeginsWith x b left' → Prefixes start a b left left'
prefixes-of x a b left left' p q = prefixes start a b left left' start-is-context p.sound q.sound (sym p.prefix ∙ q.prefix)

-- no block stands where bits break
no-more : {A : Type 0} (context : Context) (block : List ℤ) (more : List (List ℤ)) (left y : List ℕ) (rule : Rule) → IsContext context → AreBlocks (block ∷ more)
    → left ≡ component_bits context (block ∷ more) ++ y → BlockBreaks context left rule → A
no-more context block more left y rule ok sound e b =
    absurd (whole_or_broken context left ok (level_at block) (component_bits (next_context context (level_at block)) more ++ y) rule sound.0.levels
    (e ∙ append_assoc (block_bits context (level_at block)) (component_bits (next_context context (level_at block)) more) y) b)

-- no list of blocks goes on where another one breaks
not-longer : {A : Type 0} (a b more : List (List ℤ)) (left y : List ℕ) (rule : Rule) → AreBlocks a → AreBlocks more → b ≡ a ++ more → length a < length b
    → left ≡ component_bits (context_after start a) more ++ y → BlockBreaks (context_after start a) left rule → A
not-longer a b [] left y rule sound more_sound e lt f br = absurd (omega (arith, ap (length {A = List ℤ}) e, length-append {A = List ℤ} a []))
not-longer a b (block ∷ more) left y rule sound more_sound e lt f br = no-more (context_after start a) block more left y rule (context-is start a start-is-context sound) more_sound f br

-- blocks that are whole don't break
whole-or-break : {A : Type 0} (n : ℕ) (x : List ℕ) (a b : List (List ℤ)) (left left' : List ℕ) (rule : Rule) → length a < length b → BeginsWith x a left → BlockBreaks (context_after start a) left rule → BeginsWith x b left' → A
whole-or-break n x a b left left' rule lt p br q = elim (prefixes-of x a b left left' p q) [
  | first more e sound f ↦ not-longer a b more left left' rule p.sound sound e lt f br
  | second more e sound f ↦ absurd (omega (arith, lt, ap (length {A = List ℤ}) e, length-append b more))
]

-- lists of one length are one
record SameBlocks (a b : List (List ℤ)) (left left' : List ℕ) : Type 0 where
  blocks : a ≡ b
  lefts : left ≡ left'

first-same : (a b more : List (List ℤ)) (x y : List ℕ) → length a ≡ length b → b ≡ a ++ more → x ≡ component_bits (context_after start a) more ++ y → SameBlocks a b x y
first-same a b [] x y l e f = record { blocks = sym (e ∙ append-nil a); lefts = f }
first-same a b (block ∷ more) x y l e f = absurd (omega (arith, ap (length {A = List ℤ}) e, length-append a (block ∷ more)))

same-of : (x : List ℕ) (a b : List (List ℤ)) (left left' : List ℕ) → length a ≡ length b → BeginsWith x a left → BeginsWith x b left' → SameBlocks a b left left'
same-of x a b left left' l p q = elim (prefixes-of x a b left left' p q) [
  | first more e sound f ↦ first-same a b more left left' l e f
  | second more e sound f ↦ (let s = first-same b a more left' left (sym l) e f in record { blocks = sym s.blocks; lefts = sym s.lefts })
]

-- the bits up to a whole byte
abbrev aligned_bits : List (List ℤ) → List ℕ → List ℕ
aligned_bits blocks left = take (padding (length (component_bits start blocks))) left

blocks-or-rule : {A : Type 0} (n : ℕ) (x : List ℕ) (blocks : List (List ℤ)) (rule : Rule) → IsComponent n x blocks → ComponentBreaks n x rule → A
blocks-or-rule n x blocks rule p (in_block r bs left lt begins br) = whole-or-break n x bs blocks left p.left r (omega (arith, lt, p.count)) begins br p.begins
blocks-or-rule n x blocks rule p (in_alignment bs left count begins one) =
    let s = same-of x bs blocks left p.left (count ∙ sym p.count) begins p.begins in
    absurd (p.aligned (subst (λ (l : List ℕ). Contains (aligned_bits blocks l) 1) s.lefts (subst (λ (b : List (List ℤ)). Contains (aligned_bits b left) 1) s.blocks one)))

-- where two lists of blocks break
breaks-same : (x : List ℕ) (a b : List (List ℤ)) (left left' : List ℕ) (rule other : Rule) → SameBlocks a b left left' → BlockBreaks (context_after start a) left rule → BlockBreaks (context_after start b) left' other → rule ≡ other
breaks-same x a b left left' rule other s p q =
    one_break (context_after start b) left' rule other
    (subst (λ (l : List ℕ). BlockBreaks (context_after start b) l rule) s.lefts (subst (λ (c : List (List ℤ)). BlockBreaks (context_after start c) left rule) s.blocks p)) q

breaks-first : (x : List ℕ) (a b more : List (List ℤ)) (left left' : List ℕ) (rule other : Rule) → AreBlocks a → AreBlocks more → b ≡ a ++ more → left ≡ component_bits (context_after start a) more ++ left'
    → BlockBreaks (context_after start a) left rule → BlockBreaks (context_after start b) left' other → rule ≡ other
breaks-first x a b [] left left' rule other sound more_sound e f p q = breaks-same x a b left left' rule other (record { blocks = sym (e ∙ append-nil a); lefts = f }) p q
breaks-first x a b (block ∷ more) left left' rule other sound more_sound e f p q = no-more (context_after start a) block more left left' rule (context-is start a start-is-context sound) more_sound f p

one-block-break : (x : List ℕ) (a b : List (List ℤ)) (left left' : List ℕ) (rule other : Rule) → BeginsWith x a left → BeginsWith x b left' → BlockBreaks (context_after start a) left rule → BlockBreaks (context_after start b) left' other → rule ≡ other
one-block-break x a b left left' rule other p q br br' = elim (prefixes-of x a b left left' p q) [
  | first more e sound f ↦ breaks-first x a b more left left' rule other p.sound sound e f br br'
  | second more e sound f ↦ sym (breaks-first x b a more left' left other rule q.sound sound e f br' br)
]

one-rule : (n : ℕ) (x : List ℕ) (rule other : Rule) → ComponentBreaks n x rule → ComponentBreaks n x other → rule ≡ other
one-rule n x rule other (in_block r a left lt p br) (in_block s b left' lt' q br') = one-block-break x a b left left' r s p q br br'
one-rule n x rule other (in_block r a left lt p br) (in_alignment b left' count q one) = whole-or-break n x a b left left' r (omega (arith, lt, count)) p br q
one-rule n x rule other (in_alignment b left' count q one) (in_block r a left lt p br) = whole-or-break n x a b left left' r (omega (arith, lt, count)) p br q
one-rule n x rule other (in_alignment a left count p one) (in_alignment b left' count' q one') = refl

pub component-once : ComponentsHaveOne
component-once n x = record { accepted = one_component n x; refused = one-rule n x; not_both = λ blocks rule p b. blocks-or-rule n x blocks rule p b }
