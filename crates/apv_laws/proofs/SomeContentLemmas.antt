-- Where the bytes of components have an answer, the content of a frame is levels, or breaks a rule.
use Rattle.std.proofs.Common.{◌≡◌, ℕ, zero, suc, ℤ, ◌+◌, ◌<◌, List, [], ◌∷◌, ◌++◌, length, get_or, refl, sym, subst, arith, length-append, inl, inr}
use Rattle.std.specs.List.{AllByRecursion}
use Rattle.std.proofs.lemmas.Bool.{cases_lt}
use Rattle.apv_base.specs.declared.rules.Rule.{Rule}
use Rattle.apv_base.specs.laws.Answer.{HasSomeAnswer}
use Rattle.apv_base.specs.laws.Judge.{ComponentsHaveSome}
use Rattle.apv_base.specs.model.CodedFrame.{CodedFrame, Levels, Exists, HasBlocks, HasLevels, tile_at, component_data}
use Rattle.apv_base.specs.model.Component.{ComponentBreaks}
use Rattle.apv_base.specs.model.Grid.{tile_count, block_count}
use Rattle.apv_base.specs.model.Header.{header_comps, grid_of}
use Rattle.apv_base.specs.model.Judge.{Before, ContentBreaks}

-- ---- one more item

get-first : {A : Type 0} (xs : List A) (x d : A) (i : ℕ) → i < length xs → get_or (xs ++ x ∷ []) i d ≡ get_or xs i d
get-first [] x d i lt = absurd (omega arith)
get-first (y ∷ xs) x d zero lt = refl
get-first (y ∷ xs) x d (suc i) lt = get-first xs x d i (omega arith)

get-last : {A : Type 0} (xs : List A) (x d : A) (i : ℕ) → i ≡ length xs → get_or (xs ++ x ∷ []) i d ≡ x
get-last [] x d zero e = refl
get-last [] x d (suc i) e = absurd (omega arith)
get-last (y ∷ xs) x d zero e = absurd (omega arith)
get-last (y ∷ xs) x d (suc i) e = get-last xs x d i (omega arith)

-- what holds of each item of a list holds with one more
push-each : {A : Type 0} (P : ℕ → A → Type 0) (xs : List A) (x d : A) → ((i : ℕ) → i < length xs → P i (get_or xs i d)) → P (length xs) x → (i : ℕ) → i < length xs + 1 → P i (get_or (xs ++ x ∷ []) i d)
push-each {A} P xs x d all here i lt = elim (cases_lt i (length xs)) [
  | inl below ↦ subst (λ (y : A). P i y) (sym (get-first xs x d i below)) (all i below)
  | inr ge ↦ (let last : i ≡ length xs = omega arith in
      subst (λ (y : A). P i y) (sym (get-last xs x d i last)) (subst (λ (j : ℕ). P j x) (sym last) here))
]

-- ---- a tile

-- the rule that the data of a component break
abbrev BreaksIn : CodedFrame → ℕ → ℕ → Rule → Type 0
BreaksIn frame tile comp rule = ComponentBreaks (block_count (grid_of frame.header) tile comp) (component_data (tile_at frame tile) comp) rule

-- the first components of a tile are blocks, or one is the first that breaks
data TileOr (frame : CodedFrame) (tile n : ℕ) : Type 0 where
  tile_whole : (comps : List (List (List ℤ))) → length comps ≡ n → ((comp : ℕ) → comp < length comps → HasBlocks frame tile comp (get_or comps comp [])) → TileOr frame tile n
  tile_broken : (comp : ℕ) (rule : Rule) → comp < n → ((other : ℕ) → other < comp → (blocks : List (List ℤ)) × HasBlocks frame tile other blocks) → BreaksIn frame tile comp rule → TileOr frame tile n

tile-push : (frame : CodedFrame) (tile n : ℕ) (comps : List (List (List ℤ))) (blocks : List (List ℤ)) → length comps ≡ n → ((comp : ℕ) → comp < length comps → HasBlocks frame tile comp (get_or comps comp []))
    → HasBlocks frame tile n blocks → TileOr frame tile (suc n)
tile-push frame tile n comps blocks count all is =
    let here : HasBlocks frame tile (length comps) blocks = subst (λ (i : ℕ). HasBlocks frame tile i blocks) (sym count) is in
    tile_whole (comps ++ blocks ∷ []) (omega (arith, count, length-append comps (blocks ∷ [])))
    (λ comp lt. push-each (λ (i : ℕ) (b : List (List ℤ)). HasBlocks frame tile i b) comps blocks [] all here comp (omega (arith, lt, length-append comps (blocks ∷ []))))

tile-more : ComponentsHaveSome → (frame : CodedFrame) (tile n : ℕ) → TileOr frame tile n → TileOr frame tile (suc n)
tile-more some frame tile n (tile_broken comp rule lt before br) = tile_broken comp rule (omega arith) before br
tile-more some frame tile n (tile_whole comps count all) = elim (some (block_count (grid_of frame.header) tile n) (component_data (tile_at frame tile) n)) [
  | inl b ↦ tile-push frame tile n comps b.0 count all b.1
  | inr r ↦ tile_broken n r.0 (omega arith) (λ other lt. (get_or comps other [], all other (omega (arith, count)))) r.1
]

tile-or : ComponentsHaveSome → (frame : CodedFrame) (tile n : ℕ) → TileOr frame tile n
tile-or some frame tile zero = tile_whole [] refl (λ comp lt. absurd (omega arith))
tile-or some frame tile (suc n) = tile-more some frame tile n (tile-or some frame tile n)

-- ---- a frame

-- a tile has blocks for each component
record IsTileOf (frame : CodedFrame) (tile : ℕ) (comps : List (List (List ℤ))) : Type 0 where
  count : length comps ≡ header_comps frame.header
  each : (comp : ℕ) → comp < length comps → HasBlocks frame tile comp (get_or comps comp [])

-- the first tiles are blocks, or a component is the first that breaks
data FrameOr (frame : CodedFrame) (n : ℕ) : Type 0 where
  frame_whole : (levels : Levels) → length levels ≡ n → ((tile : ℕ) → tile < length levels → IsTileOf frame tile (get_or levels tile [])) → FrameOr frame n
  frame_broken : (tile comp : ℕ) (rule : Rule) → tile < n → comp < header_comps frame.header → ((other : ℕ) → other < tile → (comps : List (List (List ℤ))) × IsTileOf frame other comps)
      → ((other : ℕ) → other < comp → (blocks : List (List ℤ)) × HasBlocks frame tile other blocks) → BreaksIn frame tile comp rule → FrameOr frame n

frame-push : (frame : CodedFrame) (n : ℕ) (levels : Levels) (comps : List (List (List ℤ))) → length levels ≡ n → ((tile : ℕ) → tile < length levels → IsTileOf frame tile (get_or levels tile []))
    → IsTileOf frame n comps → FrameOr frame (suc n)
frame-push frame n levels comps count all is =
    let here : IsTileOf frame (length levels) comps = subst (λ (i : ℕ). IsTileOf frame i comps) (sym count) is in
    frame_whole (levels ++ comps ∷ []) (omega (arith, count, length-append levels (comps ∷ [])))
    (λ tile lt. push-each (λ (i : ℕ) (t : List (List (List ℤ))). IsTileOf frame i t) levels comps [] all here tile (omega (arith, lt, length-append levels (comps ∷ []))))

frame-tile : (frame : CodedFrame) (n : ℕ) (levels : Levels) → length levels ≡ n → ((tile : ℕ) → tile < length levels → IsTileOf frame tile (get_or levels tile [])) → TileOr frame n (header_comps frame.header) → FrameOr frame (suc n)
frame-tile frame n levels count all (tile_whole comps len each) = frame-push frame n levels comps count all (record { count = len; each = each })
frame-tile frame n levels count all (tile_broken comp rule lt before br) =
    frame_broken n comp rule (omega arith) lt (λ other low. (get_or levels other [], all other (omega (arith, count)))) before br

frame-more : ComponentsHaveSome → (frame : CodedFrame) (n : ℕ) → FrameOr frame n → FrameOr frame (suc n)
frame-more some frame n (frame_broken tile comp rule lt low before before_here br) = frame_broken tile comp rule (omega arith) low before before_here br
frame-more some frame n (frame_whole levels count all) = frame-tile frame n levels count all (tile-or some frame n (header_comps frame.header))

frame-or : ComponentsHaveSome → (frame : CodedFrame) (n : ℕ) → FrameOr frame n
frame-or some frame zero = frame_whole [] refl (λ tile lt. absurd (omega arith))
frame-or some frame (suc n) = frame-more some frame n (frame-or some frame n)

-- ---- the content

all-lengths : (m : ℕ) (levels : Levels) → ((tile : ℕ) → tile < length levels → length (get_or levels tile []) ≡ m) → AllByRecursion (λ tile. length tile ≡ m) levels
all-lengths m [] each = tt
all-lengths m (comps ∷ levels) each = (each 0 (omega arith), all-lengths m levels (λ tile lt. each (suc tile) (omega arith)))

blocks-before : (frame : CodedFrame) (tile comp at_tile at_comp : ℕ) → ((other : ℕ) → other < at_tile → (comps : List (List (List ℤ))) × IsTileOf frame other comps)
    → ((other : ℕ) → other < at_comp → (blocks : List (List ℤ)) × HasBlocks frame at_tile other blocks) → Exists frame tile comp → Before tile comp at_tile at_comp
    → (blocks : List (List ℤ)) × HasBlocks frame tile comp blocks
blocks-before frame tile comp at_tile at_comp tiles comps exists (inl lt) =
    let t = tiles tile lt in (get_or t.0 comp [], t.1.each comp (omega (arith, t.1.count, exists.1)))
blocks-before frame tile comp at_tile at_comp tiles comps exists (inr here) =
    let b = comps comp here.1 in (b.0, subst (λ (i : ℕ). HasBlocks frame i comp b.0) (sym here.0) b.1)

content-answer : (frame : CodedFrame) → FrameOr frame (tile_count (grid_of frame.header)) → HasSomeAnswer (HasLevels frame) (ContentBreaks frame)
content-answer frame (frame_whole levels count all) = inl (
  levels,
  record {
    tiles = count;
    comps = all-lengths (header_comps frame.header) levels (λ tile lt. (all tile lt).count);
    blocks = λ tile comp exists.
        let t = all tile (omega (arith, exists.0, count)) in
        t.each comp (omega (arith, t.count, exists.1));
  },
)
content-answer frame (frame_broken tile comp rule lt low before before_here br) = inr (
  record { tile = tile; comp = comp; rule = rule },
  record {
    exists = (lt, low);
    before = λ other_tile other_comp exists b. blocks-before frame other_tile other_comp tile comp before before_here exists b;
    breaks = br;
  },
)

pub content-some : ComponentsHaveSome → (frame : CodedFrame) → HasSomeAnswer (HasLevels frame) (ContentBreaks frame)
content-some some frame = content-answer frame (frame-or some frame (tile_count (grid_of frame.header)))
