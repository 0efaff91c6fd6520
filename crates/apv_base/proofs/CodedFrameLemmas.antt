-- A body is one coded frame at most: its header and its tiles are determined by their values.
use Rattle.std.proofs.Common.{◌≡◌, ℕ, zero, suc, ◌+◌, ◌-◌, ◌<◌, ◌≤◌, List, [], ◌∷◌, ◌++◌, length, get_or, take, refl, sym, ap, ap₂, ◌∙◌, subst, arith, Option, Some, None, Bool, true, false, length-append, inl, inr}
use Rattle.std.specs.List.{AllByRecursion, concat}
use Rattle.std.proofs.lemmas.Bool.{cases_lt, cases_Bool}
use Rattle.std.proofs.lemmas.List.{ext_get_or}
use Rattle.apv_base.specs.declared.format.Chroma.{Chroma}
use Rattle.apv_base.specs.declared.format.Colour.{Colour}
use Rattle.apv_base.specs.declared.format.FrameInfo.{FrameInfo}
use Rattle.apv_base.specs.declared.header.FrameHeader.{FrameHeader}
use Rattle.apv_base.specs.model.CodedFrame.{CodedFrame, IsTile, HasFrame, head_values}
use Rattle.apv_base.specs.model.Format.{idc_of, comps_of}
use Rattle.apv_base.specs.model.Header.{flag, info_values, colour_values, matrix_values, size_values, header_values, header_comps, IsSoundHeader}
use Rattle.apv_base.specs.model.Quant.{IsMatrix}
use Rattle.apv_base.specs.model.Tile.{Tile, tile_header_size, tile_values, tiles_values}
use Rattle.apv_base.proofs.FormatLemmas.{one-chroma}
use Rattle.apv_base.proofs.FrameLemmas.{same-tiles}
use Rattle.apv_base.proofs.HeaderLemmas.{nested, length-matrices, comps-few}
use Rattle.apv_base.proofs.TableLemmas.{pair_of-Ok}

-- lists of one length with others after them
pub append-parts : {A : Type 0} (a b x y : List A) → length a ≡ length b → a ++ x ≡ b ++ y → (a ≡ b) × (x ≡ y)
append-parts [] [] x y l e = (refl, e)
append-parts [] (v ∷ b) x y l e = absurd (omega arith)
append-parts (u ∷ a) [] x y l e = absurd (omega arith)
append-parts {A} (u ∷ a) (v ∷ b) x y l e =
    let heads : u ≡ v = cc in
    let tails : a ++ x ≡ b ++ y = cc in
    let parts = append-parts a b x y (omega arith) tails in
    (ap₂ (λ (w : A) (c : List A). w ∷ c) heads parts.0, parts.1)

-- ---- the header

flag-same : (a b : Bool) → flag a ≡ flag b → a ≡ b
flag-same true true e = refl
flag-same true false e = absurd (omega arith)
flag-same false true e = absurd (omega arith)
flag-same false false e = refl

same-colour : (p p' t t' m m' : ℕ) (f f' : Bool) → p ≡ p' → t ≡ t' → m ≡ m' → f ≡ f'
    → ◌≡◌ {A = Option Colour} (Some (record { primaries = p; transfer = t; matrix = m; full_range = f })) (Some (record { primaries = p'; transfer = t'; matrix = m'; full_range = f' }))
same-colour p p' t t' m m' f f' e1 e2 e3 e4 = rw (e1, e2, e3, e4) refl

colour-parts : (c d : Option Colour) (x y : List ℕ) → colour_values c ++ x ≡ colour_values d ++ y → (c ≡ d) × (x ≡ y)
colour-parts None None x y e = (refl, cc)
colour-parts None (Some d) x y e = absurd (let no : ⊥ = cc in no)
colour-parts (Some c) None x y e = absurd (let no : ⊥ = cc in no)
colour-parts (Some c) (Some d) x y e =
    let p : c.primaries ≡ d.primaries = cc in
    let t : c.transfer ≡ d.transfer = cc in
    let m : c.matrix ≡ d.matrix = cc in
    let f : flag c.full_range ≡ flag d.full_range = cc in
    (same-colour c.primaries d.primaries c.transfer d.transfer c.matrix d.matrix c.full_range d.full_range p t m (flag-same c.full_range d.full_range f), cc)

-- whether matrices are stated, which ones, and what follows them
record MatrixParts (used used' : Bool) (stated stated' x y : List ℕ) : Type 0 where
  flags : used ≡ used'
  matrices : used ≡ true → stated ≡ stated'
  later : x ≡ y

matrix-parts : (used used' : Bool) (comps : ℕ) (ms ns : List (List ℕ)) (x y : List ℕ) → length (concat (take comps ms)) ≡ length (concat (take comps ns))
    → matrix_values used comps ms ++ x ≡ matrix_values used' comps ns ++ y → MatrixParts used used' (concat (take comps ms)) (concat (take comps ns)) x y
matrix-parts false false comps ms ns x y l e = record { flags = refl; matrices = λ no. absurd (let false_is : ⊥ = cc in false_is); later = cc }
matrix-parts false true comps ms ns x y l e = absurd (let no : ⊥ = cc in no)
matrix-parts true false comps ms ns x y l e = absurd (let no : ⊥ = cc in no)
matrix-parts true true comps ms ns x y l e =
    let tails : concat (take comps ms) ++ x ≡ concat (take comps ns) ++ y = cc in
    let parts = append-parts (concat (take comps ms)) (concat (take comps ns)) x y l tails in
    record { flags = refl; matrices = λ used_there. parts.0; later = parts.1 }

stated-same : (comps : ℕ) (ms ns : List (List ℕ)) → AllByRecursion IsMatrix ms → AllByRecursion IsMatrix ns → length ms ≡ length ns → concat (take comps ms) ≡ concat (take comps ns)
    → (i : ℕ) → i < comps → get_or ms i [] ≡ get_or ns i []
stated-same zero ms ns all all' l e i lt = absurd (omega arith)
stated-same (suc comps) [] [] all all' l e i lt = refl
stated-same (suc comps) [] (n ∷ ns) all all' l e i lt = absurd (omega arith)
stated-same (suc comps) (m ∷ ms) [] all all' l e i lt = absurd (omega arith)
stated-same (suc comps) (m ∷ ms) (n ∷ ns) all all' l e zero lt = (append-parts m n (concat (take comps ms)) (concat (take comps ns)) (all.0.count ∙ sym all'.0.count) e).0
stated-same (suc comps) (m ∷ ms) (n ∷ ns) all all' l e (suc i) lt =
    stated-same comps ms ns all.1 all'.1 (omega arith) (append-parts m n (concat (take comps ms)) (concat (take comps ns)) (all.0.count ∙ sym all'.0.count) e).1 i (omega arith)

-- of two sound headers the matrices are the same where those that are stated are
matrices-same : (h g : FrameHeader) → IsSoundHeader h → IsSoundHeader g → h.use_matrix ≡ g.use_matrix → header_comps h ≡ header_comps g
    → (h.use_matrix ≡ true → (i : ℕ) → i < header_comps h → get_or h.matrices i [] ≡ get_or g.matrices i []) → h.matrices ≡ g.matrices
matrices-same h g s t used comps stated =
    ext_get_or [] h.matrices g.matrices (s.four ∙ sym t.four)
    (λ i lt.
    let low : i < 4 = omega (arith, s.four) in
    let unstated : (h.use_matrix ≡ true → header_comps h ≤ i) → get_or h.matrices i [] ≡ get_or g.matrices i [] =
    λ above. s.matrices i low above ∙ sym (t.matrices i low (λ used_there. let le = above (used ∙ used_there) in omega arith)) in
    elim (cases_Bool h.use_matrix) [
      | inr absent ↦ unstated (λ used_there. absurd (let never : ⊥ = cc (absent, used_there) in never))
      | inl stated_there ↦ elim (cases_lt i (header_comps h)) [
        | inl below ↦ stated stated_there i below
        | inr le ↦ unstated (λ _. le)
      ]
    ])

sizes-flag : (p q : Bool) (s t x y : List ℕ) → size_values p s ++ x ≡ size_values q t ++ y → p ≡ q
sizes-flag false false s t x y e = refl
sizes-flag false true s t x y e = absurd (let no : ⊥ = cc in no)
sizes-flag true false s t x y e = absurd (let no : ⊥ = cc in no)
sizes-flag true true s t x y e = refl

info-parts : (p p' l l' b b' w w' h h' : ℕ) (c c' : Chroma) (d d' t t' : ℕ) → p ≡ p' → l ≡ l' → b ≡ b' → w ≡ w' → h ≡ h' → c ≡ c' → d ≡ d' → t ≡ t'
    → ◌≡◌ {A = FrameInfo} (record { profile = p; level = l; band = b; width = w; height = h; chroma = c; depth = d; capture = t })
    (record { profile = p'; level = l'; band = b'; width = w'; height = h'; chroma = c'; depth = d'; capture = t' })
info-parts p p' l l' b b' w w' h h' c c' d d' t t' e1 e2 e3 e4 e5 e6 e7 e8 = rw (e1, e2, e3, e4, e5, e6, e7, e8) refl

header-parts : (i i' : FrameInfo) (c c' : Option Colour) (u u' : Bool) (m m' : List (List ℕ)) (w w' h h' : ℕ) (s s' : Bool) → i ≡ i' → c ≡ c' → u ≡ u' → m ≡ m' → w ≡ w' → h ≡ h' → s ≡ s'
    → ◌≡◌ {A = FrameHeader} (record { info = i; colour = c; use_matrix = u; matrices = m; tile_width = w; tile_height = h; sizes_present = s })
    (record { info = i'; colour = c'; use_matrix = u'; matrices = m'; tile_width = w'; tile_height = h'; sizes_present = s' })
header-parts i i' c c' u u' m m' w w' h h' s s' e1 e2 e3 e4 e5 e6 e7 = rw (e1, e2, e3, e4, e5, e6, e7) refl

-- the values after frame_info() and a reserved byte
abbrev later_values : FrameHeader → List ℕ → List ℕ
later_values h sizes =
    colour_values h.colour ++ (matrix_values h.use_matrix (header_comps h) h.matrices
    ++ ((h.tile_width ∷ h.tile_height ∷ []) ++ (size_values h.sizes_present sizes ++ 0 ∷ 0 ∷ [])))

values-nested : (h : FrameHeader) (sizes : List ℕ) → header_values h sizes ≡ info_values h.info ++ ((0 ∷ []) ++ later_values h sizes)
values-nested h sizes =
    nested (info_values h.info) (0 ∷ []) (colour_values h.colour) (matrix_values h.use_matrix (header_comps h) h.matrices) (h.tile_width ∷ h.tile_height ∷ []) (size_values h.sizes_present sizes) (0 ∷ 0 ∷ [])

-- frame_info() and what follows it
record InfoParts (i j : FrameInfo) (x y : List ℕ) : Type 0 where
  profile : i.profile ≡ j.profile
  level : i.level ≡ j.level
  band : i.band ≡ j.band
  width : i.width ≡ j.width
  height : i.height ≡ j.height
  code : idc_of i.chroma ≡ idc_of j.chroma
  depth : i.depth - 8 ≡ j.depth - 8
  capture : i.capture ≡ j.capture
  later : x ≡ y

info-values : (i j : FrameInfo) (x y : List ℕ) → info_values i ++ ((0 ∷ []) ++ x) ≡ info_values j ++ ((0 ∷ []) ++ y) → InfoParts i j x y
info-values i j x y e = record { profile = cc; level = cc; band = cc; width = cc; height = cc; code = cc; depth = cc; capture = cc; later = cc }

tile-sizes : (w w' h h' : ℕ) (x y : List ℕ) → (w ∷ h ∷ []) ++ x ≡ (w' ∷ h' ∷ []) ++ y → (w ≡ w') × (h ≡ h') × (x ≡ y)
tile-sizes w w' h h' x y e = (cc, cc, cc)

-- a sound header is determined by its values
pub header-same : (h g : FrameHeader) (sizes others : List ℕ) → IsSoundHeader h → IsSoundHeader g → header_values h sizes ≡ header_values g others → h ≡ g
header-same h g sizes others s t e =
    let i = info-values h.info g.info (later_values h sizes) (later_values g others) (sym (values-nested h sizes) ∙ e ∙ values-nested g others) in
    let chroma : h.info.chroma ≡ g.info.chroma = one-chroma h.info.chroma g.info.chroma i.code in
    let comps : header_comps h ≡ header_comps g = ap comps_of chroma in
    let depth : h.info.depth ≡ g.info.depth = omega (arith, i.depth, s.info.format.low, t.info.format.low) in
    let info : h.info ≡ g.info = info-parts h.info.profile g.info.profile h.info.level g.info.level h.info.band g.info.band h.info.width g.info.width h.info.height g.info.height
    h.info.chroma g.info.chroma h.info.depth g.info.depth h.info.capture g.info.capture i.profile i.level i.band i.width i.height chroma depth i.capture in
    let c = colour-parts h.colour g.colour _ _ i.later in
    let len = length-matrices (header_comps h) h.matrices (omega (arith, s.four, comps-few h.info.chroma)) s.each in
    let len' = length-matrices (header_comps h) g.matrices (omega (arith, t.four, comps-few h.info.chroma)) t.each in
    let m = matrix-parts h.use_matrix g.use_matrix (header_comps h) h.matrices g.matrices _ _ (len ∙ sym len') (c.1 ∙ ap (λ (n : ℕ). matrix_values g.use_matrix n g.matrices ++ ((g.tile_width ∷ g.tile_height ∷ []) ++ (size_values g.sizes_present others ++ 0 ∷ 0 ∷ []))) (sym comps)) in
    let matrices = matrices-same h g s t m.flags comps (λ used. stated-same (header_comps h) h.matrices g.matrices s.each t.each (s.four ∙ sym t.four) (m.matrices used)) in
    let w = tile-sizes h.tile_width g.tile_width h.tile_height g.tile_height _ _ m.later in
    let present = sizes-flag h.sizes_present g.sizes_present sizes others (0 ∷ 0 ∷ []) (0 ∷ 0 ∷ []) w.2 in
    header-parts h.info g.info h.colour g.colour h.use_matrix g.use_matrix h.matrices g.matrices h.tile_width g.tile_width h.tile_height g.tile_height h.sizes_present g.sizes_present
    info c.0 m.flags matrices w.0 w.1 present

-- ---- the tiles

same-tile : (l l' q q' b b' : List ℕ) → l ≡ l' → q ≡ q' → b ≡ b' → ◌≡◌ {A = Tile} (record { lengths = l; qps = q; bytes = b }) (record { lengths = l'; qps = q'; bytes = b' })
same-tile l l' q q' b b' e1 e2 e3 = rw (e1, e2, e3) refl

-- the values of a tile after its number
abbrev tile_parts : Tile → List ℕ
tile_parts t = ((t.lengths ++ t.qps) ++ 0 ∷ []) ++ t.bytes

tile-head : (comps number n m : ℕ) (x y : List ℕ) → (comps + n) ∷ comps ∷ number ∷ x ≡ (comps + m) ∷ comps ∷ number ∷ y → (n ≡ m) × (x ≡ y)
tile-head comps number n m x y e = let sizes : comps + n ≡ comps + m = cc in (omega arith, cc)

tile-same : (comps number : ℕ) (t u : Tile) (x y : List ℕ) → IsTile comps t → IsTile comps u → tile_values comps number t ++ x ≡ tile_values comps number u ++ y → (t ≡ u) × (x ≡ y)
tile-same comps number t u x y i j e =
    let head = tile-head (tile_header_size comps) number (length t.bytes) (length u.bytes) (tile_parts t ++ x) (tile_parts u ++ y) e in
    let prefix : length (t.lengths ++ t.qps) ≡ length (u.lengths ++ u.qps) = omega (arith, length-append t.lengths t.qps, length-append u.lengths u.qps, i.lengths, j.lengths, i.qps, j.qps) in
    let fields : length ((t.lengths ++ t.qps) ++ 0 ∷ []) ≡ length ((u.lengths ++ u.qps) ++ 0 ∷ []) = omega (arith, length-append (t.lengths ++ t.qps) (0 ∷ []), length-append (u.lengths ++ u.qps) (0 ∷ []), prefix) in
    let all : length (tile_parts t) ≡ length (tile_parts u) = omega (arith, length-append ((t.lengths ++ t.qps) ++ 0 ∷ []) t.bytes, length-append ((u.lengths ++ u.qps) ++ 0 ∷ []) u.bytes, fields, head.0) in
    let one = append-parts (tile_parts t) (tile_parts u) x y all head.1 in
    let two = append-parts ((t.lengths ++ t.qps) ++ 0 ∷ []) ((u.lengths ++ u.qps) ++ 0 ∷ []) t.bytes u.bytes fields one.0 in
    let three = append-parts (t.lengths ++ t.qps) (u.lengths ++ u.qps) (0 ∷ []) (0 ∷ []) prefix two.0 in
    let four = append-parts t.lengths u.lengths t.qps u.qps (i.lengths ∙ sym j.lengths) three.0 in
    (same-tile t.lengths u.lengths t.qps u.qps t.bytes u.bytes four.0 four.1 two.1, one.1)

-- tiles are determined by their values
pub tiles-same : (comps number : ℕ) (ts us : List Tile) → AllByRecursion (IsTile comps) ts → AllByRecursion (IsTile comps) us → tiles_values comps number ts ≡ tiles_values comps number us → ts ≡ us
unfolding tiles_values
tiles-same comps number [] [] all all' e = refl
tiles-same comps number [] (u ∷ us) all all' e = absurd (let no : ⊥ = cc in no)
tiles-same comps number (t ∷ ts) [] all all' e = absurd (let no : ⊥ = cc in no)
tiles-same comps number (t ∷ ts) (u ∷ us) all all' e =
    let one = tile-same comps number t u (tiles_values comps (suc number) ts) (tiles_values comps (suc number) us) all.0 all'.0 e in
    ap₂ (λ (v : Tile) (vs : List Tile). v ∷ vs) one.0 (tiles-same comps (suc number) ts us all.1 all'.1 one.1)

-- ---- the frame

-- a frame is its header and its tiles
pub same-frame : (f g : CodedFrame) → f.header ≡ g.header → f.tiles ≡ g.tiles → f ≡ g
same-frame f g e e' = ap₂ {C = CodedFrame} (λ (h : FrameHeader) (ts : List Tile). record { header = h; tiles = ts }) e e'

-- a body is one frame at most
pub one-frame : (body : List ℕ) (f g : CodedFrame) → HasFrame body f → HasFrame body g → f ≡ g
one-frame body f g p q =
    let heads = pair_of-Ok (sym p.walked ∙ q.walked) in
    let header = header-same f.header g.header _ _ p.header q.header heads.0 in
    let comps : header_comps f.header ≡ header_comps g.header = ap header_comps header in
    let walks = same-tiles body (head_values f) p.left (head_values g) q.left p.walked q.walked in
    let values = pair_of-Ok (sym p.walked_tiles ∙ walks ∙ q.walked_tiles) in
    let tiles : AllByRecursion (IsTile (header_comps g.header)) f.tiles = subst (λ (n : ℕ). AllByRecursion (IsTile n) f.tiles) comps p.tiles in
    same-frame f g header (tiles-same (header_comps g.header) 0 f.tiles g.tiles tiles q.tiles (ap (λ (n : ℕ). tiles_values n 0 f.tiles) (sym comps) ∙ values.0))
