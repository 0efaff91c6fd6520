-- A body of a frame, and of access unit information, is sound or breaks one rule.
use Rattle.std.proofs.Common.{◌≡◌, ℕ, List, refl, sym, ap, ap₂, ◌∙◌, Result, Ok, Err, ◌⊎◌, inl, inr}
use Rattle.std.proofs.lemmas.Bool.{cases_Bool}
use Rattle.apv_base.specs.declared.rules.Rule.TheVariants.{V23}
use Rattle.apv_base.specs.declared.rules.HeadEnd.{HeadEnd}
use Rattle.apv_base.specs.declared.rules.HeadEnd.TheVariants.{Rule as breaks}
use Rattle.apv_base.specs.declared.rules.TileBreak.{TileBreak}
use Rattle.apv_base.specs.model.Bits.{bits}
use Rattle.apv_base.specs.model.Header.{header_table}
use Rattle.apv_base.specs.model.Pbu.{is_filler}
use Rattle.apv_base.specs.model.Table.{walk}
use Rattle.apv_base.specs.model.Tile.{tiles_table, layout_in}
use Rattle.apv_base.specs.model.Frame.{bytes_left, WalksHeader, WalksTiles, IsFrame, FrameBreaks, in_header, in_tile, in_filler}
use Rattle.apv_base.specs.model.AuInfo.{au_info_table, WalksAuInfo, IsAuInfo, AuInfoBreaks, in_fields, in_filler as in_filler_after}
use Rattle.apv_base.proofs.TableLemmas.{pair_of-Ok}

pub cases_Result : {A E : Type 0} (r : Result A E) → ((a : A) × (r ≡ Ok a)) ⊎ ((e : E) × (r ≡ Err e))
cases_Result (Ok a) = inl (a, refl)
cases_Result (Err e) = inr (e, refl)

-- ---- frames

-- the walk over the tiles after a header
abbrev pub tiles_walk : List ℕ → List ℕ → List ℕ → Result (List ℕ × List ℕ) TileBreak
tiles_walk body header left = walk 256 (tiles_table (layout_in header)) (bytes_left body left)

-- two walks over one body find one header, and so go over the same tiles
pub same-tiles : (body header left header' left' : List ℕ) → WalksHeader body header left → WalksHeader body header' left' → tiles_walk body header left ≡ tiles_walk body header' left'
same-tiles body header left header' left' w w' = let p = pair_of-Ok (sym w ∙ w') in ap₂ (tiles_walk body) p.0 p.1

-- a frame isn't sound and broken
pub sound-or-broken-frame : {A : Type 0} (body header tiles : List ℕ) (tile : ℕ) (end : HeadEnd) → IsFrame body header tiles → FrameBreaks body tile end → A
sound-or-broken-frame body header tiles tile end f (in_header e p) = absurd (let no : ⊥ = cc (f.walked, p) in no)
sound-or-broken-frame body header tiles tile end f (in_tile header' left' b w p) =
    let same = same-tiles body header f.left header' left' f.walked w in
    let walked = f.walked_tiles in absurd (let no : ⊥ = cc (same, walked, p) in no)
sound-or-broken-frame body header tiles tile end f (in_filler header' left' tiles' after w t e) =
    let same = same-tiles body header f.left header' left' f.walked w in
    let p = pair_of-Ok (sym f.walked_tiles ∙ same ∙ t) in
    absurd (let no : ⊥ = cc (ap is_filler p.1, f.filler, e) in no)

-- a frame breaks one rule at most, in one tile
pub one-frame-end : (body : List ℕ) (tile : ℕ) (end : HeadEnd) (tile' : ℕ) (end' : HeadEnd) → FrameBreaks body tile end → FrameBreaks body tile' end' → (tile ≡ tile') × (end ≡ end')
one-frame-end body tile end tile' end' (in_header e p) (in_header e' p') = (refl, cc (p, p'))
one-frame-end body tile end tile' end' (in_header e p) (in_tile header left b w q) = absurd (let no : ⊥ = cc (p, w) in no)
one-frame-end body tile end tile' end' (in_header e p) (in_filler header left tiles after w t f) = absurd (let no : ⊥ = cc (p, w) in no)
one-frame-end body tile end tile' end' (in_tile header left b w q) (in_header e p) = absurd (let no : ⊥ = cc (p, w) in no)
one-frame-end body tile end tile' end' (in_tile header left b w q) (in_tile header' left' b' w' q') =
    let same = same-tiles body header left header' left' w w' in
    let one : b ≡ b' = cc (same, q, q') in (ap (λ (x : TileBreak). x.tile) one, ap (λ (x : TileBreak). breaks x.rule) one)
one-frame-end body tile end tile' end' (in_tile header left b w q) (in_filler header' left' tiles after w' t f) =
    let same = same-tiles body header left header' left' w w' in absurd (let no : ⊥ = cc (same, q, t) in no)
one-frame-end body tile end tile' end' (in_filler header left tiles after w t f) (in_header e p) = absurd (let no : ⊥ = cc (p, w) in no)
one-frame-end body tile end tile' end' (in_filler header left tiles after w t f) (in_tile header' left' b w' q) =
    let same = same-tiles body header left header' left' w w' in absurd (let no : ⊥ = cc (same, q, t) in no)
one-frame-end body tile end tile' end' (in_filler header left tiles after w t f) (in_filler header' left' tiles' after' w' t' f') = (refl, refl)

-- by the filler after the tiles; by the tiles
frame-filler : (body header left tiles after : List ℕ) → WalksHeader body header left → WalksTiles header (bytes_left body left) tiles after
    → ((header tiles : List ℕ) × IsFrame body header tiles) ⊎ ((tile : ℕ) × (end : HeadEnd) × FrameBreaks body tile end)
frame-filler body header left tiles after w t = elim (cases_Bool (is_filler after)) [
  | inl e ↦ inl (header, tiles, record { left = left; after = after; walked = w; walked_tiles = t; filler = e })
  | inr e ↦ inr (0, breaks V23, in_filler header left tiles after w t e)
]

frame-tiles : (body header left : List ℕ) → WalksHeader body header left → ((header tiles : List ℕ) × IsFrame body header tiles) ⊎ ((tile : ℕ) × (end : HeadEnd) × FrameBreaks body tile end)
frame-tiles body header left w = elim (cases_Result (tiles_walk body header left)) [
  | inl t ↦ frame-filler body header left t.0.0 t.0.1 w t.1
  | inr b ↦ inr (b.0.tile, breaks b.0.rule, in_tile header left b.0 w b.1)
]

-- a frame is sound, or breaks a rule
pub frame-or : (body : List ℕ) → ((header tiles : List ℕ) × IsFrame body header tiles) ⊎ ((tile : ℕ) × (end : HeadEnd) × FrameBreaks body tile end)
frame-or body = elim (cases_Result (walk 2 header_table (bits body))) [
  | inl w ↦ frame-tiles body w.0.0 w.0.1 w.1
  | inr e ↦ inr (0, e.0, in_header e.0 e.1)
]

-- ---- access unit information

pub sound-or-broken-au_info : {A : Type 0} (body values : List ℕ) (end : HeadEnd) → IsAuInfo body values → AuInfoBreaks body end → A
sound-or-broken-au_info body values end is (in_fields e p) = absurd (let no : ⊥ = cc (is.walked, p) in no)
sound-or-broken-au_info body values end is (in_filler_after values' left w f) =
    let p = pair_of-Ok (sym is.walked ∙ w) in
    let same : is_filler (bytes_left body is.left) ≡ is_filler (bytes_left body left) = ap (λ (l : List ℕ). is_filler (bytes_left body l)) p.1 in
    absurd (let no : ⊥ = cc (same, is.filler, f) in no)

pub one-au_info-end : (body : List ℕ) (end end' : HeadEnd) → AuInfoBreaks body end → AuInfoBreaks body end' → end ≡ end'
one-au_info-end body end end' (in_fields e p) (in_fields e' p') = cc (p, p')
one-au_info-end body end end' (in_fields e p) (in_filler_after values left w f) = absurd (let no : ⊥ = cc (p, w) in no)
one-au_info-end body end end' (in_filler_after values left w f) (in_fields e p) = absurd (let no : ⊥ = cc (p, w) in no)
one-au_info-end body end end' (in_filler_after values left w f) (in_filler_after values' left' w' f') = refl

au_info-filler : (body values left : List ℕ) → WalksAuInfo body values left → ((values : List ℕ) × IsAuInfo body values) ⊎ ((end : HeadEnd) × AuInfoBreaks body end)
au_info-filler body values left w = elim (cases_Bool (is_filler (bytes_left body left))) [
  | inl e ↦ inl (values, record { left = left; walked = w; filler = e })
  | inr e ↦ inr (breaks V23, in_filler_after values left w e)
]

pub au_info-or : (body : List ℕ) → ((values : List ℕ) × IsAuInfo body values) ⊎ ((end : HeadEnd) × AuInfoBreaks body end)
au_info-or body = elim (cases_Result (walk 2 au_info_table (bits body))) [
  | inl w ↦ au_info-filler body w.0.0 w.0.1 w.1
  | inr e ↦ inr (e.0, in_fields e.0 e.1)
]
