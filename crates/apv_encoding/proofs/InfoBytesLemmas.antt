-- The body of a frame begins with the bytes of its frame_info().
use Rattle.std.proofs.Common.{◌≡◌, ℕ, zero, suc, ◌+◌, ◌-◌, ◌*◌, ◌/◌, ◌≤◌, List, [], ◌∷◌, ◌++◌, length, take, drop, replicate, refl, sym, ap, ap₂, ◌∙◌, arith, true, append_assoc, append-nil, length-append}
use Rattle.std.proofs.lemmas.List.{take-append-le, drop-append-le, length-drop}
use Rattle.apv_base.specs.declared.format.Format.{Format}
use Rattle.apv_base.specs.declared.format.FrameInfo.{FrameInfo}
use Rattle.apv_base.specs.declared.header.FrameHeader.{FrameHeader}
use Rattle.apv_base.specs.declared.rules.HeadEnd.{HeadEnd}
use Rattle.apv_base.specs.declared.rules.HeadEnd.TheVariants.{Rule as breaks}
use Rattle.apv_base.specs.declared.rules.Rule.TheVariants.{V8}
use Rattle.apv_base.specs.model.AuInfo.{info_bytes}
use Rattle.apv_base.specs.model.Bits.{number, bin}
use Rattle.apv_base.specs.model.CodedFrame.{CodedFrame, stated_sizes, head_values, tile_list_values}
use Rattle.apv_base.specs.model.Component.{packed, bytes_of_bits}
use Rattle.apv_base.specs.model.Encode.{frame_body}
use Rattle.apv_base.specs.model.Format.{idc_of, chroma_of, comps_of, or_grey}
use Rattle.apv_base.specs.model.Header.{alignment_fields, check_tiles, colour_fields, colour_values, free, header_comps, header_table, header_values, info_fields, info_table, info_values, matrix_fields, matrix_values, reserved, size_fields, size_values, IsSoundInfo}
use Rattle.apv_base.specs.model.Grid.{grid_with, tile_count}
use Rattle.apv_base.specs.model.Table.{Table, done, field, spell}
use Rattle.apv_base.specs.model.Tile.{tiles_table, layout_of}
use Rattle.apv_base.proofs.HeaderLemmas.{nested}
use Rattle.apv_base.proofs.PackedLemmas.{length-packed}
use Rattle.apv_laws.proofs.SpelledHeaderLemmas.{length-info}

-- ---- the first bytes of bits

packed-zero : (b : List ℕ) → packed 0 b ≡ []
unfolding packed
packed-zero b = refl

packed-suc : (n : ℕ) (b : List ℕ) → packed (suc n) b ≡ number 2 (take 8 (b ++ replicate 8 0)) ∷ packed n (drop 8 b)
unfolding packed
packed-suc n b = refl

-- n bytes of bits that n whole bytes begin
packed-prefix : (n k : ℕ) (a b : List ℕ) → n ≤ k → length a ≡ 8 * n → take n (packed k (a ++ b)) ≡ packed n a
packed-prefix zero k a b le len = sym (packed-zero a)
packed-prefix (suc n) zero a b le len = absurd (omega (arith, le))
packed-prefix (suc n) (suc k) a b le len =
    let long : 8 ≤ length a = omega (arith, len) in
    let first : take 8 ((a ++ b) ++ replicate 8 0) ≡ take 8 (a ++ replicate 8 0) =
    ap (take 8) (append_assoc a b (replicate 8 0)) ∙ take-append-le 8 a (b ++ replicate 8 0) long ∙ sym (take-append-le 8 a (replicate 8 0) long) in
    let rest : drop 8 (a ++ b) ≡ drop 8 a ++ b = drop-append-le 8 a b long in
    let later : take n (packed k (drop 8 a ++ b)) ≡ packed n (drop 8 a) = packed-prefix n k (drop 8 a) b (omega (arith, le)) (omega (arith, len, length-drop 8 a)) in
    ap (take (suc n)) (packed-suc k (a ++ b)) ∙ ap₂ (λ (x : ℕ) (xs : List ℕ). x ∷ xs) (ap (number 2) first) (ap (λ (xs : List ℕ). take n (packed k xs)) rest ∙ later) ∙ sym (packed-suc n a)

-- 96 bits and others
first-twelve : (a b after : List ℕ) → length a ≡ 96 → take 12 (bytes_of_bits (a ++ b) ++ after) ≡ bytes_of_bits a
first-twelve a b after len =
    let k : ℕ = (length (a ++ b) + 7) / 8 in
    let long : 12 ≤ k = omega (arith, length-append a b, len) in
    let n : 12 ≡ (length a + 7) / 8 = omega (arith, len) in
    take-append-le 12 (packed k (a ++ b)) after (omega (arith, long, length-packed k (a ++ b))) ∙ packed-prefix 12 k a b long len ∙ ap (λ (i : ℕ). packed i a) n

-- ---- the bits of frame_info()

ten-joined : (a b c d e f g h i j rest : List ℕ) → a ++ (b ++ (c ++ (d ++ (e ++ (f ++ (g ++ (h ++ (i ++ (j ++ rest)))))))))
    ≡ (a ++ (b ++ (c ++ (d ++ (e ++ (f ++ (g ++ (h ++ (i ++ (j ++ [])))))))))) ++ rest
ten-joined a b c d e f g h i j rest = simp (append_assoc, append-nil)

-- the format that the values of frame_info() give
abbrev read_format : FrameInfo → Format
read_format info = record { width = info.width; height = info.height; chroma = or_grey (chroma_of (idc_of info.chroma)); depth = info.depth - 8 + 8 }

info-first : (next : Format → Table HeadEnd) (info : FrameInfo) (later : List ℕ) → spell 2 (info_fields true next) (info_values info ++ later) ≡ spell 2 info_table (info_values info) ++ spell 2 (next (read_format info)) later
unfolding spell
info-first next info later =
    ten-joined (bin 8 info.profile) (bin 8 info.level) (bin 3 info.band) (bin 5 0) (bin 24 info.width) (bin 24 info.height) (bin 4 (idc_of info.chroma)) (bin 4 (info.depth - 8)) (bin 8 info.capture) (bin 8 0) (spell 2 (next (read_format info)) later)

info-long : (info : FrameInfo) → IsSoundInfo info → length (spell 2 info_table (info_values info)) ≡ 96
unfolding spell
info-long info sound = ap (λ (values : List ℕ). length (spell 2 info_table values)) (sym (append-nil (info_values info))) ∙ length-info (λ format. done) info [] sound

-- ---- frames

-- what follows frame_info() in frame_header()
abbrev after_info : Format → Table HeadEnd
after_info format = reserved 8 (
    colour_fields (λ colour.
    matrix_fields (comps_of format.chroma) (
    free 20 (λ tile_width.
    field 20 (breaks V8) (check_tiles format tile_width) (λ tile_height.
    size_fields (tile_count (grid_with format tile_width tile_height)) (
    reserved 8 (
    alignment_fields colour done)))))))

-- the values after those of frame_info()
abbrev later_values : FrameHeader → List ℕ → List ℕ
later_values h sizes =
    (0 ∷ []) ++ (colour_values h.colour ++ (matrix_values h.use_matrix (header_comps h) h.matrices ++ ((h.tile_width ∷ h.tile_height ∷ []) ++ (size_values h.sizes_present sizes ++ (0 ∷ 0 ∷ [])))))

values-parted : (h : FrameHeader) (sizes : List ℕ) → header_values h sizes ≡ info_values h.info ++ later_values h sizes
values-parted h sizes =
    nested (info_values h.info) (0 ∷ []) (colour_values h.colour) (matrix_values h.use_matrix (header_comps h) h.matrices) (h.tile_width ∷ h.tile_height ∷ []) (size_values h.sizes_present sizes) (0 ∷ 0 ∷ [])

-- the first 12 bytes of the body of a frame are those of its frame_info()
pub frame-first : (frame : CodedFrame) → IsSoundInfo frame.header.info → take 12 (frame_body frame) ≡ info_bytes frame.header.info
unfolding frame_body
frame-first frame sound =
    let info : FrameInfo = frame.header.info in
    let sizes : List ℕ = stated_sizes frame in
    let tiles : List ℕ = spell 256 (tiles_table (layout_of frame.header sizes)) (tile_list_values frame) in
    let rest : List ℕ = spell 2 (after_info (read_format info)) (later_values frame.header sizes) in
    let parted : spell 2 header_table (head_values frame) ≡ spell 2 info_table (info_values info) ++ rest =
    ap (spell 2 header_table) (values-parted frame.header sizes) ∙ info-first after_info info (later_values frame.header sizes) in
    ap (λ (b : List ℕ). take 12 (bytes_of_bits b ++ tiles)) parted ∙ first-twelve (spell 2 info_table (info_values info)) rest tiles (info-long info sound)
