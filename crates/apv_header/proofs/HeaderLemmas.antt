-- A frame's header from its parts.
use Rattle.std.proofs.Common.{◌≡◌, ℕ, ◌+◌, ◌*◌, ◌/◌, ◌%◌, ◌≤◌, List, [], ◌∷◌, ◌++◌, length, drop, sym, ap, ◌∙◌, subst, Option, Some, None, Bool, true, false, Result, Ok, Err, append_assoc, length-append, arith}
use Rattle.std.proofs.lemmas.List.{drop_at}
use Rattle.apv_base.specs.declared.rules.HeadEnd.{HeadEnd}
use Rattle.apv_base.specs.declared.format.Format.{Format}
use Rattle.apv_base.specs.declared.format.Colour.{Colour}
use Rattle.apv_base.specs.declared.header.FrameHeader.{FrameHeader}
use Rattle.apv_base.specs.model.Bits.{bits, padding}
use Rattle.apv_base.specs.model.Format.{comps_of}
use Rattle.apv_base.specs.model.Grid.{tile_count, grid_with}
use Rattle.apv_base.specs.model.Header.{reserved, colour_fields, matrix_fields, size_fields, alignment_fields, header_table, size_values, header_values, header_comps, grid_of}
use Rattle.apv_base.specs.model.Table.{Table, done, walk}
use Rattle.apv_base.proofs.BitsLemmas.{bits-drop, length-bits}
use Rattle.apv_base.proofs.WalkLemmas.{Gives}
use Rattle.apv_bits.specs.Reader.{Unread}
use Rattle.apv_header.specs.Fields.{WalksBits, BitsBreak}
use Rattle.apv_header.specs.Parts.{colour_flag, colour_bits, matrix_bits, grid_fields, size_bits, zero_fields, prefix_values, HasPrefix}
use Rattle.apv_header.proofs.FieldLemmas.{walks-walks, walks-breaks, walks-gives}

-- a reader at the first bit of a body
abbrev pub first_bit : List ℕ → Unread
first_bit body = record { left = bits body; place = 0 }

-- the table after frame_info()
abbrev pub after_info : Format → Table HeadEnd
after_info format =
    reserved 8 (
    colour_fields (λ colour.
    matrix_fields (comps_of format.chroma) (
    grid_fields format (λ tile_width tile_height.
    size_fields (tile_count (grid_with format tile_width tile_height)) (
    reserved 8 (
    alignment_fields colour done))))))

-- n bits are missing to a whole byte
padding-of : (colour : Option Colour) (use_matrix sizes_present : Bool) (comps count place : ℕ)
    → place ≡ 96 + (8 + (colour_bits colour + (matrix_bits use_matrix comps + (40 + (size_bits sizes_present count + 8))))) → padding (155 + 25 * colour_flag colour) ≡ padding place
padding-of None false false comps count place e = omega arith
padding-of None false true comps count place e = omega arith
padding-of None true false comps count place e = omega arith
padding-of None true true comps count place e = omega arith
padding-of (Some colour) false false comps count place e = omega arith
padding-of (Some colour) false true comps count place e = omega arith
padding-of (Some colour) true false comps count place e = omega arith
padding-of (Some colour) true true comps count place e = omega arith

prefix-padding : {start mid : Unread} (header : FrameHeader) (sizes body : List ℕ) → start ≡ first_bit body → HasPrefix start header sizes mid
    → padding (155 + 25 * colour_flag header.colour) ≡ padding mid.place
prefix-padding {start} {mid} header sizes body e prefix =
    let zero : start.place ≡ 0 = ap (λ (u : Unread). u.place) e in
    padding-of header.colour header.use_matrix header.sizes_present (header_comps header) (tile_count (grid_of header)) mid.place (omega (arith, prefix.taken.place, prefix.count, zero))

-- what is read and what is left are the bits of the body
pub all-bits : {table later : Table HeadEnd} {n : ℕ} {values : List ℕ} {start end : Unread} (body : List ℕ) → start ≡ first_bit body → WalksBits table start n values later end
    → length end.left + end.place ≡ 8 * length body
all-bits {table} {later} {n} {values} {start} {end} body e all =
    let zero : start.place ≡ 0 = ap (λ (u : Unread). u.place) e in
    let left : bits body ≡ all.read ++ end.left = sym (ap (λ (u : Unread). u.left) e) ∙ all.taken.prefix in
    omega (arith, length-bits body, ap (length {A = ℕ}) left, length-append all.read end.left, all.taken.place, zero)

pub prefix-whole : {table later : Table HeadEnd} {n : ℕ} {values : List ℕ} {start mid : Unread} (body : List ℕ) → start ≡ first_bit body → WalksBits table start n values later mid
    → (length mid.left + mid.place) % 8 ≡ 0
prefix-whole body e prefix = let whole = all-bits body e prefix in omega arith

-- what is left begins at a byte
left-bytes : {table later : Table HeadEnd} {n : ℕ} {values : List ℕ} {start end : Unread} (body : List ℕ) (len : ℕ) → start ≡ first_bit body → WalksBits table start n values later end
    → end.place ≡ 8 * len → end.left ≡ bits (drop len body)
left-bytes {table} {later} {n} {values} {start} {end} body len e all place =
    let zero : start.place ≡ 0 = ap (λ (u : Unread). u.place) e in
    let left : bits body ≡ all.read ++ end.left = sym (ap (λ (u : Unread). u.left) e) ∙ all.taken.prefix in
    let count : length all.read ≡ 8 * len = omega (arith, all.taken.place) in
    sym (drop_at all.read end.left (8 * len) count) ∙ ap (drop (8 * len)) (sym left) ∙ bits-drop len body

values-same : (header : FrameHeader) (sizes : List ℕ) → prefix_values header sizes ++ 0 ∷ [] ≡ header_values header sizes
values-same header sizes = simp append_assoc

header-gives : (body : List ℕ) (start : Unread) (values others left rest : List ℕ) → start ≡ first_bit body → Gives 2 header_table start.left values left → values ≡ others → left ≡ rest
    → Gives 2 header_table (bits body) others rest
header-gives body start values others left rest e gives same after =
    subst (λ (u : Unread). Gives 2 header_table u.left others rest) e (
    subst (λ (vs : List ℕ). Gives 2 header_table start.left vs rest) same (
    subst (λ (xs : List ℕ). Gives 2 header_table start.left values xs) after gives))

-- what the walk gives once the alignment bits are read
abbrev IsWalked : List ℕ → FrameHeader → List ℕ → ℕ → Type 0
IsWalked body header sizes len = ◌≡◌ {A = Result (List ℕ × List ℕ) HeadEnd} (walk 2 header_table (bits body)) (Ok (header_values header sizes, bits (drop len body)))

pub header-read : {start mid end : Unread} (header : FrameHeader) (sizes body : List ℕ) (len : ℕ) → start ≡ first_bit body → HasPrefix start header sizes mid
    → ((next : Table HeadEnd) → WalksBits (zero_fields (padding mid.place) next) mid (padding mid.place) (0 ∷ []) next end) → len ≡ end.place / 8
    → IsWalked body header sizes len × (len ≤ length body)
header-read {start} {mid} {end} header sizes body len e prefix aligned is =
    let step = aligned done in
    let last : WalksBits (alignment_fields (colour_flag header.colour) done) mid (padding mid.place) (0 ∷ []) done end =
    subst (λ (n : ℕ). WalksBits (zero_fields n done) mid (padding mid.place) (0 ∷ []) done end) (sym (prefix-padding header sizes body e prefix)) step in
    let all = walks-walks prefix last in
    let place : end.place ≡ mid.place + padding mid.place = omega (arith, step.taken.place, step.count) in
    let bytes : end.place ≡ 8 * len = omega arith in
    let whole = all-bits body e all in
    let gives : Gives 2 header_table start.left (prefix_values header sizes ++ 0 ∷ []) end.left = walks-gives all in
    let left : end.left ≡ bits (drop len body) = left-bytes body len e all bytes in
    (header-gives body start (prefix_values header sizes ++ 0 ∷ []) (header_values header sizes) end.left (bits (drop len body)) e gives (values-same header sizes) left, omega (arith, whole, bytes))

-- a fault of a walk from the first bit on
pub header-breaks : {start : Unread} {end : HeadEnd} (body : List ℕ) → start ≡ first_bit body → BitsBreak header_table start end
    → ◌≡◌ {A = Result (List ℕ × List ℕ) HeadEnd} (walk 2 header_table (bits body)) (Err end)
header-breaks {start} {end} body e refuses = ap (λ (u : Unread). walk 2 header_table u.left) (sym e) ∙ refuses.fails

-- a fault at the alignment bits
pub padding-breaks : {start mid : Unread} {end : HeadEnd} (header : FrameHeader) (sizes body : List ℕ) → start ≡ first_bit body → HasPrefix start header sizes mid
    → ((next : Table HeadEnd) → BitsBreak (zero_fields (padding mid.place) next) mid end) → BitsBreak header_table start end
padding-breaks {start} {mid} {end} header sizes body e prefix refuses =
    walks-breaks prefix (subst (λ (n : ℕ). BitsBreak (zero_fields n done) mid end) (sym (prefix-padding header sizes body e prefix)) (refuses done))

-- ---- a format, and a number of tiles, by another name

pub grid-at : {old new : Unread} {width height : ℕ} (one two : Format) → one ≡ two
    → ((next : ℕ → ℕ → Table HeadEnd) → WalksBits (grid_fields one next) old 40 (width ∷ height ∷ []) (next width height) new)
    → (next : ℕ → ℕ → Table HeadEnd) → WalksBits (grid_fields two next) old 40 (width ∷ height ∷ []) (next width height) new
grid-at {old} {new} {width} {height} one two e all =
    subst (λ (f : Format). (next : ℕ → ℕ → Table HeadEnd) → WalksBits (grid_fields f next) old 40 (width ∷ height ∷ []) (next width height) new) e all

pub grid-breaks-at : {old : Unread} {end : HeadEnd} (one two : Format) → one ≡ two
    → ((next : ℕ → ℕ → Table HeadEnd) → BitsBreak (grid_fields one next) old end) → (next : ℕ → ℕ → Table HeadEnd) → BitsBreak (grid_fields two next) old end
grid-breaks-at {old} {end} one two e all = subst (λ (f : Format). (next : ℕ → ℕ → Table HeadEnd) → BitsBreak (grid_fields f next) old end) e all

pub sizes-at : {old new : Unread} (present : Bool) (given : List ℕ) (one two : ℕ) → one ≡ two
    → ((next : Table HeadEnd) → WalksBits (size_fields one next) old (size_bits present one) (size_values present given) next new)
    → (next : Table HeadEnd) → WalksBits (size_fields two next) old (size_bits present two) (size_values present given) next new
sizes-at {old} {new} present given one two e all =
    subst (λ (n : ℕ). (next : Table HeadEnd) → WalksBits (size_fields n next) old (size_bits present n) (size_values present given) next new) e all

pub sizes-breaks-at : {old : Unread} {end : HeadEnd} (one two : ℕ) → one ≡ two
    → ((next : Table HeadEnd) → BitsBreak (size_fields one next) old end) → (next : Table HeadEnd) → BitsBreak (size_fields two next) old end
sizes-breaks-at {old} {end} one two e all = subst (λ (n : ℕ). (next : Table HeadEnd) → BitsBreak (size_fields n next) old end) e all
