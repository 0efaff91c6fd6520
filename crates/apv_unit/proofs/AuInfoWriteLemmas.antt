-- Access unit information, written piece by piece.
use Rattle.std.proofs.Common.{◌≡◌, ℕ, zero, suc, ◌+◌, ◌*◌, ◌/◌, ◌%◌, ◌^◌, ◌<◌, ◌≤◌, List, [], ◌∷◌, ◌++◌, length, take, get_or, refl, sym, ap, ap₂, ◌∙◌, subst, arith, lit<, w16, append_assoc, length-append}
use Rattle.std.specs.Int.{to_be_bytes}
use Rattle.std.specs.List.{AllByRecursion, flat_map}
use Rattle.std.proofs.lemmas.List.{take_at}
use Rattle.apv_base.specs.model.AuInfo.{ListedFrame, IsListable, info_bytes, listed_bytes, au_info_body}
use Rattle.apv_base.specs.model.Bits.{digits, be}
use Rattle.apv_base.proofs.AuInfoBytesLemmas.{au-info-bytes}
use Rattle.apv_header.proofs.WriteLemmas.{words_more}
use Rattle.apv_unit.specs.AuInfo.{entry_bytes, entries_bytes, Lists, ListAll}
use Rattle.apv_unit.specs.declared.au_info.AuEntry.{AuEntry}

-- the fields before frame_info()
pub fields-written : (kind group : ℕ) (g info : List ℕ) → g ≡ to_be_bytes w16 group → (kind ∷ get_or g 0 0 ∷ get_or g 1 0 ∷ 0 ∷ []) ++ info ≡ kind ∷ (be 2 group ++ 0 ∷ info)
unfolding digits
fields-written kind group g info e = let other : group / 256 ^ 0 % 256 ≡ group % 256 = omega arith in rw (e, other) refl

-- two bytes of a number
pub two-bytes : (n : ℕ) → n < 65536 → to_be_bytes w16 n ≡ be 2 n
unfolding digits
two-bytes n small = let other : n / 256 ^ 0 % 256 ≡ n % 256 = omega arith in rw other refl

-- a piece of 16 bytes is written after those before it
pub piece-written : (entries : List AuEntry) (index : ℕ) (other : AuEntry) (out front back piece after : List ℕ) → index < length entries → take (16 * index) out ≡ flat_map entry_bytes (take index entries)
    → out ≡ front ++ back → length front ≡ 16 * index → piece ≡ entry_bytes (get_or entries index other) → length piece ≡ 16
    → take (16 * (index + 1)) (front ++ (piece ++ after)) ≡ flat_map entry_bytes (take (index + 1) entries)
piece-written entries index other out front back piece after lt written parts len is size =
    let before : front ≡ flat_map entry_bytes (take index entries) = sym (ap (take (16 * index)) parts ∙ take_at front back (16 * index) len) ∙ written in
    ap (take (16 * (index + 1))) (sym (append_assoc front piece after))
    ∙ take_at (front ++ piece) after (16 * (index + 1)) (omega (arith, length-append front piece, len, size))
    ∙ ap₂ (λ (xs ys : List ℕ). xs ++ ys) before is
    ∙ sym (words_more entry_bytes entries index other lt)

entries-listed : (entries : List AuEntry) (frames : List ListedFrame) → ListAll entries frames → (flat_map entry_bytes entries ≡ flat_map listed_bytes frames) × (length entries ≡ length frames) × AllByRecursion IsListable frames
entries-listed [] frames none = rw none (refl, refl, tt)
entries-listed (entry ∷ entries) [] none = absurd none
entries-listed (entry ∷ entries) (frame ∷ frames) (lists, more) =
    let rest = entries-listed entries frames more in
    let one : entry_bytes entry ≡ listed_bytes frame = rw (lists.kind, lists.group, lists.info) refl in
    (ap₂ (λ (xs ys : List ℕ). xs ++ ys) one rest.0, ap suc rest.1, (lists.sound, rest.2))

-- what is written is the information on these frames
pub body-written : (entries : List AuEntry) (frames : List ListedFrame) → length entries ≤ 65535 → ListAll entries frames → entries_bytes entries ≡ au_info_body frames
body-written entries frames few lists =
    let listed = entries-listed entries frames lists in
    ap₂ (λ (n : ℕ) (xs : List ℕ). be 2 n ++ (xs ++ 0 ∷ [])) listed.1 listed.0
    ∙ sym (au-info-bytes frames (omega (arith, few, listed.1)) listed.2)
